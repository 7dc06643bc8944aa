-- R's reader: what is wrong with a digit, the sum's reply, and the laws over a form, for R. Assumes nothing.
use mathlib.Core.Path.{◌≡◌, refl, sym, ◌∙◌}
use mathlib.Core.Bool.{Bool, true, false, cond, or-true}
use mathlib.Core.List.{List}
use Prim.Native.Nat.{ℕ, ◌*◌, ◌^◌}
use native.Mathlib.Omega.{arith}
use borrow.Author.Tests.{le-leb}
use lib.Dec.{T, leb, eqb}
use lib.ListN.{length, take}
use lib.Seq.{length-take-le}
use lib.IntN.{ℤ}
use Rattle.rules.specs.declared.Refusal.TheVariants.{BrokenDigit}
use Rattle.std.specs.Prelude.{Err}
use Rattle.rules.specs.Integer.{Bytes}
use Rattle.rules.specs.Digits.{is_zero, weighted}
use Rattle.rules.specs.Widths.{width_r, row}
use Rattle.rules.specs.Forms.{card_r, digit_r}
use Rattle.rules.specs.Verdicts.{Verdict, Done, unless, ◌or_else◌}
use Rattle.rules.specs.Test.{first_fault, verdict}
use Rattle.rules.specs.Refusals.{Offered}
use Rattle.rules.specs.Promises.{Recodes, Reads}
use Rattle.rules.proofs.Verdicts.{done-or_else, refused-or_else}
use Rattle.rules.specs.inner.Scan.{fault, held_next}
use Rattle.rules.proofs.FirstFault.{first-keeps}
use Rattle.rules.proofs.Reading.{reads-summed, reads-determined}
use Rattle.rules.proofs.Promises.{test-passes, round_trip, read_back}
use Rattle.rules.proofs.Exactly.{lawful-card-r}
use Rattle.rules.proofs.Table.{row_fits, width-between, at-widths}
use Rattle.sum.specs.SumRead.{SumRead, summable, end_of}
use Rattle.shape.proofs.Front.{front-sum, past-zero}

-- without a gap a digit is at fault for its own rule only
pub fault-r : (w i : ℕ) (d : ℤ) → fault (card_r w) i 0 d ≡ unless (digit_r w (row w).digits (row w).top i d) (BrokenDigit i)
unfolding fault
fault-r w i d = rw (or-true (is_zero d)) (go (digit_r w (row w).digits (row w).top i d))
  where
    go : (b : Bool) → unless b (BrokenDigit i) or_else Done ≡ unless b (BrokenDigit i)
    go true = done-or_else Done
    go false = refused-or_else (Err (BrokenDigit i)) Done (λ z. omega arith)

-- a digit tested as r: what is wrong with it
pub tested-r : (w n top : ℕ) (i : ℕ) (d : ℤ) (r : Bool) → n ≡ (row w).digits → top ≡ (row w).top → r ≡ digit_r w n top i d → unless r (BrokenDigit i) ≡ fault (card_r w) i 0 d
tested-r w n top i d r en et er = sym (fault-r w i d ∙ rw (← en, ← et, ← er))

-- nothing is held after it
pub held-r : (w : ℕ) (d : ℤ) → 0 ≡ held_next (card_r w).gap 0 d
held-r w d = go (is_zero d)
  where
    go : (b : Bool) → ◌≡◌ {A = ℕ} 0 (cond b 0 0)
    go true = refl
    go false = refl

-- every width of R has few enough bits to be added up
pub few_bits : (w : ℕ) → T (width_r w) → T (leb (w * (row w).digits) 264)
unfolding row
few_bits = at-widths (λ w. T (leb (w * (row w).digits) 264)) tt tt tt tt tt

-- ---- the sum

-- the end of the range is short at width 4 alone
pub row-end : (w : ℕ) → T (width_r w) → end_of (eqb (row w).bits 255) ≡ 2 ^ (row w).bits
unfolding row
row-end = at-widths (λ w. end_of (eqb (row w).bits 255) ≡ 2 ^ (row w).bits) refl refl refl refl refl

-- past the digits, the reply of the sum of those that count is the reader's
pub sum-reads : (ds : List ℤ) (w : ℕ) (answer : Verdict) (bytes : List ℕ) → Offered (card_r w) ds → first_fault (card_r w) ds 0 (length ds) ≡ Done
    → SumRead (take (row w).digits ds) w (eqb (row w).bits 255) answer bytes → Reads (card_r w) ds answer bytes
sum-reads ds w answer bytes o f s =
    let t = o.allowed in
    let b = width-between 4 8 w t in
    let n : length (take (row w).digits ds) ≡ (row w).digits = length-take-le (row w).digits ds (omega (arith, o.long, (row_fits w t).most)) in
    let fits : T (summable w (take (row w).digits ds)) = rw (le-leb 1 w (omega (arith, b.low)), le-leb w 8 b.high, n) (few_bits w t) in
    let e : weighted (2 ^ w) (take (row w).digits ds) ≡ weighted (2 ^ w) ds = front-sum (2 ^ w) (row w).digits ds (past-zero 64 w ds (first-keeps (card_r w) ds f)) in
    reads-summed (card_r w) ds answer bytes o f (s.ranged fits ∙ rw (row-end w t, e)) (λ d. sym e ∙ s.sums d) s.zeros

-- ---- the laws over a form, for R

module _ (w : ℕ) where
  module _ {bytes : List ℕ} {answer : Verdict} {digits : List ℤ} {counted added : ℕ} (b : Bytes 32 bytes) (p : Recodes (card_r w) bytes answer digits counted added) (d : answer ≡ Done) where
    -- a recoder's digits pass the test
    pub test-passes-r : verdict (card_r w) digits ≡ Done
    test-passes-r = test-passes (card_r w) (lawful-card-r w) bytes b p d

    -- and read back they give the bytes that they came from
    pub round-trip-r : {answer' : Verdict} {bytes' : List ℕ} → Bytes 32 bytes' → Reads (card_r w) digits answer' bytes' → (answer' ≡ Done) × (bytes' ≡ bytes)
    round-trip-r = round_trip (card_r w) (lawful-card-r w) bytes b p d

  -- bytes read, then recoded, give the digits
  pub read-back-r : {ds es : List ℤ} {bytes : List ℕ} {answer : Verdict} {counted added : ℕ} → Bytes 32 bytes → Reads (card_r w) ds Done bytes → Recodes (card_r w) bytes answer es counted added → (answer ≡ Done) × (es ≡ ds)
  read-back-r = read_back (card_r w) (lawful-card-r w)

  -- a reader's promise fixes its reply
  pub read-determined-r : (ds : List ℤ) {answer answer' : Verdict} {bytes bytes' : List ℕ} → Bytes 32 bytes → Bytes 32 bytes' → Reads (card_r w) ds answer bytes → Reads (card_r w) ds answer' bytes' → (answer ≡ answer') × (bytes ≡ bytes')
  read-determined-r ds = reads-determined (card_r w) ds
