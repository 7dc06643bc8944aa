-- N's reader: a wrong width, the sum's reply, and the laws over a form, for N. Assumes nothing.
use mathlib.Core.Path.{◌≡◌}
use mathlib.Core.Bool.{true, not}
use mathlib.Core.List.{List}
use Prim.Native.Nat.{ℕ, ◌≤◌}
use native.Mathlib.Omega.{arith}
use borrow.Author.Tests.{le-leb}
use lib.Dec.{T, not_T}
use lib.ListN.{length, replicate}
use lib.IntN.{ℤ}
use Rattle.rules.specs.declared.Refusal.TheVariants.{WrongWidth}
use Rattle.rules.specs.Verdicts.{Verdict, Done}
use Rattle.std.specs.Prelude.{Err}
use Rattle.rules.specs.Integer.{Bytes}
use Rattle.rules.specs.Widths.{width_n}
use Rattle.rules.specs.Forms.{card_n}
use Rattle.rules.specs.Test.{first_fault, verdict}
use Rattle.rules.specs.Refusals.{Offered}
use Rattle.rules.specs.Promises.{Recodes, Reads}
use Rattle.rules.proofs.Table.{width-between}
use Rattle.rules.proofs.Refusals.{refused-3}
use Rattle.rules.proofs.Reading.{reads-refused, reads-summed, reads-determined}
use Rattle.rules.proofs.Promises.{test-passes, round_trip, read_back}
use Rattle.rules.proofs.Exactly.{lawful-card-n}
use Rattle.sum.specs.SumRead.{SumRead}

-- 256 digits, at a width from 2 to 8
pub offered-n : (ds : List ℤ) (w : ℕ) → length ds ≡ 256 → 2 ≤ w → w ≤ 8 → Offered (card_n w) ds
offered-n ds w l h k = record { long = l; allowed = rw (le-leb 2 w h, le-leb w 8 k) tt }

-- a width outside 2 to 8 is refused with 3
pub wrong-width-n : (ds : List ℤ) (w : ℕ) (answer : Verdict) (bytes : List ℕ) → length ds ≡ 256 → (2 ≤ w → w ≤ 8 → ⊥) → (answer ≡ Err WrongWidth) × (bytes ≡ replicate 32 0) → Reads (card_n w) ds answer bytes
wrong-width-n ds w answer bytes l f r =
    let no : T (not (width_n 8 w)) = not_T (width_n 8 w) (λ t. let b = width-between 2 8 w t in f b.low b.high) in
    reads-refused (card_n w) ds answer bytes (Err WrongWidth) ((refused-3 (card_n w) ds).1 (l, no)) (λ z. omega arith) r

-- past the digits, the reply of the sum at base 2 with the range's end 2^255 is the reader's
pub sum-reads : (ds : List ℤ) (w : ℕ) (answer : Verdict) (bytes : List ℕ) → Offered (card_n w) ds → first_fault (card_n w) ds 0 (length ds) ≡ Done → SumRead ds 1 true answer bytes → Reads (card_n w) ds answer bytes
sum-reads ds w answer bytes o f s = reads-summed (card_n w) ds answer bytes o f (s.ranged (rw o.long tt)) s.sums s.zeros

-- ---- the laws over a form, for N

module _ (w : ℕ) where
  module _ {bytes : List ℕ} {answer : Verdict} {digits : List ℤ} {counted added : ℕ} (b : Bytes 32 bytes) (p : Recodes (card_n w) bytes answer digits counted added) (d : answer ≡ Done) where
    -- a recoder's digits pass the test
    pub test-passes-n : verdict (card_n w) digits ≡ Done
    test-passes-n = test-passes (card_n w) (lawful-card-n w) bytes b p d

    -- and read back they give the bytes that they came from
    pub round-trip-n : {answer' : Verdict} {bytes' : List ℕ} → Bytes 32 bytes' → Reads (card_n w) digits answer' bytes' → (answer' ≡ Done) × (bytes' ≡ bytes)
    round-trip-n = round_trip (card_n w) (lawful-card-n w) bytes b p d

  -- bytes read, then recoded, give the digits
  pub read-back-n : {ds es : List ℤ} {bytes : List ℕ} {answer : Verdict} {counted added : ℕ} → Bytes 32 bytes → Reads (card_n w) ds Done bytes → Recodes (card_n w) bytes answer es counted added → (answer ≡ Done) × (es ≡ ds)
  read-back-n = read_back (card_n w) (lawful-card-n w)

  -- a reader's promise fixes its reply
  pub read-determined-n : (ds : List ℤ) {answer answer' : Verdict} {bytes bytes' : List ℕ} → Bytes 32 bytes → Bytes 32 bytes' → Reads (card_n w) ds answer bytes → Reads (card_n w) ds answer' bytes' → (answer ≡ answer') × (bytes ≡ bytes')
  read-determined-n ds = reads-determined (card_n w) ds
