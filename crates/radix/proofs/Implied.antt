-- What the recoders' promise gives of R's own: the laws over a form at R, the carry past the last digit, and the clauses of the original. Assumes nothing.
use mathlib.Core.Path.{◌≡◌, refl, ap, ◌∙◌}
use mathlib.Core.Bool.{cond}
use mathlib.Core.List.{List}
use Prim.Native.Nat.{ℕ, suc, ◌+◌, ◌-◌, ◌*◌, ◌/◌, ◌^◌, ◌≤◌, ◌<◌}
use native.Mathlib.Decide.{dec_lt}
use native.Mathlib.Nat.{mod-le}
use native.Mathlib.Omega.{arith}
use borrow.Author.Tests.{eq-eqb, lt-ltb}
use lib.Dec.{T, leb, ltb, eqb, leb→le, ltb→lt}
use lib.ListN.{take}
use lib.IntN.{ℤ, pos, negsuc, neg_ℤ, nat_abs}
use Rattle.numbers.specs.Centred.{carried}
use Rattle.numbers.proofs.Tests.{and_right, cond-true, cond-false}
use Rattle.rules.specs.Verdicts.{Verdict, Done}
use Rattle.rules.specs.Integer.{integer, Bytes}
use Rattle.rules.specs.Digits.{digit_at, is_zero, weighted}
use Rattle.rules.specs.Widths.{width_r, row}
use Rattle.rules.specs.Forms.{digit_r, within, card_r}
use Rattle.rules.specs.Keeps.{Passes}
use Rattle.rules.specs.Promises.{Recoded, Recodes}
use Rattle.rules.proofs.Radix.{Between, digit_r-before}
use Rattle.rules.proofs.Table.{row_fits, width-between, all-bits}
use Rattle.rules.proofs.Exactly.{lawful-card-r}
use Rattle.rules.proofs.Promises.{recodes-determined, recoded-passes, is-the-string}
use Rattle.shape.proofs.Rows.{width-held, top-half, top-low}
use Rattle.shape.proofs.Front.{front-sum, past-zero}
use Rattle.radix.proofs.Carries.{carry_into, seen, left, last_fits}

-- one reply to a call, in all four parts
pub radix-determined : (w : ℕ) {bytes : List ℕ} {a b : Verdict} {ds es : List ℤ} {j k m n : ℕ} → Recodes (card_r w) bytes a ds j m → Recodes (card_r w) bytes b es k n → (a ≡ b) × (ds ≡ es) × (j ≡ k) × (m ≡ n)
radix-determined w {bytes} p q = recodes-determined (card_r w) (lawful-card-r w) bytes p q

-- done, the digits pass, and every passing string with that sum is theirs
pub radix-is-the-string : (w : ℕ) {bytes : List ℕ} {ds : List ℤ} {j m : ℕ} → Recodes (card_r w) bytes Done ds j m → Bytes 32 bytes
    → Passes (card_r w) ds × ((es : List ℤ) → Passes (card_r w) es → weighted (2 ^ w) es ≡ pos (integer bytes) → es ≡ ds)
radix-is-the-string w {bytes} p b = (recoded-passes (card_r w) (lawful-card-r w) bytes b p refl, is-the-string (card_r w) (lawful-card-r w) bytes b p refl)

-- ---- entries past the count are 0, so the digits that count have the whole sum

pub implies-radix-sum : (w : ℕ) {digits : List ℤ} {x : ℕ} → Recoded (card_r w) x digits → weighted (2 ^ w) (take (row w).digits digits) ≡ pos x
implies-radix-sum w {digits} r = front-sum (2 ^ w) (row w).digits digits (past-zero 64 w digits r.keeps) ∙ r.sums

-- ---- no digit is past half the span

between-half : (H : ℕ) (d : ℤ) → Between H d → nat_abs d ≤ H
between-half H (pos n) b = omega (arith, b.below)
between-half H (negsuc n) b = omega (arith, b.above)

within-top : (top : ℕ) (d : ℤ) → T (within (pos 0) (pos top) d) → nat_abs d ≤ top
within-top top (pos n) t = leb→le n top (and_right (leb 0 n) (leb n top) t)
within-top top (negsuc n) t = absurd t

at_last : (w n top i : ℕ) (d : ℤ) → i + 1 ≡ n → T (digit_r w n top i d) → nat_abs d ≤ top
unfolding digit_r
at_last w n top i d e t =
    within-top top d
    (cond-true (eqb (i + 1) n) (within (pos 0) (pos top) d) (is_zero d) (rw (eq-eqb (i + 1) n e) tt)
    (cond-false (ltb (i + 1) n) (within (neg_ℤ (pos (2 ^ (w - 1)))) (pos (2 ^ (w - 1) - 1)) d) (cond (eqb (i + 1) n) (within (pos 0) (pos top) d) (is_zero d)) (λ s. let l = ltb→lt (i + 1) n s in omega arith) t))

pub implies-radix-bounds : (w : ℕ) {digits : List ℤ} {x : ℕ} → T (width_r w) → Recoded (card_r w) x digits → (i : ℕ) → nat_abs (digit_at digits i) ≤ 2 ^ (w - 1)
implies-radix-bounds w {digits} width r i = go (dec_lt (i + 1) n) (dec_lt n (i + 1))
  where
    n : ℕ
    n = (row w).digits

    kept : i < 64 → T (digit_r w n (row w).top i (digit_at digits i))
    kept h = r.keeps.digits i (omega (arith, r.long))

    go : Dec (i + 1 < n) → Dec (n < i + 1) → nat_abs (digit_at digits i) ≤ 2 ^ (w - 1)
    go (yes h) m = between-half (2 ^ (w - 1)) (digit_at digits i) (digit_r-before w n (row w).top i (digit_at digits i) h (kept (omega (arith, (row_fits w width).most))))
    go (no h) (yes m) = rw (past-zero 64 w digits r.keeps i (omega arith)) (omega arith)
    go (no h) (no m) =
        let e : i + 1 ≡ n = omega arith in
        let l = at_last w n (row w).top i (digit_at digits i) e (kept (omega (arith, (row_fits w width).most))) in
        omega (arith, top-half w width)

-- at width 4: from -8 to 8
pub implies-radix-16-bounds : {digits : List ℤ} {x : ℕ} → Recoded (card_r 4) x digits → (i : ℕ) → nat_abs (digit_at digits i) ≤ 8
implies-radix-16-bounds r i = implies-radix-bounds 4 tt r i

-- ---- the last digit, and the carry past it

-- an integer of the row's range leaves no more for the last digit than its top
pub last-digit : (w x : ℕ) → T (width_r w) → x < 2 ^ (row w).bits → left w x ((row w).digits - 1) ≤ (row w).top
last-digit w x t h =
    let b = width-between 4 8 w t in
    last_fits w x (omega (arith, b.low)) (row w).top ((row w).digits - 1) (omega (arith, (row_fits w t).ends))

carried_none : (h r : ℕ) → r < h → carried h r ≡ 0
unfolding carried
carried_none h r l = rw (lt-ltb r h l)

-- what is left for the last digit, and the carry past it
pub record NoCarry (w x : ℕ) : Type 0 where
  pub fits : left w x ((row w).digits - 1) ≤ (row w).top
  pub none : carried (2 ^ (w - 1)) (left w x ((row w).digits - 1)) ≡ 0
  pub past : carry_into w x (row w).digits ≡ 0

pub last-carry-zero : (w x : ℕ) → 5 ≤ w → w ≤ 7 → x < 2 ^ 256 → NoCarry w x
unfolding carry_into
last-carry-zero w x a b h =
    let t = width-held w (omega arith) (omega arith) in
    let f = last-digit w x t (rw (all-bits w t (λ e. omega arith)) h) in
    let l = top-low w t a b in
    let n : (row w).digits ≡ suc ((row w).digits - 1) = omega (arith, (row_fits w t).several) in
    let m = mod-le (x / 2 ^ (w * ((row w).digits - 1))) (2 ^ w) in
    record {
      fits = f;
      none = carried_none _ _ (omega arith);
      past = ap (carry_into w x) n ∙ carried_none _ (seen w x ((row w).digits - 1)) (omega arith);
    }
