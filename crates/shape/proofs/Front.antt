-- The digits of R that count: those past them are 0 and add nothing. Assumes nothing.
use mathlib.Core.Path.{◌≡◌, sym, ◌∙◌, ap}
use mathlib.Core.List.{List}
use Prim.Native.Nat.{ℕ, ◌+◌, ◌≤◌, ◌<◌}
use native.Mathlib.Decide.{dec_lt}
use native.Mathlib.Omega.{arith}
use lib.ListN.{length, take, drop, replicate, take-append-drop, length-replicate, get_or-replicate, get_or-eq_default}
use lib.Seq.{get_or-drop, ext_get_or}
use lib.IntN.{ℤ, pos, +ℤ_idr, *ℤ-zero}
use Rattle.rules.specs.Digits.{digit_at, weighted}
use Rattle.rules.specs.Widths.{row}
use Rattle.rules.specs.Forms.{form_r}
use Rattle.rules.specs.Keeps.{Keeps}
use Rattle.rules.proofs.Radix.{digit_r-past}
use Rattle.rules.proofs.Sum.{append-sum, zeros-sum}

-- the sum of the first n digits, where those past them are 0
pub front-sum : (b n : ℕ) (ds : List ℤ) → ((i : ℕ) → n ≤ i → digit_at ds i ≡ pos 0) → weighted b (take n ds) ≡ weighted b ds
front-sum b n ds f =
    let z : drop n ds ≡ replicate (length (drop n ds)) (pos 0) = ext_get_or (pos 0) _ _ (sym (length-replicate _ (pos 0))) (λ i h. get_or-drop n ds i (pos 0) ∙ f (n + i) (omega arith) ∙ sym (get_or-replicate _ i (pos 0) (pos 0) h)) in
    sym (ap (weighted b) (sym (take-append-drop n ds)) ∙ append-sum b (take n ds) (drop n ds) ∙ rw (z, zeros-sum b (length (drop n ds)), *ℤ-zero) (+ℤ_idr (weighted b (take n ds))))

-- a string that keeps R's rules has zeros past its last digit
pub past-zero : (entries w : ℕ) (ds : List ℤ) → Keeps (form_r entries w) ds → (i : ℕ) → (row w).digits ≤ i → digit_at ds i ≡ pos 0
past-zero entries w ds k i h = go (dec_lt i (length ds))
  where
    go : Dec (i < length ds) → digit_at ds i ≡ pos 0
    go (yes l) = digit_r-past w (row w).digits (row w).top i (digit_at ds i) h (k.digits i l)
    go (no l) = get_or-eq_default ds (pos 0) {n = i} (omega arith)
