-- 01, "The numbers the card says no with": the acceptance test's verdict, read off the table. Assumes nothing.
use Rattle.std.specs.Prelude.{ℕ, zero, suc, ◌-◌, Bool, not, ◌&&◌, List, ltb, eqb, length, take, drop, ℤ, pos, negsuc, Err}
use Rattle.rules.specs.declared.Refusal.TheVariants.{WrongLength, WrongWidth, BrokenDigit, Crowded, Negative, PastEnd}
use Rattle.rules.specs.Digits.{digit_at, is_zero, non_zeros, weighted}
use Rattle.rules.specs.Forms.{Form}
use Rattle.rules.specs.Verdicts.{Verdict, Done, unless, ◌or_else◌}

-- The digit at index i is not zero, and one of the `gap` digits just below it is not zero either.
unfoldable pub crowded : ℕ → List ℤ → ℕ → Bool
crowded gap ds i = not (is_zero (digit_at ds i)) && ltb 0 (non_zeros (drop (i - gap) (take i ds)))

-- What is wrong at index i: 5 before 6.
unfoldable pub fault_at : Form → List ℤ → ℕ → Verdict
fault_at F ds i = unless (F.own i (digit_at ds i)) (BrokenDigit i) or_else unless (not (crowded F.gap ds i)) (Crowded i)

-- What is wrong first at the k indices from i up.
unfoldable pub first_fault : Form → List ℤ → ℕ → ℕ → Verdict
first_fault F ds i zero = Done
first_fault F ds i (suc k) = fault_at F ds i or_else first_fault F ds (suc i) k

-- The sum against the range: 7 below it, 8 at its end or past it.
unfoldable pub range_fault : ℕ → ℤ → Verdict
range_fault end (pos x) = unless (ltb x end) PastEnd
range_fault end (negsuc x) = Err Negative

-- The test: the length, the width, the digits from index 0 up, and the sum, in this order.
unfoldable pub verdict : Form → List ℤ → Verdict
verdict F ds =
    unless (eqb (length ds) F.long) WrongLength
    or_else unless F.allowed WrongWidth
    or_else first_fault F ds 0 (length ds)
    or_else range_fault F.end (weighted F.base ds)
