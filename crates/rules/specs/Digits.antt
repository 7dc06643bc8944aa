-- 01, "The numbers of each width": what a string of signed digits amounts to. Assumes nothing.
use Rattle.std.specs.Prelude.{ℕ, ◌+◌, List, [], ◌∷◌, Bool, cond, ◌&&◌, eqb, get_or, ℤ, pos, nat_abs, ◌+ℤ◌, ◌*ℤ◌}

-- The digit at index i; past the end of the string stands 0.
abbrev pub digit_at : List ℤ → ℕ → ℤ
digit_at ds i = get_or ds i (pos 0)

-- Whether a digit is 0.
abbrev pub is_zero : ℤ → Bool
is_zero d = eqb (nat_abs d) 0

-- The weighted sum at base b: digit i weighs b^i.
unfoldable pub weighted : ℕ → List ℤ → ℤ
weighted b [] = pos 0
weighted b (d ∷ ds) = d +ℤ pos b *ℤ weighted b ds

-- One more than the highest index of a non-zero digit, and 0 where every digit is 0: N's count.
unfoldable pub count : List ℤ → ℕ
count [] = 0
count (d ∷ ds) = cond (is_zero d && eqb (count ds) 0) 0 (1 + count ds)

-- How many digits are not zero.
unfoldable pub non_zeros : List ℤ → ℕ
non_zeros [] = 0
non_zeros (d ∷ ds) = cond (is_zero d) (non_zeros ds) (1 + non_zeros ds)

-- N's additions: the number of non-zero digits.
unfoldable pub additions : List ℤ → ℕ
additions ds = non_zeros ds
