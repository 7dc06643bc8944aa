-- The integer and the sums written out are the library's. Assumes nothing.
use mathlib.Core.Path.{◌≡◌, ◌∙◌}
use mathlib.Core.List.{List}
use Prim.Native.Nat.{ℕ, ◌^◌}
use lib.IntN.{ℤ}
use Rattle.numbers.proofs.Positional.{spelled_out}
use Rattle.numbers.proofs.Windows.{pow-pow}
use Rattle.rules.specs.Integer.{integer}
use Rattle.rules.specs.Digits.{weighted}
use Rattle.rules.proofs.Sum.{digit-weighs}
use Rattle.acceptance.specs.Strings.{integer_of, sum_n, sum_r}

pub integer-is : (bytes : List ℕ) → integer bytes ≡ integer_of bytes
unfolding integer_of
integer-is bytes = spelled_out 256 bytes

pub sum-n-is : (ds : List ℤ) → weighted 2 ds ≡ sum_n ds
unfolding sum_n
sum-n-is ds = digit-weighs 2 ds

pub sum-r-is : (w : ℕ) (ds : List ℤ) → weighted (2 ^ w) ds ≡ sum_r w ds
unfolding sum_r
sum-r-is w ds = digit-weighs (2 ^ w) ds ∙ simp pow-pow
