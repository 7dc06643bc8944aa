-- What `shape` promises: a width's row of R's table, or the refusal. Assumes nothing.
use Rattle.std.specs.Prelude.{ℕ, ◌≡◌, Result, Ok, Err}
use Rattle.rules.specs.declared.Refusal.{Refusal}
use Rattle.rules.specs.declared.Refusal.TheVariants.{WrongWidth}
use Rattle.rules.specs.Widths.{width_r, row}
use Rattle.shape.specs.declared.Row.{Row}
use Rattle.rules.specs.Verdicts.{Verdict, unless}

-- The row of an answer that is a row or a refusal; a refusal has zeros.
abbrev pub in_row : Result Row Refusal → Row
in_row (Ok row) = row
in_row (Err refusal) = record { digits = 0; top = 0; bits = 0 }

-- The number of digits, the top of the last, and the power of two at which the range ends; a width that is not R's is refused with 3 and has zeros.
pub record ShapeOf (w : ℕ) (answer : Verdict) (digits top bits : ℕ) : Type 0 where
  pub answered : answer ≡ unless (width_r w) WrongWidth
  pub counted : digits ≡ (row w).digits
  pub topped : top ≡ (row w).top
  pub ended : bits ≡ (row w).bits
