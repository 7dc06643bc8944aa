-- What a call of the C interface returns. Assumes nothing.
use Rattle.std.specs.Prelude.{ℕ, ◌+◌, ◌*◌, ◌%◌, ◌^◌}
use Rattle.rules.specs.Verdicts.{Verdict, number, position}

-- The number of 01's table in the lowest byte and the position above it, in 64 bits; done is 0.
abbrev pub code : Verdict → ℕ
code v = (number v + 256 * position v) % 2 ^ 64
