-- 01, "Bytes, bits, words": `is_odd`. Assumes nothing.
use Rattle.std.specs.Prelude.{ℕ, ◌%◌, Bool, List, eqb}
use Rattle.rules.specs.Integer.{integer}

-- True exactly if the integer is odd.
abbrev pub odd_integer : List ℕ → Bool
odd_integer bytes = eqb (integer bytes % 2) 1
