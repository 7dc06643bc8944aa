-- Numbers written in a base. Assumes nothing.
use Rattle.std.specs.Prelude.{ℕ, ◌+◌, ◌*◌, List, [], ◌∷◌}

-- The number whose digits in base b are these, the lowest first: digit i counts b^i.
unfoldable pub positional : ℕ → List ℕ → ℕ
positional b [] = 0
positional b (d ∷ ds) = d + b * positional b ds
