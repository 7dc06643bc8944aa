-- A sum written out, to say in a law what a recursive definition adds up. Assumes nothing.
use Rattle.std.specs.Prelude.{ℕ, zero, suc, ◌+◌, ℤ, pos, ◌+ℤ◌}

-- f 0 + f 1 + .. + f (n - 1), in ℤ.
unfoldable pub total : (ℕ → ℤ) → ℕ → ℤ
total f zero = pos 0
total f (suc n) = total f n +ℤ f n

-- The same in ℕ.
unfoldable pub totalℕ : (ℕ → ℕ) → ℕ → ℕ
totalℕ f zero = 0
totalℕ f (suc n) = totalℕ f n + f n
