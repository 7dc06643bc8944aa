-- 01, "The numbers the card says no with": the bytes of an answer that is a scalar or a refusal. Assumes nothing.
use Rattle.std.specs.Prelude.{ℕ, List, replicate, Result, Ok, Err}
use Rattle.rules.specs.declared.Refusal.{Refusal}
use Rattle.scalar.specs.declared.Scalar.{Scalar}

-- The scalar's bytes; a refusal has zero bytes.
abbrev pub bytes_of : Result Scalar Refusal → List ℕ
bytes_of (Ok scalar) = scalar.bytes
bytes_of (Err refusal) = replicate 32 0
