-- An answer that is a scalar or a refusal: where it is refused, its verdict and its bytes. Assumes nothing.
use mathlib.Core.Path.{◌≡◌, ap}
use lib.ListN.{replicate}
use Rattle.std.specs.Prelude.{Result, Err}
use Rattle.rules.specs.declared.Refusal.{Refusal}
use Rattle.rules.specs.Verdicts.{verdict_of}
use Rattle.scalar.specs.declared.Scalar.{Scalar}
use Rattle.scalar.specs.Answers.{bytes_of}

pub refused-answer : {r : Result Scalar Refusal} {e : Refusal} → r ≡ Err e → (verdict_of r ≡ Err e) × (bytes_of r ≡ replicate 32 0)
refused-answer p = (ap verdict_of p, ap bytes_of p)
