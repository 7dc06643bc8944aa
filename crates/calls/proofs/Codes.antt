-- The code of a verdict: its lowest byte is the number and the rest the position, for every position below 2^56; so it names the verdict. Assumes nothing.
use mathlib.Core.Path.{◌≡◌, sym, ◌∙◌}
use Prim.Native.Nat.{ℕ, ◌+◌, ◌*◌, ◌/◌, ◌%◌, ◌^◌, ◌<◌}
use native.Mathlib.Nat.{mod-eq_of_lt}
use native.Mathlib.Omega.{arith}
use Rattle.rules.specs.Verdicts.{Verdict, number, position}
use Rattle.rules.proofs.Verdicts.{number_small, verdict-named}
use Rattle.calls.specs.Code.{code}

-- nothing is cut off
pub code-plain : (v : Verdict) → position v < 2 ^ 56 → code v ≡ number v + 256 * position v
code-plain v h = mod-eq_of_lt (omega (arith, number_small v))

pub record Holds (v : Verdict) (result : ℕ) : Type 0 where
  pub number : result % 256 ≡ number v
  pub position : result / 256 ≡ position v

pub code_holds : (v : Verdict) → position v < 2 ^ 56 → Holds v (code v)
code_holds v h = rw (code-plain v h) (record { number = omega (arith, number_small v); position = omega (arith, number_small v) })

-- the result names the verdict: no two verdicts have one code
pub code-determines : (u v : Verdict) → position u < 2 ^ 56 → position v < 2 ^ 56 → code u ≡ code v → u ≡ v
code-determines u v h k e =
    let p : number u + 256 * position u ≡ number v + 256 * position v = sym (code-plain u h) ∙ e ∙ code-plain v k in
    verdict-named u v (omega (arith, p, number_small u, number_small v)) (omega (arith, p, number_small u, number_small v))
