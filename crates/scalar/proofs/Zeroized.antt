-- What `zeroize` promises fixes its reply, and each of 32 bytes is 0 afterwards. Assumes nothing.
use Prim.Native.Nat.{ℕ, ◌<◌}
use mathlib.Core.Path.{◌≡◌, ap, ◌∙◌}
use mathlib.Core.Logic.{by_cases}
use mathlib.Core.List.{List}
use native.Mathlib.Decide.{ℕ_discrete}
use lib.ListN.{length, get_or, get_or-replicate}
use Rattle.numbers.proofs.Agree.{agree}
use Rattle.rules.specs.Verdicts.{Verdict}
use Rattle.scalar.specs.Zeroize.{Zeroized}

pub zeroize-determined : {before after after' : List ℕ} {answer answer' : Verdict} → Zeroized before after answer → Zeroized before after' answer' → (answer ≡ answer') × (after ≡ after')
zeroize-determined {before} r s =
    by_cases (ℕ_discrete (length before) 32) (λ e. agree (r.done e) (s.done e)) (λ n. agree (r.refused n) (s.refused n))

pub implies-zeroize : {before after : List ℕ} {answer : Verdict} → Zeroized before after answer → length before ≡ 32 → (i : ℕ) → i < 32 → get_or after i 0 ≡ 0
implies-zeroize r e i h = ap (λ (l : List ℕ). get_or l i 0) (r.done e).1 ∙ get_or-replicate 32 i 0 0 h
