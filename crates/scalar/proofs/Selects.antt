-- What `conditional_select` promises fixes its reply. Assumes nothing.
use Prim.Native.Nat.{ℕ, zero, suc}
use mathlib.Core.Path.{◌≡◌, refl}
use mathlib.Core.List.{List}
use native.Mathlib.Omega.{arith}
use Rattle.numbers.proofs.Agree.{agree}
use Rattle.rules.specs.Verdicts.{Verdict}
use Rattle.scalar.specs.ConditionalSelect.{Selects}

pub select-determined : {a b : List ℕ} {choice : ℕ} {answer answer' : Verdict} {made made' : List ℕ} → Selects a b choice answer made → Selects a b choice answer' made' → (answer ≡ answer') × (made ≡ made')
select-determined {choice = zero} r s = agree (r.first refl) (s.first refl)
select-determined {choice = suc zero} r s = agree (r.second refl) (s.second refl)
select-determined {choice = suc (suc n)} r s = agree (r.other (omega arith)) (s.other (omega arith))
