-- The calls on whole scalars: the choice's answer handed over, and one answer to each call. Assumes nothing.
use mathlib.Core.Path.{◌≡◌, refl, sym, ◌∙◌}
use mathlib.Core.List.{List}
use Prim.Native.Nat.{ℕ, zero, suc}
use native.Mathlib.Omega.{arith}
use borrow.Author.Tests.{lt-leb}
use lib.Dec.{leb}
use Rattle.rules.specs.declared.Refusal.TheVariants.{WrongChoice}
use Rattle.rules.specs.Verdicts.{Verdict, unless}
use Rattle.scalar.specs.ConditionalSelect.{Selects}
use Rattle.scalar.proofs.Reduced.{from-bits-determined}
use Rattle.scalar.proofs.Selects.{select-determined}
use Rattle.calls.proofs.Answers.{answers-determined}
use Rattle.calls_scalars.specs.Scalars.{CardFromBits, CardSelect, CardIsOdd, CardZeroize}

-- ---- the choice

pub select-due : (choice : ℕ) {a b made : List ℕ} {v : Verdict} → Selects a b choice v made → v ≡ unless (leb choice 1) WrongChoice
select-due zero r = (r.first refl).0
select-due (suc zero) r = (r.second refl).0
select-due (suc (suc n)) r = rw (lt-leb (suc (suc n)) 1 (omega arith)) (r.other (omega arith)).0

-- ---- one answer to each call

module _ {before after after' : List ℕ} {r r' : ℕ} where
  pub card-from-bits-determined : (bytes : List ℕ) → CardFromBits bytes before after r → CardFromBits bytes before after' r' → (r ≡ r') × (after ≡ after')
  card-from-bits-determined bytes = answers-determined (λ x y p q. from-bits-determined p.0 q.0 p.1 q.1)

  pub card-select-determined : (a b : List ℕ) (choice : ℕ) → CardSelect a b choice before after r → CardSelect a b choice before after' r' → (r ≡ r') × (after ≡ after')
  card-select-determined a b choice = answers-determined (λ x y p q. (select-determined p q).1)

  pub card-is-odd-determined : (bytes : List ℕ) → CardIsOdd bytes before after r → CardIsOdd bytes before after' r' → (r ≡ r') × (after ≡ after')
  card-is-odd-determined bytes = answers-determined (λ x y p q. p ∙ sym q)

  pub card-zeroize-determined : CardZeroize before after r → CardZeroize before after' r' → (r ≡ r') × (after ≡ after')
  card-zeroize-determined = answers-determined (λ x y p q. p ∙ sym q)
