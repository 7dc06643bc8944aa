-- What makes an answer: done with what was asked for, or a refusal; and one answer to each call. Assumes nothing.
use mathlib.Core.Path.{◌≡◌, refl, sym, ap, ◌∙◌}
use mathlib.Core.Logic.{◌≢◌}
use Prim.Native.Nat.{ℕ}
use native.Mathlib.Decide.{ℕ_discrete}
use native.Mathlib.Omega.{arith}
use borrow.Author.Tests.{eq-eqb, ne_eqb}
use lib.Dec.{eqb}
use Rattle.rules.specs.declared.Refusal.TheVariants.{WrongLength}
use Rattle.std.specs.Prelude.{Err}
use Rattle.rules.specs.Verdicts.{Verdict, Done, number, unless}
use Rattle.rules.specs.declared.Refusal.{Refusal}
use Rattle.rules.proofs.Verdicts.{done-or-refused, refusal-number}
use Rattle.calls.specs.Code.{code}
use Rattle.calls.specs.Answers.{Answers}

module _ {B : Type 0} {Asked : B → Type 0} {before : B} {due : Verdict} where
  pub answers-done : {after : B} → due ≡ Done → Asked after → Answers due Asked before after 0
  answers-done e p = record { coded = sym (ap code e); done = λ _. p; refused = λ n. absurd (n e) }

  pub answers-refused : {result : ℕ} (v : Verdict) → due ≡ v → number v ≢ 0 → result ≡ code v → Answers due Asked before before result
  answers-refused v e n r = record { coded = r ∙ sym (ap code e); done = λ d. absurd (n (ap number (sym e ∙ d))); refused = λ _. refl }

  -- the verdict of the library is the one due, and what it made is what was asked for
  pub answers-given : {v : Verdict} {after : B} {result : ℕ} {Made : B → Type 0} → due ≡ v → Answers v Made before after result → ((x : B) → v ≡ Done → Made x → Asked x) → Answers due Asked before after result
  answers-given e p f = record { coded = p.coded ∙ sym (ap code e); done = λ d. let g = sym e ∙ d in f _ g (p.done g); refused = λ n. p.refused (λ g. n (e ∙ g)) }

-- the library has tried the lengths, m against n, and written where they agree
module _ (m n : ℕ) {v : Verdict} where
  pub answers-sized : {B : Type 0} {Asked : B → Type 0} {before after : B} {result : ℕ} → result ≡ code v
      → (m ≡ n → (v ≡ Done) × Asked after) → (m ≢ n → (v ≡ Err WrongLength) × (after ≡ before)) → Answers (unless (eqb m n) WrongLength) Asked before after result
  answers-sized {Asked} {before} {after} {result} r f g = go (ℕ_discrete m n)
    where
      go : Dec (m ≡ n) → Answers (unless (eqb m n) WrongLength) Asked before after result
      go (yes e) = rw (eq-eqb m n e) (record { coded = r ∙ ap code (f e).0; done = λ _. (f e).1; refused = λ k. absurd (k refl) })
      go (no d) =
          rw (ne_eqb m n d)
          (record { coded = r ∙ ap code (g d).0; done = λ k. let z : ◌≡◌ {A = ℕ} 1 0 = ap number k in absurd (omega arith); refused = λ _. (g d).1 })

-- what is asked for is one value
abbrev pub Unique : {B : Type 0} → (B → Type 0) → Type 0
Unique {B} P = (x y : B) → P x → P y → x ≡ y

-- the law of every call: where what is asked for is unique, the promise fixes the result and the buffers
pub answers-determined : {B : Type 0} {due : Verdict} {Asked : B → Type 0} {before after after' : B} {r r' : ℕ}
    → Unique Asked → Answers due Asked before after r → Answers due Asked before after' r' → (r ≡ r') × (after ≡ after')
answers-determined {due} u p q = (
  p.coded ∙ sym q.coded,
  done-or-refused due (λ d. u _ _ (p.done d) (q.done d)) (λ n. p.refused n ∙ sym (q.refused n)),
)

-- a call stops with the refusal that is due, and the buffers are as before
pub answers-stopped : {B : Type 0} {Asked : B → Type 0} {before : B} {due result : Verdict} {e : Refusal} → due ≡ Err e → result ≡ Err e → Answers due Asked before before (code result)
answers-stopped {e = e} d p = answers-refused (Err e) d (refusal-number e) (ap code p)
