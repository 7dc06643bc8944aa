-- What `from_slice` promises fixes its reply, and how its verdict goes before another. Assumes nothing.
use Prim.Native.Nat.{ℕ}
use mathlib.Core.Path.{◌≡◌, sym, ◌∙◌}
use mathlib.Core.Logic.{by_cases}
use mathlib.Core.List.{List}
use native.Mathlib.Decide.{ℕ_discrete}
use native.Mathlib.Omega.{arith}
use borrow.Author.Tests.{eq-eqb, ne_eqb}
use lib.Dec.{eqb}
use lib.ListN.{length}
use Rattle.numbers.proofs.Agree.{agree}
use Rattle.rules.specs.declared.Refusal.TheVariants.{WrongLength}
use Rattle.std.specs.Prelude.{Err}
use Rattle.rules.specs.Verdicts.{Verdict, Done, unless, ◌or_else◌}
use Rattle.rules.proofs.Verdicts.{done-or_else, refused-or_else}
use Rattle.scalar.specs.FromSlice.{FromSlice}

pub from-slice-determined : {given made made' : List ℕ} {answer answer' : Verdict} → FromSlice given answer made → FromSlice given answer' made' → (answer ≡ answer') × (made ≡ made')
from-slice-determined {given} r s = by_cases (ℕ_discrete (length given) 32) (λ e. agree (r.done e) (s.done e)) (λ n. agree (r.refused n) (s.refused n))

module _ {given made : List ℕ} {answer : Verdict} (s : FromSlice given answer made) where
  pub slice-answered : answer ≡ unless (eqb (length given) 32) WrongLength
  slice-answered = by_cases (ℕ_discrete (length given) 32) (λ e. rw (eq-eqb _ _ e) (s.done e).0) (λ n. rw (ne_eqb _ _ n) (s.refused n).0)

  pub slice_taken : answer ≡ Done → made ≡ given
  slice_taken d = by_cases (ℕ_discrete (length given) 32) (λ e. (s.done e).1) (λ n. let e = (s.refused n).0 in let z : ◌≡◌ {A = ℕ} 0 1 = cc in absurd (omega arith))

  -- a verdict v on what was taken, after the slice's own: v is that on what was given, as far as it counts
  pub slice_first : {v due : Verdict} → (made ≡ given → v ≡ due) → answer or_else v ≡ unless (eqb (length given) 32) WrongLength or_else due
  slice_first {v} {due} f =
      by_cases (ℕ_discrete (length given) 32)
      (λ e. rw ((s.done e).0, eq-eqb _ _ e) (done-or_else v ∙ f (s.done e).1 ∙ sym (done-or_else due)))
      (λ n. rw ((s.refused n).0, ne_eqb _ _ n) (refused-or_else (Err WrongLength) v (λ z. omega arith) ∙ sym (refused-or_else (Err WrongLength) due (λ z. omega arith))))
