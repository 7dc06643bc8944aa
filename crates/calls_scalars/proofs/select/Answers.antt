-- `select` of the calls: three lengths, and then the choice. Assumes nothing.
use mathlib.Core.Path.{refl, sym, ◌∙◌}
use mathlib.Core.Bool.{◌&&◌}
use lib.Dec.{T}
use Rattle.numbers.proofs.Tests.{and_left, and_right, and_both}
use Rattle.rules.proofs.Verdicts.{handed-on}
use Rattle.scalar.proofs.FromSlices.{slice-answered, slice_taken}
use Rattle.calls.specs.Answers.{sized}
use Rattle.calls.proofs.Lengths.{wrong-length-first, right-length, right-lengths}
use Rattle.calls.proofs.Answers.{answers-stopped, answers-done}
use Rattle.calls_scalars.proofs.ScalarCalls.{select-due}
use Rattle.calls_scalars.proofs.select.Goals as goal
use Rattle.calls_scalars.proofs.select.Goals.{In_ok-second}

pub returns-in_err-has_length : goal.returns-in_err-has_length
returns-in_err-has_length c =
    answers-stopped (wrong-length-first _ _ _ (and_right _ _) c.in_err-has_length.ensures) (handed-on c.from_residual.result _ c.from_residual.ensures.1)

pub returns-in_err-first : goal.returns-in_err-first
returns-in_err-first c =
    let r = c.from_residual-in_err-first in
    let a = c.args in
    answers-stopped (wrong-length-first _ _ _ (λ t. and_left (sized 32 a.a.now) (sized 32 a.b.now) (and_left _ (sized 32 a.out.now) t)) (slice-answered c.in_err-first.ensures)) (handed-on r.result _ r.ensures.1)

pub returns-in_err-second : goal.returns-in_err-second
returns-in_err-second c =
    let r = c.from_residual-in_err-second in
    let a = c.args in
    answers-stopped (wrong-length-first _ _ _ (λ t. and_right (sized 32 a.a.now) (sized 32 a.b.now) (and_left _ (sized 32 a.out.now) t)) (slice-answered c.in_err-second.ensures)) (handed-on r.result _ r.ensures.1)

-- past the lengths
sizes : (c : In_ok-second) → let a = c.args in T ((sized 32 a.a.now && sized 32 a.b.now) && sized 32 a.out.now)
sizes c =
    and_both _ _ (and_both _ _ (right-length _ (slice-answered c.in_ok-first.ensures)) (right-length _ (slice-answered c.in_ok-second.ensures))) (right-length _ c.in_ok-has_length.ensures)

pub returns-in-Err : goal.returns-in-Err
returns-in-Err c =
    answers-stopped (right-lengths _ _ (sizes (goal.at.returns-in-Err c).In_ok-second) ∙ sym (select-due _ c.in-Err.ensures)) refl

pub returns : goal.returns
returns c =
    answers-done (right-lengths _ _ (sizes (goal.at.returns c).In_ok-second) ∙ sym (select-due _ c.in-Ok.ensures))
    (rw (c.copy_from_slice.ensures.after, ← slice_taken c.in_ok-first.ensures refl, ← slice_taken c.in_ok-second.ensures refl) c.in-Ok.ensures)
