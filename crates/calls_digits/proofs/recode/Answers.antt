-- `recode` of the calls: three lengths, then the recoder. Assumes nothing.
use mathlib.Core.Path.{refl, sym, ◌∙◌}
use Prim.Native.Nat.{◌≤◌}
use native.Mathlib.Omega.{arith}
use Rattle.rules.proofs.Verdicts.{handed-on}
use Rattle.rules.proofs.Promises.{tally-inside}
use Rattle.scalar.proofs.FromSlices.{slice-answered, slice_taken}
use Rattle.calls.proofs.Answers.{answers-stopped}
use Rattle.calls.proofs.Given.{recode-short-digits, recode-short-tally, recode-short-bytes, recode-sized, recode-given}
use Rattle.calls_digits.proofs.recode.Given.{Over}
use Rattle.calls_digits.proofs.recode.Goals as goal
use Rattle.calls_digits.proofs.recode.Goals.{In_ok-made}

pub returns-in_err-has_length : goal.returns-in_err-has_length
returns-in_err-has_length g c =
    let a = c.args in
    let form = g.met.F.DigitForm in
    answers-stopped (recode-short-digits _ (form.whole a.width) (form.long a.width) a.scalar.now a.digits.now a.tally.now c.in_err-has_length.ensures)
    (handed-on c.from_residual.result _ c.from_residual.ensures.1)

pub returns-in_err-has_length-2 : goal.returns-in_err-has_length-2
returns-in_err-has_length-2 g c =
    let a = c.args in
    let form = g.met.F.DigitForm in
    let r = c.from_residual-in_err-has_length-2 in
    answers-stopped (recode-short-tally _ (form.whole a.width) (form.long a.width) a.scalar.now a.digits.now a.tally.now c.in_err-has_length-2.ensures)
    (handed-on r.result _ r.ensures.1)

pub returns-in_err-from_slice : goal.returns-in_err-from_slice
returns-in_err-from_slice g c =
    let a = c.args in
    let form = g.met.F.DigitForm in
    let r = c.from_residual-in_err-from_slice in
    answers-stopped (recode-short-bytes _ (form.whole a.width) (form.long a.width) a.scalar.now a.digits.now a.tally.now (slice-answered c.in_err-from_slice.ensures))
    (handed-on r.result _ r.ensures.1)

pub returns-in_err-made : goal.returns-in_err-made
returns-in_err-made g c =
    let a = c.args in
    let form = g.met.F.DigitForm in
    let r = c.from_residual-in_err-made in
    let made = rw (slice_taken c.in_ok-from_slice.ensures refl) at c.recode-made.ensures in
    answers-stopped
    (recode-sized _ (form.whole a.width) (form.long a.width) a.scalar.now a.digits.now a.tally.now c.in_ok-has_length.ensures c.in_ok-has_length-2.ensures (slice-answered c.in_ok-from_slice.ensures)
    ∙ sym made.answered ∙ c.in_err-made.was)
    (handed-on r.result _ r.ensures.1)

-- what the recoder counts is at most the number of entries
tally : (g : Over) (c : In_ok-made g) → (c.recode-made.result.count ≤ 256) × (c.recode-made.result.additions ≤ 256)
tally g c =
    let form = g.met.F.DigitForm in
    let w = c.args.width in
    let t = tally-inside _ (form.lawful w) _ c.recode-made.ensures in
    (omega (arith, t.0, form.long w, form.short), omega (arith, t.1, form.long w, form.short))

pub overflow_cast-count : goal.overflow_cast-count
overflow_cast-count g c = record { fits = omega (arith, (tally g (goal.at.overflow_cast-count g c).In_ok-made).0) }

pub overflow_cast-additions : goal.overflow_cast-additions
overflow_cast-additions g c = record { fits = omega (arith, (tally g (goal.at.overflow_cast-additions g c).In_ok-made).1) }

pub returns : goal.returns
returns g c =
    let a = c.args in
    let form = g.met.F.DigitForm in
    let made = rw (slice_taken c.in_ok-from_slice.ensures refl, c.in_ok-made.was) at c.recode-made.ensures in
    recode-given _ (form.whole a.width) (form.long a.width) a.scalar.now a.digits.now a.tally.now c.in_ok-has_length.ensures c.in_ok-has_length-2.ensures (slice-answered c.in_ok-from_slice.ensures)
    made c.copy_from_slice.ensures.after c.copy_from_slice-2.ensures.after
