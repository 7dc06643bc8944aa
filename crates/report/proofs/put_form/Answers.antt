-- `put_form`: what the recoder answers fits into the text. Assumes nothing.
use native.Mathlib.Omega.{arith}
use Rattle.rules.proofs.Promises.{tally-inside}
use Rattle.report.proofs.put_form.Goals as goal

pub answer-requires : goal.answer-requires
answer-requires g c =
    let form = g.met.F.DigitForm in
    let w = c.args.w in
    let few = tally-inside _ (form.lawful w) c.args.s.bytes c.recode.ensures in
    (omega (arith, form.short), (omega arith, omega (arith, few, form.long w, form.short), form.short, c.requires.0))
