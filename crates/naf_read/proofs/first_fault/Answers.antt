-- `first_fault`: the walk with a counter, digit by digit. Assumes nothing.
use mathlib.Core.Path.{sym, ◌∙◌, ap}
use native.Mathlib.Omega.{arith}
use borrow.Author.Rules.{rules}
use mir.Syntax.{w8}
use mir.Val.{to_z, of_z}
use Rattle.rules.specs.Digits.{digit_at}
use Rattle.rules.specs.Forms.{card_n}
use Rattle.rules.specs.Verdicts.{number}
use Rattle.rules.proofs.Verdicts.{handed-on, err-number}
use Rattle.rules.proofs.FirstFault.{scan-is}
use Rattle.rules.proofs.Walk.{Turn, walk-on, walk-off, walk_end}
use Rattle.naf_read.proofs.first_fault.Goals as goal
use Rattle.naf_read.proofs.first_fault.Goals.{After-fault_of}

turn : (c : After-fault_of) →
    let a = c.args in
    Turn (card_n a.w) c.loop-i.i c.loop-i.held a.digits.now (to_z w8 (of_z w8 (digit_at a.digits.now c.loop-i.i))) c.fault_of.result
turn c =
    record {
      inside = c.loop-i-test.true;
      digit = search rules;
      wrong = c.fault_of.ensures c.args.w c.loop-i.invariant.1;
    }

pub returns-in_err-fault_of : goal.returns-in_err-fault_of
returns-in_err-fault_of c =
    handed-on c.from_residual.result c.in_err-fault_of.field-0.0 c.from_residual.ensures.1
    ∙ sym c.in_err-fault_of.was
    ∙ walk-off (turn (goal.at.returns-in_err-fault_of c).After-fault_of) (err-number c.in_err-fault_of.was)
    ∙ c.loop-i.invariant.2
    ∙ scan-is _ c.args.digits.now

pub loop-i-preserved : goal.loop-i-preserved
loop-i-preserved c = (
  omega arith,
  c.loop-i.invariant.1,
  sym (walk-on (turn (goal.at.loop-i-preserved c).After-fault_of) (ap number c.in_ok-fault_of.was) c.next_held-held.result c.next_held-held.ensures) ∙ c.loop-i.invariant.2,
)

pub returns : goal.returns
returns c =
    let a = c.args in
    sym (walk_end (card_n a.w) c.loop-i.i c.loop-i.held a.digits.now c.loop-i-test.false) ∙ c.loop-i.invariant.2 ∙ scan-is (card_n a.w) a.digits.now
