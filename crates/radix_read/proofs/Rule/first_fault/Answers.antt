-- `first_fault`: the walk stops at the first digit that breaks its rule. Assumes nothing.
use mathlib.Core.Path.{◌≡◌, sym, ◌∙◌, ap}
use mathlib.Core.Bool.{true, false}
use native.Mathlib.Omega.{arith}
use borrow.Author.Rules.{rules}
use mir.Syntax.{w8}
use mir.Val.{to_z, of_z}
use Rattle.std.specs.Prelude.{Err}
use Rattle.rules.specs.declared.Refusal.TheVariants.{BrokenDigit}
use Rattle.rules.specs.Digits.{digit_at}
use Rattle.rules.specs.Forms.{card_r}
use Rattle.rules.specs.Verdicts.{number, unless}
use Rattle.rules.proofs.FirstFault.{scan-is}
use Rattle.rules.proofs.Walk.{Turn, walk-on, walk-off, walk_end}
use Rattle.radix_read.proofs.ReadLaws.{tested-r, held-r}
use Rattle.radix_read.proofs.Rule.first_fault.Goals as goal
use Rattle.radix_read.proofs.Rule.first_fault.Goals.{After-keeps}

-- the digit at hand, and what is wrong with it
turn : (c : After-keeps) →
    let a = c.args in
    Turn (card_r a.self.now.w) c.loop-i.i 0 a.digits.now (to_z w8 (of_z w8 (digit_at a.digits.now c.loop-i.i))) (unless c.keeps.result (BrokenDigit c.loop-i.i))
turn c =
    let s = c.args.self.now in
    record {
      inside = c.loop-i-test.true;
      digit = search rules;
      wrong = tested-r s.w s.row.digits s.row.top c.loop-i.i _ c.keeps.result s.counted s.topped c.keeps.ensures;
    }

pub returns-then-not-keeps : goal.returns-then-not-keeps
returns-then-not-keeps c =
    let r : c.keeps.result ≡ false = c.if-not-keeps.true in
    let e : unless c.keeps.result (BrokenDigit c.loop-i.i) ≡ Err (BrokenDigit c.loop-i.i) = rw r in
    sym e ∙ walk-off (turn (goal.at.returns-then-not-keeps c).After-keeps) (λ z. omega (arith, ap number (sym e), z)) ∙ sym c.loop-i.invariant.1 ∙ scan-is (card_r c.args.self.now.w) c.args.digits.now

pub loop-i-preserved : goal.loop-i-preserved
loop-i-preserved c =
    let r : c.keeps.result ≡ true = c.if-not-keeps.false in
    let e : number (unless c.keeps.result (BrokenDigit c.loop-i.i)) ≡ 0 = rw r in
    (omega arith, c.loop-i.invariant.1 ∙ walk-on (turn (goal.at.loop-i-preserved c).After-keeps) e 0 (held-r c.args.self.now.w (to_z w8 (of_z w8 (digit_at c.args.digits.now c.loop-i.i)))))

pub returns : goal.returns
returns c =
    let w = c.args.self.now.w in
    let ds = c.args.digits.now in
    sym (walk_end (card_r w) c.loop-i.i 0 ds c.loop-i-test.false) ∙ sym c.loop-i.invariant.1 ∙ scan-is (card_r w) ds
