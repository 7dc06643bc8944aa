-- `recode`: the loop walks over the string's places, and a turn is one of the walk's two. Assumes nothing.
use mathlib.Core.Path.{refl, ◌∙◌}
use Prim.Native.Nat.{◌+◌, ◌/◌, ◌%◌, ◌^◌}
use native.Mathlib.Omega.{arith}
use borrow.Author.Rules.{rules}
use lib.Dec.{lit<}
use mir.Syntax.{w8}
use Rattle.digits.proofs.Narrowed.{window-fits, window-is}
use Rattle.rules.specs.Digits.{additions}
use Rattle.rules.specs.Integer.{integer}
use Rattle.naf.specs.inner.Turns.{StepN, TakenN}
use Rattle.naf.proofs.Places.{walk-starts, walk-skips, walk-takes}
use Rattle.naf.proofs.Made.{walked-string}
use Rattle.naf.proofs.recode.recode.Goals as goal
use Rattle.naf.proofs.recode.recode.Goals.{In-Some}

pub loop-at-init : goal.loop-at-init
loop-at-init c = (search rules, search rules, rw c.none-carry.ensures (walk-starts c.args.width.w 256 (integer c.args.bytes.now)))

-- what a turn took
taken : (c : In-Some) → TakenN c.args.width.w (integer c.args.bytes.now / 2 ^ c.loop-at.at % 2 ^ c.args.width.w + c.loop-at.carry.bit) c.in-Some.c.digit c.in-Some.c.carry.bit
unfolding StepN
taken c = c.in-Some.ensures

pub overflow_cast-digits : goal.overflow_cast-digits
overflow_cast-digits c =
    let w = c.args.width.w in
    let p = c.loop-at.invariant.2 in
    let q = taken (goal.at.overflow_cast-digits c).In-Some in
    window-fits w8 w (integer c.args.bytes.now / 2 ^ c.loop-at.at) c.loop-at.carry.bit (omega (arith, c.args.width.least)) (omega (arith, c.args.width.most)) p.bit (search rules) q.is

pub loop-at-preserved-in-Some : goal.loop-at-preserved-in-Some
loop-at-preserved-in-Some c =
    let w = c.args.width.w in
    let p = c.loop-at.invariant.2 in
    let q = taken (goal.at.loop-at-preserved-in-Some c).In-Some in
    let digit = window-is w8 w (integer c.args.bytes.now / 2 ^ c.loop-at.at) c.loop-at.carry.bit (omega (arith, c.args.width.least)) (omega (arith, c.args.width.most)) p.bit (search rules) q.is in (
      search rules,
      search rules,
      walk-takes c.args.width.least (omega arith) p _ refl (record { odd = q.odd; is = digit; carries = q.carries }),
    )

pub loop-at-preserved : goal.loop-at-preserved
unfolding StepN
loop-at-preserved c = (
  search rules,
  search rules,
  walk-skips c.args.width.least (omega arith) c.loop-at.invariant.2 _ refl c.in_default.ensures,
)

pub returns-clause-tallied : goal.returns-clause-tallied
unfolding additions
returns-clause-tallied c =
    let p = c.loop-at.invariant.2 in
    let e = c.done.ensures in
    (e.0, e.2 ∙ rw e.1 p.counts, e.3 ∙ rw e.1 p.adds)

pub returns-clause-recoded : goal.returns-clause-recoded
returns-clause-recoded c = λ l. rw c.done.ensures.1 (walked-string 8 c.args.width.least (lit< tt) c.loop-at.invariant.2 (omega arith) l)
