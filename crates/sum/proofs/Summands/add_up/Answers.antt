-- `add_up`: each turn writes one byte, so that the bytes and what is held stay the sum of the digits passed. Assumes nothing.
use mathlib.Core.Path.{◌≡◌}
use native.Mathlib.Omega.{arith}
use lib.ListN.{length-set, take}
use borrow.Author.Rules.{rules}
use Rattle.rules.specs.Integer.{integer}
use Rattle.sum.proofs.SumLaws.{adds_none, adds-byte, adds-all}
use Rattle.sum.proofs.Summands.add_up.Goals as goal

pub loop-at-init : goal.loop-at-init
loop-at-init c =
    let n = c.new-held.ensures in
    (search rules, search rules, search rules, search rules, rw (n.0, n.1, n.2) (adds_none c.args.self.now.digits.now c.args.self.now.w))

pub loop-at-preserved : goal.loop-at-preserved
loop-at-preserved c =
    let loop = c.loop-at in
    let g = c.gather-full.ensures in
    let r = c.rest-held.ensures in (
      search rules,
      simp length-set (omega arith),
      search rules,
      omega (arith, g.taken, g.full, r),
      rw (r.0, r.1, r.2) (adds-byte loop.at loop.bytes (omega arith) (g.keeps loop.at (integer (take loop.at loop.bytes)) loop.invariant.4) g.full),
    )

pub returns : goal.returns
returns c =
    let loop = c.loop-at in
    let g = c.gather-last.ensures in
    let e : loop.at ≡ 32 = omega arith in
    adds-all loop.bytes loop.invariant.1 c.args.self.now.least c.requires g.full c.gather-last.result.bounded (rw e at (g.keeps loop.at (integer (take loop.at loop.bytes)) loop.invariant.4))
