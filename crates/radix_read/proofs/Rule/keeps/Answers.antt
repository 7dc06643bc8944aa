-- `keeps`: before the last digit, at it and past it. Assumes nothing.
use mathlib.Core.Path.{◌≡◌, ◌∙◌}
use mathlib.Core.Bool.{◌&&◌}
use Prim.Native.Nat.{◌+◌, ◌-◌}
use native.Mathlib.Omega.{arith}
use borrow.Author.Rules.{rules}
use lib.Dec.{leb}
use mir.Facts.{to_z-of_z}
use Rattle.shape.proofs.Rows.{top_small}
use Rattle.radix_read.proofs.Offsets.{before_last, at_last, past-last}
use Rattle.radix_read.proofs.Rule.keeps.Goals as goal

pub returns-then-i-n : goal.returns-then-i-n
returns-then-i-n c =
    let a = c.args in
    let s = a.self.now in
    let o = c.offset-e in
    let r : c.contains.result ≡ (leb (128 - s.half) o.result && leb o.result (127 + s.half)) = search rules in
    r ∙ before_last a.d o.result (rw (to_z-of_z c.ranges.d) at o.ensures.0) s.w s.row.digits s.row.top a.i s.half s.halved (search rules) c.if-i-n.true

pub overflow_add-self-then-i-n-2 : goal.overflow_add-self-then-i-n-2
overflow_add-self-then-i-n-2 c = let s = c.args.self.now in let small = top_small s.w s.allowed in omega (arith, small, s.topped)

pub returns-then-i-n-2 : goal.returns-then-i-n-2
returns-then-i-n-2 c =
    let a = c.args in
    let s = a.self.now in
    let o = c.offset-e in
    let r : c.contains-then-i-n-2.result ≡ (leb 128 o.result && leb o.result (128 + s.row.top)) = search rules in
    r ∙ at_last a.d o.result (rw (to_z-of_z c.ranges.d) at o.ensures.0) s.w s.row.digits s.row.top a.i c.if-i-n-2.true

pub returns : goal.returns
returns c =
    let a = c.args in
    let s = a.self.now in
    let o = c.offset-e in
    past-last a.d o.result (rw (to_z-of_z c.ranges.d) at o.ensures.0) s.w s.row.digits s.row.top a.i (omega arith)
