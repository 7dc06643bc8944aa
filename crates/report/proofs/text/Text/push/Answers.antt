-- `push` copies a text behind the one so far; past it the zeros stay. Assumes nothing.
use mathlib.Core.Path.{ap, ◌∙◌}
use native.Mathlib.Omega.{arith}
use Prim.Native.Nat.{◌+◌, ◌≤◌}
use lib.ListN.{length}
use lib.Seq.{length-take-le}
use Rattle.std.proofs.lemmas.Slice.{drop-put_mid}
use Rattle.report.specs.declared.TheConstants.{SIZE}
use Rattle.report.proofs.TextLaws.{zeros_stay}
use Rattle.report.proofs.text.Text.push.Goals as goal

pub invariant_of-self : goal.invariant_of-self
invariant_of-self c =
    let s = c.self.inside in
    let room : s.len + length c.args.t.now ≤ SIZE = omega (arith, ap length c.self.view_is, length-take-le s.len s.bytes (omega arith)) in
    (room, drop-put_mid s.len _ s.bytes _ _ (omega arith) (omega arith) (omega arith) ∙ zeros_stay s.len (length c.args.t.now) s.bytes c.self.invariant.1)
