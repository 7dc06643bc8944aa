-- `carry_of`: the test as a number. Assumes nothing.
use mathlib.Core.Path.{◌≡◌}
use mathlib.Core.Logic.{⊎_elim}
use Prim.Native.Nat.{ℕ}
use lib.Dec.{leb}
use mir.Val.{bool_byte}
use borrow.Author.Tests.{lt-leb, le-leb, lt-ltb, le-ltb}
use Rattle.numbers.specs.Centred.{carried}
use Rattle.digits.proofs.Signed.{order}
use Rattle.digits.proofs.centre.carry_of.Goals as goal

test-carried : (h r : ℕ) → bool_byte (leb h r) ≡ carried h r
unfolding carried
test-carried h r = ⊎_elim (λ l. rw (lt-leb h r l, lt-ltb r h l)) (λ l. rw (le-leb h r l, le-ltb r h l)) (order r h)

pub returns : goal.returns
returns c = test-carried c.args.half c.args.window
