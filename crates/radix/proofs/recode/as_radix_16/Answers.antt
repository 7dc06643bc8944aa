-- `radix::recode::as_radix_16` meets its contract: byte 31 decides, and the 64 digits are the string of width 4. Assumes nothing.
use native.Mathlib.Omega.{arith}
use Rattle.rules.specs.Widths.{row}
use Rattle.rules.specs.Forms.{card_r}
use Rattle.rules.proofs.Promises.{recodes-done, recodes-refused}
use Rattle.radix.proofs.Due.{due-16, due-too-wide}
use Rattle.radix.proofs.recode.as_radix_16.Goals as goal

pub returns-then-bytes-gt127 : goal.returns-then-bytes-gt127
returns-then-bytes-gt127 c = let bytes = c.args.s.bytes in recodes-refused (card_r 4) bytes (due-too-wide bytes (omega arith)) (λ z. omega arith) c.refused.ensures

pub returns : goal.returns
unfolding row
returns c =
    let bytes = c.args.s.bytes in
    let e = c.done.ensures in
    recodes-done (card_r 4) bytes (due-16 bytes (omega arith)) e.0 (rw e.1 c.nibbles.ensures) e.2 e.3
