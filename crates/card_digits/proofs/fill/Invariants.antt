-- `fill` stays inside the buffer. Assumes nothing.
use Rattle.std.proofs.Common.{◌≡◌, ◌≤◌, length}
use Rattle.card_digits.proofs.fill.Given as goal

abbrev pub invariant-loop : goal.invariant-loop
invariant-loop g l = (l.n ≤ length l.buf) × (length l.buf ≡ length l.initial.buf)
