-- `write_le_u64_into` keeps its promise. The loop's invariant: the bytes below 8 * k are written. Assumes nothing.
use Prim.Native.Nat.{◌*◌}
use Rattle.numbers.proofs.Filled.{Filled}
use Rattle.words.specs.Words.{byte_at}
use Rattle.words.proofs.write_le_u64_into.Given as goal

abbrev pub invariant-loop-k : goal.invariant-loop-k
invariant-loop-k l = Filled 0 (byte_at l.src) (8 * l.k) l.dst
