-- `read_le_u64_into` keeps its promise. The loop's invariant: the words below k are read. Assumes nothing.
use Rattle.numbers.proofs.Filled.{Filled}
use Rattle.words.specs.Words.{word_at}
use Rattle.words.proofs.read_le_u64_into.Given as goal

abbrev pub invariant-loop-k : goal.invariant-loop-k
invariant-loop-k l = Filled 0 (word_at l.src) l.k l.dst
