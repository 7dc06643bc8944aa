-- `read_le_u64_into` keeps its promise. The loop's invariant: the words below k are read. Assumes nothing.
use native.Mathlib.Omega.{arith}
use Rattle.numbers.proofs.Filled.{filled_more}
use Rattle.words.specs.Words.{word_at}
use Rattle.words.proofs.WordSteps.{chunk-is}
use Rattle.words.proofs.read_le_u64_into.Goals as goal

pub loop-k-preserved : goal.loop-k-preserved
loop-k-preserved c =
    let l = c.loop-k in
    let src = c.args.src.now in
    filled_more 0 (word_at src) l.k l.dst c.from_le_bytes.result (omega arith) l.invariant (chunk-is src l.k c.as_chunks.ensures.front (omega arith) (omega arith) c.from_le_bytes.ensures)
