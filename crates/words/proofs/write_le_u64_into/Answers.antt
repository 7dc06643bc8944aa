-- `write_le_u64_into` keeps its promise. The loop's invariant: the bytes below 8 * k are written. Assumes nothing.
use mathlib.Core.Path.{◌∙◌}
use native.Mathlib.Omega.{arith}
use Rattle.words.proofs.WordSteps.{write-turn}
use Rattle.words.proofs.write_le_u64_into.Goals as goal

pub loop-k-preserved : goal.loop-k-preserved
loop-k-preserved c =
    let l = c.loop-k in
    write-turn c.args.src.now l.dst c.copy_from_slice.new.self l.k _ (c.copy_from_slice.ensures.after ∙ c.to_le_bytes.ensures) (omega arith) l.invariant
