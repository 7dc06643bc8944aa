-- `bits`: the library's promise in 01's words. Assumes nothing.
use Rattle.acceptance.proofs.BitsWords.{bits_are}
use Rattle.acceptance.proofs.bytes.bits.Goals as goal

pub returns : goal.returns
returns c = bits_are c.bits_le.ensures
