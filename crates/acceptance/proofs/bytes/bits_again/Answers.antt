-- `bits_again`: the bytes fix the bits. Assumes nothing.
use Rattle.bits.proofs.BitLaws.{bits-determined}
use Rattle.acceptance.proofs.bytes.bits_again.Goals as goal

pub returns : goal.returns
returns c = bits-determined _ _ _ c.bits_le.ensures c.from_bits_le.ensures
