-- `by_bits`: the bits fix the bytes. Assumes nothing.
use borrow.Author.Rules.{rules}
use Rattle.rules.proofs.Integer.{array-bytes}
use Rattle.bits.proofs.BitLaws.{from-bits-le-determined}
use Rattle.acceptance.proofs.bytes.by_bits.Goals as goal

pub returns : goal.returns
returns c =
    from-bits-le-determined _ _ _ (array-bytes (search rules) (λ k. search rules)) (array-bytes (search rules) (λ k. search rules)) c.from_bits_le.ensures c.bits_le.ensures
