-- `bits::from_bits_le` meets its contract: each byte is that of its eight bits. Assumes nothing.
use mathlib.Core.List.{map}
use Prim.Native.Nat.{ℕ, ◌*◌}
use borrow.Author.Rules.{rules}
use Rattle.numbers.specs.Positional.{positional}
use Rattle.bits.specs.BitNumber.{bit_number}
use Rattle.bits.proofs.Made.{made-each}
use Rattle.bits.proofs.BitLaws.{eight, bits-of-eights}
use Rattle.bits.proofs.from_bits_le.Goals as goal

pub returns : goal.returns
returns c =
    let bits = c.args.bits in
    let made = c.from_fn.ensures.items in
    bits-of-eights _ bits made.long (search rules) (λ k h. made-each made (λ (j : ℕ). positional 2 (map bit_number (eight bits (8 * j)))) (λ j y q f. search rules) k 0 h)
