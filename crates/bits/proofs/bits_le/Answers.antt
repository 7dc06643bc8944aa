-- `bits::bits_le` meets its contract: the bits are the integer's binary digits. Assumes nothing.
use mathlib.Core.Path.{◌∙◌}
use mathlib.Core.Bool.{false}
use Prim.Native.Nat.{ℕ, ◌/◌, ◌%◌}
use lib.ListN.{get_or}
use mir.Syntax.{w8}
use mir.Val.{Fits}
use borrow.Author.Rules.{rules}
use Rattle.bits.specs.Bits.{binary_digit}
use Rattle.bits.proofs.Made.{made-each}
use Rattle.bits.proofs.BitLaws.{digit-in-byte}
use Rattle.bits.proofs.bits_le.Goals as goal

pub returns : goal.returns
returns c =
    let bytes = c.args.s.bytes in
    let made = c.from_fn.ensures.items in
    let byte : (k : ℕ) → Fits w8 (get_or bytes k 0) = λ k. search rules in
    record {
      long = made.long;
      each = λ i l. made-each made (λ (at : ℕ). binary_digit (get_or bytes (at / 8) 0) (at % 8)) (λ at y q k. search rules) i false l ∙ digit-in-byte bytes i (λ k. (byte k).fits);
    }
