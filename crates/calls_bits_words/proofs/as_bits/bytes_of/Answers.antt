-- `bytes_of`: each byte is that of its bit. Assumes nothing.
use mathlib.Core.Path.{◌≡◌, sym}
use mathlib.Core.Bool.{false}
use mathlib.Core.List.{map}
use Prim.Native.Nat.{ℕ}
use native.Mathlib.Omega.{arith}
use borrow.Author.Rules.{rules}
use lib.ListN.{length, get_or, length-map, get_or-map}
use Rattle.bits.specs.BitNumber.{bit_number}
use Rattle.bits.proofs.Made.{made-all}
use Rattle.calls_bits_words.proofs.as_bits.bytes_of.Goals as goal

pub returns : goal.returns
returns c =
    let bits = c.args.bits in
    let long : length bits ≡ 256 = search rules in
    made-all c.from_fn.ensures.items (λ (i : ℕ). bit_number (get_or bits i false)) (λ i y q k. search rules) (map bit_number bits) 0 (omega (arith, length-map bits bit_number)) (λ i. sym (get_or-map bit_number bits i false))
