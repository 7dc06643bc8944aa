-- `bits_of` meets its contract: each bit says whether its byte is not 0. Assumes nothing.
use mathlib.Core.Path.{sym}
use mathlib.Core.Bool.{false}
use mathlib.Core.List.{map}
use Prim.Native.Nat.{ℕ}
use native.Mathlib.Omega.{arith}
use borrow.Author.Rules.{rules}
use lib.ListN.{get_or, length-map, get_or-map}
use Rattle.bits.proofs.Made.{made-all}
use Rattle.calls_bits_words.specs.Bits.{is_set}
use Rattle.calls_bits_words.proofs.as_bits.bits_of.Goals as goal

pub returns : goal.returns
returns c =
    let src = c.args.src.now in
    made-all c.from_fn.ensures.items (λ (i : ℕ). is_set (get_or src i 0)) (λ i y q k. search rules) (map is_set src) false (omega (arith, length-map src is_set)) (λ i. sym (get_or-map is_set src i 0))
