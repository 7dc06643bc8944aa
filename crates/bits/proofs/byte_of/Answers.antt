-- `bits::byte_of` meets its contract: the fold's number is that of the bits passed, and with fewer than eight passed one more fits. Assumes nothing.
use mathlib.Core.Path.{◌≡◌, refl, ◌∙◌}
use mathlib.Core.Bool.{Bool}
use mathlib.Core.List.{List}
use Prim.Native.Nat.{ℕ, ◌+◌, ◌*◌, ◌^◌, ◌<◌}
use native.Mathlib.Nat.{lt_of_lt_of_le}
use native.Mathlib.Omega.{arith}
use borrow.Author.Rules.{rules}
use lib.Dec.{lit<}
use lib.ListN.{length, length-append}
use lib.Pow.{pow_mono}
use Rattle.std.specs.declared.option.Option.TheVariants.{Some}
use Rattle.std.proofs.lemmas.Fn.{serves_by}
use Rattle.std.proofs.lemmas.List.{length-reverse}
use Rattle.std.proofs.lemmas.Iterator.Consumers.{YieldsList-turn, fold_from_yields_List}
use Rattle.std.proofs.lemmas.Iterator.Adapters.{YieldsList-from_rev_slice}
use Rattle.bits.specs.BitNumber.{bit_number}
use Rattle.bits.proofs.BitLaws.{bit-more, from-top}
use Rattle.bits.proofs.byte_of.Goals as goal

pub fold-requires-clause-callable : goal.fold-requires-clause-callable
fold-requires-clause-callable c =
    let road = YieldsList-from_rev_slice {s = c.rev.result} c.args.bits.now (cc) in
    serves_by _ (λ (xs : List _) (q : _ × ℕ). q.1 < 2 ^ length xs)
    (λ xs q x v j k.
    let e : v.1 ≡ 2 * q.1 + bit_number x.now = search rules in
    rw (e, length-append) (bit-more (length xs) q.1 x.now j))
    _ _ _ _ (lit< tt)
    (λ xs t q x u y st j.
    let turn = YieldsList-turn road xs t y (Some x) u x refl st in
    let small : q.1 < 128 = lt_of_lt_of_le j (pow_mono {j = 7} (omega (arith, turn.0, length-reverse c.args.bits.now))) in
    search rules)

pub returns : goal.returns
returns c =
    let road = YieldsList-from_rev_slice {s = c.rev.result} c.args.bits.now (cc) in
    fold_from_yields_List _ (λ (a : ℕ) (b : Bool). 2 * a + bit_number b) 0 _ c.fold.ensures.ran road (λ a x b q k. search rules) ∙ from-top c.args.bits.now
