-- `by_words`: the bytes are those that were read. Assumes nothing.
use mathlib.Core.Path.{◌≡◌, sym}
use Prim.Native.Nat.{ℕ}
use borrow.Author.Rules.{rules}
use lib.ListN.{length, get_or}
use mir.Syntax.{w8}
use mir.Val.{Fits}
use Rattle.words.proofs.WordLaws.{round-trip-words}
use Rattle.acceptance.proofs.bytes.by_words.Goals as goal

pub returns : goal.returns
returns c =
    let each : (i : ℕ) → Fits w8 (get_or c.args.s.bytes i 0) = λ i. search rules in
    let n : length c.args.s.bytes ≡ 32 = search rules in
    round-trip-words _ _ _ _ _ _ _ (λ i. (each i).fits) n (sym n) c.read_le_u64_into.ensures c.write_le_u64_into.ensures
