-- `words_again`: the words are those that were written. Assumes nothing.
use mathlib.Core.Path.{◌≡◌, sym}
use Prim.Native.Nat.{ℕ}
use native.Mathlib.Omega.{arith}
use borrow.Author.Rules.{rules}
use lib.ListN.{length, get_or}
use mir.Syntax.{w64}
use mir.Val.{Fits}
use Rattle.words.proofs.WordLaws.{round-trip-bytes}
use Rattle.acceptance.proofs.bytes.words_again.Goals as goal

pub returns : goal.returns
returns c =
    let each : (i : ℕ) → Fits w64 (get_or c.args.words i 0) = λ i. search rules in
    let n : length c.args.words ≡ 4 = search rules in
    round-trip-bytes _ _ _ _ _ _ _ (λ i. (each i).fits) (omega arith) (sym n) c.write_le_u64_into.ensures c.read_le_u64_into.ensures
