-- The library's bits and words are those of 01. Assumes nothing.
use mathlib.Core.Path.{◌≡◌, sym, ◌∙◌, ap}
use mathlib.Core.List.{List}
use mathlib.Core.Bool.{Bool}
use Prim.Native.Nat.{ℕ, ◌*◌, ◌/◌, ◌%◌, ◌^◌}
use native.Mathlib.Omega.{arith}
use borrow.Author.Tests.{eqb-true, eq-eqb}
use lib.ListN.{length}
use Rattle.numbers.proofs.Digits.{part-sum}
use Rattle.rules.specs.Verdicts.{Verdict}
use Rattle.rules.specs.Integer.{integer}
use Rattle.bits.specs.Bits.{BitsOf}
use Rattle.words.specs.Words.{WordsRead}
use Rattle.acceptance.specs.Strings.{integer_of}
use Rattle.acceptance.specs.Bytes.{BitsAre, WordsAre}
use Rattle.acceptance.proofs.Sums.{integer-is}

pub bits_are : {bytes : List ℕ} {bits : List Bool} → BitsOf bytes bits → BitsAre bytes bits
bits_are {bytes} p = record {
  long = p.long;
  each = λ i h. let e = p.each i h in
      let n : integer bytes / 2 ^ i % 2 ≡ integer_of bytes / 2 ^ i % 2 = ap (λ (x : ℕ). x / 2 ^ i % 2) (integer-is bytes) in
      (λ t. sym n ∙ eqb-true _ 1 (sym e ∙ t), λ t. e ∙ eq-eqb _ 1 (n ∙ t));
}

pub words_are : {bytes before words : List ℕ} {answer : Verdict} → length bytes ≡ 32 → length before ≡ 4 → WordsRead bytes before words answer → WordsAre bytes words
words_are {bytes} {before} {words} l m p = record {
  long = p.long ∙ m;
  each = λ k h. p.words (omega arith) k (omega arith) ∙ part-sum 256 8 (8 * k) bytes (omega arith);
}
