-- 01, "Bytes, bits, words": words of eight bytes. Assumes nothing.
use Rattle.std.specs.Prelude.{ℕ, ◌+◌, ◌*◌, ◌/◌, ◌%◌, ◌^◌, ◌<◌, ◌≡◌, ◌≢◌, List, length, get_or, take, drop, Err}
use Rattle.rules.specs.Integer.{integer}
use Rattle.rules.specs.declared.Refusal.TheVariants.{WrongLength}
use Rattle.rules.specs.Verdicts.{Verdict, Done}

-- Word k: the little-endian value of its eight bytes.
abbrev pub word_at : List ℕ → ℕ → ℕ
word_at bytes k = integer (take 8 (drop (8 * k) bytes))

-- The same written out: the eight bytes from place `at` up, the lowest first.
abbrev pub eight_bytes : List ℕ → ℕ → ℕ
eight_bytes bytes at =
    get_or bytes at 0
    + get_or bytes (at + 1) 0 * 2 ^ 8
    + get_or bytes (at + 2) 0 * 2 ^ 16
    + get_or bytes (at + 3) 0 * 2 ^ 24
    + get_or bytes (at + 4) 0 * 2 ^ 32
    + get_or bytes (at + 5) 0 * 2 ^ 40
    + get_or bytes (at + 6) 0 * 2 ^ 48
    + get_or bytes (at + 7) 0 * 2 ^ 56

-- Byte i of some words: byte i % 8 of word i / 8.
abbrev pub byte_at : List ℕ → ℕ → ℕ
byte_at words i = get_or words (i / 8) 0 / 256 ^ (i % 8) % 256

-- `read_le_u64_into`: the source has 8 bytes for each word, and word k is read; otherwise 1, and nothing is written.
pub record WordsRead (source before after : List ℕ) (answer : Verdict) : Type 0 where
  pub long : length after ≡ length before
  pub done : length source ≡ 8 * length before → answer ≡ Done
  pub words : length source ≡ 8 * length before → (k : ℕ) → k < length before → get_or after k 0 ≡ word_at source k
  pub refused : length source ≢ 8 * length before → (answer ≡ Err WrongLength) × (after ≡ before)

-- The converse: 8 bytes lent for each word, and each byte is written; otherwise 1, and nothing is written.
pub record WordsWritten (source before after : List ℕ) (answer : Verdict) : Type 0 where
  pub long : length after ≡ length before
  pub done : length before ≡ 8 * length source → answer ≡ Done
  pub bytes : length before ≡ 8 * length source → (i : ℕ) → i < length before → get_or after i 0 ≡ byte_at source i
  pub refused : length before ≢ 8 * length source → (answer ≡ Err WrongLength) × (after ≡ before)
