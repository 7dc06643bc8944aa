-- Words of eight bytes: replies are determined, both round trips, and a word's value written out. Assumes nothing.
use mathlib.Core.Path.{◌≡◌, sym, ap, ◌∙◌}
use mathlib.Core.Logic.{◌≢◌}
use mathlib.Core.List.{List}
use Prim.Native.Nat.{ℕ, ◌+◌, ◌*◌, ◌/◌, ◌%◌, ◌^◌, ◌<◌, ◌≤◌}
use native.Mathlib.Nat.{add-zero}
use native.Mathlib.Decide.{ℕ_discrete}
use native.Mathlib.Omega.{arith}
use lib.ListN.{length, get_or, take, drop, length-drop}
use lib.Seq.{ext_get_or, get_or-take, get_or-drop, length-take-le}
use Rattle.rules.specs.declared.Refusal.TheVariants.{WrongLength}
use Rattle.rules.specs.Verdicts.{Verdict, Done}
use Rattle.std.specs.Prelude.{Err}
use Rattle.numbers.specs.Total.{totalℕ}
use Rattle.numbers.proofs.Positional.{Below, digit-of}
use Rattle.numbers.proofs.Digits.{below-part, part-sum, of-digits}
use Rattle.words.specs.Words.{word_at, byte_at, eight_bytes, WordsRead, WordsWritten}

-- what both promises are: where two lengths agree, entry k becomes f k; otherwise nothing is written
record Filled (m n : ℕ) (f : ℕ → ℕ) (before after : List ℕ) (answer : Verdict) : Type 0 where
  long : length after ≡ length before
  done : m ≡ n → answer ≡ Done
  each : m ≡ n → (k : ℕ) → k < length before → get_or after k 0 ≡ f k
  refused : m ≢ n → (answer ≡ Err WrongLength) × (after ≡ before)

module _ {m n : ℕ} {f : ℕ → ℕ} {before after after' : List ℕ} {answer answer' : Verdict} (p : Filled m n f before after answer) (q : Filled m n f before after' answer') where
  one-reply : (answer ≡ answer') × (after ≡ after')
  one-reply = by (ℕ_discrete m n)
    where
      by : Dec (m ≡ n) → (answer ≡ answer') × (after ≡ after')
      by (yes e) = (
        p.done e ∙ sym (q.done e),
        ext_get_or 0 after after' (p.long ∙ sym q.long) (λ k h. let h' : k < length before = omega (arith, p.long) in p.each e k h' ∙ sym (q.each e k h')),
      )
      by (no d) = ((p.refused d).0 ∙ sym (q.refused d).0, (p.refused d).1 ∙ sym (q.refused d).1)

-- two replies that both keep the reader's promise are equal
pub read-determined : (src before after after' : List ℕ) (answer answer' : Verdict) → WordsRead src before after answer → WordsRead src before after' answer' → (answer ≡ answer') × (after ≡ after')
read-determined src before after after' answer answer' p q = one-reply (filled p) (filled q)
  where
    filled : {l : List ℕ} {a : Verdict} → WordsRead src before l a → Filled (length src) (8 * length before) (word_at src) before l a
    filled r = record { long = r.long; done = r.done; each = r.words; refused = r.refused }

-- two replies that both keep the writer's promise are equal
pub write-determined : (src before after after' : List ℕ) (answer answer' : Verdict) → WordsWritten src before after answer → WordsWritten src before after' answer' → (answer ≡ answer') × (after ≡ after')
write-determined src before after after' answer answer' p q = one-reply (filled p) (filled q)
  where
    filled : {l : List ℕ} {a : Verdict} → WordsWritten src before l a → Filled (length before) (8 * length src) (byte_at src) before l a
    filled r = record { long = r.long; done = r.done; each = r.bytes; refused = r.refused }

-- a byte of the words that were read is the byte of the source
byte-of-word : (src : List ℕ) (i : ℕ) → Below 256 src → word_at src (i / 8) / 256 ^ (i % 8) % 256 ≡ get_or src i 0
byte-of-word src i f =
    let at = 8 * (i / 8) in
    let e : at + i % 8 ≡ i = omega arith in
    digit-of 256 (take 8 (drop at src)) (i % 8) (below-part 256 8 at src f)
    ∙ get_or-take 8 (drop at src) (i % 8) 0 (omega arith)
    ∙ get_or-drop at src (i % 8) 0
    ∙ ap (λ (n : ℕ). get_or src n 0) e

-- bytes, read as words and written as bytes, come back
pub round-trip-words : (src w0 w b0 b : List ℕ) (answer answer' : Verdict) → Below 256 src → length src ≡ 8 * length w0 → length b0 ≡ length src → WordsRead src w0 w answer → WordsWritten w b0 b answer' → b ≡ src
round-trip-words src w0 w b0 b answer answer' f l m p q =
    ext_get_or 0 b src (q.long ∙ m)
    (λ i h. q.bytes (omega (arith, p.long)) i (omega (arith, q.long)) ∙ rw (p.words l (i / 8) (omega (arith, q.long))) (byte-of-word src i f))

-- a word whose eight bytes stand in the list is that word
word-of-bytes : (bytes : List ℕ) (k x : ℕ) → 8 * k + 8 ≤ length bytes → x < 256 ^ 8 → ((j : ℕ) → j < 8 → get_or bytes (8 * k + j) 0 ≡ x / 256 ^ j % 256) → word_at bytes k ≡ x
word-of-bytes bytes k x h s f =
    let part = drop (8 * k) bytes in
    let l : length (take 8 part) ≡ 8 = length-take-le 8 part (rw length-drop (omega arith)) in
    of-digits 256 (take 8 part) x (omega arith) (rw l s) (λ j m. let m' : j < 8 = omega arith in rw (get_or-take 8 part j 0 m', get_or-drop) (f j m'))

-- words, written as bytes and read as words, come back
pub round-trip-bytes : (w b0 b w0 w' : List ℕ) (answer answer' : Verdict) → Below (256 ^ 8) w → length b0 ≡ 8 * length w → length w0 ≡ length w → WordsWritten w b0 b answer → WordsRead b w0 w' answer' → w' ≡ w
round-trip-bytes w b0 b w0 w' answer answer' f l m p q =
    ext_get_or 0 w' w (q.long ∙ m)
    (λ k h. let h' : k < length w0 = omega (arith, q.long) in
    q.words (omega (arith, p.long)) k h'
    ∙ word-of-bytes b k (get_or w k 0) (omega (arith, p.long)) (f k)
    (λ j j<. let d : (8 * k + j) / 8 ≡ k = omega arith in
    let r : (8 * k + j) % 8 ≡ j = omega arith in
    p.bytes l (8 * k + j) (omega arith) ∙ rw (d, r)))

pub word_value : (src : List ℕ) (k : ℕ) → 8 * k + 8 ≤ length src → word_at src k ≡ eight_bytes src (8 * k)
unfolding totalℕ
word_value src k h = let e = part-sum 256 8 (8 * k) src h in omega (arith, simp add-zero at e)

-- each word that was read is the value of its eight bytes
pub implies-word-value : (src before after : List ℕ) (answer : Verdict) → WordsRead src before after answer → length src ≡ 8 * length before → (k : ℕ) → k < length before → get_or after k 0 ≡ eight_bytes src (8 * k)
implies-word-value src before after answer p e k h = p.words e k h ∙ word_value src k (omega arith)
