-- The calls on bits and on words: the library's answer handed over, and one answer to each call. Assumes nothing.
use mathlib.Core.Path.{◌≡◌, sym, ◌∙◌}
use mathlib.Core.List.{List, map}
use Prim.Native.Nat.{ℕ, ◌*◌}
use native.Mathlib.Omega.{arith}
use lib.ListN.{length}
use lib.Seq.{ext_get_or}
use Rattle.rules.specs.Verdicts.{Verdict, Done}
use Rattle.bits.proofs.BitLaws.{from-bits-le-determined}
use Rattle.words.specs.Words.{WordsRead, WordsWritten}
use Rattle.words.proofs.WordLaws.{read-determined, write-determined}
use Rattle.calls.specs.Code.{code}
use Rattle.calls.proofs.Answers.{answers-sized, answers-determined}
use Rattle.calls_bits_words.specs.Bits.{CardBits, CardFromBitBytes, is_set}
use Rattle.calls_bits_words.specs.Words.{CardReadWords, CardWriteWords}

-- ---- bits

-- ---- words

pub read-words-given : {src before after : List ℕ} {v : Verdict} {result : ℕ} → result ≡ code v → WordsRead src before after v → CardReadWords src before after result
read-words-given {src} {before} e p = answers-sized (length src) (8 * length before) e (λ l. (p.done l, rw (p.done l) at p)) p.refused

pub write-words-given : {src before after : List ℕ} {v : Verdict} {result : ℕ} → result ≡ code v → WordsWritten src before after v → CardWriteWords src before after result
write-words-given {src} {before} e p = answers-sized (length before) (8 * length src) e (λ l. (p.done l, rw (p.done l) at p)) p.refused

-- ---- one answer to each call

module _ {before after after' : List ℕ} {r r' : ℕ} where
  pub card-bits-determined : (bytes : List ℕ) → CardBits bytes before after r → CardBits bytes before after' r' → (r ≡ r') × (after ≡ after')
  card-bits-determined bytes =
      answers-determined (λ x y p q. ext_get_or 0 x y (p.long ∙ sym q.long) (λ i h. p.each i (omega (arith, p.long)) ∙ sym (q.each i (omega (arith, p.long)))))

  pub card-from-bit-bytes-determined : (bits : List ℕ) → CardFromBitBytes bits before after r → CardFromBitBytes bits before after' r' → (r ≡ r') × (after ≡ after')
  card-from-bit-bytes-determined bits = answers-determined (λ x y p q. from-bits-le-determined x y (map is_set bits) p.0 q.0 p.1 q.1)

  pub card-read-words-determined : (src : List ℕ) → CardReadWords src before after r → CardReadWords src before after' r' → (r ≡ r') × (after ≡ after')
  card-read-words-determined src = answers-determined (λ x y p q. (read-determined src before x y Done Done p q).1)

  pub card-write-words-determined : (src : List ℕ) → CardWriteWords src before after r → CardWriteWords src before after' r' → (r ≡ r') × (after ≡ after')
  card-write-words-determined src = answers-determined (λ x y p q. (write-determined src before x y Done Done p q).1)
