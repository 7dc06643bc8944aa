-- The calls on words of eight bytes. Assumes nothing.
use Rattle.std.specs.Prelude.{ℕ, ◌*◌, List, length}
use Rattle.rules.specs.declared.Refusal.TheVariants.{WrongLength}
use Rattle.rules.specs.Verdicts.{Done, unless}
use Rattle.words.specs.Words.{WordsRead, WordsWritten}
use Rattle.calls.specs.Answers.{sized, Answers}

-- `card_read_words`: each word is read; there are 8 bytes for each word lent.
abbrev pub CardReadWords : List ℕ → List ℕ → List ℕ → ℕ → Type 0
CardReadWords src before after result =
    Answers (unless (sized (8 * length before) src) WrongLength) (λ dst. WordsRead src before dst Done) before after result

-- `card_write_words`: each byte is written; 8 bytes are lent for each word.
abbrev pub CardWriteWords : List ℕ → List ℕ → List ℕ → ℕ → Type 0
CardWriteWords src before after result =
    Answers (unless (sized (8 * length src) before) WrongLength) (λ dst. WordsWritten src before dst Done) before after result
