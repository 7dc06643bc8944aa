-- `write_words`: the library has tried the lengths. Assumes nothing.
use mathlib.Core.Path.{refl}
use Rattle.calls_bits_words.proofs.BitWordCalls.{write-words-given}
use Rattle.calls_bits_words.proofs.as_words.write_words.Goals as goal

pub returns : goal.returns
returns c = write-words-given refl c.write_le_u64_into.ensures
