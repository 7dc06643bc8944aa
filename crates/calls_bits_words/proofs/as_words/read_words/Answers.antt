-- `read_words`: the library has tried the lengths. Assumes nothing.
use mathlib.Core.Path.{refl}
use Rattle.calls_bits_words.proofs.BitWordCalls.{read-words-given}
use Rattle.calls_bits_words.proofs.as_words.read_words.Goals as goal

pub returns : goal.returns
returns c = read-words-given refl c.read_le_u64_into.ensures
