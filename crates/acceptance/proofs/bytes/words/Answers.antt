-- `words`: the library's promise in 01's words. Assumes nothing.
use mathlib.Core.Path.{refl}
use borrow.Author.Rules.{rules}
use Rattle.acceptance.proofs.BitsWords.{words_are}
use Rattle.acceptance.proofs.bytes.words.Goals as goal

pub returns : goal.returns
returns c = words_are (search rules) refl c.read_le_u64_into.ensures
