-- Texts as the bytes that are written. Assumes nothing.
use Rattle.std.specs.Prelude.{ℕ, List, [], ◌∷◌}
use Prim.Native.Char.{code}
use Prim.Native.String as S

-- The codes of a text's characters.
unfoldable pub ascii : S.String → List ℕ
ascii S.[] = []
ascii (S.◌∷◌ c s) = code c ∷ ascii s
