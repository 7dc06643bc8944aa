-- Condition 3: "exactly one passing string", and what it takes of a form. Assumes nothing.
use Rattle.std.specs.Prelude.{ℕ, ◌^◌, ◌<◌, ◌≤◌, ◌≡◌, ◌↔◌, List, T, length, ℤ, pos}
use Rattle.rules.specs.Verdicts.{Verdict, Done}
use Rattle.rules.specs.Integer.{integer, Bytes}
use Rattle.rules.specs.Digits.{weighted}
use Rattle.rules.specs.Forms.{Form}
use Rattle.rules.specs.Keeps.{Passes, Takes}
use Rattle.rules.specs.Promises.{Recoded, Recodes}

-- A string that passes and whose sum is x, and every other such string equals it.
pub record ExactlyOne (F : Form) (x : ℕ) : Type 0 where
  pub string : List ℤ
  pub passes : Passes F string
  pub sums : weighted F.base string ≡ pos x
  pub only : (es : List ℤ) → Passes F es → weighted F.base es ≡ pos x → es ≡ string

-- .. the recoder's: x is the integer of some bytes, and what a recoder's promise allows for them is done, passes and sums to x, and every other such string equals it.
pub record Recodable (F : Form) (x : ℕ) : Type 0 where
  pub bytes : List ℕ
  pub are : Bytes F.bytes bytes
  pub spell : integer bytes ≡ x
  pub string : (answer : Verdict) (ds : List ℤ) (j m : ℕ) → Recodes F bytes answer ds j m → (answer ≡ Done) × Passes F ds × (weighted F.base ds ≡ pos x)
  pub only : (answer : Verdict) (ds : List ℤ) (j m : ℕ) → Recodes F bytes answer ds j m → (es : List ℤ) → Passes F es → weighted F.base es ≡ pos x → es ≡ ds

-- An integer has at most one string.
abbrev pub SumFixes : Form → Type 0
SumFixes F = (x : ℕ) (ds es : List ℤ) → Recoded F x ds → Recoded F x es → ds ≡ es

-- An integer that the form takes has a string.
abbrev pub Reaches : Form → Type 0
Reaches F = (x : ℕ) → Takes F x → (ds : List ℤ) × Recoded F x ds

-- What every form has at its own widths, and all that the laws over a form ask of it.
pub record Lawful (F : Form) : Type 0 where
  pub fixes : SumFixes F
  pub reaches : Reaches F
  pub roomy : (bytes : List ℕ) → Bytes F.bytes bytes → T (F.room bytes) ↔ (integer bytes < F.end)  -- 4 is given exactly outside the range
  pub held : F.end ≤ 256 ^ F.bytes  -- the bytes hold every integer of the range
  pub tallies : (ds : List ℤ) → length ds ≡ F.long → (F.counted ds ≤ F.long) × (F.added ds ≤ F.long)  -- no string counts more than its entries
