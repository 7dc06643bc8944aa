-- 01, "The numbers of each width" and "The numbers the card says no with": what a recoder and a reader of a form promise. Assumes nothing.
use Rattle.std.specs.Prelude.{ℕ, ◌≡◌, ◌≢◌, List, length, replicate, ℤ, pos}
use Rattle.rules.specs.declared.Refusal.TheVariants.{WrongWidth, TooWide}
use Rattle.rules.specs.Integer.{integer}
use Rattle.rules.specs.Digits.{weighted}
use Rattle.rules.specs.Forms.{Form}
use Rattle.rules.specs.Keeps.{Keeps}
use Rattle.rules.specs.Verdicts.{Verdict, Done, unless, ◌or_else◌}
use Rattle.rules.specs.Test.{verdict}

-- The verdict that a recoder's call gets: 3 for the width, then 4 for the last byte.
unfoldable pub due : Form → List ℕ → Verdict
due F bytes =
    unless F.allowed WrongWidth
    or_else unless (F.room bytes) TooWide

-- A string for the integer x: it has the form's length, keeps the rules and sums to x.
pub record Recoded (F : Form) (x : ℕ) (digits : List ℤ) : Type 0 where
  pub long : length digits ≡ F.long
  pub keeps : Keeps F digits
  pub sums : weighted F.base digits ≡ pos x

-- A recoder's reply: the verdict that is due; done, a string for the integer of the bytes with its count and additions; refused, zeros and 0.
pub record Recodes (F : Form) (bytes : List ℕ) (answer : Verdict) (digits : List ℤ) (counted added : ℕ) : Type 0 where
  pub answered : answer ≡ due F bytes
  pub string : answer ≡ Done → Recoded F (integer bytes) digits
  pub counts : answer ≡ Done → (counted ≡ F.counted digits) × (added ≡ F.added digits)
  pub zeros : answer ≢ Done → (digits ≡ replicate F.long (pos 0)) × (counted ≡ 0) × (added ≡ 0)

-- A reader's reply: the test's verdict; done, bytes whose integer is the sum of the digits; refused, zeros.
pub record Reads (F : Form) (digits : List ℤ) (answer : Verdict) (bytes : List ℕ) : Type 0 where
  pub answered : answer ≡ verdict F digits
  pub sums : answer ≡ Done → weighted F.base digits ≡ pos (integer bytes)
  pub zeros : answer ≢ Done → bytes ≡ replicate F.bytes 0
