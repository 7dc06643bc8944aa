-- 01, "The program": the whole report of an input. Assumes nothing.
use Rattle.std.specs.Prelude.{ℕ, ◌-◌, ◌≡◌, ◌≢◌, List, ◌++◌, length, get_or, drop, replicate, ℤ, Err}
use Prim.Native.Char.{code}
use Rattle.rules.specs.declared.Refusal.TheVariants.{WrongLength, WrongForm}
use Rattle.rules.specs.Forms.{Form, card_n, card_r}
use Rattle.rules.specs.Promises.{due, Recodes}
use Rattle.report.specs.Text.{fixed_line, refused_line, answer_lines}

-- The input's first byte: the form letter.
abbrev pub letter_of : List ℕ → ℕ
letter_of input = get_or input 0 0

-- Its second byte: the width.
abbrev pub width_of : List ℕ → ℕ
width_of input = get_or input 1 0

-- The bytes after those: the scalar.
abbrev pub scalar_of : List ℕ → List ℕ
scalar_of input = drop 2 input

-- The letter of form N.
abbrev pub letter_n : ℕ
letter_n = code "N"

-- The letter of form R.
abbrev pub letter_r : ℕ
letter_r = code "R"

-- The lines of a form's recoding, whatever the recoder's promise allows.
pub record LinesOf (letter : ℕ) (F : ℕ → Form) (bytes : List ℕ) (w : ℕ) (lines : List ℕ) : Type 0 where
  pub digits : List ℤ
  pub counted : ℕ
  pub added : ℕ
  pub recodes : Recodes (F w) bytes (due (F w) bytes) digits counted added
  pub are : lines ≡ answer_lines letter w (due (F w) bytes) counted digits

-- The lines after the fixed one, tried in the order 1, 2, and then the form's 3 and 4.
pub record Lines (input lines : List ℕ) : Type 0 where
  pub wrong-length : length input ≢ 34 → lines ≡ refused_line (Err WrongLength)
  pub wrong-form : length input ≡ 34 → letter_of input ≢ letter_n → letter_of input ≢ letter_r → lines ≡ refused_line (Err WrongForm)
  pub form-n : length input ≡ 34 → letter_of input ≡ letter_n → LinesOf letter_n card_n (scalar_of input) (width_of input) lines
  pub form-r : length input ≡ 34 → letter_of input ≡ letter_r → LinesOf letter_r card_r (scalar_of input) (width_of input) lines

-- The report: the fixed line and the lines after it, in an array whose bytes past the text are 0.
pub record Reports (input bytes : List ℕ) (len : ℕ) : Type 0 where
  pub lines : List ℕ
  pub says : Lines input lines
  pub text : bytes ≡ (fixed_line ++ lines) ++ replicate (2560 - len) 0
  pub long : len ≡ length (fixed_line ++ lines)
