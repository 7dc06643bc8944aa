-- 01, "The numbers the card says no with": the number and the position of each verdict. Assumes nothing.
use Rattle.std.specs.Prelude.{ℕ, Bool, cond, eqb, Result, Ok, Err}
use Rattle.rules.specs.declared.Refusal.{Refusal}
use Rattle.rules.specs.declared.Refusal.TheVariants.{WrongLength, WrongForm, WrongWidth, TooWide, BrokenDigit, Crowded, Negative, PastEnd, WrongChoice}

-- A verdict: done, or a refusal.
abbrev pub Verdict : Type 0
Verdict = Result (Unit {0}) Refusal

-- Done.
abbrev pub Done : Verdict
Done = Ok tt

-- The verdict of an answer that is a value or a refusal.
abbrev pub verdict_of : {A : Type 0} → Result A Refusal → Verdict
verdict_of (Ok x) = Done
verdict_of (Err refusal) = Err refusal

-- The first column of the table, and 0 for done.
abbrev pub number : Verdict → ℕ
number (Ok done) = 0
number (Err WrongLength) = 1
number (Err WrongForm) = 2
number (Err WrongWidth) = 3
number (Err TooWide) = 4
number (Err (BrokenDigit i)) = 5
number (Err (Crowded i)) = 6
number (Err Negative) = 7
number (Err PastEnd) = 8
number (Err WrongChoice) = 9

-- The last column: the digit's index for 5 and 6, otherwise 0.
abbrev pub position : Verdict → ℕ
position (Ok done) = 0
position (Err WrongLength) = 0
position (Err WrongForm) = 0
position (Err WrongWidth) = 0
position (Err TooWide) = 0
position (Err (BrokenDigit i)) = i
position (Err (Crowded i)) = i
position (Err Negative) = 0
position (Err PastEnd) = 0
position (Err WrongChoice) = 0

-- The refusal, unless the test holds.
abbrev pub unless : Bool → Refusal → Verdict
unless b refusal = cond b Done (Err refusal)

-- The first of two that is a refusal: what is tried first goes first.
infixr 20 ◌or_else◌
unfoldable pub ◌or_else◌ : Verdict → Verdict → Verdict
u or_else v = cond (eqb (number u) 0) v u
