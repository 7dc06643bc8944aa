-- When the test refuses, as 01's table says it and without the test: "given exactly if". Assumes nothing.
use Rattle.std.specs.Prelude.{ℕ, ◌+◌, ◌<◌, ◌≤◌, ◌≡◌, ◌≢◌, not, List, T, length, take, ℤ, pos, ◌≤ℤ◌, ◌<ℤ◌, Ok, Err}
use Rattle.rules.specs.Digits.{digit_at, weighted}
use Rattle.rules.specs.Forms.{Form}
use Rattle.rules.specs.Keeps.{Keeps, Passes}
use Rattle.rules.specs.declared.Refusal.TheVariants.{WrongLength, WrongForm, WrongWidth, TooWide, BrokenDigit, Crowded, Negative, PastEnd, WrongChoice}
use Rattle.rules.specs.Verdicts.{Verdict}

-- The length and the width are right: what is tried before the digits.
pub record Offered (F : Form) (ds : List ℤ) : Type 0 where
  pub long : length ds ≡ F.long
  pub allowed : T F.allowed

-- 5 at index k: the digit there breaks its own rule, and the digits below it keep the rules.
pub record BreaksAt (F : Form) (ds : List ℤ) (k : ℕ) : Type 0 where
  pub inside : k < length ds
  pub below : Keeps F (take k ds)
  pub broken : T (not (F.own k (digit_at ds k)))

-- 6 at index k: the digit there keeps its own rule, is not zero and follows a non-zero digit within `gap` places, and the digits below it keep the rules.
pub record CrowdsAt (F : Form) (ds : List ℤ) (k : ℕ) : Type 0 where
  pub inside : k < length ds
  pub below : Keeps F (take k ds)
  pub kept : T (F.own k (digit_at ds k))
  pub nonzero : digit_at ds k ≢ pos 0
  pub follows : (j : ℕ) × (j < k) × (k ≤ j + F.gap) × (digit_at ds j ≢ pos 0)

-- 7: the rules are kept and the sum is negative.
pub record FallsBelow (F : Form) (ds : List ℤ) : Type 0 where
  pub keeps : Keeps F ds
  pub negative : weighted F.base ds <ℤ pos 0

-- 8: the rules are kept and the sum is at or past the range's end.
pub record EndsPast (F : Form) (ds : List ℤ) : Type 0 where
  pub keeps : Keeps F ds
  pub past : pos F.end ≤ℤ weighted F.base ds

-- The table for the test, line by line. The lines 2, 4 and 9 are not the test's: it never gives them.
abbrev pub GivenIf : Form → List ℤ → Verdict → Type 0
GivenIf F ds (Ok done) = Passes F ds
GivenIf F ds (Err WrongLength) = length ds ≢ F.long
GivenIf F ds (Err WrongForm) = ⊥
GivenIf F ds (Err WrongWidth) = (length ds ≡ F.long) × T (not F.allowed)
GivenIf F ds (Err TooWide) = ⊥
GivenIf F ds (Err (BrokenDigit k)) = Offered F ds × BreaksAt F ds k
GivenIf F ds (Err (Crowded k)) = Offered F ds × CrowdsAt F ds k
GivenIf F ds (Err Negative) = Offered F ds × FallsBelow F ds
GivenIf F ds (Err PastEnd) = Offered F ds × EndsPast F ds
GivenIf F ds (Err WrongChoice) = ⊥

-- The table for a recoder's call, line by line: every other line is not a recoder's.
abbrev pub DueIf : Form → List ℕ → Verdict → Type 0
DueIf F bytes (Ok done) = T F.allowed × T (F.room bytes)
DueIf F bytes (Err WrongLength) = ⊥
DueIf F bytes (Err WrongForm) = ⊥
DueIf F bytes (Err WrongWidth) = T (not F.allowed)
DueIf F bytes (Err TooWide) = T F.allowed × T (not (F.room bytes))
DueIf F bytes (Err (BrokenDigit k)) = ⊥
DueIf F bytes (Err (Crowded k)) = ⊥
DueIf F bytes (Err Negative) = ⊥
DueIf F bytes (Err PastEnd) = ⊥
DueIf F bytes (Err WrongChoice) = ⊥

-- The same by the integer of the bytes: 4 if the width is the form's and the integer is at or past the range's end.
abbrev pub DueAt : Form → ℕ → Verdict → Type 0
DueAt F x (Ok done) = T F.allowed × (x < F.end)
DueAt F x (Err WrongLength) = ⊥
DueAt F x (Err WrongForm) = ⊥
DueAt F x (Err WrongWidth) = T (not F.allowed)
DueAt F x (Err TooWide) = T F.allowed × (F.end ≤ x)
DueAt F x (Err (BrokenDigit k)) = ⊥
DueAt F x (Err (Crowded k)) = ⊥
DueAt F x (Err Negative) = ⊥
DueAt F x (Err PastEnd) = ⊥
DueAt F x (Err WrongChoice) = ⊥
