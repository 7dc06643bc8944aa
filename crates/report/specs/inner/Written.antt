-- What the parts of `report` promise each other: lines put at the end of a text. Assumes nothing.
use Rattle.std.specs.Prelude.{ℕ, ◌≡◌, List, ◌++◌}
use Rattle.rules.specs.Forms.{Form}
use Rattle.report.specs.Report.{LinesOf, Lines}

-- The lines of a form, after the text so far.
pub record WrittenOf (letter : ℕ) (F : ℕ → Form) (bytes : List ℕ) (w : ℕ) (before after : List ℕ) : Type 0 where
  pub lines : List ℕ
  pub says : LinesOf letter F bytes w lines
  pub puts : after ≡ before ++ lines

-- The lines of an input.
pub record WrittenAll (input before after : List ℕ) : Type 0 where
  pub lines : List ℕ
  pub says : Lines input lines
  pub puts : after ≡ before ++ lines
