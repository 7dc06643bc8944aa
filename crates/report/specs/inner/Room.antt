-- What the lines of a report ask of the text that they are put behind. Assumes nothing.
use Rattle.std.specs.Prelude.{ℕ, ◌+◌, ◌≤◌, List, length}
use Rattle.report.specs.declared.TheConstants.{SIZE}

-- Behind a text there is room for k bytes.
abbrev pub HasRoom : ℕ → List ℕ → Type 0
HasRoom k text = length text + k ≤ SIZE
