-- The forms of document 01 by name: what 01 says of each, and what the library does. Assumes nothing.
use Rattle.std.specs.Prelude.{ℕ}
use Rattle.rules.specs.Forms.{Form, card_n, card_r}
use Rattle.acceptance.specs.Conditions.{Form01, n01, r01}

-- The two forms.
pub data Named : Type 0 where
  N R : Named

-- What 01 says of a form at a width.
abbrev pub form01 : Named → ℕ → Form01
form01 N = n01
form01 R = r01

-- What the library says of it.
abbrev pub card : Named → ℕ → Form
card N = card_n
card R = card_r
