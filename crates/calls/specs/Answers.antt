-- What a call with lent buffers leaves behind it. Assumes nothing.
use Rattle.std.specs.Prelude.{ℕ, ◌≡◌, ◌≢◌, Bool, List, eqb, length}
use Rattle.rules.specs.Verdicts.{Verdict, Done}
use Rattle.calls.specs.Code.{code}

-- The list has n elements.
abbrev pub sized : {A : Type 0} → ℕ → List A → Bool
sized n xs = eqb (length xs) n

-- The result is the code of the verdict that is due. Done, the lent buffers hold what was asked for; refused, they are as before.
pub record Answers {B : Type 0} (due : Verdict) (Asked : B → Type 0) (before after : B) (result : ℕ) : Type 0 where
  pub coded : result ≡ code due
  pub done : due ≡ Done → Asked after
  pub refused : due ≢ Done → after ≡ before
