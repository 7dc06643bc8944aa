-- The digits' rules as a loop tries them, by one walk with a counter: how the test's inner functions go, which the test's promise does not name. Assumes nothing.
use Rattle.std.specs.Prelude.{ℕ, suc, ◌-◌, cond, ◌||◌, List, [], ◌∷◌, eqb, ℤ}
use Rattle.rules.specs.declared.Refusal.TheVariants.{BrokenDigit, Crowded}
use Rattle.rules.specs.Digits.{is_zero}
use Rattle.rules.specs.Forms.{Form}
use Rattle.rules.specs.Verdicts.{Verdict, Done, unless, ◌or_else◌}

-- What is wrong with digit d at index i, where `held` digits from here on lie within the gap after the last non-zero one.
unfoldable pub fault : Form → ℕ → ℕ → ℤ → Verdict
fault F i held d = unless (F.own i d) (BrokenDigit i) or_else unless (is_zero d || eqb held 0) (Crowded i)

-- How many digits after d still lie within the gap.
abbrev pub held_next : ℕ → ℕ → ℤ → ℕ
held_next gap held d = cond (is_zero d) (held - 1) gap

-- What is wrong first from index i up.
unfoldable pub scan : Form → ℕ → ℕ → List ℤ → Verdict
scan F i held [] = Done
scan F i held (d ∷ ds) = fault F i held d or_else scan F (suc i) (held_next F.gap held d) ds
