-- 01, "The numbers of each width": what it is to keep the rules, with no test, scan or recoder in it. Assumes nothing.
use Rattle.std.specs.Prelude.{ℕ, ◌+◌, ◌<◌, ◌≤◌, ◌≡◌, ◌≢◌, List, T, length, ℤ, pos, ◌≤ℤ◌, ◌<ℤ◌}
use Rattle.rules.specs.Digits.{digit_at, weighted}
use Rattle.rules.specs.Forms.{Form}

-- Each digit keeps its own rule, and after a non-zero digit the next `gap` digits, as far as the string reaches, are 0.
pub record Keeps (F : Form) (ds : List ℤ) : Type 0 where
  pub digits : (i : ℕ) → i < length ds → T (F.own i (digit_at ds i))
  pub spacing : (i j : ℕ) → i < j → j ≤ i + F.gap → j < length ds → digit_at ds i ≢ pos 0 → digit_at ds j ≡ pos 0

-- Condition 3: the stated length, a width of the form, the rules, and a sum in the form's range.
pub record Passes (F : Form) (ds : List ℤ) : Type 0 where
  pub long : length ds ≡ F.long
  pub allowed : T F.allowed
  pub keeps : Keeps F ds
  pub low : pos 0 ≤ℤ weighted F.base ds
  pub high : weighted F.base ds <ℤ pos F.end

-- The integers that a form takes: those of its range.
pub record Takes (F : Form) (x : ℕ) : Type 0 where
  pub inside : x < F.end
