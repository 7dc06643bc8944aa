-- 01, "Figures on both sides of the edges": the fourteen marked P, as one table. Assumes nothing.
use Rattle.std.specs.Prelude.{ℕ, ◌-◌, ◌^◌, List, [], ◌∷◌, Bool, true, false, cond, ◌&&◌, eqb, replicate, set, ℤ, pos, negsuc, neg_ℤ, Err}
use Rattle.rules.specs.declared.Refusal.TheVariants.{Negative, PastEnd}
use Rattle.rules.specs.Digits.{weighted}
use Rattle.rules.specs.Forms.{Form, card_n, card_r}
use Rattle.rules.specs.Verdicts.{Verdict, Done, number, position}
use Rattle.rules.specs.Test.{verdict}

-- The form that a figure is about.
pub data Letter : Type 0 where
  N R : Letter

-- A digit that 01 names, and its index.
pub record Named : Type 0 where
  pub index : ℕ
  pub digit : ℤ

-- A row of the table: at this form and width the digits named, all others being 0, have this sum, and get this verdict with this count.
pub record Figure : Type 0 where
  pub letter : Letter
  pub width : ℕ
  pub named : List Named
  pub sum : ℤ
  pub answer : Verdict
  pub counted : ℕ

-- A string of n digits, all 0 but those named.
unfoldable pub placed : ℕ → List Named → List ℤ
placed n [] = replicate n (pos 0)
placed n (e ∷ es) = set (placed n es) e.index e.digit

-- Two integers are equal.
same_sum : ℤ → ℤ → Bool
same_sum (pos a) (pos b) = eqb a b
same_sum (pos a) (negsuc b) = false
same_sum (negsuc a) (pos b) = false
same_sum (negsuc a) (negsuc b) = eqb a b

-- Two verdicts have one number and one position.
same_verdict : Verdict → Verdict → Bool
same_verdict u v = eqb (number u) (number v) && eqb (position u) (position v)

-- The count that goes with a verdict: 0 for a refusal.
count_with : Verdict → ℕ → ℕ
count_with v k = cond (eqb (number v) 0) k 0

-- The string with this sum gets this verdict, and this count.
holds_of : Form → List ℤ → ℤ → Verdict → ℕ → Bool
holds_of F ds z v c = same_sum (weighted F.base ds) z && same_verdict (verdict F ds) v && eqb (count_with v (F.counted ds)) c

-- The form of a letter.
form_of : Letter → ℕ → Form
form_of N w = card_n w
form_of R w = card_r w

-- A row is right.
unfoldable pub holds : Figure → Bool
unfolding same_sum same_verdict count_with holds_of form_of
holds f = let F = form_of f.letter f.width in holds_of F (placed F.long f.named) f.sum f.answer f.counted

-- Every row is right.
unfoldable pub all_hold : List Figure → Bool
all_hold [] = true
all_hold (f ∷ fs) = holds f && all_hold fs

-- A row, written on one line.
figure : Letter → ℕ → List Named → ℤ → Verdict → ℕ → Figure
figure l w es z v c = record { letter = l; width = w; named = es; sum = z; answer = v; counted = c }

-- A digit and its index.
infix 70 ◌at◌
◌at◌ : ℤ → ℕ → Named
d at i = record { index = i; digit = d }

-- A negative digit.
minus : ℕ → ℤ
minus n = neg_ℤ (pos n)

-- In 01's order. The fourteenth figure says two things, so it has two rows.
unfoldable pub figures : List Figure
unfolding figure ◌at◌ minus
figures =
    figure N 5 [] (pos 0) Done 0
    ∷ figure N 3 (minus 1 at 0 ∷ pos 1 at 3 ∷ []) (pos 7) Done 4
    ∷ figure N 4 (pos 7 at 0 ∷ []) (pos 7) Done 1
    ∷ figure N 4 (minus 1 at 0 ∷ pos 1 at 4 ∷ []) (pos 15) Done 5
    ∷ figure N 8 (minus 1 at 0 ∷ pos 1 at 255 ∷ []) (pos (2 ^ 255 - 1)) Done 256
    ∷ figure R 4 (minus 8 at 0 ∷ pos 1 at 1 ∷ []) (pos 8) Done 64
    ∷ figure R 4 (pos 7 at 0 ∷ []) (pos 7) Done 64
    ∷ figure R 5 (minus 16 at 0 ∷ pos 1 at 1 ∷ []) (pos 16) Done 52
    ∷ figure R 8 (minus 128 at 0 ∷ pos 1 at 1 ∷ []) (pos 128) Done 33
    ∷ figure R 4 (minus 1 at 0 ∷ pos 8 at 63 ∷ []) (pos (2 ^ 255 - 1)) Done 64
    ∷ figure R 8 (minus 1 at 0 ∷ minus 128 at 31 ∷ pos 1 at 32 ∷ []) (pos (2 ^ 255 - 1)) Done 33
    ∷ figure R 5 (minus 1 at 0 ∷ pos 2 at 51 ∷ []) (pos (2 ^ 256 - 1)) Done 52
    ∷ figure N 2 (minus 1 at 0 ∷ []) (minus 1) (Err Negative) 0
    ∷ figure N 2 (pos 1 at 255 ∷ []) (pos (2 ^ 255)) (Err PastEnd) 0
    ∷ figure N 2 (minus 1 at 0 ∷ pos 1 at 255 ∷ []) (pos (2 ^ 255 - 1)) Done 256
    ∷ []
