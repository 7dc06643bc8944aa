-- Verdicts: which is done, what is tried first, and that the number and the position tell them apart. Assumes nothing.
use mathlib.Core.Path.{◌≡◌, refl, sym, ◌∙◌, ap}
use mathlib.Core.Logic.{◌≢◌, ◌⊎◌, inl, inr}
use mathlib.Core.Bool.{Bool, true, false, not, cond}
use Prim.Native.Nat.{ℕ, zero, suc, ◌<◌}
use native.Mathlib.Omega.{arith}
use lib.Dec.{T, eqb, eqb-suc-zero, lit<}
use Rattle.rules.specs.declared.Refusal.{Refusal}
use Rattle.rules.specs.declared.Refusal.TheVariants.{WrongLength, WrongForm, WrongWidth, TooWide, BrokenDigit, Crowded, Negative, PastEnd, WrongChoice}
use Rattle.std.specs.Prelude.{Result, Ok, Err, IsErrAnd}
use Rattle.std.proofs.lemmas.Result.{err_from_is_err_and}
use Rattle.rules.specs.Verdicts.{Verdict, Done, number, position, unless, ◌or_else◌}

-- a verdict by its number and position
named : ℕ → ℕ → Verdict
named n i =
    cond (eqb n 0) Done
    (cond (eqb n 1) (Err WrongLength)
    (cond (eqb n 2) (Err WrongForm)
    (cond (eqb n 3) (Err WrongWidth)
    (cond (eqb n 4) (Err TooWide)
    (cond (eqb n 5) (Err (BrokenDigit i))
    (cond (eqb n 6) (Err (Crowded i))
    (cond (eqb n 7) (Err Negative)
    (cond (eqb n 8) (Err PastEnd)
    (Err WrongChoice)))))))))

named_back : (v : Verdict) → named (number v) (position v) ≡ v
unfolding named
named_back (Ok done) = refl
named_back (Err WrongLength) = refl
named_back (Err WrongForm) = refl
named_back (Err WrongWidth) = refl
named_back (Err TooWide) = refl
named_back (Err (BrokenDigit i)) = refl
named_back (Err (Crowded i)) = refl
named_back (Err Negative) = refl
named_back (Err PastEnd) = refl
named_back (Err WrongChoice) = refl

-- two verdicts of one number and one position are one
pub verdict-named : (u v : Verdict) → number u ≡ number v → position u ≡ position v → u ≡ v
verdict-named u v n p = sym (named_back u) ∙ rw (n, p) (named_back v)

-- only done has the number 0
pub number-zero : (v : Verdict) → number v ≡ 0 → v ≡ Done
unfolding named
number-zero v e = sym (named_back v) ∙ rw e

pub done-or : (v : Verdict) → (v ≡ Done) ⊎ (number v ≢ 0)
done-or v = go (number v) refl
  where
    go : (n : ℕ) → number v ≡ n → (v ≡ Done) ⊎ (number v ≢ 0)
    go zero e = inl (number-zero v e)
    go (suc n) e = inr (λ z. omega arith)

-- a verdict is done or a refusal
pub done-or-refused : {A : Type 0} (v : Verdict) → (v ≡ Done → A) → (v ≢ Done → A) → A
done-or-refused {A} v f g = go (done-or v)
  where
    go : (v ≡ Done) ⊎ (number v ≢ 0) → A
    go (inl e) = f e
    go (inr n) = g (λ e. n (ap number e))

-- a number fits a byte
pub number_small : (v : Verdict) → number v < 256
number_small (Ok done) = lit< tt
number_small (Err WrongLength) = lit< tt
number_small (Err WrongForm) = lit< tt
number_small (Err WrongWidth) = lit< tt
number_small (Err TooWide) = lit< tt
number_small (Err (BrokenDigit i)) = lit< tt
number_small (Err (Crowded i)) = lit< tt
number_small (Err Negative) = lit< tt
number_small (Err PastEnd) = lit< tt
number_small (Err WrongChoice) = lit< tt

-- what comes first decides, unless it is done
pub done-or_else : (v : Verdict) → Done or_else v ≡ v
unfolding ◌or_else◌
done-or_else v = refl

pub passed_on : (u v : Verdict) → number u ≡ 0 → u or_else v ≡ v
unfolding ◌or_else◌
passed_on u v e = rw e

pub refused-or_else : (u v : Verdict) → number u ≢ 0 → u or_else v ≡ u
unfolding ◌or_else◌
refused-or_else u v f = go (number u) f
  where
    go : (n : ℕ) → n ≢ 0 → cond (eqb n 0) v u ≡ u
    go zero f = absurd (f refl)
    go (suc n) f = rw eqb-suc-zero

pub or_else-done : (u v : Verdict) → u or_else v ≡ Done → (u ≡ Done) × (v ≡ Done)
unfolding ◌or_else◌
or_else-done u v e = go (number u) refl e
  where
    go : (n : ℕ) → number u ≡ n → cond (eqb n 0) v u ≡ Done → (u ≡ Done) × (v ≡ Done)
    go zero f e = (number-zero u f, e)
    go (suc n) f e = let z : number u ≡ 0 = ap number (rw eqb-suc-zero at e) in absurd (omega arith)

-- a refusal that is given unless a test holds
pub unless-held : (b : Bool) (v : Refusal) → T b → unless b v ≡ Done
unless-held true v t = refl
unless-held false v t = absurd t

pub unless-failed : (b : Bool) (v : Refusal) → T (not b) → unless b v ≡ Err v
unless-failed true v t = absurd t
unless-failed false v t = refl

pub unless-done : (b : Bool) (v : Refusal) → number (Err v) ≢ 0 → unless b v ≡ Done → T b
unless-done true v f e = tt
unless-done false v f e = f (ap number e)

-- a width by the verdict that a match over widths gives it: done, it is one of the form's; a refusal is 3
pub width-allowed : (b : Bool) {v : Verdict} → v ≡ unless b WrongWidth → number v ≡ 0 → T b
width-allowed b {v} e z = unless-done b WrongWidth (λ n. omega arith) (sym e ∙ number-zero v z)

pub width-refused : (b : Bool) {v : Verdict} → v ≡ unless b WrongWidth → number v ≢ 0 → (v ≡ Err WrongWidth) × T (not b)
width-refused true e n = absurd (n (ap number e))
width-refused false e n = (e, tt)

-- a refusal has a number
pub refusal-number : (e : Refusal) → number (Err e) ≢ 0
refusal-number WrongLength z = omega arith
refusal-number WrongForm z = omega arith
refusal-number WrongWidth z = omega arith
refusal-number TooWide z = omega arith
refusal-number (BrokenDigit i) z = omega arith
refusal-number (Crowded i) z = omega arith
refusal-number Negative z = omega arith
refusal-number PastEnd z = omega arith
refusal-number WrongChoice z = omega arith

pub err-number : {v : Verdict} {e : Refusal} → v ≡ Err e → number v ≢ 0
err-number {v} {e} p z = refusal-number e (ap number (sym p) ∙ z)

-- what a `?` hands on is the refusal that it was handed
pub handed-on : {A : Type 0} (r : Result A Refusal) (e : Refusal) → IsErrAnd r (λ f. f ≡ e) → r ≡ Err e
handed-on r e h = let s = err_from_is_err_and r h in s.1 ∙ ap Err s.2
