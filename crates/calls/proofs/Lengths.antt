-- Lengths are tried first, and all of them are one refusal: so it does not matter in which order. Assumes nothing.
use mathlib.Core.Path.{◌≡◌, sym, ap}
use mathlib.Core.Bool.{Bool, true, false}
use native.Mathlib.Omega.{arith}
use lib.Dec.{T}
use Rattle.std.specs.Prelude.{Err}
use Rattle.rules.specs.declared.Refusal.{Refusal}
use Rattle.rules.proofs.Verdicts.{refusal-number, refused-or_else, unless-done, unless-held, done-or_else}
use Rattle.rules.specs.declared.Refusal.TheVariants.{WrongLength}
use Rattle.rules.specs.Verdicts.{Verdict, Done, number, unless, ◌or_else◌}

-- a call stops at a length that is wrong: all of them together are wrong, and the refusal is the one that is due
pub wrong-length : (all this : Bool) {e : Refusal} → (T all → T this) → Err e ≡ unless this WrongLength → unless all WrongLength ≡ Err e
wrong-length all true {e} f p = absurd (refusal-number e (ap number p))
wrong-length true false f p = absurd (f tt)
wrong-length false false f p = sym p

-- .. whatever is tried after the lengths
pub wrong-length-first : (all this : Bool) {e : Refusal} (v : Verdict) → (T all → T this) → Err e ≡ unless this WrongLength → unless all WrongLength or_else v ≡ Err e
wrong-length-first all this {e} v f p = rw (wrong-length all this f p) (refused-or_else (Err e) v (refusal-number e))

-- a length that is right
pub right-length : (this : Bool) → Done ≡ unless this WrongLength → T this
right-length this p = unless-done this WrongLength (λ z. omega arith) (sym p)

-- where all are right, what is tried after them decides
pub right-lengths : (all : Bool) (v : Verdict) → T all → unless all WrongLength or_else v ≡ v
right-lengths all v t = rw (unless-held all WrongLength t) (done-or_else v)
