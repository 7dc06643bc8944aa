-- Tests put together by && and cond, taken apart again. Assumes nothing.
use mathlib.Core.Bool.{Bool, true, false, cond, ◌&&◌, ◌||◌}
use lib.Dec.{T}

pub and_left : (a b : Bool) → T (a && b) → T a
and_left true b t = tt
and_left false b t = t

pub and_right : (a b : Bool) → T (a && b) → T b
and_right true b t = t
and_right false b t = absurd t

pub and_both : (a b : Bool) → T a → T b → T (a && b)
and_both true b s t = t
and_both false b s t = s

pub or_right : (a b : Bool) → T b → T (a || b)
or_right true b t = tt
or_right false b t = t

pub cond-true : (c a b : Bool) → T c → T (cond c a b) → T a
cond-true true a b s t = t
cond-true false a b s t = absurd s

pub cond-false : (c a b : Bool) → (T c → ⊥) → T (cond c a b) → T b
cond-false true a b s t = absurd (s tt)
cond-false false a b s t = t
