-- What the walk made is a string of the integer, over the widest width, the number of digits and the width. Assumes nothing.
use mathlib.Core.List.{List}
use Prim.Native.Nat.{ℕ, ◌-◌, ◌^◌, ◌<◌, ◌≤◌}
use native.Mathlib.Omega.{arith}
use lib.IntN.{ℤ}
use Rattle.rules.specs.Forms.{form_n}
use Rattle.rules.specs.Promises.{Recoded}
use Rattle.rules.proofs.RecoderN.{recoded-n}
use Rattle.naf.proofs.Places.{Walked, walk_ends}

pub walked-string : (widest : ℕ) {n w x at carry : ℕ} {ds : List ℤ} {counted added : ℕ} → 2 ≤ w → 0 < n → Walked w n x at carry ds counted added → n ≤ at → x < 2 ^ (n - 1) → Recoded (form_n widest n w) x ds
walked-string widest {n} {w} {x} l n⁺ p e h = rw (walk_ends l p e) (recoded-n widest n w x l n⁺ (omega arith))
