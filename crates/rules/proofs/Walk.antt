-- The walk with a counter as a loop over the string takes it: a turn, a stop and the end. Assumes nothing.
use mathlib.Core.Path.{◌≡◌, sym, ◌∙◌}
use mathlib.Core.Logic.{◌≢◌}
use mathlib.Core.List.{List}
use Prim.Native.Nat.{ℕ, suc, ◌+◌, ◌≤◌, ◌<◌}
use native.Mathlib.Numerals.{add-one}
use lib.ListN.{length, drop, drop_of_length-le}
use lib.Seq.{drop-cons}
use lib.IntN.{ℤ, pos}
use Rattle.rules.specs.Digits.{digit_at}
use Rattle.rules.specs.Forms.{Form}
use Rattle.rules.specs.Verdicts.{Verdict, Done, number, ◌or_else◌}
use Rattle.rules.proofs.Verdicts.{done-or_else, refused-or_else, number-zero}
use Rattle.rules.specs.inner.Scan.{fault, held_next, scan}

module _ (F : Form) (i held : ℕ) (ds : List ℤ) where
  walk_at : i < length ds → scan F i held (drop i ds) ≡ fault F i held (digit_at ds i) or_else scan F (suc i) (held_next F.gap held (digit_at ds i)) (drop (suc i) ds)
  unfolding scan
  walk_at h = rw (drop-cons ds i (pos 0) h)

  pub walk_end : length ds ≤ i → scan F i held (drop i ds) ≡ Done
  unfolding scan
  walk_end h = rw (drop_of_length-le ds {i = i} h)

-- digit d stands at index i, and v is what is wrong with it
pub record Turn (F : Form) (i held : ℕ) (ds : List ℤ) (d : ℤ) (v : Verdict) : Type 0 where
  pub inside : i < length ds
  pub digit : d ≡ digit_at ds i
  pub wrong : v ≡ fault F i held d

module _ {F : Form} {i held : ℕ} {ds : List ℤ} {d : ℤ} {v : Verdict} (t : Turn F i held ds d v) where
  pub walk-on : number v ≡ 0 → (held' : ℕ) → held' ≡ held_next F.gap held d → scan F i held (drop i ds) ≡ scan F (i + 1) held' (drop (i + 1) ds)
  walk-on z held' n = rw (add-one, n, t.digit) (walk_at F i held ds t.inside ∙ rw (← (rw (t.digit, number-zero v z) at t.wrong)) (done-or_else _))

  pub walk-off : number v ≢ 0 → v ≡ scan F i held (drop i ds)
  walk-off f = sym (walk_at F i held ds t.inside ∙ rw (← (rw t.digit at t.wrong)) (refused-or_else v _ f))
