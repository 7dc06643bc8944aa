-- A digit of N read by its absolute value m: what is wrong with it, and what it begins. Assumes nothing.
use mathlib.Core.Path.{◌≡◌, sym, ap, ◌∙◌}
use mathlib.Core.Logic.{◌≢◌}
use mathlib.Core.Bool.{Bool, true, false, ◌&&◌}
use Prim.Native.Nat.{ℕ, ◌-◌, ◌%◌, ◌^◌}
use borrow.Author.Tests.{ne_eqb}
use lib.Dec.{eqb, ltb}
use lib.IntN.{ℤ, nat_abs}
use mir.Syntax.{w8}
use mir.Val.{SFits, to_z, of_z}
use Rattle.rules.specs.declared.Refusal.TheVariants.{BrokenDigit, Crowded}
use Rattle.std.specs.Prelude.{Err}
use Rattle.rules.specs.Forms.{digit_n, card_n}
use Rattle.rules.specs.Verdicts.{Done, ◌or_else◌}
use Rattle.rules.specs.inner.Scan.{fault, held_next}
use Rattle.digits.proofs.Signed.{back8}

-- as `magnitude` promises it of its argument
pub magnitude-is : {d : ℤ} {m : ℕ} → SFits w8 d → m ≡ nat_abs (to_z w8 (of_z w8 d)) → nat_abs d ≡ m
magnitude-is {d} f r = sym (r ∙ ap nat_abs (back8 d f))

module _ (d : ℤ) {m : ℕ} (e : nat_abs d ≡ m) where
  -- a digit that is not zero begins a gap
  pub held_after : (gap held : ℕ) → m ≢ 0 → gap ≡ held_next gap held d
  held_after gap held n = rw (e, ne_eqb m 0 n)

  module _ (i held w : ℕ) where
    pub fine-zero : m ≡ 0 → Done ≡ fault (card_n w) i held d
    unfolding fault digit_n ◌or_else◌
    fine-zero z = rw (e, z)

    module _ {half : ℕ} (h : half ≡ 2 ^ (w - 1)) (n : m ≢ 0) {kept : Bool} (k : kept ≡ (eqb (m % 2) 1 && ltb m half)) where
      pub broken-own : kept ≡ false → Err (BrokenDigit i) ≡ fault (card_n w) i held d
      unfolding fault digit_n ◌or_else◌
      broken-own b = rw (e, ne_eqb m 0 n, ← h, ← k, b)

      pub crowded-held : kept ≡ true → held ≢ 0 → Err (Crowded i) ≡ fault (card_n w) i held d
      unfolding fault digit_n ◌or_else◌
      crowded-held b l = rw (e, ne_eqb m 0 n, ← h, ← k, b, ne_eqb held 0 l)

      pub fine-free : kept ≡ true → held ≡ 0 → Done ≡ fault (card_n w) i held d
      unfolding fault digit_n ◌or_else◌
      fine-free b l = rw (e, ne_eqb m 0 n, ← h, ← k, b, l)
