-- The rules admit strings whose sum is outside the range: for each form one below it and one at its end. Assumes nothing.
use mathlib.Core.Path.{◌≡◌, refl}
use mathlib.Core.List.{List, ◌∷◌}
use Prim.Native.Nat.{ℕ, zero, suc, ◌-◌, ◌^◌, ◌<◌, ◌≤◌}
use native.Mathlib.Nat.{le_refl}
use native.Mathlib.Omega.{arith}
use lib.Dec.{T, le→leb}
use lib.ListN.{replicate, length-replicate}
use lib.Pow.{pow_mono, pow_pos}
use lib.IntN.{ℤ, pos, negsuc}
use lib.Signed.{◌<ℤ◌, ◌≤ℤ◌, lt_z_yes, le_z_yes}
use Rattle.numbers.proofs.Balance.{same}
use Rattle.rules.specs.Digits.{digit_at, weighted}
use Rattle.rules.specs.Widths.{width_n, width_r, row}
use Rattle.rules.specs.Forms.{form_n, form_r, digit_r}
use Rattle.rules.specs.Refusals.{Offered, FallsBelow, EndsPast}
use Rattle.rules.proofs.ZeroDigit.{replicate-zero}
use Rattle.rules.proofs.Sum.{cons-balance, zeros-sum}
use Rattle.rules.proofs.NonAdjacent.{NonAdjacent, end, skip, put, nonadjacent-keeps}
use Rattle.rules.proofs.RecoderN.{naf_of, recoded-n}
use Rattle.rules.proofs.Radix.{before-digit_r, zero-digit_r, unspaced}
use Rattle.rules.proofs.RecoderR.{radix_of, recoded-r}
use Rattle.rules.proofs.Table.{row_fits, width-between}

-- -1 alone, at index 0
minus_one : ℕ → List ℤ
minus_one m = negsuc 0 ∷ replicate m (pos 0)

minus_one-sum : (b m : ℕ) → weighted b (minus_one m) ≡ negsuc 0
unfolding minus_one
minus_one-sum b m = same (weighted b (negsuc 0 ∷ replicate m (pos 0))) (negsuc 0) (omega (arith, rw (zeros-sum b m) at (cons-balance b (negsuc 0) (replicate m (pos 0)))))

zeros-nonadjacent : (g m : ℕ) → NonAdjacent g (replicate m (pos 0))
zeros-nonadjacent g zero = end
zeros-nonadjacent g (suc m) = skip (zeros-nonadjacent g m)

-- the sum of a string is a given integer, below 0 or at the end
negative-sum : {z : ℤ} → z ≡ negsuc 0 → z <ℤ pos 0
negative-sum e = rw e (lt_z_yes tt)

end-sum : {z : ℤ} (x : ℕ) → z ≡ pos x → pos x ≤ℤ z
end-sum x e = rw e (le_z_yes (le→leb x x (le_refl x)))

-- ---- N, over the widest width, the number of digits and the width

module _ (widest n w : ℕ) (a : T (width_n widest w)) (n⁺ : 0 < n) where
  pub falls-below-n : (ds : List ℤ) × Offered (form_n widest n w) ds × FallsBelow (form_n widest n w) ds
  unfolding minus_one
  falls-below-n =
      let b = width-between 2 widest w a in
      let h : 1 < 2 ^ (w - 1) = omega (arith, b.low, pow_mono {i = 1} {j = w - 1} (omega (arith, b.low))) in (
        minus_one (n - 1),
        record { long = omega (arith, length-replicate (n - 1) (pos 0)); allowed = a },
        record {
          keeps = nonadjacent-keeps widest n w (put {d = negsuc 0} refl h (record { zero-at = λ j l. replicate-zero (n - 1) j }) (zeros-nonadjacent (w - 1) (n - 1)));
          negative = negative-sum (minus_one-sum 2 (n - 1));
        },
      )

  pub ends-past-n : (ds : List ℤ) × Offered (form_n widest n w) ds × EndsPast (form_n widest n w) ds
  ends-past-n =
      let b = width-between 2 widest w a in
      let r = recoded-n widest n w (2 ^ (n - 1)) b.low n⁺ (le_refl _) in
      (naf_of (w - 1) n (2 ^ (n - 1)), record { long = r.long; allowed = a }, record { keeps = r.keeps; past = end-sum (2 ^ (n - 1)) r.sums })

-- ---- R, over the number of entries and the width

module _ (entries w : ℕ) (m : 64 ≤ entries) (a : T (width_r w)) where
  pub falls-below-r : (ds : List ℤ) × Offered (form_r entries w) ds × FallsBelow (form_r entries w) ds
  unfolding minus_one
  falls-below-r = (minus_one (entries - 1), record { long = omega (arith, length-replicate (entries - 1) (pos 0)); allowed = a }, record { keeps = unspaced entries w each; negative = negative-sum (minus_one-sum (2 ^ w) (entries - 1)) })
    where
      each : (i : ℕ) → T (digit_r w (row w).digits (row w).top i (digit_at (minus_one (entries - 1)) i))
      each zero = before-digit_r w (row w).digits (row w).top 0 (negsuc 0) (row_fits w a).several (record { below = pow_pos (w - 1); above = pow_pos (w - 1) })
      each (suc i) = rw (replicate-zero (entries - 1) i) (zero-digit_r w (row w).digits (row w).top (suc i))

  pub ends-past-r : (ds : List ℤ) × Offered (form_r entries w) ds × EndsPast (form_r entries w) ds
  ends-past-r =
      let x = 2 ^ (row w).bits in
      let r = recoded-r entries w x a m (le_refl x) in
      (radix_of w (entries - (row w).digits) ((row w).digits - 1) x, record { long = r.long; allowed = a }, record { keeps = r.keeps; past = end-sum x r.sums })
