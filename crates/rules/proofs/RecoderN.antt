-- Every integer of N's range has a string: a recoder as a function on numbers, over the width and the number of digits. Assumes nothing.
use mathlib.Core.Path.{◌≡◌, refl, sym, ◌∙◌, ap}
use mathlib.Core.Logic.{◌≢◌, ◌⊎◌, inl, inr}
use mathlib.Core.Bool.{Bool, true, false, not, cond}
use mathlib.Core.List.{List, [], ◌∷◌, ◌++◌}
use Prim.Native.Nat.{ℕ, zero, suc, ◌+◌, ◌-◌, ◌*◌, ◌/◌, ◌%◌, ◌^◌, ◌≤◌, ◌<◌}
use native.Mathlib.Nat.{div-add-mod, mod-lt, mul-le-mul_left, pow-suc, sub-add_cancel, one-mul, zero-add, suc-add, mul-add}
use native.Mathlib.Decide.{dec_lt}
use native.Mathlib.Omega.{arith}
use lib.Dec.{T, eqb, eqb→eq, T_not}
use lib.ListN.{length, replicate}
use lib.Pow.{pow_pos, pow_mono, pow-add}
use lib.IntN.{ℤ, pos, nat_abs}
use Rattle.numbers.specs.Centred.{centred, carried}
use Rattle.numbers.proofs.Centred.{centred-is}
use Rattle.numbers.proofs.Balance.{up, dn, same, abs-balance, one-sided}
use Rattle.numbers.proofs.Rounding.{twice, round-down}
use Rattle.rules.specs.Digits.{digit_at, weighted}
use Rattle.rules.specs.Forms.{form_n}
use Rattle.rules.specs.Promises.{Recoded}
use Rattle.rules.proofs.Sum.{cons-balance}
use Rattle.rules.proofs.NonAdjacent.{NonAdjacent, end, skip, put, nonadjacent-keeps}

-- at width g + 1: the lowest digit of x, and what is left of x after it, halved
unfoldable pub naf_digit : ℕ → ℕ → ℤ
naf_digit g x = cond (eqb (x % 2) 0) (pos 0) (centred (2 ^ g) (x % (2 * 2 ^ g)))

unfoldable pub naf_next : ℕ → ℕ → ℕ
naf_next g x = cond (eqb (x % 2) 0) (x / 2) (2 ^ g * (x / (2 * 2 ^ g) + carried (2 ^ g) (x % (2 * 2 ^ g))))

unfoldable pub naf_of : ℕ → ℕ → ℕ → List ℤ
naf_of g zero x = []
naf_of g (suc n) x = naf_digit g x ∷ naf_of g n (naf_next g x)

-- what a step does: x is even and is halved, or an odd digit is taken
pub data Step (g x : ℕ) : ℤ → ℕ → Type 0 where
  halved : {y : ℕ} → x ≡ 2 * y → Step g x (pos 0) y
  taken : {d : ℤ} (y : ℕ) → nat_abs d % 2 ≡ 1 → nat_abs d < 2 ^ g → x + dn d ≡ up d + 2 * (2 ^ g * y) → Step g x d (2 ^ g * y)

module _ (g : ℕ) (g⁺ : 0 < g) where
  -- an odd digit is not -2^g
  small : (d : ℤ) → nat_abs d % 2 ≡ 1 → up d < 2 ^ g → dn d ≤ 2 ^ g → nat_abs d < 2 ^ g
  small d o l h = go (one-sided d)
    where
      go : (up d ≡ 0) ⊎ (dn d ≡ 0) → nat_abs d < 2 ^ g
      go (inl e) = omega (arith, abs-balance d, twice g g⁺)
      go (inr e) = omega (arith, abs-balance d)

  odd_step : (x : ℕ) → x % 2 ≢ 0 → Step g x (centred (2 ^ g) (x % (2 * 2 ^ g))) (2 ^ g * (x / (2 * 2 ^ g) + carried (2 ^ g) (x % (2 * 2 ^ g))))
  odd_step x o =
      let r = x % (2 * 2 ^ g) in
      let q = x / (2 * 2 ^ g) in
      let c = centred-is (2 ^ g) r (pow_pos g) (omega (arith, mod-lt x {m = 2 * 2 ^ g} (omega (arith, pow_pos g)))) in
      let e : x + dn (centred (2 ^ g) r) ≡ up (centred (2 ^ g) r) + 2 * (2 ^ g * (q + carried (2 ^ g) r)) = omega (arith, div-add-mod x (2 * 2 ^ g), mul-add (2 ^ g) q (carried (2 ^ g) r), c.total) in
      let p = abs-balance (centred (2 ^ g) r) in
      let a : nat_abs (centred (2 ^ g) r) % 2 ≡ 1 = omega arith in
      taken {d = centred (2 ^ g) r} (q + carried (2 ^ g) r) a (small (centred (2 ^ g) r) a c.below c.above) e

  pub step : (x : ℕ) → Step g x (naf_digit g x) (naf_next g x)
  unfolding naf_digit naf_next
  step x = go (eqb (x % 2) 0) (λ t. eqb→eq (x % 2) 0 t) (λ t e. T_not (eqb (x % 2) 0) t (rw e tt))
    where
      go : (b : Bool) → (T b → x % 2 ≡ 0) → (T (not b) → x % 2 ≢ 0)
          → Step g x (cond b (pos 0) (centred (2 ^ g) (x % (2 * 2 ^ g)))) (cond b (x / 2) (2 ^ g * (x / (2 * 2 ^ g) + carried (2 ^ g) (x % (2 * 2 ^ g)))))
      go true f h = let e = f tt in halved {y = x / 2} (omega arith)
      go false f h = odd_step x (h tt)

  -- an even number begins with 0
  pub even_step : (x z : ℕ) {d : ℤ} {y : ℕ} → Step g x d y → x ≡ 2 * z → (d ≡ pos 0) × (y ≡ z)
  even_step x z (halved e) h = (refl, omega arith)
  even_step x z (taken {d} y o m e) h = absurd (omega (arith, abs-balance d))

  naf_of-zeros : (k n q : ℕ) (j : ℕ) → j < k → digit_at (naf_of g n (2 ^ k * q)) j ≡ pos 0
  unfolding naf_of
  naf_of-zeros zero n q j h = absurd (omega arith)
  naf_of-zeros (suc k) zero q j h = refl
  naf_of-zeros (suc k) (suc n) q j h = go (even_step (2 ^ suc k * q) (2 ^ k * q) (step (2 ^ suc k * q)) (rw pow-suc (omega arith))) j h (λ i l. naf_of-zeros k n q i l)
    where
      go : {d : ℤ} {y : ℕ} → (d ≡ pos 0) × (y ≡ 2 ^ k * q) → (j : ℕ) → j < suc k → ((i : ℕ) → i < k → digit_at (naf_of g n (2 ^ k * q)) i ≡ pos 0) → digit_at (d ∷ naf_of g n y) j ≡ pos 0
      go p zero h f = p.0
      go p (suc j) h f = rw p.1 (f j (omega arith))

  pub naf_of-length : (n x : ℕ) → length (naf_of g n x) ≡ n
  unfolding naf_of
  naf_of-length zero x = refl
  naf_of-length (suc n) x = ap suc (naf_of-length n (naf_next g x))

  pub naf_of-nonadjacent : (n x : ℕ) → NonAdjacent g (naf_of g n x)
  unfolding naf_of
  naf_of-nonadjacent zero x = end
  naf_of-nonadjacent (suc n) x = go (step x) (naf_of-nonadjacent n (naf_next g x))
    where
      go : {d : ℤ} {y : ℕ} → Step g x d y → NonAdjacent g (naf_of g n y) → NonAdjacent g (d ∷ naf_of g n y)
      go (halved e) r = skip r
      go (taken {d} y o m e) r = put o m (record { zero-at = λ j h. naf_of-zeros g n y j h }) r

  step-balance : {x : ℕ} {d : ℤ} {y : ℕ} → Step g x d y → x + dn d ≡ up d + 2 * y
  step-balance (halved e) = omega arith
  step-balance (taken y o m e) = e

  none : (y : ℕ) → 2 * 2 ^ g * y < 2 * 2 ^ g → {m : ℕ} → 2 * (2 ^ g * y) ≤ m
  none zero h = omega arith
  none (suc y) h = absurd (omega arith)

  -- what fits into n digits: at most 2^(n-1)
  pub fits_next : (n x : ℕ) {d : ℤ} {y : ℕ} → Step g x d y → 2 * x ≤ 2 ^ suc n → 2 * y ≤ 2 ^ n
  fits_next n x (halved e) h = omega arith
  fits_next n x (taken {d} y o m e) h = go (dec_lt g n)
    where
      near : 2 * 2 ^ g * y < 2 ^ n + 2 ^ g
      near = omega (arith, abs-balance d)

      go : Dec (g < n) → 2 * (2 ^ g * y) ≤ 2 ^ n
      go (yes l) =
          let c = 2 ^ (n - suc g) in
          let p : 2 ^ n ≡ c * (2 ^ g * 2) = ap (λ (k : ℕ). 2 ^ k) (sym (sub-add_cancel l)) ∙ pow-add 2 (n - suc g) (suc g) ∙ ap (λ (k : ℕ). c * k) (pow-suc 2 g) in
          let q = round-down (2 * 2 ^ g) c y (2 ^ g) (omega (arith, near)) (omega arith) in
          omega (arith, mul-le-mul_left (2 * 2 ^ g) q)
      go (no l) = none y (omega (arith, near, pow_mono {i = n} {j = g} (omega arith)))

  pub naf_of-sum : (n x : ℕ) → 2 * x ≤ 2 ^ n → weighted 2 (naf_of g n x) ≡ pos x
  unfolding naf_of weighted
  naf_of-sum zero x h = ap pos (omega arith)
  naf_of-sum (suc n) x h = go (step x) (naf_of-sum n (naf_next g x) (fits_next n x (step x) h))
    where
      go : {d : ℤ} {y : ℕ} → Step g x d y → weighted 2 (naf_of g n y) ≡ pos y → weighted 2 (d ∷ naf_of g n y) ≡ pos x
      go {d} {y} s e = same (weighted 2 (d ∷ naf_of g n y)) (pos x) (omega (arith, cons-balance 2 d (naf_of g n y), step-balance s, ap up e, ap dn e))

  -- a run of zeros: one law for one place, for the places after a digit, and for a jump
  pub naf_of-skip : (k n q : ℕ) → naf_of g (k + n) (2 ^ k * q) ≡ replicate k (pos 0) ++ naf_of g n q
  unfolding naf_of
  naf_of-skip zero n q = let e : 1 * q ≡ q = one-mul q in rw (zero-add, e)
  naf_of-skip (suc k) n q = rw suc-add (go (even_step (2 ^ suc k * q) (2 ^ k * q) (step (2 ^ suc k * q)) (rw pow-suc (omega arith))) (naf_of-skip k n q))
    where
      go : {d : ℤ} {y : ℕ} → (d ≡ pos 0) × (y ≡ 2 ^ k * q) → naf_of g (k + n) (2 ^ k * q) ≡ replicate k (pos 0) ++ naf_of g n q → d ∷ naf_of g (k + n) y ≡ pos 0 ∷ (replicate k (pos 0) ++ naf_of g n q)
      go p r = rw (p.0, p.1, r)

-- the string of x in n digits, x being at most the range's end
pub recoded-n : (widest n w x : ℕ) → 2 ≤ w → 0 < n → x ≤ 2 ^ (n - 1) → Recoded (form_n widest n w) x (naf_of (w - 1) n x)
recoded-n widest n w x h n⁺ l = record {
  long = naf_of-length (w - 1) (omega arith) n x;
  keeps = nonadjacent-keeps widest n w (naf_of-nonadjacent (w - 1) (omega arith) n x);
  sums = naf_of-sum (w - 1) (omega arith) n x (omega (arith, twice n n⁺));
}
