-- The weighted sum: digit by digit, from either end, and written out with its weights. Assumes nothing.
use mathlib.Core.Path.{◌≡◌, refl, sym, ◌∙◌, ap}
use mathlib.Core.List.{List, [], ◌∷◌, ◌++◌}
use Prim.Native.Nat.{ℕ, zero, suc, ◌+◌, ◌*◌, ◌^◌, ◌≤◌, ◌<◌}
use native.Mathlib.Nat.{mul-zero, pow-suc, pow-zero}
use native.Mathlib.Omega.{arith}
use lib.ListN.{length, drop, take, replicate}
use lib.Seq.{drop-cons, take-suc, length-take-le, take-length}
use lib.IntN.{ℤ, pos, ◌+ℤ◌, ◌*ℤ◌, +ℤ_idl, +ℤ_idr, *ℤ-zero, *ℤ_comm}
use Rattle.numbers.specs.Total.{total}
use Rattle.numbers.proofs.Balance.{up, dn, same, add-balance, mul-up, mul-dn}
use Rattle.rules.specs.Digits.{digit_at, weighted}
use Rattle.rules.proofs.ZeroDigit.{Zeros, zeros-head, zeros-tail}

pub nil-sum : (b : ℕ) → weighted b [] ≡ pos 0
unfolding weighted
nil-sum b = refl

-- one digit and the rest, as a balance of naturals
pub cons-balance : (b : ℕ) (d : ℤ) (ds : List ℤ)
    → up (weighted b (d ∷ ds)) + (dn d + b * dn (weighted b ds)) ≡ up d + b * up (weighted b ds) + dn (weighted b (d ∷ ds))
unfolding weighted
cons-balance b d ds = omega (arith, add-balance d (pos b *ℤ weighted b ds), mul-up b (weighted b ds), mul-dn b (weighted b ds))

-- a zero in front
pub zero-up : (b : ℕ) (ds : List ℤ) → up (weighted b (pos 0 ∷ ds)) ≡ b * up (weighted b ds)
unfolding weighted
zero-up b ds = ap up (+ℤ_idl (pos b *ℤ weighted b ds)) ∙ mul-up b (weighted b ds)

pub zero-dn : (b : ℕ) (ds : List ℤ) → dn (weighted b (pos 0 ∷ ds)) ≡ b * dn (weighted b ds)
unfolding weighted
zero-dn b ds = ap dn (+ℤ_idl (pos b *ℤ weighted b ds)) ∙ mul-dn b (weighted b ds)

-- a sum that is m times another
pub record Scaled (m : ℕ) (x y : ℤ) : Type 0 where
  pub ups : up x ≡ m * up y
  pub dns : dn x ≡ m * dn y

-- with k zeros in front the sum is 2^k times that of the rest
pub zeros-scaled : (k : ℕ) (ds : List ℤ) → Zeros k ds → Scaled (2 ^ k) (weighted 2 ds) (weighted 2 (drop k ds))
unfolding weighted
zeros-scaled zero ds z = record { ups = omega arith; dns = omega arith }
zeros-scaled (suc k) [] z = record { ups = sym (mul-zero (2 ^ suc k)); dns = sym (mul-zero (2 ^ suc k)) }
zeros-scaled (suc k) (d ∷ ds) z =
    let r = zeros-scaled k ds (zeros-tail z) in
    rw (zeros-head z) (record { ups = zero-up 2 ds ∙ rw (r.ups, pow-suc) (omega arith); dns = zero-dn 2 ds ∙ rw (r.dns, pow-suc) (omega arith) })

-- zeros alone
pub zeros-sum : (b n : ℕ) → weighted b (replicate n (pos 0)) ≡ pos 0
unfolding weighted
zeros-sum b zero = refl
zeros-sum b (suc n) = rw (zeros-sum b n) (+ℤ_idl (pos b *ℤ pos 0) ∙ *ℤ-zero (pos b))

-- two strings one after the other
append-balance : (b : ℕ) (xs ys : List ℤ)
    → up (weighted b (xs ++ ys)) + (dn (weighted b xs) + b ^ length xs * dn (weighted b ys)) ≡ up (weighted b xs) + b ^ length xs * up (weighted b ys) + dn (weighted b (xs ++ ys))
append-balance b [] ys = omega (arith, ap up (nil-sum b), ap dn (nil-sum b), ap (λ (x : ℕ). x * up (weighted b ys)) (pow-zero b), ap (λ (x : ℕ). x * dn (weighted b ys)) (pow-zero b))
append-balance b (x ∷ xs) ys =
    omega (
      arith,
      cons-balance b x xs,
      cons-balance b x (xs ++ ys),
      ap (λ (v : ℕ). b * v) (append-balance b xs ys),
      ap (λ (v : ℕ). v * up (weighted b ys)) (pow-suc b (length xs)),
      ap (λ (v : ℕ). v * dn (weighted b ys)) (pow-suc b (length xs)),
    )

pub append-sum : (b : ℕ) (xs ys : List ℤ) → weighted b (xs ++ ys) ≡ weighted b xs +ℤ pos (b ^ length xs) *ℤ weighted b ys
append-sum b xs ys =
    same (weighted b (xs ++ ys)) (weighted b xs +ℤ pos (b ^ length xs) *ℤ weighted b ys)
    (omega (arith, append-balance b xs ys, add-balance (weighted b xs) (pos (b ^ length xs) *ℤ weighted b ys), mul-up (b ^ length xs) (weighted b ys), mul-dn (b ^ length xs) (weighted b ys)))

-- from the top down: what stands from index i on
pub sum-down : (b i : ℕ) (ds : List ℤ) → i < length ds → weighted b (drop i ds) ≡ digit_at ds i +ℤ pos b *ℤ weighted b (drop (suc i) ds)
unfolding weighted
sum-down b i ds h = rw (drop-cons ds i (pos 0) h)

-- from the bottom up: what stands below index i, and digit i with its weight b^i
pub sum-up : (b i : ℕ) (ds : List ℤ) → i < length ds → weighted b (take (suc i) ds) ≡ weighted b (take i ds) +ℤ pos (b ^ i) *ℤ digit_at ds i
unfolding weighted
sum-up b i ds h =
    let l : i ≤ length ds = omega arith in
    rw (take-suc ds i (pos 0) h) (append-sum b (take i ds) (digit_at ds i ∷ [])
    ∙ rw (length-take-le i ds, *ℤ-zero (pos b), +ℤ_idr (digit_at ds i)))

up_to : (b n : ℕ) (ds : List ℤ) → n ≤ length ds → weighted b (take n ds) ≡ total (λ i. digit_at ds i *ℤ pos (b ^ i)) n
unfolding weighted total
up_to b zero ds h = refl
up_to b (suc n) ds h = let l : n ≤ length ds = omega arith in rw (sum-up b n ds h, up_to b n ds l, *ℤ_comm (pos (b ^ n)) (digit_at ds n))

-- 01: digit i weighs b^i
pub digit-weighs : (b : ℕ) (ds : List ℤ) → weighted b ds ≡ total (λ i. digit_at ds i *ℤ pos (b ^ i)) (length ds)
digit-weighs b ds = rw (← up_to b (length ds) ds (omega arith), take-length ds)
