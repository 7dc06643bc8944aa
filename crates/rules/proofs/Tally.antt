-- The count and the number of non-zero digits of a string that is filled from the front: while it is all zeros, and with one digit more. Assumes nothing.
use mathlib.Core.Path.{◌≡◌, refl, ◌∙◌}
use mathlib.Core.Logic.{◌≢◌, ◌↔◌}
use mathlib.Core.Bool.{Bool, true, false, cond, ◌&&◌}
use mathlib.Core.List.{List, [], ◌∷◌, ◌++◌}
use Prim.Native.Nat.{ℕ, zero, suc, ◌+◌, ◌≤◌, ◌<◌}
use native.Mathlib.Omega.{arith}
use lib.Dec.{eqb, eqb-suc-zero}
use lib.ListN.{length, take, set}
use lib.Seq.{take-suc, take-length}
use lib.IntN.{ℤ, pos}
use Rattle.numbers.specs.Total.{totalℕ}
use Rattle.rules.specs.Digits.{digit_at, is_zero, count, non_zeros, additions}
use Rattle.rules.proofs.ZeroDigit.{zero_of, nonzero-of, nonzero-is}

-- from index `at` on the digits are 0
abbrev pub ZeroFrom : ℕ → List ℤ → Type 0
ZeroFrom at ds = (i : ℕ) → at ≤ i → digit_at ds i ≡ pos 0

-- ---- zeros: the number of non-zero digits is 0 exactly if each digit is 0

pub none-nonzero : (xs : List ℤ) → ((m : ℕ) → m < length xs → digit_at xs m ≡ pos 0) → non_zeros xs ≡ 0
unfolding non_zeros
none-nonzero [] f = refl
none-nonzero (x ∷ xs) f = rw (f 0 (omega arith)) (none-nonzero xs (λ m h. f (suc m) (omega arith)))

pub some-nonzero : (xs : List ℤ) (m : ℕ) → m < length xs → digit_at xs m ≢ pos 0 → 0 < non_zeros xs
unfolding non_zeros
some-nonzero [] m h f = absurd (omega arith)
some-nonzero (x ∷ xs) zero h f = rw (nonzero-of x f) (omega arith)
some-nonzero (x ∷ xs) (suc m) h f = go (is_zero x) (some-nonzero xs m (omega arith) f)
  where
    go : (b : Bool) → 0 < non_zeros xs → 0 < cond b (non_zeros xs) (1 + non_zeros xs)
    go true l = l
    go false l = omega arith

pub count-zero : (ds : List ℤ) → ZeroFrom 0 ds → count ds ≡ 0
unfolding count
count-zero [] z = refl
count-zero (d ∷ ds) z = rw (z 0 (omega arith), count-zero ds (λ i l. z (suc i) (omega arith)))

-- ---- a digit put where zeros stood from there on

longer : (b : Bool) (k n : ℕ) → k ≡ suc n → cond (b && eqb k 0) 0 (1 + k) ≡ 1 + k
longer true k n e = rw (e, eqb-suc-zero n)
longer false k n e = refl

pub count-put : (ds : List ℤ) (at : ℕ) (d : ℤ) → at < length ds → ZeroFrom at ds → is_zero d ≡ false → count (set ds at d) ≡ at + 1
unfolding count
count-put [] at d l z f = absurd (omega arith)
count-put (e ∷ ds) zero d l z f = rw (f, count-zero ds (λ i h. z (suc i) (omega arith)))
count-put (e ∷ ds) (suc at) d l z f =
    let r = count-put ds at d (omega arith) (λ i h. z (suc i) (omega arith)) f in
    omega (arith, longer (is_zero e) (count (set ds at d)) at (omega arith))

pub non_zeros-put : (ds : List ℤ) (at : ℕ) (d : ℤ) → at < length ds → digit_at ds at ≡ pos 0 → is_zero d ≡ false → non_zeros (set ds at d) ≡ non_zeros ds + 1
unfolding non_zeros
non_zeros-put [] at d l z f = absurd (omega arith)
non_zeros-put (e ∷ ds) zero d l z f = rw (f, z) (omega arith)
non_zeros-put (e ∷ ds) (suc at) d l z f = under (is_zero e) _ _ (non_zeros-put ds at d (omega arith) z f)
  where
    under : (b : Bool) (m n : ℕ) → m ≡ n + 1 → cond b m (1 + m) ≡ cond b n (1 + n) + 1
    under true m n h = h
    under false m n h = omega arith

-- no more digits are not zero than there are
pub non_zeros-most : (ds : List ℤ) → non_zeros ds ≤ length ds
unfolding non_zeros
non_zeros-most [] = omega arith
non_zeros-most (d ∷ ds) = go (is_zero d) (non_zeros-most ds)
  where
    go : (b : Bool) → non_zeros ds ≤ length ds → cond b (non_zeros ds) (1 + non_zeros ds) ≤ suc (length ds)
    go true l = omega arith
    go false l = omega arith

pub additions-most : (ds : List ℤ) → additions ds ≤ length ds
unfolding additions
additions-most ds = non_zeros-most ds

-- the count reaches no further than the string
pub count_most : (ds : List ℤ) → count ds ≤ length ds
unfolding count
count_most [] = omega arith
count_most (d ∷ ds) = go (is_zero d && eqb (count ds) 0) (count_most ds)
  where
    go : (b : Bool) → count ds ≤ length ds → cond b 0 (1 + count ds) ≤ suc (length ds)
    go true l = omega arith
    go false l = omega arith

-- ---- what the count is: one more than the highest index of a non-zero digit, and 0 if there is none

nothing-counted : (b : Bool) (c : ℕ) → cond (b && eqb c 0) 0 (1 + c) ≡ 0 → (b ≡ true) × (c ≡ 0)
nothing-counted true zero e = (refl, refl)
nothing-counted true (suc c) e = absurd (omega (arith, rw (eqb-suc-zero c) at e))
nothing-counted false c e = absurd (omega arith)

counted-one-more : (b : Bool) (c k : ℕ) → cond (b && eqb c 0) 0 (1 + c) ≡ suc k → (c ≡ k) × (c ≡ 0 → b ≡ false)
counted-one-more true zero k e = absurd (omega arith)
counted-one-more true (suc c) k e = (omega (arith, rw (eqb-suc-zero c) at e), λ z. absurd (omega arith))
counted-one-more false c k e = (omega arith, λ z. refl)

all-zero : (ds : List ℤ) → count ds ≡ 0 → ZeroFrom 0 ds
unfolding count
all-zero [] e i l = refl
all-zero (d ∷ ds) e zero l = zero_of d (rw (nothing-counted (is_zero d) (count ds) e).0 tt)
all-zero (d ∷ ds) e (suc i) l = all-zero ds (nothing-counted (is_zero d) (count ds) e).1 i (omega arith)

highest : (ds : List ℤ) (k : ℕ) → count ds ≡ suc k → (digit_at ds k ≢ pos 0) × ZeroFrom (suc k) ds
unfolding count
highest [] k e = absurd (omega arith)
highest (d ∷ ds) zero e =
    let p = counted-one-more (is_zero d) (count ds) 0 e in
    (nonzero-is d (p.1 p.0), λ i l. above i l (all-zero ds p.0))
  where
    above : (i : ℕ) → 1 ≤ i → ZeroFrom 0 ds → digit_at (d ∷ ds) i ≡ pos 0
    above zero l z = absurd (omega arith)
    above (suc i) l z = z i (omega arith)
highest (d ∷ ds) (suc k) e =
    let r = highest ds k (counted-one-more (is_zero d) (count ds) (suc k) e).0 in
    (r.0, λ i l. above i l r.1)
  where
    above : (i : ℕ) → suc (suc k) ≤ i → ZeroFrom (suc k) ds → digit_at (d ∷ ds) i ≡ pos 0
    above zero l z = absurd (omega arith)
    above (suc i) l z = z i (omega arith)

counted-highest : (ds : List ℤ) (k : ℕ) → digit_at ds k ≢ pos 0 → ZeroFrom (suc k) ds → count ds ≡ suc k
unfolding count
counted-highest [] k f z = absurd (f refl)
counted-highest (d ∷ ds) zero f z = rw (nonzero-of d f, count-zero ds (λ i l. z (suc i) (omega arith)))
counted-highest (d ∷ ds) (suc k) f z =
    let r = counted-highest ds k f (λ i l. z (suc i) (omega arith)) in
    longer (is_zero d) (count ds) k r ∙ omega (arith, r)

pub count_none : (ds : List ℤ) → count ds ≡ 0 ↔ ZeroFrom 0 ds
count_none ds = (all-zero ds, count-zero ds)

pub count-highest : (ds : List ℤ) (k : ℕ) → count ds ≡ suc k ↔ ((digit_at ds k ≢ pos 0) × ZeroFrom (suc k) ds)
count-highest ds k = (highest ds k, λ p. counted-highest ds k p.0 p.1)

-- ---- what the number of non-zero digits is: one for each index of such a digit

non_zeros-append : (xs ys : List ℤ) → non_zeros (xs ++ ys) ≡ non_zeros xs + non_zeros ys
unfolding non_zeros
non_zeros-append [] ys = omega arith
non_zeros-append (x ∷ xs) ys = go (is_zero x) (non_zeros-append xs ys)
  where
    go : (b : Bool) → non_zeros (xs ++ ys) ≡ non_zeros xs + non_zeros ys → cond b (non_zeros (xs ++ ys)) (1 + non_zeros (xs ++ ys)) ≡ cond b (non_zeros xs) (1 + non_zeros xs) + non_zeros ys
    go true e = e
    go false e = omega arith

up_to : (n : ℕ) (ds : List ℤ) → n ≤ length ds → non_zeros (take n ds) ≡ totalℕ (λ i. cond (is_zero (digit_at ds i)) 0 1) n
unfolding non_zeros totalℕ
up_to zero ds h = refl
up_to (suc n) ds h = let l : n ≤ length ds = omega arith in rw (take-suc ds n (pos 0) h, non_zeros-append (take n ds) (digit_at ds n ∷ []), up_to n ds l)

pub non_zeros-counted : (ds : List ℤ) → non_zeros ds ≡ totalℕ (λ i. cond (is_zero (digit_at ds i)) 0 1) (length ds)
non_zeros-counted ds = rw (← up_to (length ds) ds (omega arith), take-length ds)
