-- The number of non-zero digits as a sum over the indices, and N's count by the highest index. Assumes nothing.
use mathlib.Core.Path.{◌≡◌, refl, sym, ap, subst, ◌∙◌}
use mathlib.Core.Bool.{Bool, true, false, not, cond}
use mathlib.Core.List.{List, [], ◌∷◌}
use Prim.Native.Nat.{ℕ, zero, suc, ◌+◌, ◌-◌, ◌<◌, ◌≤◌}
use native.Mathlib.Decide.{dec_lt}
use native.Mathlib.Omega.{arith}
use lib.Dec.{T, eqb}
use lib.ListN.{length, take}
use lib.Seq.{take-length}
use lib.IntN.{ℤ, pos, nat_abs}
use Rattle.std.specs.List.{count_by}
use Rattle.std.specs.Ordering.{int_eq}
use Rattle.std.proofs.lemmas.Bool.Decides.{same_from_decides, Decides-int_eq}
use Rattle.std.proofs.lemmas.List.Recursion.{is_count_by}
use Rattle.numbers.specs.Total.{totalℕ}
use Rattle.rules.specs.Digits.{is_zero, count, non_zeros, additions}
use Rattle.rules.proofs.ZeroDigit.{zero_of}
use Rattle.rules.proofs.Tally.{count_none, count-highest}
use Rattle.acceptance.specs.Strings.{digit, non_zero_among, CountN}

-- a sum, from the front
pub total-front : (f : ℕ → ℕ) (n : ℕ) → totalℕ f (suc n) ≡ f 0 + totalℕ (λ i. f (suc i)) n
unfolding totalℕ
total-front f zero = omega arith
total-front f (suc n) = omega (arith, total-front f n)

-- how many indices
none-among : (n : ℕ) → non_zero_among [] n ≡ 0
unfolding non_zero_among totalℕ
none-among zero = refl
none-among (suc n) = omega (arith, none-among n)

pub taken-among : (ds : List ℤ) (n : ℕ) → non_zeros (take n ds) ≡ non_zero_among ds n
unfolding non_zeros non_zero_among totalℕ
taken-among ds zero = refl
taken-among [] (suc n) = sym (none-among (suc n))
taken-among (d ∷ ds) (suc n) = go (is_zero d) (taken-among ds n) ∙ sym (total-front (λ i. cond (eqb (nat_abs (digit (d ∷ ds) i)) 0) 0 1) n)
  where
    go : (b : Bool) → non_zeros (take n ds) ≡ non_zero_among ds n → cond b (non_zeros (take n ds)) (1 + non_zeros (take n ds)) ≡ cond b 0 1 + non_zero_among ds n
    go true e = omega arith
    go false e = omega arith

pub nonzeros-among : (ds : List ℤ) → non_zeros ds ≡ non_zero_among ds (length ds)
nonzeros-among ds = rw take-length at (taken-among ds (length ds))

-- counted digit by digit, as a chain does
one-more : (d : ℤ) (n : ℕ) → cond (is_zero d) n (1 + n) ≡ cond (not (int_eq d (pos 0))) (1 + n) n
one-more d n = ap (λ (b : Bool). cond b n (1 + n)) same ∙ other-way (int_eq d (pos 0))
  where
    same : is_zero d ≡ int_eq d (pos 0)
    same = same_from_decides (is_zero d) (int_eq d (pos 0)) (λ e. zero_of d (subst T (sym e) tt), λ e. ap is_zero e) (Decides-int_eq d (pos 0))

    other-way : (b : Bool) → cond b n (1 + n) ≡ cond (not b) (1 + n) n
    other-way true = refl
    other-way false = refl

pub counted-among : (ds : List ℤ) (n : ℕ) → count_by (λ d. not (int_eq d (pos 0))) (take n ds) ≡ non_zero_among ds n
unfolding non_zeros
counted-among ds n = sym (is_count_by non_zeros (λ d. not (int_eq d (pos 0))) refl (λ d es. one-more d (non_zeros es)) (take n ds)) ∙ taken-among ds n

pub additions-among : (ds : List ℤ) → additions ds ≡ non_zero_among ds (length ds)
unfolding additions
additions-among ds = nonzeros-among ds

-- digits that are 0 add nothing
pub among-past : (ds : List ℤ) (n k : ℕ) → ((i : ℕ) → n ≤ i → i < n + k → digit ds i ≡ pos 0) → non_zero_among ds (n + k) ≡ non_zero_among ds n
unfolding non_zero_among totalℕ
among-past ds n zero f = let e : n + 0 ≡ n = omega arith in rw e
among-past ds n (suc k) f =
    let e : n + suc k ≡ suc (n + k) = omega arith in
    rw (e, f (n + k) (omega arith) (omega arith)) (omega (arith, among-past ds n k (λ i l h. f i l (omega arith))))

-- N's count
pub counted-n : (ds : List ℤ) → CountN ds (count ds)
counted-n ds = go (count ds) refl
  where
    go : (k : ℕ) → count ds ≡ k → CountN ds k
    go zero e = record { above = λ i l. (count_none ds).0 e i l; highest = λ l. absurd (omega arith) }
    go (suc k) e = let p = (count-highest ds k).0 e in let z : suc k - 1 ≡ k = omega arith in record { above = p.1; highest = λ l. rw z p.0 }

pub one-count : (ds : List ℤ) (j k : ℕ) → CountN ds j → CountN ds k → j ≡ k
one-count ds j k p q = go (dec_lt j k) (dec_lt k j)
  where
    go : Dec (j < k) → Dec (k < j) → j ≡ k
    go (yes l) m = absurd (q.highest (omega arith) (p.above (k - 1) (omega arith)))
    go (no l) (yes m) = absurd (p.highest (omega arith) (q.above (j - 1) (omega arith)))
    go (no l) (no m) = omega arith
