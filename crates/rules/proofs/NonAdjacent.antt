-- Strings of form N by their digits: they are those that keep the rules, and their sum fixes them. Over the width and the number of digits. Assumes nothing.
use mathlib.Core.Path.{◌≡◌, refl, ap}
use mathlib.Core.Logic.{◌⊎◌, inl, inr}
use mathlib.Core.Bool.{false, ◌&&◌}
use mathlib.Core.List.{List, [], ◌∷◌}
use Prim.Native.Nat.{ℕ, zero, suc, ◌+◌, ◌-◌, ◌*◌, ◌^◌, ◌%◌, ◌<◌}
use native.Mathlib.Omega.{arith}
use lib.Dec.{T, eqb, ltb, ltb→lt, lt→ltb, eqb→eq}
use lib.ListN.{length, drop}
use lib.Seq.{ext_get_or}
use lib.IntN.{ℤ, pos, nat_abs}
use Rattle.numbers.proofs.Tests.{and_left, and_right, and_both, or_right}
use Rattle.numbers.proofs.Rounding.{Cancelled, cancel}
use Rattle.numbers.proofs.Balance.{up, dn, same, abs-balance}
use Rattle.rules.specs.Digits.{digit_at, is_zero, weighted}
use Rattle.rules.specs.Forms.{form_n, digit_n}
use Rattle.rules.specs.Keeps.{Keeps}
use Rattle.rules.specs.inner.Scan.{held_next}
use Rattle.rules.proofs.ZeroDigit.{zero_or, odd-nonzero, Zeros, no-zeros}
use Rattle.rules.proofs.Sum.{cons-balance, zero-up, zero-dn, nil-sum, zeros-scaled}
use Rattle.rules.proofs.Scan.{Good, good-nil, good-cons, good-zeros, good-keeps, keeps-good, free}

-- at width g + 1: the end, a zero in front, or an odd digit below 2^g in front of g zeros
pub data NonAdjacent (g : ℕ) : List ℤ → Type 0 where
  end : NonAdjacent g []
  skip : {ds : List ℤ} → NonAdjacent g ds → NonAdjacent g (pos 0 ∷ ds)
  put : {d : ℤ} {ds : List ℤ} → nat_abs d % 2 ≡ 1 → nat_abs d < 2 ^ g → Zeros g ds → NonAdjacent g ds → NonAdjacent g (d ∷ ds)

-- ---- the sum fixes the string

-- two sums are equal
abbrev Level : List ℤ → List ℤ → Type 0
Level ds es = up (weighted 2 ds) + dn (weighted 2 es) ≡ up (weighted 2 es) + dn (weighted 2 ds)

-- an odd digit in front makes the sum odd
odd_even : (d : ℤ) (ds es : List ℤ) → nat_abs d % 2 ≡ 1 → up (weighted 2 (d ∷ ds)) + 2 * dn (weighted 2 es) ≡ 2 * up (weighted 2 es) + dn (weighted 2 (d ∷ ds)) → ⊥
odd_even d ds es o e = omega (arith, cons-balance 2 d ds, abs-balance d)

level-tails : (g : ℕ) (d e : ℤ) (ds es : List ℤ) → nat_abs d < 2 ^ g → nat_abs e < 2 ^ g → Zeros g ds → Zeros g es → Level (d ∷ ds) (e ∷ es)
    → Cancelled (up d + dn e) (up e + dn d) (up (weighted 2 (drop g ds)) + dn (weighted 2 (drop g es))) (up (weighted 2 (drop g es)) + dn (weighted 2 (drop g ds)))
level-tails g d e ds es m n z y l =
    let r = zeros-scaled g ds z in
    let s = zeros-scaled g es y in
    cancel (2 * 2 ^ g) _ _ _ _
    (omega (arith, cons-balance 2 d ds, cons-balance 2 e es, r.ups, r.dns, s.ups, s.dns))
    (omega (arith, abs-balance d, abs-balance e))
    (omega (arith, abs-balance d, abs-balance e))

-- at any two lengths: two strings of one sum agree at each index, zeros standing past the end of each
agree : {g : ℕ} {ds es : List ℤ} → NonAdjacent g ds → NonAdjacent g es → Level ds es → (i : ℕ) → digit_at ds i ≡ digit_at es i
agree end end l i = refl
agree end (skip {ds = es} q) l zero = refl
agree end (skip {ds = es} q) l (suc i) = agree end q (omega (arith, zero-up 2 es, zero-dn 2 es, ap up (nil-sum 2), ap dn (nil-sum 2))) i
agree end (put {d = e} {ds = es} o m z q) l i = absurd (odd_even e es [] o (omega (arith, ap up (nil-sum 2), ap dn (nil-sum 2))))
agree (skip {ds} p) end l zero = refl
agree (skip {ds} p) end l (suc i) = agree p end (omega (arith, zero-up 2 ds, zero-dn 2 ds, ap up (nil-sum 2), ap dn (nil-sum 2))) i
agree (skip {ds} p) (skip {ds = es} q) l zero = refl
agree (skip {ds} p) (skip {ds = es} q) l (suc i) = agree p q (omega (arith, zero-up 2 ds, zero-dn 2 ds, zero-up 2 es, zero-dn 2 es)) i
agree (skip {ds} p) (put {d = e} {ds = es} o m z q) l i = absurd (odd_even e es ds o (omega (arith, zero-up 2 ds, zero-dn 2 ds)))
agree (put {d} {ds} o m z p) end l i = absurd (odd_even d ds [] o (omega (arith, ap up (nil-sum 2), ap dn (nil-sum 2))))
agree (put {d} {ds} o m z p) (skip {ds = es} q) l i = absurd (odd_even d ds es o (omega (arith, zero-up 2 es, zero-dn 2 es)))
agree {g} (put {d} {ds} o m z p) (put {d = e} {ds = es} o' m' z' q) l zero = same d e (level-tails g d e ds es m m' z z' l).low
agree {g} (put {d} {ds} o m z p) (put {d = e} {ds = es} o' m' z' q) l (suc i) =
    let r = zeros-scaled g ds z in
    let s = zeros-scaled g es z' in
    agree p q (omega (arith, ap (λ (x : ℕ). 2 ^ g * x) (level-tails g d e ds es m m' z z' l).high, r.ups, r.dns, s.ups, s.dns)) i

unique : {g : ℕ} {ds es : List ℤ} → NonAdjacent g ds → NonAdjacent g es → length ds ≡ length es → weighted 2 ds ≡ weighted 2 es → ds ≡ es
unique {ds} {es} p q n e = ext_get_or (pos 0) ds es n (λ i h. agree p q (rw e refl) i)

-- ---- a digit's own rule

pub record OddBelow (g : ℕ) (d : ℤ) : Type 0 where
  pub odd : nat_abs d % 2 ≡ 1
  pub small : nat_abs d < 2 ^ g

pub digit_n-odd : (w : ℕ) (d : ℤ) → is_zero d ≡ false → T (digit_n w d) → OddBelow (w - 1) d
unfolding digit_n
digit_n-odd w d e t =
    let p : T (eqb (nat_abs d % 2) 1 && ltb (nat_abs d) (2 ^ (w - 1))) = rw e at t in
    record {
      odd = eqb→eq (nat_abs d % 2) 1 (and_left (eqb (nat_abs d % 2) 1) (ltb (nat_abs d) (2 ^ (w - 1))) p);
      small = ltb→lt (nat_abs d) (2 ^ (w - 1)) (and_right (eqb (nat_abs d % 2) 1) (ltb (nat_abs d) (2 ^ (w - 1))) p);
    }

pub odd-digit_n : (w : ℕ) (d : ℤ) → OddBelow (w - 1) d → T (digit_n w d)
unfolding digit_n
odd-digit_n w d o =
    or_right (is_zero d) (eqb (nat_abs d % 2) 1 && ltb (nat_abs d) (2 ^ (w - 1)))
    (and_both (eqb (nat_abs d % 2) 1) (ltb (nat_abs d) (2 ^ (w - 1))) (rw o.odd tt) (lt→ltb (nat_abs d) (2 ^ (w - 1)) o.small))

pub zero-digit_n : (w : ℕ) → T (digit_n w (pos 0))
unfolding digit_n
zero-digit_n w = tt

-- ---- they are the strings that keep the rules

module _ (widest n w : ℕ) where
  good-nonadjacent : {i held : ℕ} {ds : List ℤ} → Good (form_n widest n w) i held ds → NonAdjacent (w - 1) ds
  good-nonadjacent good-nil = end
  good-nonadjacent (good-cons {i} {held} {d} {ds} s t q) = go (zero_or d) (good-nonadjacent q)
    where
      go : (d ≡ pos 0) ⊎ (is_zero d ≡ false) → NonAdjacent (w - 1) ds → NonAdjacent (w - 1) (d ∷ ds)
      go (inl e) p = rw e (skip p)
      go (inr e) p =
          let r = digit_n-odd w d e s in
          put r.odd r.small (record { zero-at = λ j h. good-zeros (form_n widest n w) q j (rw e h) }) p

  nonadjacent-good : (i held : ℕ) {ds : List ℤ} → NonAdjacent (w - 1) ds → Zeros held ds → Good (form_n widest n w) i held ds
  nonadjacent-good i held end z = good-nil
  nonadjacent-good i held (skip {ds} p) z = good-cons (zero-digit_n w) tt (nonadjacent-good (suc i) (held - 1) p (record { zero-at = λ j h. z.zero-at (suc j) (omega arith) }))
  nonadjacent-good i held (put {d} {ds} o s y p) z =
      good-cons (odd-digit_n w d (record { odd = o; small = s })) (free (form_n widest n w) held d ds z) (nonadjacent-good (suc i) (held_next (w - 1) held d) p (rw (odd-nonzero d o) y))

  pub keeps-nonadjacent : {ds : List ℤ} → Keeps (form_n widest n w) ds → NonAdjacent (w - 1) ds
  keeps-nonadjacent k = good-nonadjacent (keeps-good (form_n widest n w) k)

  pub nonadjacent-keeps : {ds : List ℤ} → NonAdjacent (w - 1) ds → Keeps (form_n widest n w) ds
  nonadjacent-keeps {ds} p = good-keeps (form_n widest n w) (nonadjacent-good 0 0 p (no-zeros ds))

  -- two strings of one length and one sum that keep the rules of N are one
  pub unique-n : (ds es : List ℤ) → Keeps (form_n widest n w) ds → Keeps (form_n widest n w) es → length ds ≡ length es → weighted 2 ds ≡ weighted 2 es → ds ≡ es
  unique-n ds es k l m e = unique (keeps-nonadjacent k) (keeps-nonadjacent l) m e
