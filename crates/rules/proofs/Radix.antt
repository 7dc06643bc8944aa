-- Strings of form R: what a digit's rule says, and that the sum fixes the string. Over the width, the number of digits and the last digit's top. Assumes nothing.
use mathlib.Core.Path.{◌≡◌, refl, ◌∙◌, ap, ap₂}
use mathlib.Core.Bool.{Bool, true, false, cond}
use mathlib.Core.List.{List, [], ◌∷◌}
use Prim.Native.Nat.{ℕ, zero, suc, ◌+◌, ◌-◌, ◌*◌, ◌^◌, ◌≤◌, ◌<◌, zero-le}
use native.Mathlib.Decide.{dec_lt}
use native.Mathlib.Nat.{add-zero, zero-add, suc-add, add-suc}
use native.Mathlib.Omega.{arith}
use lib.Dec.{T, eqb, ltb, leb, ltb→lt, lt→ltb, leb→le, le→leb, eqb→eq}
use lib.ListN.{length}
use lib.Pow.{pow_pos}
use lib.IntN.{ℤ, pos, negsuc, neg_ℤ}
use lib.Signed.{le_z}
use Rattle.numbers.proofs.Tests.{and_left, and_right, and_both, cond-true, cond-false}
use Rattle.numbers.proofs.Rounding.{Cancelled, cancel, twice}
use Rattle.numbers.proofs.Balance.{up, dn, same}
use Rattle.rules.specs.Digits.{digit_at, is_zero, weighted}
use Rattle.rules.specs.Widths.{row}
use Rattle.rules.specs.Forms.{digit_r, within, form_r}
use Rattle.rules.specs.Keeps.{Keeps}
use Rattle.rules.proofs.ZeroDigit.{zero_of}
use Rattle.rules.proofs.Sum.{cons-balance, zero-up, zero-dn, nil-sum}

-- ---- bounds, as facts about naturals

neg-le : (H : ℕ) (d : ℤ) → T (le_z (neg_ℤ (pos H)) d) → dn d ≤ H
neg-le zero (pos a) t = omega arith
neg-le zero (negsuc a) t = absurd t
neg-le (suc h) (pos a) t = omega arith
neg-le (suc h) (negsuc a) t = omega (arith, leb→le a h t)

le_up : (H : ℕ) (d : ℤ) → T (le_z d (pos H)) → up d ≤ H
le_up H (pos a) t = leb→le a H t
le_up H (negsuc a) t = omega arith

-- from -H to H - 1
pub record Between (H : ℕ) (d : ℤ) : Type 0 where
  pub below : up d < H
  pub above : dn d ≤ H

between-within : (H : ℕ) (d : ℤ) → Between H d → T (within (neg_ℤ (pos H)) (pos (H - 1)) d)
between-within zero d b = let l = b.below in absurd (omega arith)
between-within (suc k) (pos a) b = let l = b.below in and_both true (leb a (suc k - 1)) tt (le→leb a (suc k - 1) (omega arith))
between-within (suc k) (negsuc a) b = let l = b.above in and_both (leb a k) true (le→leb a k (omega arith)) tt

module _ (w n top : ℕ) where
  -- ---- the rule before the last digit, at it, and past it

  pub digit_r-before : (i : ℕ) (d : ℤ) → i + 1 < n → T (digit_r w n top i d) → Between (2 ^ (w - 1)) d
  unfolding digit_r
  digit_r-before i d h t =
      let p = cond-true (ltb (i + 1) n) (within (neg_ℤ (pos (2 ^ (w - 1)))) (pos (2 ^ (w - 1) - 1)) d) (cond (eqb (i + 1) n) (within (pos 0) (pos top) d) (is_zero d)) (lt→ltb (i + 1) n h) t in
      record {
        below = omega (arith, le_up (2 ^ (w - 1) - 1) d (and_right (le_z (neg_ℤ (pos (2 ^ (w - 1)))) d) (le_z d (pos (2 ^ (w - 1) - 1))) p), pow_pos (w - 1));
        above = neg-le (2 ^ (w - 1)) d (and_left (le_z (neg_ℤ (pos (2 ^ (w - 1)))) d) (le_z d (pos (2 ^ (w - 1) - 1))) p);
      }

  pub digit_r-past : (i : ℕ) (d : ℤ) → n ≤ i → T (digit_r w n top i d) → d ≡ pos 0
  unfolding digit_r
  digit_r-past i d h t =
      zero_of d (cond-false (eqb (i + 1) n) (within (pos 0) (pos top) d) (is_zero d) (λ s. let e = eqb→eq (i + 1) n s in omega arith)
      (cond-false (ltb (i + 1) n) (within (neg_ℤ (pos (2 ^ (w - 1)))) (pos (2 ^ (w - 1) - 1)) d) (cond (eqb (i + 1) n) (within (pos 0) (pos top) d) (is_zero d)) (λ s. let e = ltb→lt (i + 1) n s in omega arith) t))

  pub before-digit_r : (i : ℕ) (d : ℤ) → i + 1 < n → Between (2 ^ (w - 1)) d → T (digit_r w n top i d)
  unfolding digit_r
  before-digit_r i d h b = go (ltb (i + 1) n) (lt→ltb (i + 1) n h)
    where
      go : (c : Bool) → T c → T (cond c (within (neg_ℤ (pos (2 ^ (w - 1)))) (pos (2 ^ (w - 1) - 1)) d) (cond (eqb (i + 1) n) (within (pos 0) (pos top) d) (is_zero d)))
      go true t = between-within (2 ^ (w - 1)) d b
      go false t = absurd t

  -- 0 keeps the rule at every index
  pub zero-digit_r : (i : ℕ) → T (digit_r w n top i (pos 0))
  unfolding digit_r
  zero-digit_r i =
      go (ltb (i + 1) n) (eqb (i + 1) n) (within (neg_ℤ (pos (2 ^ (w - 1)))) (pos (2 ^ (w - 1) - 1)) (pos 0)) (within (pos 0) (pos top) (pos 0))
      (between-within (2 ^ (w - 1)) (pos 0) (record { below = pow_pos (w - 1); above = omega arith })) (and_both true (leb 0 top) tt (le→leb 0 top zero-le))
    where
      go : (b c p q : Bool) → T p → T q → T (cond b p (cond c q true))
      go true c p q s t = s
      go false true p q s t = t
      go false false p q s t = tt

  -- ---- the sum fixes the string, from index i up

  Digits : ℕ → List ℤ → Type 0
  Digits i ds = (k : ℕ) → k < length ds → T (digit_r w n top (i + k) (digit_at ds k))

  -- past the last digit the sum is 0
  past : (i : ℕ) (ds : List ℤ) → n ≤ i → Digits i ds → (up (weighted (2 ^ w) ds) ≡ 0) × (dn (weighted (2 ^ w) ds) ≡ 0)
  unfolding Digits
  past i [] h f = (ap up (nil-sum (2 ^ w)), ap dn (nil-sum (2 ^ w)))
  past i (d ∷ ds) h f =
      let r = past (suc i) ds (omega arith) (λ k l. rw (suc-add, ← (add-suc i k)) (f (suc k) (omega arith))) in
      let z : d ≡ pos 0 = digit_r-past i d h (rw add-zero at (f 0 (omega arith))) in
      rw z (zero-up (2 ^ w) ds ∙ rw r.0 (omega arith), zero-dn (2 ^ w) ds ∙ rw r.1 (omega arith))

  fixed : 0 < w → (i : ℕ) (ds es : List ℤ) → Digits i ds → Digits i es → length ds ≡ length es
      → up (weighted (2 ^ w) ds) + dn (weighted (2 ^ w) es) ≡ up (weighted (2 ^ w) es) + dn (weighted (2 ^ w) ds) → ds ≡ es
  unfolding Digits
  fixed w⁺ i [] [] f g l e = refl
  fixed w⁺ i [] (y ∷ es) f g l e = absurd (omega arith)
  fixed w⁺ i (d ∷ ds) [] f g l e = absurd (omega arith)
  fixed w⁺ i (d ∷ ds) (y ∷ es) f g l e = let r = go (dec_lt (i + 1) n) in ap₂ (λ (x : ℤ) (xs : List ℤ). x ∷ xs) (same d y r.low) (fixed w⁺ (suc i) ds es f' g' (omega arith) r.high)
    where
      f' : Digits (suc i) ds
      f' = λ k l. rw (suc-add, ← (add-suc i k)) (f (suc k) (omega arith))

      g' : Digits (suc i) es
      g' = λ k l. rw (suc-add, ← (add-suc i k)) (g (suc k) (omega arith))

      level : up d + dn y + 2 ^ w * (up (weighted (2 ^ w) ds) + dn (weighted (2 ^ w) es)) ≡ up y + dn d + 2 ^ w * (up (weighted (2 ^ w) es) + dn (weighted (2 ^ w) ds))
      level = omega (arith, cons-balance (2 ^ w) d ds, cons-balance (2 ^ w) y es)

      go : Dec (i + 1 < n) → Cancelled (up d + dn y) (up y + dn d) (up (weighted (2 ^ w) ds) + dn (weighted (2 ^ w) es)) (up (weighted (2 ^ w) es) + dn (weighted (2 ^ w) ds))
      go (yes h) =
          let r = digit_r-before i d h (rw add-zero at (f 0 (omega arith))) in
          let r' = digit_r-before i y h (rw add-zero at (g 0 (omega arith))) in
          cancel (2 ^ w) _ _ _ _ level (omega (arith, twice w w⁺)) (omega (arith, twice w w⁺))
      go (no h) =
          let r = past (suc i) ds (omega arith) f' in
          let r' = past (suc i) es (omega arith) g' in
          record { low = omega (arith, simp (r.0, r.1, r'.0, r'.1) at level); high = omega arith }

  -- two strings of one length and one sum whose digits keep the rule of R are one
  pub unique-r : 0 < w → (ds es : List ℤ) → ((i : ℕ) → i < length ds → T (digit_r w n top i (digit_at ds i))) → ((i : ℕ) → i < length es → T (digit_r w n top i (digit_at es i)))
      → length ds ≡ length es → weighted (2 ^ w) ds ≡ weighted (2 ^ w) es → ds ≡ es
  unfolding Digits
  unique-r w⁺ ds es f g l e = fixed w⁺ 0 ds es (λ k h. rw zero-add (f k h)) (λ k h. rw zero-add (g k h)) l (rw e refl)

-- R asks no spacing: digits that keep their own rule keep the rules
pub unspaced : (entries w : ℕ) {ds : List ℤ} → ((i : ℕ) → T (digit_r w (row w).digits (row w).top i (digit_at ds i))) → Keeps (form_r entries w) ds
unspaced entries w f = record { digits = λ i l. f i; spacing = λ i j l m u v. absurd (omega arith) }
