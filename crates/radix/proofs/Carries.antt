-- Radix 2^w as a loop goes through it: each digit from its window and the carry from below. The digits are those of the recoder's string. Over the width. Assumes nothing.
use mathlib.Core.Path.{◌≡◌, refl, sym, ap, ◌∙◌}
use mathlib.Core.List.{List}
use Prim.Native.Nat.{ℕ, zero, suc, ◌+◌, ◌-◌, ◌*◌, ◌/◌, ◌%◌, ◌^◌, ◌≤◌, ◌<◌}
use native.Mathlib.Nat.{div-add-mod, div-one, mod-lt, mod-eq_of_lt, mul-add, mul-suc, mul-zero, pow-zero, pow-suc, zero-add, add-zero}
use native.Mathlib.Decide.{dec_lt}
use native.Mathlib.Omega.{arith}
use lib.ListN.{length, replicate, set, length-set, length-replicate}
use lib.Seq.{ext_get_or, get_or-set_same, get_or-set_other}
use lib.Pow.{pow_pos, shr-shr}
use lib.IntN.{ℤ, pos}
use Rattle.numbers.specs.Centred.{centred, carried}
use Rattle.numbers.proofs.Centred.{centred-is, carried-bit}
use Rattle.numbers.proofs.Balance.{up, dn, same}
use Rattle.numbers.proofs.Rounding.{twice, cancel}
use Rattle.numbers.proofs.Filled.{Filled, filled_more}
use Rattle.rules.specs.Digits.{digit_at}
use Rattle.rules.proofs.ZeroDigit.{replicate-zero}
use Rattle.rules.proofs.RecoderR.{radix_digit, radix_next, radix_of, radix-step, fits-above, radix_of-length}

-- what the digits below index i of x carry into it
unfoldable pub carry_into : ℕ → ℕ → ℕ → ℕ
carry_into w x zero = 0
carry_into w x (suc i) = carried (2 ^ (w - 1)) (x / 2 ^ (w * i) % 2 ^ w + carry_into w x i)

-- what digit i is made of: its window and that carry
abbrev pub seen : ℕ → ℕ → ℕ → ℕ
seen w x i = x / 2 ^ (w * i) % 2 ^ w + carry_into w x i

-- what is left of x for the digits from i up
abbrev pub left : ℕ → ℕ → ℕ → ℕ
left w x i = x / 2 ^ (w * i) + carry_into w x i

pub carry-bit : (w x i : ℕ) → carry_into w x i ≤ 1
unfolding carry_into
carry-bit w x zero = omega arith
carry-bit w x (suc i) = carried-bit (2 ^ (w - 1)) (seen w x i)

-- the lowest digit of what is left, and what is left above it
pub record CarryTurn (w x i : ℕ) : Type 0 where
  pub digit : radix_digit w (left w x i) ≡ centred (2 ^ (w - 1)) (seen w x i)
  pub next : radix_next w (left w x i) ≡ left w x (suc i)

-- a loop has made the digits below i and their carry, and from i up all is 0
pub record Recoding (w x i : ℕ) (ds : List ℤ) (carry : ℕ) : Type 0 where
  pub long : length ds ≡ 64
  pub digits : Filled (pos 0) (λ k. centred (2 ^ (w - 1)) (seen w x k)) i ds
  pub zeros : (k : ℕ) → i ≤ k → digit_at ds k ≡ pos 0
  pub carries : carry ≡ carry_into w x i
  pub bit : carry ≤ 1

module _ (w x : ℕ) (w⁺ : 0 < w) where
  pub seen-fits : (i : ℕ) → seen w x i ≤ 2 ^ w
  seen-fits i = omega (arith, mod-lt (x / 2 ^ (w * i)) {m = 2 ^ w} (pow_pos w), carry-bit w x i)

  pub turn : (i : ℕ) → CarryTurn w x i
  unfolding carry_into
  turn i =
      let h = 2 ^ (w - 1) in
      let a = x / 2 ^ (w * i) in
      let d = centred h (seen w x i) in
      let c = carried h (seen w x i) in
      let d' = radix_digit w (left w x i) in
      let s = radix-step w w⁺ (left w x i) in
      let t = centred-is h (seen w x i) (pow_pos (w - 1)) (omega (arith, twice w w⁺, seen-fits i)) in
      let level : up d + dn d' + 2 ^ w * (a / 2 ^ w + c) ≡ up d' + dn d + 2 ^ w * radix_next w (left w x i) =
      omega (arith, rw (← twice w w⁺) at t.total, s.total, div-add-mod a (2 ^ w), mul-add (2 ^ w) (a / 2 ^ w) c) in
      let r = cancel (2 ^ w) _ _ _ _ level (omega (arith, twice w w⁺, s.digit.above, t.below)) (omega (arith, twice w w⁺, s.digit.below, t.above)) in
      let p : a / 2 ^ w ≡ x / 2 ^ (w * suc i) = shr-shr x (w * i) w ∙ ap (λ (n : ℕ). x / 2 ^ n) (sym (mul-suc w i)) in
      record { digit = sym (same d d' r.low); next = sym r.high ∙ ap (λ (n : ℕ). n + c) p }

  -- ---- the string, from digit i up

  string-before : (pad m i k : ℕ) → k < m → digit_at (radix_of w pad m (left w x i)) k ≡ centred (2 ^ (w - 1)) (seen w x (i + k))
  unfolding radix_of
  string-before pad zero i k h = absurd (omega arith)
  string-before pad (suc m) i zero h = (turn i).digit ∙ rw add-zero
  string-before pad (suc m) i (suc k) h = let e : i + suc k ≡ suc i + k = omega arith in rw ((turn i).next, e) (string-before pad m (suc i) k (omega arith))

  string-last : (pad m i : ℕ) → digit_at (radix_of w pad m (left w x i)) m ≡ pos (left w x (i + m))
  unfolding radix_of
  string-last pad zero i = rw add-zero
  string-last pad (suc m) i = let e : i + suc m ≡ suc i + m = omega arith in rw ((turn i).next, e) (string-last pad m (suc i))

  string-past : (pad m y k : ℕ) → m < k → digit_at (radix_of w pad m y) k ≡ pos 0
  unfolding radix_of
  string-past pad m y zero h = absurd (omega arith)
  string-past pad zero y (suc k) h = replicate-zero pad k
  string-past pad (suc m) y (suc k) h = string-past pad m (radix_next w y) k (omega arith)

  -- with `next` of a turn: what is left is what `radix_next` leaves, step by step
  pub left-none : left w x 0 ≡ x
  unfolding carry_into
  left-none = rw (mul-zero w, pow-zero, div-one) (omega arith)

  -- what is left for digit m fits it where x fits
  left-fits : (c m i : ℕ) → left w x i ≤ c * (2 ^ w) ^ m → left w x (i + m) ≤ c
  left-fits c zero i h = rw add-zero (omega (arith, rw (pow-zero (2 ^ w)) at h))
  left-fits c (suc m) i h =
      let e : i + suc m ≡ suc i + m = omega arith in
      rw e
      (left-fits c m (suc i) (rw (← (turn i).next) (fits-above w w⁺ (left w x i) (c * (2 ^ w) ^ m) (radix-step w w⁺ (left w x i)) (omega (arith, rw (pow-suc (2 ^ w) m) at h)))))

  pub last_fits : (c m : ℕ) → x ≤ c * (2 ^ w) ^ m → left w x m ≤ c
  last_fits c m h = rw zero-add at (left-fits c m 0 (rw left-none h))

  -- ---- the loop

  pub recoding-none : Recoding w x 0 (replicate 64 (pos 0)) 0
  unfolding carry_into
  recoding-none = record { long = length-replicate 64 (pos 0); digits = λ k h. absurd (omega arith); zeros = λ k h. replicate-zero 64 k; carries = refl; bit = omega arith }

  -- a turn: the digit of the window and the carry is stored, and its carry is kept
  pub recoding-more : (i : ℕ) (ds : List ℤ) (c window : ℕ) (d : ℤ) (c' : ℕ) → i < 64 → Recoding w x i ds c → window ≡ x / 2 ^ (w * i) % 2 ^ w
      → d ≡ centred (2 ^ (w - 1)) (window + c) → c' ≡ carried (2 ^ (w - 1)) (window + c) → Recoding w x (i + 1) (set ds i d) c'
  unfolding carry_into
  recoding-more i ds c window d c' l r e ed ec =
      let s : window + c ≡ seen w x i = omega (arith, r.carries) in
      let n : i + 1 ≡ suc i = omega arith in
      record {
        long = length-set ds i d ∙ r.long;
        digits = filled_more (pos 0) (λ k. centred (2 ^ (w - 1)) (seen w x k)) i ds d (omega (arith, r.long)) r.digits (ed ∙ ap (centred (2 ^ (w - 1))) s);
        zeros = λ k h. get_or-set_other ds i k d (pos 0) (λ p. omega arith) ∙ r.zeros k (omega arith);
        carries = ec ∙ ap (carried (2 ^ (w - 1))) s ∙ ap (carry_into w x) (sym n);
        bit = rw ec (carried-bit (2 ^ (w - 1)) (window + c));
      }

  -- the last digit: its window and the carry, which is all that is left of x
  module _ (m : ℕ) (ds : List ℤ) (c window top : ℕ) (l : m < 64) (r : Recoding w x m ds c) (e : window ≡ x / 2 ^ (w * m) % 2 ^ w) (fits : x ≤ top * (2 ^ w) ^ m) (low : top < 2 ^ w) where
    rest : window + c ≡ left w x m
    rest = let h = last_fits top m fits in let n : x / 2 ^ (w * m) < 2 ^ w = omega arith in omega (arith, e, mod-eq_of_lt n, r.carries)

    pub recoding-top : window + c ≤ top
    recoding-top = rw rest (last_fits top m fits)

    pub recoding-last : set ds m (pos (window + c)) ≡ radix_of w (63 - m) m x
    recoding-last =
        rw rest
        (ext_get_or (pos 0) (set ds m (pos (left w x m))) (radix_of w (63 - m) m x) (length-set ds m (pos (left w x m)) ∙ omega (arith, r.long, radix_of-length w w⁺ (63 - m) m x))
        (λ k h. go k (dec_lt k m) (dec_lt m k)))
      where
        go : (k : ℕ) → Dec (k < m) → Dec (m < k) → digit_at (set ds m (pos (left w x m))) k ≡ digit_at (radix_of w (63 - m) m x) k
        go k (yes a) b = get_or-set_other ds m k _ (pos 0) (λ p. omega arith) ∙ r.digits k a ∙ sym (rw (left-none, zero-add) at (string-before (63 - m) m 0 k a))
        go k (no a) (yes b) = get_or-set_other ds m k _ (pos 0) (λ p. omega arith) ∙ r.zeros k (omega arith) ∙ sym (string-past (63 - m) m x k b)
        go k (no a) (no b) = let p : k ≡ m = omega arith in rw p (get_or-set_same ds m _ (pos 0) (omega (arith, r.long)) ∙ sym (rw (left-none, zero-add) at (string-last (63 - m) m 0)))
