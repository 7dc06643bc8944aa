-- The recoder's loop as a walk over the places of a string: what holds at each place, and that a turn keeps it. Over the width and the number of digits. Assumes nothing.
use mathlib.Core.Path.{◌≡◌, refl, sym, ap, ◌∙◌}
use mathlib.Core.Logic.{◌≢◌}
use mathlib.Core.Bool.{false}
use mathlib.Core.List.{List, [], ◌∷◌, ◌++◌, append_assoc, append-nil}
use Prim.Native.Nat.{ℕ, zero, suc, ◌+◌, ◌-◌, ◌*◌, ◌/◌, ◌%◌, ◌^◌, ◌<◌, ◌≤◌}
use native.Mathlib.Nat.{div-one, add-zero, sub-zero, suc-sub-suc, one-mul, div-add-mod', mul_left_comm, mod-lt, pow-suc, le_refl}
use native.Mathlib.Numerals.{add-one}
use native.Mathlib.Omega.{arith}
use borrow.Author.Tests.{eq-eqb, ne_eqb}
use lib.Arith.{digits_div, digits_mod, lt_of_le-ne}
use lib.ListN.{length, take, drop, set, replicate, length-drop, length-set, length-replicate}
use lib.Seq.{take_all, take-suc, take-add, take-set-le, take-nil, drop-cons, get_or-set_same, get_or-set_other, drop-set-lt, lt-length-set, get_or-drop}
use lib.Pow.{pow_pos, shr-shr}
use lib.IntN.{ℤ, pos}
use Rattle.naf.specs.inner.Turns.{TakenN}
use Rattle.numbers.specs.Centred.{centred, carried}
use Rattle.numbers.proofs.Centred.{carried-bit}
use Rattle.numbers.proofs.Rounding.{twice}
use Rattle.rules.specs.Digits.{digit_at, is_zero, count, non_zeros}
use Rattle.rules.proofs.ZeroDigit.{odd-nonzero, replicate-zero}
use Rattle.rules.proofs.Tally.{ZeroFrom, count-zero, none-nonzero, count-put, non_zeros-put}
use Rattle.rules.proofs.RecoderN.{naf_of, naf_digit, naf_next, Step, halved, taken, step, fits_next, even_step}

-- ---- lists

-- zeros, cut
cut : (l : List ℤ) (k : ℕ) → ((i : ℕ) → digit_at l i ≡ pos 0) → take k l ≡ take (length l) (replicate k (pos 0))
cut [] zero f = refl
cut [] (suc k) f = refl
cut (x ∷ l) zero f = refl
cut (x ∷ l) (suc k) f = rw (f 0, cut l k (λ i. f (suc i)))

-- a digit stored, and k places more
stored : (l : List ℤ) (i k : ℕ) (d : ℤ) → i < length l → take (i + suc k) (set l i d) ≡ take i l ++ (d ∷ take k (drop (suc i) l))
stored l i k d h =
    let lt : i < length (set l i d) = lt-length-set l i d h in
    rw (take-add i (suc k) (set l i d), take-set-le i l i d (le_refl i), drop-cons (set l i d) i (pos 0) lt, get_or-set_same l i d (pos 0) h, drop-set-lt (suc i) l i d (le_refl (suc i)))

-- ---- the string of a number, place by place

module _ (g : ℕ) (g⁺ : 0 < g) where
  digit-even : (y : ℕ) → y % 2 ≡ 0 → naf_digit g y ≡ pos 0
  unfolding naf_digit
  digit-even y e = rw (eq-eqb (y % 2) 0 e)

  next-even : (y : ℕ) → y % 2 ≡ 0 → naf_next g y ≡ y / 2
  unfolding naf_next
  next-even y e = rw (eq-eqb (y % 2) 0 e)

  digit-odd : (y : ℕ) → y % 2 ≢ 0 → naf_digit g y ≡ centred (2 ^ g) (y % (2 * 2 ^ g))
  unfolding naf_digit
  digit-odd y o = rw (ne_eqb (y % 2) 0 o)

  next-odd : (y : ℕ) → y % 2 ≢ 0 → naf_next g y ≡ 2 ^ g * (y / (2 * 2 ^ g) + carried (2 ^ g) (y % (2 * 2 ^ g)))
  unfolding naf_next
  next-odd y o = rw (ne_eqb (y % 2) 0 o)

  naf_of-none : (y : ℕ) → naf_of g 0 y ≡ []
  unfolding naf_of
  naf_of-none y = refl

  naf_of-first : (n y : ℕ) → naf_of g (suc n) y ≡ naf_digit g y ∷ naf_of g n (naf_next g y)
  unfolding naf_of
  naf_of-first n y = refl

  nonzero-odd : (y : ℕ) → y % 2 ≢ 0 → is_zero (naf_digit g y) ≡ false
  nonzero-odd y o = go (step g g⁺ y)
    where
      go : {d : ℤ} {z : ℕ} → Step g y d z → is_zero d ≡ false
      go (halved e) = absurd (o (omega arith))
      go (taken {d} z p m e) = odd-nonzero d p

  -- a run of zeros that may reach past the end
  naf_of-run : (k n q : ℕ) → naf_of g n (2 ^ k * q) ≡ take n (replicate k (pos 0)) ++ naf_of g (n - k) q
  naf_of-run zero n q = let e : 1 * q ≡ q = one-mul q in rw (e, sub-zero n, take-nil n)
  naf_of-run (suc k) zero q = let e : 0 - suc k ≡ 0 = omega arith in rw (naf_of-none (2 ^ suc k * q), e, naf_of-none q)
  naf_of-run (suc k) (suc n) q =
      let s = even_step g g⁺ (2 ^ suc k * q) (2 ^ k * q) (step g g⁺ (2 ^ suc k * q)) (rw pow-suc (omega arith)) in
      naf_of-first n (2 ^ suc k * q) ∙ rw (s.0, s.1, naf_of-run k n q, suc-sub-suc)

  -- what is left fits into the places that are left
  fits-run : (k m q : ℕ) → 2 * (2 ^ k * q) ≤ 2 ^ m → 2 * q ≤ 2 ^ (m - k)
  fits-run zero m q h = let e : 1 * q ≡ q = one-mul q in rw sub-zero (omega arith)
  fits-run (suc k) zero q h =
      let e : 0 - suc k ≡ 0 - k = omega arith in
      rw e (fits-run k 0 q (omega (arith, rw pow-suc at h)))
  fits-run (suc k) (suc m) q h = rw suc-sub-suc (fits-run k m q (omega (arith, rw (pow-suc 2 k, pow-suc 2 m) at h)))

-- ---- a window and its carry, against the number above it

module _ (a c h x : ℕ) (hc : c ≤ 1) (hh : 0 < h) (ex : x ≡ a % (2 * h) + c) where
  whole : a + c ≡ a / (2 * h) * (2 * h) + x
  whole = omega (arith, div-add-mod' a (2 * h))

  parity : (a + c) % 2 ≡ x % 2
  parity =
      let e : a / (2 * h) * (2 * h) ≡ 2 * (a / (2 * h) * h) = mul_left_comm (a / (2 * h)) 2 h in
      omega (arith, whole)

  module _ (o : x % 2 ≢ 0) where
    below : x < 2 * h
    below =
        let m : a % (2 * h) < 2 * h = mod-lt a (omega arith) in
        lt_of_le-ne (omega arith) (λ e. o (rw e (omega arith)))

    low_part : (a + c) % (2 * h) ≡ x
    low_part = rw whole (digits_mod (a / (2 * h)) below)

    high_part : (a + c) / (2 * h) ≡ a / (2 * h)
    high_part = rw whole (digits_div (a / (2 * h)) below)

-- ---- the walk

-- At width w and with n digits, the string of x up to place `at`: from there on it is 0 so far, and what is left of x, with the carry, gives the rest.
pub record Walked (w n x at carry : ℕ) (ds : List ℤ) (counted added : ℕ) : Type 0 where
  pub long : length ds ≡ n
  pub bit : carry ≤ 1
  pub ahead : ZeroFrom at ds
  pub string : take at ds ++ naf_of (w - 1) (n - at) (x / 2 ^ at + carry) ≡ naf_of (w - 1) n x
  pub room : 2 * x ≤ 2 ^ n → 2 * (x / 2 ^ at + carry) ≤ 2 ^ (n - at)
  pub counts : counted ≡ count ds
  pub adds : added ≡ non_zeros ds

pub walk-starts : (w n x : ℕ) → Walked w n x 0 0 (replicate n (pos 0)) 0 0
walk-starts w n x =
    let e : x / 2 ^ 0 + 0 ≡ x = add-zero _ ∙ div-one x in
    let z : ZeroFrom 0 (replicate n (pos 0)) = λ i l. replicate-zero n i in
    record {
      long = length-replicate n (pos 0);
      bit = omega arith;
      ahead = z;
      string = rw (e, sub-zero n);
      room = rw (e, sub-zero n) (λ h. h);
      counts = sym (count-zero _ z);
      adds = sym (none-nonzero (replicate n (pos 0)) (λ i l. replicate-zero n i));
    }

-- a turn at place `at`, whose window with the carry is s
module _ {w n x at c : ℕ} {ds : List ℤ} {counted added : ℕ} (w⁺ : 2 ≤ w) (l : at < n) (p : Walked w n x at c ds counted added) (s : ℕ) (es : s ≡ x / 2 ^ at % 2 ^ w + c) where
  g⁺ : 0 < w - 1
  g⁺ = omega arith

  -- the places after this one
  rest : ℕ
  rest = n - suc at

  left : n - at ≡ suc rest
  unfolding rest
  left = omega arith

  seen : s ≡ x / 2 ^ at % (2 * 2 ^ (w - 1)) + c
  seen = es ∙ rw (twice w (omega arith))

  here : take at ds ++ (naf_digit (w - 1) (x / 2 ^ at + c) ∷ naf_of (w - 1) rest (naf_next (w - 1) (x / 2 ^ at + c))) ≡ naf_of (w - 1) n x
  here = rw (← naf_of-first (w - 1) g⁺ rest (x / 2 ^ at + c), ← left) p.string

  narrower : 2 * x ≤ 2 ^ n → 2 * naf_next (w - 1) (x / 2 ^ at + c) ≤ 2 ^ rest
  narrower h = fits_next (w - 1) g⁺ rest (x / 2 ^ at + c) (step (w - 1) g⁺ (x / 2 ^ at + c)) (rw left at (p.room h))

  inside : at < length ds
  inside = omega (arith, p.long)

  -- one place on
  pub walk-skips : s % 2 ≡ 0 → Walked w n x (at + 1) c ds counted added
  unfolding rest
  walk-skips e =
      let even : (x / 2 ^ at + c) % 2 ≡ 0 = parity (x / 2 ^ at) c (2 ^ (w - 1)) s p.bit (pow_pos (w - 1)) seen ∙ e in
      let half : (x / 2 ^ at + c) / 2 ≡ x / 2 ^ (at + 1) + c = rw (← shr-shr x at 1) (omega (arith, p.bit)) in
      let next = next-even (w - 1) g⁺ (x / 2 ^ at + c) even ∙ half in
      let m : n - (at + 1) ≡ n - suc at = omega arith in
      let t : take (at + 1) ds ≡ take at ds ++ (pos 0 ∷ []) = rw (add-one, take-suc ds at (pos 0) inside, p.ahead at (le_refl at)) in
      record {
        long = p.long;
        bit = p.bit;
        ahead = λ i h. p.ahead i (omega arith);
        string = rw (m, t, append_assoc) (rw (digit-even (w - 1) g⁺ (x / 2 ^ at + c) even, next) at here);
        room = λ h. rw (m, ← next) (narrower h);
        counts = p.counts;
        adds = p.adds;
      }

  -- a digit put, and past its window
  module _ {d : ℤ} {b : ℕ} (q : TakenN w s d b) where
    odd-here : (x / 2 ^ at + c) % 2 ≢ 0
    odd-here e = q.odd (sym (parity (x / 2 ^ at) c (2 ^ (w - 1)) s p.bit (pow_pos (w - 1)) seen) ∙ e)

    low : (x / 2 ^ at + c) % (2 * 2 ^ (w - 1)) ≡ s
    low = low_part (x / 2 ^ at) c (2 ^ (w - 1)) s p.bit (pow_pos (w - 1)) seen q.odd

    high : (x / 2 ^ at + c) / (2 * 2 ^ (w - 1)) ≡ x / 2 ^ (at + w)
    high = high_part (x / 2 ^ at) c (2 ^ (w - 1)) s p.bit (pow_pos (w - 1)) seen q.odd ∙ rw (← twice w (omega arith)) (shr-shr x at w)

    digit : naf_digit (w - 1) (x / 2 ^ at + c) ≡ d
    digit = digit-odd (w - 1) g⁺ (x / 2 ^ at + c) odd-here ∙ rw low (sym q.is)

    next : naf_next (w - 1) (x / 2 ^ at + c) ≡ 2 ^ (w - 1) * (x / 2 ^ (at + w) + b)
    next = next-odd (w - 1) g⁺ (x / 2 ^ at + c) odd-here ∙ rw (low, high, q.carries)

    -- the zeros that the digits after it are already
    zeros : take (w - 1) (drop (suc at) ds) ≡ take rest (replicate (w - 1) (pos 0))
    unfolding rest
    zeros =
        cut (drop (suc at) ds) (w - 1) (λ i. get_or-drop (suc at) ds i (pos 0) ∙ p.ahead (suc at + i) (omega arith))
        ∙ rw (length-drop, p.long)

    pub walk-takes : Walked w n x (at + w) b (set ds at d) (at + 1) (added + 1)
    unfolding rest
    walk-takes =
        let m : n - (at + w) ≡ n - suc at - (w - 1) = omega arith in
        let v : at + suc (w - 1) ≡ at + w = omega arith in
        let nonzero : is_zero d ≡ false = rw digit at (nonzero-odd (w - 1) g⁺ (x / 2 ^ at + c) odd-here) in
        let front : take (at + w) (set ds at d) ≡ take at ds ++ (d ∷ take (n - suc at) (replicate (w - 1) (pos 0))) = rw zeros at (rw v at (stored ds at (w - 1) d inside)) in
        record {
          long = length-set ds at d ∙ p.long;
          bit = rw q.carries (carried-bit (2 ^ (w - 1)) s);
          ahead = λ i h. get_or-set_other ds at i d (pos 0) (λ e. omega arith) ∙ p.ahead i (omega arith);
          string = rw (m, front, append_assoc, ← naf_of-run (w - 1) g⁺ (w - 1) (n - suc at) (x / 2 ^ (at + w) + b)) (rw (digit, next) at here);
          room = λ h. rw m (fits-run (w - 1) g⁺ (w - 1) (n - suc at) (x / 2 ^ (at + w) + b) (rw next at (narrower h)));
          counts = sym (count-put ds at d inside p.ahead nonzero);
          adds = ap (λ (k : ℕ). k + 1) p.adds ∙ sym (non_zeros-put ds at d inside (p.ahead at (le_refl at)) nonzero);
        }

-- ---- past the last place

module _ {w n x at c : ℕ} {ds : List ℤ} {counted added : ℕ} (w⁺ : 2 ≤ w) (p : Walked w n x at c ds counted added) (l : n ≤ at) where
  over : n - at ≡ 0
  over = omega arith

  pub walk_ends : ds ≡ naf_of (w - 1) n x
  walk_ends =
      sym (take_all at ds (omega (arith, p.long)))
      ∙ sym (append-nil _)
      ∙ rw (over, naf_of-none (w - 1) (omega arith) (x / 2 ^ at + c)) at p.string

  -- nothing is left of a number that leaves the top place free, and no carry
  pub nothing_left : 0 < n → x < 2 ^ (n - 1) → x / 2 ^ at + c ≡ 0
  nothing_left n⁺ h = omega (arith, rw over at (p.room (omega (arith, twice n n⁺))))
