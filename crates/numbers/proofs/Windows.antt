-- A window of bits of a number written in base 2^s, read from two neighbouring digits. Assumes nothing.
use mathlib.Core.Path.{◌≡◌, sym, ap, subst, ◌∙◌}
use mathlib.Core.List.{List}
use Prim.Native.Nat.{ℕ, zero, suc, ◌+◌, ◌-◌, ◌*◌, ◌/◌, ◌%◌, ◌^◌, ◌<◌, ◌≤◌}
use native.Mathlib.Nat.{pow-zero, pow-succ', add-mul-mod_self_left, add-mul-div_left, mul_assoc, mul_comm, mul-zero, mul-add, mul-mod_left}
use native.Mathlib.Omega.{arith}
use lib.ListN.{get_or, drop}
use lib.Pow.{pow-add, pow_pos, shr-shr, shr_lt, field, shl-shr, mod-pow-add, split, shl_exact}
use lib.Bits.{bit_or, or_shifted_r}
use Rattle.numbers.specs.Positional.{positional}
use Rattle.numbers.proofs.Positional.{Below, off, front}

pub pow-pow : (s i : ℕ) → (2 ^ s) ^ i ≡ 2 ^ (s * i)
pow-pow s zero = rw (pow-zero (2 ^ s), mul-zero s)
pow-pow s (suc i) =
    let e : s * suc i ≡ s + s * i = omega (arith, mul_comm s (suc i), mul_comm s i) in
    rw (pow-succ', pow-pow s i, e) (sym (pow-add 2 s (s * i)))

-- what lies above b + w bits does not matter
pub low : (v r w t : ℕ) → w ≤ t → (v + 2 ^ t * r) % 2 ^ w ≡ v % 2 ^ w
low v r w t l =
    let e : t ≡ w + (t - w) = omega arith in
    let g : 2 ^ t * r ≡ 2 ^ w * (2 ^ (t - w) * r) = ap (λ (n : ℕ). 2 ^ n * r) e ∙ ap (λ (n : ℕ). n * r) (pow-add 2 w (t - w)) ∙ mul_assoc _ _ _ in
    rw (g, add-mul-mod_self_left)

above : (v r b w t : ℕ) → b + w ≤ t → (v + 2 ^ t * r) / 2 ^ b % 2 ^ w ≡ v / 2 ^ b % 2 ^ w
above v r b w t l = sym (field _ w b) ∙ ap (λ (n : ℕ). n / 2 ^ b) (low v r (w + b) t (omega arith)) ∙ field v w b

-- the window at bit b of digit i, where it ends inside the digit
pub inside : (s : ℕ) (ds : List ℕ) (i b w : ℕ) → Below (2 ^ s) ds → b + w ≤ s → positional (2 ^ s) ds / 2 ^ (s * i + b) % 2 ^ w ≡ get_or ds i 0 / 2 ^ b % 2 ^ w
inside s ds i b w f l = rw (← shr-shr, ← pow-pow, off (2 ^ s) ds i f, front (2 ^ s) ds i) (above (get_or ds i 0) (positional (2 ^ s) (drop (suc i) ds)) b w s l)

-- the window at bit b of digit i, from the digits i and i + 1
pub window : (s : ℕ) (ds : List ℕ) (i b w : ℕ) → Below (2 ^ s) ds → b + w ≤ s + s → positional (2 ^ s) ds / 2 ^ (s * i + b) % 2 ^ w ≡ (get_or ds i 0 + 2 ^ s * get_or ds (i + 1) 0) / 2 ^ b % 2 ^ w
window s ds i b w f l =
    let r = positional (2 ^ s) (drop (suc (suc i)) ds) in
    let x = get_or ds i 0 in
    let y = get_or ds (suc i) 0 in
    let e : i + 1 ≡ suc i = omega arith in
    let m : 2 ^ s * (y + 2 ^ s * r) ≡ 2 ^ s * y + 2 ^ (s + s) * r = rw pow-add (omega (arith, mul_assoc (2 ^ s) (2 ^ s) r, mul-add (2 ^ s) y (2 ^ s * r))) in
    let n : x + 2 ^ s * (y + 2 ^ s * r) ≡ (x + 2 ^ s * y) + 2 ^ (s + s) * r = omega arith in
    rw (e, ← shr-shr, ← pow-pow, off (2 ^ s) ds i f, front (2 ^ s) ds i, front (2 ^ s) ds (suc i), n) (above (x + 2 ^ s * y) r b w (s + s) l)

-- 1 << w, at a width of k bits
pub one_shl : (k w : ℕ) → w < k → (1 * 2 ^ w) % 2 ^ k ≡ 2 ^ w
one_shl k w l = shl_exact 1 w k (omega arith) (omega arith) ∙ omega arith

pub one-shl-pos : (k w : ℕ) → w < k → 0 < (1 * 2 ^ w) % 2 ^ k
one-shl-pos k w l = rw (one_shl k w l) (pow_pos w)

-- two words put together by shifts and an or, where what the left shift loses lies above the window
pub joined : (x y b w k : ℕ) → x < 2 ^ k → b ≤ k → w ≤ k → bit_or (x / 2 ^ b) ((y * 2 ^ (k - b)) % 2 ^ k) % 2 ^ w ≡ (x + 2 ^ k * y) / 2 ^ b % 2 ^ w
joined x y b w k hx hb hw =
    let h = k - b in
    let e : k ≡ b + h = omega arith in
    let e' : k ≡ h + b = omega arith in
    let lo : x / 2 ^ b < 2 ^ h = shr_lt h b (subst (λ (n : ℕ). x < 2 ^ n) e' hx) in
    let hi : (y * 2 ^ h) % 2 ^ (b + h) ≡ (y % 2 ^ b) * 2 ^ h = mod-pow-add (y * 2 ^ h) b h ∙ rw (shl-shr y h, mul-mod_left y (2 ^ h)) (omega arith) in
    let q : (x + 2 ^ (b + h) * y) / 2 ^ b ≡ x / 2 ^ b + 2 ^ h * y = rw (pow-add, mul_assoc) (add-mul-div_left x (2 ^ h * y) (pow_pos b)) in
    let u : 2 ^ h * (y / 2 ^ b * 2 ^ b) ≡ 2 ^ (h + b) * (y / 2 ^ b) = rw (pow-add, mul_assoc, mul_comm (y / 2 ^ b) (2 ^ b)) in
    let r : 2 ^ h * y ≡ 2 ^ h * (y / 2 ^ b * 2 ^ b) + 2 ^ h * (y % 2 ^ b) = ap (λ (n : ℕ). 2 ^ h * n) (sym (split y b)) ∙ mul-add _ _ _ in
    let t : x / 2 ^ b + 2 ^ h * y ≡ (y % 2 ^ b * 2 ^ h + x / 2 ^ b) + 2 ^ (h + b) * (y / 2 ^ b) = omega (arith, mul_comm (2 ^ h) (y % 2 ^ b)) in
    ap (λ (n : ℕ). bit_or (x / 2 ^ b) ((y * 2 ^ h) % 2 ^ n) % 2 ^ w) e
    ∙ ap (λ (n : ℕ). n % 2 ^ w) (ap (bit_or (x / 2 ^ b)) hi ∙ or_shifted_r (y % 2 ^ b) h (x / 2 ^ b) lo)
    ∙ sym (low (y % 2 ^ b * 2 ^ h + x / 2 ^ b) (y / 2 ^ b) w (h + b) (omega arith))
    ∙ ap (λ (n : ℕ). n % 2 ^ w) (sym (ap (λ (n : ℕ). (x + 2 ^ n * y) / 2 ^ b) e ∙ q ∙ t))
