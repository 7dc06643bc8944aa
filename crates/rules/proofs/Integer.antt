-- Of one length, the integer fixes the bytes; every integer that fits has bytes; and the last byte tells whether it fits. Assumes nothing.
use Prim.Native.Nat.{ℕ, zero, suc, ◌+◌, ◌*◌, ◌/◌, ◌%◌, ◌^◌, ◌<◌, ◌≤◌}
use mathlib.Core.Path.{◌≡◌, refl, sym, ap, ◌∙◌}
use mathlib.Core.Logic.{◌↔◌}
use mathlib.Core.List.{List, [], ◌∷◌}
use native.Mathlib.Nat.{div-add-mod, div-lt_iff_lt-mul, mod-lt, pow-suc, mul-le-mul_right}
use native.Mathlib.Omega.{arith}
use lib.ListN.{length, get_or}
use lib.Pow.{pow-add, pow_mono}
use mir.Syntax.{w8}
use mir.Val.{Fits}
use Rattle.numbers.specs.Positional.{positional}
use Rattle.numbers.proofs.Positional.{same_digits}
use Rattle.numbers.proofs.TopDigit.{top_below}
use Rattle.numbers.proofs.Windows.{pow-pow}
use Rattle.rules.specs.Integer.{integer, Bytes}

pub integer-determines : {n : ℕ} {bs cs : List ℕ} → Bytes n bs → Bytes n cs → integer bs ≡ integer cs → bs ≡ cs
integer-determines {bs} {cs} p q e = same_digits 256 bs cs p.small q.small (p.long ∙ sym q.long) e

-- an array of n bytes, by what its type says of its length and its elements
pub array-bytes : {n : ℕ} {bs : List ℕ} → length bs ≡ n → ((k : ℕ) → Fits w8 (get_or bs k 0)) → Bytes n bs
array-bytes l f = record { long = l; small = λ k. (f k).fits }

-- ---- every integer below 256^n is that of n bytes

pub record Spelled (n x : ℕ) : Type 0 where
  pub bytes : List ℕ
  pub are : Bytes n bytes
  pub spell : integer bytes ≡ x

pub spelled : (n x : ℕ) → x < 256 ^ n → Spelled n x
unfolding positional
spelled zero x h = record { bytes = []; are = record { long = refl; small = λ k. omega arith }; spell = omega arith }
spelled (suc n) x h = go (spelled n (x / 256) ((div-lt_iff_lt-mul {x = x} {y = 256 ^ n} (omega arith)).1 (omega (arith, rw (pow-suc 256 n) at h))))
  where
    each : (bs : List ℕ) → ((k : ℕ) → get_or bs k 0 < 256) → (k : ℕ) → get_or (x % 256 ∷ bs) k 0 < 256
    each bs f zero = mod-lt x (omega arith)
    each bs f (suc k) = f k

    go : Spelled n (x / 256) → Spelled (suc n) x
    go s = record {
      bytes = x % 256 ∷ s.bytes;
      are = record { long = ap suc s.are.long; small = each s.bytes s.are.small };
      spell = omega (arith, s.spell, div-add-mod x 256);
    }

-- ---- k bits, in bytes: those below the last are full, and the last has k % 8

bits-split : (k : ℕ) → 2 ^ k ≡ 2 ^ (k % 8) * 256 ^ (k / 8)
bits-split k =
    let e : k ≡ k % 8 + 8 * (k / 8) = omega (arith, div-add-mod k 8) in
    ap (λ (j : ℕ). 2 ^ j) e ∙ pow-add 2 (k % 8) (8 * (k / 8)) ∙ ap (λ (j : ℕ). 2 ^ (k % 8) * j) (sym (pow-pow 8 (k / 8)))

pub last_byte : (k : ℕ) {bs : List ℕ} → Bytes (k / 8 + 1) bs → (get_or bs (k / 8) 0 < 2 ^ (k % 8)) ↔ (integer bs < 2 ^ k)
last_byte k {bs} p = rw (bits-split k) (top_below 256 bs (k / 8) (omega (arith, p.long)) p.small (2 ^ (k % 8)))

-- of 32 bytes: byte 31 tells whether the top bit is free
pub byte-31 : {bs : List ℕ} → Bytes 32 bs → (get_or bs 31 0 ≤ 127) ↔ (integer bs < 2 ^ 255)
byte-31 {bs} p =
    let h : (get_or bs 31 0 < 128) ↔ (integer bs < 2 ^ 255) = last_byte 255 p in
    (λ l. h.0 (omega arith), λ l. omega (arith, h.1 l))

pub bits-held : (k : ℕ) → 2 ^ k ≤ 256 ^ (k / 8 + 1)
bits-held k =
    let m : 2 ^ (k % 8) ≤ 256 = pow_mono {i = k % 8} {j = 8} (omega (arith, mod-lt k {m = 8} (omega arith))) in
    let e : k / 8 + 1 ≡ suc (k / 8) = omega arith in
    rw (bits-split k, e, pow-suc 256 (k / 8)) (omega (arith, mul-le-mul_right (256 ^ (k / 8)) m))
