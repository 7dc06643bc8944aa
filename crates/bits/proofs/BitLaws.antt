-- The 256 bits and the 32 bytes of a scalar fix each other, and what an element of `bits_le` and `from_bits_le` and a turn of `byte_of` add. Assumes nothing.
use mathlib.Core.Path.{◌≡◌, refl, sym, ap, subst, ◌∙◌}
use mathlib.Core.Bool.{Bool, true, false}
use mathlib.Core.List.{List, [], ◌∷◌, map, reverse}
use Prim.Native.Nat.{ℕ, zero, suc, ◌+◌, ◌-◌, ◌*◌, ◌/◌, ◌%◌, ◌^◌, ◌<◌}
use native.Mathlib.Nat.{mod-lt}
use native.Mathlib.Omega.{arith}
use lib.Dec.{eqb, lit<}
use lib.ListN.{length, get_or, take, drop, length-map, get_or-map}
use lib.Seq.{ext_get_or}
use Rattle.std.specs.List.{fold, slice_range}
use Rattle.std.proofs.lemmas.List.{reverse-append, drop-map, take-map}
use Rattle.std.proofs.lemmas.List.Sums.{fold-append}
use Rattle.rules.specs.Integer.{integer, Bytes}
use Rattle.numbers.specs.Positional.{positional}
use Rattle.numbers.proofs.Positional.{Below, size, digit-of, same_digits}
use Rattle.numbers.proofs.Digits.{of-digits, grouped}
use Rattle.numbers.proofs.Rounding.{twice}
use Rattle.numbers.proofs.Windows.{inside}
use Rattle.bits.specs.BitNumber.{bit_number}
use Rattle.bits.specs.Bits.{BitsOf, binary_digit}

-- a bit, its number, and back

bit-back : (b : Bool) → eqb (bit_number b) 1 ≡ b
bit-back false = refl
bit-back true = refl

bit-small : (b : Bool) → bit_number b < 2
bit-small false = lit< tt
bit-small true = lit< tt

number-back : (n : ℕ) → n < 2 → bit_number (eqb n 1) ≡ n
number-back zero h = refl
number-back (suc zero) h = refl
number-back (suc (suc n)) h = absurd (omega arith)

-- the bits as digits in base 2
abbrev pub digits : List Bool → List ℕ
digits bits = map bit_number bits

digit-at : (bits : List Bool) (i : ℕ) → get_or (digits bits) i 0 ≡ bit_number (get_or bits i false)
digit-at bits i = get_or-map bit_number bits i false

digits-small : (bits : List Bool) → Below 2 (digits bits)
digits-small bits i = rw (digit-at bits i) (bit-small (get_or bits i false))

-- The sum of the bits, bit i times 2^i, is the integer.
pub implies-bits-sum : (bytes : List ℕ) (bits : List Bool) → Bytes 32 bytes → BitsOf bytes bits → positional 2 (map bit_number bits) ≡ integer bytes
implies-bits-sum bytes bits b p =
    of-digits 2 (digits bits) (integer bytes) (lit< tt)
    (rw (length-map, p.long) (subst (λ (n : ℕ). integer bytes < 256 ^ n) b.long (size 256 bytes b.small)))
    (λ i h. digit-at bits i ∙ ap bit_number (p.each i (rw (length-map, p.long) at h)) ∙ number-back _ (mod-lt _ (lit< tt)))

-- The bytes fix the bits. `bits_le` and `from_bits_le` keep one promise, so this is also the round trip from bits to bytes to bits.
pub bits-determined : (bytes : List ℕ) (bits bits' : List Bool) → BitsOf bytes bits → BitsOf bytes bits' → bits ≡ bits'
bits-determined bytes bits bits' p q = ext_get_or false bits bits' (p.long ∙ sym q.long) (λ i h. p.each i (omega arith) ∙ sym (q.each i (omega arith)))

-- The bits fix the bytes. This is also the round trip from bytes to bits to bytes.
pub from-bits-le-determined : (bs bs' : List ℕ) (bits : List Bool) → Bytes 32 bs → Bytes 32 bs' → BitsOf bs bits → BitsOf bs' bits → bs ≡ bs'
from-bits-le-determined bs bs' bits b b' p q =
    same_digits 256 bs bs' b.small b'.small (b.long ∙ sym b'.long) (sym (implies-bits-sum bs bits b p) ∙ implies-bits-sum bs' bits b' q)

-- an element of `bits_le`: the binary digit at a place is that of its byte
pub digit-in-byte : (bytes : List ℕ) (at : ℕ) → Below 256 bytes → binary_digit (get_or bytes (at / 8) 0) (at % 8) ≡ binary_digit (integer bytes) at
digit-in-byte bytes at f =
    let e : 8 * (at / 8) + at % 8 ≡ at = omega arith in
    ap (λ (n : ℕ). eqb n 1) (sym (inside 8 bytes (at / 8) (at % 8) 1 f (omega arith)) ∙ ap (λ (n : ℕ). integer bytes / 2 ^ n % 2) e)

-- the eight bits from place `at` up
abbrev pub eight : List Bool → ℕ → List Bool
eight bits at = slice_range bits at (at + 8)

eight-digits : (bits : List Bool) (at : ℕ) → digits (eight bits at) ≡ take 8 (drop at (digits bits))
eight-digits bits at =
    let e : at + 8 - at ≡ 8 = omega arith in
    rw (e, drop-map, take-map) refl

-- `byte_of` reads bits from the top down
pub from-top : (bits : List Bool) → fold (λ (a : ℕ) (b : Bool). 2 * a + bit_number b) 0 (reverse bits) ≡ positional 2 (digits bits)
unfolding positional
from-top [] = refl
from-top (b ∷ bits) =
    let step = λ (a : ℕ) (b : Bool). 2 * a + bit_number b in
    ap (fold step 0) (reverse-append (b ∷ []) bits) ∙ fold-append step 0 (reverse bits) (b ∷ []) ∙ omega (arith, from-top bits)

-- .. and its number so far is as small as the bits passed allow
pub bit-more : (n a : ℕ) (b : Bool) → a < 2 ^ n → 2 * a + bit_number b < 2 ^ (n + 1)
bit-more n a b h =
    let m : n + 1 - 1 ≡ n = omega arith in
    omega (arith, bit-small b, rw m at (twice (n + 1) (omega arith)))

-- bytes made of eight bits each have those bits
pub bits-of-eights : (bytes : List ℕ) (bits : List Bool) → length bytes ≡ 32 → length bits ≡ 256 → ((k : ℕ) → k < 32 → get_or bytes k 0 ≡ positional 2 (digits (eight bits (8 * k)))) → BitsOf bytes bits
bits-of-eights bytes bits l m f =
    let e : integer bytes ≡ positional 2 (digits bits) = grouped 2 8 bytes (digits bits) (length-map bits bit_number ∙ m ∙ ap (λ (n : ℕ). 8 * n) (sym l)) (λ k h. f k (omega arith) ∙ ap (positional 2) (eight-digits bits (8 * k))) in
    record {
      long = m;
      each = λ i h. sym (rw (e, digit-of 2 (digits bits) i (digits-small bits), digit-at bits i) (bit-back _));
    }
