-- Numbers written in a base: their digits, their size, and that they fix their digits. Assumes nothing.
use mathlib.Core.Path.{◌≡◌, refl, sym, ap, ap₂, ◌∙◌}
use mathlib.Core.List.{List, [], ◌∷◌, ◌++◌}
use Prim.Native.Nat.{ℕ, zero, suc, ◌+◌, ◌*◌, ◌/◌, ◌%◌, ◌^◌, ◌<◌, ◌≤◌}
use native.Mathlib.Nat.{zero-div, div-one, div-div-eq-div-mul, pow-zero, pow-suc, pow-succ', mul_comm, mul-zero, mul-le-mul_left, one-mul, zero-add, add-zero}
use native.Mathlib.Omega.{arith}
use lib.ListN.{length, get_or, drop, take}
use lib.Seq.{drop-nil, take-suc, length-take-le, take-length}
use lib.Arith.{digits_div, digits_mod}
use Rattle.numbers.specs.Positional.{positional}
use Rattle.numbers.specs.Total.{totalℕ}

-- every element is below b; past the end stands 0
abbrev pub Below : ℕ → List ℕ → Type 0
Below b ds = (k : ℕ) → get_or ds k 0 < b

-- the first digit, and the rest
pub first-mod : (b d : ℕ) (ds : List ℕ) → d < b → positional b (d ∷ ds) % b ≡ d
unfolding positional
first-mod b d ds h = let e : d + b * positional b ds ≡ positional b ds * b + d = omega (arith, mul_comm b (positional b ds)) in rw e (digits_mod (positional b ds) h)

pub first-div : (b d : ℕ) (ds : List ℕ) → d < b → positional b (d ∷ ds) / b ≡ positional b ds
unfolding positional
first-div b d ds h = let e : d + b * positional b ds ≡ positional b ds * b + d = omega (arith, mul_comm b (positional b ds)) in rw e (digits_div (positional b ds) h)

-- whole digits off
pub off : (b : ℕ) (ds : List ℕ) (i : ℕ) → Below b ds → positional b ds / b ^ i ≡ positional b (drop i ds)
unfolding positional
off b [] i f = rw (drop-nil i) (zero-div (b ^ i))
off b (d ∷ ds) zero f = rw (pow-zero b) (div-one _)
off b (d ∷ ds) (suc i) f = rw (pow-succ', ← div-div-eq-div-mul, first-div b d ds (f 0)) (off b ds i (λ k. f (suc k)))

-- one digit in front, also past the end
pub front : (b : ℕ) (ds : List ℕ) (i : ℕ) → positional b (drop i ds) ≡ get_or ds i 0 + b * positional b (drop (suc i) ds)
unfolding positional
front b [] zero = rw (mul-zero b)
front b [] (suc i) = rw (mul-zero b)
front b (d ∷ ds) zero = refl
front b (d ∷ ds) (suc i) = front b ds i

-- digit i, read off the number
pub digit-of : (b : ℕ) (ds : List ℕ) (i : ℕ) → Below b ds → positional b ds / b ^ i % b ≡ get_or ds i 0
digit-of b ds i f = let e : get_or ds i 0 + b * positional b (drop (suc i) ds) ≡ positional b (drop (suc i) ds) * b + get_or ds i 0 = omega (arith, mul_comm b (positional b (drop (suc i) ds))) in
    rw (off b ds i f, front b ds i, e) (digits_mod (positional b (drop (suc i) ds)) (f i))

-- n digits stay below b^n
pub size : (b : ℕ) (ds : List ℕ) → Below b ds → positional b ds < b ^ length ds
unfolding positional
size b [] f = rw pow-zero (omega arith)
size b (d ∷ ds) f = rw pow-suc (omega (arith, f 0, mul-le-mul_left b (size b ds (λ k. f (suc k))), mul_comm b (b ^ length ds)))

-- of one length, the number fixes the digits
pub same_digits : (b : ℕ) (ds es : List ℕ) → Below b ds → Below b es → length ds ≡ length es → positional b ds ≡ positional b es → ds ≡ es
same_digits b [] [] f g l e = refl
same_digits b [] (x ∷ es) f g l e = absurd (omega arith)
same_digits b (d ∷ ds) [] f g l e = absurd (omega arith)
same_digits b (d ∷ ds) (x ∷ es) f g l e =
    ap₂ (λ (y : ℕ) (ys : List ℕ). y ∷ ys)
    (sym (first-mod b d ds (f 0)) ∙ ap (λ (n : ℕ). n % b) e ∙ first-mod b x es (g 0))
    (same_digits b ds es (λ k. f (suc k)) (λ k. g (suc k)) (omega arith) (sym (first-div b d ds (f 0)) ∙ ap (λ (n : ℕ). n / b) e ∙ first-div b x es (g 0)))

-- one list after the other
pub append : (b : ℕ) (xs ys : List ℕ) → positional b (xs ++ ys) ≡ positional b xs + b ^ length xs * positional b ys
unfolding positional
append b [] ys = rw (pow-zero, one-mul, zero-add)
append b (x ∷ xs) ys = omega (arith, ap (λ (n : ℕ). b * n) (append b xs ys), ap (λ (n : ℕ). n * positional b ys) (pow-suc b (length xs)))

-- written out: digit i counts b^i
pub up_to : (b : ℕ) (ds : List ℕ) (n : ℕ) → n ≤ length ds → positional b (take n ds) ≡ totalℕ (λ i. get_or ds i 0 * b ^ i) n
unfolding positional totalℕ
up_to b ds zero h = refl
up_to b ds (suc n) h =
    let l : n < length ds = h in
    let l' : n ≤ length ds = omega arith in
    rw (take-suc ds n 0 l, append b (take n ds) (get_or ds n 0 ∷ []), length-take-le n ds l', up_to b ds n l', mul-zero b, add-zero, mul_comm (b ^ n) (get_or ds n 0))

pub spelled_out : (b : ℕ) (ds : List ℕ) → positional b ds ≡ totalℕ (λ i. get_or ds i 0 * b ^ i) (length ds)
spelled_out b ds = rw (← up_to b ds (length ds) (omega arith), take-length ds)
