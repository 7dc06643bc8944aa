-- A number from its digits: they fix it, and groups of them are the digits in a larger base. Assumes nothing.
use mathlib.Core.Path.{◌≡◌, refl, sym, ap, ◌∙◌}
use mathlib.Core.List.{List, [], ◌∷◌}
use Prim.Native.Nat.{ℕ, zero, suc, ◌+◌, ◌*◌, ◌/◌, ◌%◌, ◌^◌, ◌<◌, ◌≤◌}
use native.Mathlib.Nat.{div-one, div-div-eq-div-mul, pow-zero, pow-suc, pow-succ', mod-one, mod-eq_of_lt, mul_comm, mul-pos, mul-zero, mul-suc}
use native.Mathlib.Omega.{arith}
use lib.ListN.{length, get_or, take, drop, length-drop, take-append-drop}
use lib.Seq.{length-take-le, drop-drop, get_or-drop}
use lib.Arith.{mod-mul}
use Rattle.numbers.specs.Positional.{positional}
use Rattle.numbers.specs.Total.{totalℕ}
use Rattle.numbers.proofs.Positional.{Below, append, up_to}

-- parts of digits are digits
pub below-drop : (b n : ℕ) (ds : List ℕ) → Below b ds → Below b (drop n ds)
below-drop b n ds f k = rw get_or-drop (f (n + k))

pub below-take : (b n : ℕ) (ds : List ℕ) → Below b ds → Below b (take n ds)
below-take b zero ds f k = omega (arith, f 0)
below-take b (suc n) [] f k = f k
below-take b (suc n) (d ∷ ds) f zero = f 0
below-take b (suc n) (d ∷ ds) f (suc k) = below-take b n ds (λ i. f (suc i)) k

pub below-part : (b n i : ℕ) (ds : List ℕ) → Below b ds → Below b (take n (drop i ds))
below-part b n i ds f = below-take b n (drop i ds) (below-drop b i ds f)

-- n digits from place i up, written out
pub part-sum : (b n i : ℕ) (ds : List ℕ) → i + n ≤ length ds → positional b (take n (drop i ds)) ≡ totalℕ (λ j. get_or ds (i + j) 0 * b ^ j) n
part-sum b n i ds h = up_to b (drop i ds) n (rw length-drop (omega arith)) ∙ simp get_or-drop

-- the lowest digits of x, put together again
pow-above : (b n : ℕ) → 0 < b → 0 < b ^ n
pow-above b zero h = rw pow-zero (omega arith)
pow-above b (suc n) h = rw pow-suc (mul-pos (pow-above b n h) h)

pub rebuilt : (b x : ℕ) (ds : List ℕ) → 0 < b → ((i : ℕ) → i < length ds → get_or ds i 0 ≡ x / b ^ i % b) → positional b ds ≡ x % b ^ length ds
unfolding positional
rebuilt b x [] p f = sym (rw pow-zero (mod-one x))
rebuilt b x (d ∷ ds) p f =
    let first : d ≡ x % b = f 0 (omega arith) ∙ rw (pow-zero, div-one) in
    let rest : positional b ds ≡ x / b % b ^ length ds = rebuilt b (x / b) ds p (λ i h. f (suc i) (omega arith) ∙ rw (pow-succ', ← div-div-eq-div-mul)) in
    rw (pow-suc, mod-mul x (pow-above b (length ds) p) p, ← rest, ← first, mul_comm b (positional b ds)) (omega arith)

-- a number below b^n is the number of its n digits
pub of-digits : (b : ℕ) (ds : List ℕ) (x : ℕ) → 0 < b → x < b ^ length ds → ((i : ℕ) → i < length ds → get_or ds i 0 ≡ x / b ^ i % b) → positional b ds ≡ x
of-digits b ds x p l f = rebuilt b x ds p f ∙ mod-eq_of_lt l

-- s digits in base b are one digit in base b^s
pub grouped : (b s : ℕ) (es ds : List ℕ) → length ds ≡ s * length es → ((j : ℕ) → j < length es → get_or es j 0 ≡ positional b (take s (drop (s * j) ds))) → positional (b ^ s) es ≡ positional b ds
unfolding positional
grouped b s [] [] l f = refl
grouped b s [] (d ∷ ds) l f = absurd (omega (arith, mul-zero s))
grouped b s (e ∷ es) ds l f =
    let n : length ds ≡ s * length es + s = l ∙ mul-suc s (length es) in
    let first : e ≡ positional b (take s ds) = f 0 (omega arith) ∙ rw (mul-zero s) in
    let next : (j : ℕ) → s * suc j ≡ s + s * j = λ j. omega (arith, mul-suc s j) in
    let rest : positional (b ^ s) es ≡ positional b (drop s ds) =
    grouped b s es (drop s ds) (rw length-drop (omega arith)) (λ j k. f (suc j) (omega arith) ∙ rw (next j, drop-drop)) in
    let fits : s ≤ length ds = omega arith in
    rw (first, rest) (sym (ap (positional b) (sym (take-append-drop s ds)) ∙ append b (take s ds) (drop s ds) ∙ rw (length-take-le s ds fits)))
