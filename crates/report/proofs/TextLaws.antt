-- Numbers in decimal; the lines that they stand in, and how long these are. Assumes nothing.
use mathlib.Core.Path.{◌≡◌, refl, sym, ap, ap₂, subst, ◌∙◌}
use mathlib.Core.Bool.{true, false}
use mathlib.Core.List.{List, [], ◌∷◌, ◌++◌, append-nil, append_assoc}
use Prim.Native.Nat.{ℕ, suc, ◌+◌, ◌-◌, ◌*◌, ◌/◌, ◌%◌, ◌<◌, ◌≤◌}
use native.Mathlib.Nat.{add-zero, not-suc-le-zero}
use native.Mathlib.Numerals.{add-one}
use native.Mathlib.Omega.{arith}
use borrow.Author.Tests.{lt-ltb, le-ltb, ltb-true}
use lib.IntN.{ℤ, pos, negsuc, nat_abs}
use lib.Dec.{T}
use lib.Signed.{lt_z, mag}
use lib.ListN.{length, take, drop, replicate, length-append, take-append-drop}
use lib.Seq.{take-suc, drop-drop, length-take-le}
use Rattle.std.proofs.lemmas.Fmt.{decimal_digit, decimal_step}
use Rattle.std.proofs.lemmas.List.{drop-replicate}
use Rattle.std.specs.Fmt as std
use Rattle.std.proofs.lemmas.Bool.Decides.{nat_tests}
use Rattle.rules.specs.Digits.{digit_at}
use Rattle.report.specs.declared.TheConstants.{SIZE}
use Rattle.report.specs.Ascii.{ascii}
use Rattle.report.specs.Text.{decimal, signed_decimal, fixed_line, form_line, digit_line, digit_lines}

-- ---- numbers in decimal

pub one-figure : (n : ℕ) → n < 10 → (48 + n) ∷ [] ≡ decimal n
unfolding decimal
one-figure n h = rw (lt-ltb n 10 h)

pub two-figures : (n : ℕ) → 10 ≤ n → n < 100 → (48 + n / 10) ∷ (48 + n % 10) ∷ [] ≡ decimal n
unfolding decimal
two-figures n g h = rw (le-ltb n 10 g, lt-ltb n 100 h)

pub three-figures : (n : ℕ) → 100 ≤ n → (48 + n / 100) ∷ (48 + n / 10 % 10) ∷ (48 + n % 10) ∷ [] ≡ decimal n
unfolding decimal
three-figures n h = rw (le-ltb n 10 (omega arith), le-ltb n 100 h)

pub below-zero : (d : ℤ) → lt_z d (pos 0) ≡ true → ascii "-" ++ decimal (nat_abs d) ≡ signed_decimal d
unfolding signed_decimal
below-zero (pos n) t = absurd (not-suc-le-zero (ltb-true n 0 t))
below-zero (negsuc n) t = refl

pub from-zero : (d : ℤ) → lt_z d (pos 0) ≡ false → decimal (nat_abs d) ≡ signed_decimal d
unfolding signed_decimal
from-zero (pos n) t = refl
from-zero (negsuc n) t = absurd (subst T t tt)

-- ---- the same numbers in the words of std

pub number_is : (n : ℕ) → n < 1000 → std.decimal n ≡ decimal n
unfolding decimal
number_is n h = grind (arith, nat_tests, decimal_digit, decimal_step)

pub digit_is : (d : ℤ) → mag d < 999 → std.signed_decimal d ≡ signed_decimal d
unfolding signed_decimal ascii
digit_is (pos n) h = number_is n (omega arith)
digit_is (negsuc n) h = rw (number_is (suc n) (omega arith))

-- ---- lengths

pub decimal_length : (n : ℕ) → length (decimal n) ≤ 3
unfolding decimal
decimal_length n = grind (arith, nat_tests)

pub signed_length : (d : ℤ) → length (signed_decimal d) ≤ 4
unfolding signed_decimal ascii
signed_length (pos n) = omega (arith, decimal_length n)
signed_length (negsuc n) = omega (arith, decimal_length (suc n))

pub digit_line_length : (i : ℕ) (d : ℤ) → length (digit_line i d) ≤ 9
unfolding digit_line ascii
digit_line_length i d = grind (arith, nat_tests, length-append, decimal_length, signed_length)

-- ---- the digits' lines

pub digit_lines_length : (i : ℕ) (ds : List ℤ) → length (digit_lines i ds) ≤ 9 * length ds
unfolding digit_lines
digit_lines_length i [] = omega arith
digit_lines_length i (d ∷ ds) =
    simp length-append (omega (arith, digit_line_length i d, digit_lines_length (suc i) ds))

lines-append : (i : ℕ) (ds es : List ℤ) → digit_lines i (ds ++ es) ≡ digit_lines i ds ++ digit_lines (i + length ds) es
unfolding digit_lines
lines-append i [] es = rw add-zero
lines-append i (d ∷ ds) es =
    rw (lines-append (suc i) ds es, append_assoc) (ap (λ (k : ℕ). digit_line i d ++ (digit_lines (suc i) ds ++ digit_lines k es)) (omega arith))

-- one digit further
pub lines_more : (ds : List ℤ) (i : ℕ) → i < length ds → digit_lines 0 (take (i + 1) ds) ≡ digit_lines 0 (take i ds) ++ digit_line i (digit_at ds i)
unfolding digit_lines
lines_more ds i h =
    let e : 0 + length (take i ds) ≡ i = omega (arith, length-take-le i ds (omega arith)) in
    rw (add-one, take-suc ds i (pos 0) h, lines-append 0 (take i ds), e) (ap (λ (x : List ℕ). digit_lines 0 (take i ds) ++ x) (append-nil (digit_line i (digit_at ds i))))

-- ---- what the proofs of `Text` use

pub form_line_length : (letter w count : ℕ) → length (form_line letter w count) ≤ 32
unfolding form_line ascii
form_line_length letter w count = simp length-append (omega (arith, decimal_length w, decimal_length count))

pub fixed_line_length : length fixed_line ≡ 14
unfolding fixed_line ascii
fixed_line_length = refl

pub ruleset texts = (length-append, length-take-le, fixed_line_length, form_line_length, decimal_length, signed_length, digit_line_length, digit_lines_length)

-- ---- a text that grows by k bytes leaves zeros behind it

pub zeros_stay : (n k : ℕ) (bytes : List ℕ) → drop n bytes ≡ replicate (SIZE - n) 0 → drop (n + k) bytes ≡ replicate (SIZE - (n + k)) 0
zeros_stay n k bytes z =
    let e : SIZE - n - k ≡ SIZE - (n + k) = omega arith in
    sym (drop-drop k n bytes) ∙ rw (z, drop-replicate, e)

-- ---- a text fixes its array: what a method of `Text` promises leaves no room

pub text-determined : (before text : List ℕ) {bytes bytes' : List ℕ} {len len' : ℕ} → length bytes ≡ SIZE → length bytes' ≡ SIZE → len ≤ SIZE → len' ≤ SIZE
    → drop len bytes ≡ replicate (SIZE - len) 0 → drop len' bytes' ≡ replicate (SIZE - len') 0
    → take len bytes ≡ before ++ text → take len' bytes' ≡ before ++ text → (bytes ≡ bytes') × (len ≡ len')
text-determined before text {bytes} {bytes'} {len} {len'} l l' h h' z z' e e' =
    let same : take len bytes ≡ take len' bytes' = e ∙ sym e' in
    let n : len ≡ len' = sym (length-take-le len bytes (omega (arith, l))) ∙ ap length same ∙ length-take-le len' bytes' (omega (arith, l')) in
    let rest : drop len bytes ≡ drop len' bytes' = z ∙ ap (λ (k : ℕ). replicate (SIZE - k) 0) n ∙ sym z' in
    (sym (take-append-drop len bytes) ∙ ap₂ (λ (x y : List ℕ). x ++ y) same rest ∙ take-append-drop len' bytes', n)
