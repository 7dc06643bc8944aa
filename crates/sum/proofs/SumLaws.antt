-- The sum of a digit string, taken up digit by digit and written out byte by byte, and what its promise fixes. Assumes nothing.
use mathlib.Core.Path.{◌≡◌, refl, sym, ap, subst, subst⁻¹, ◌∙◌}
use mathlib.Core.Bool.{Bool, true, false, cond, not}
use mathlib.Core.Logic.{◌↔◌, ◌≢◌, by_cases}
use mathlib.Core.List.{List, [], ◌∷◌}
use Prim.Native.Nat.{ℕ, suc, ◌+◌, ◌-◌, ◌*◌, ◌/◌, ◌%◌, ◌^◌, ◌≤◌, ◌<◌}
use native.Mathlib.Nat.{le_refl, add-zero, mul_left_comm, le_of_mul-le-mul_left, mul-zero, mul-suc, mul_comm, mul-le-mul_left, mul-le-mul_right, pow-suc, div-add-mod, add-mul}
use native.Mathlib.Decide.{dec_lt}
use native.Mathlib.Numerals.{add-one}
use native.Mathlib.Omega.{arith}
use lib.ListN.{length, replicate, get_or, set, take, get_or-eq_default}
use lib.Seq.{take_all, take-suc-set, length-take-le}
use lib.Pow.{pow-add, pow_mono, shl_exact, shr_lt}
use lib.Dec.{T, lit<, lit≤}
use borrow.Author.Tests.{lt-ltb, le-ltb}
use lib.IntN.{ℤ, pos, negsuc, ◌+ℤ◌, ◌*ℤ◌, +ℤ_idr, *ℤ-zero}
use Rattle.numbers.specs.Positional.{positional}
use Rattle.numbers.proofs.Balance.{up, dn, same, add-balance, mul-up, mul-dn}
use Rattle.numbers.proofs.Positional.{append, size}
use Rattle.numbers.proofs.Windows.{pow-pow}
use Rattle.rules.specs.declared.Refusal.TheVariants.{Negative, PastEnd}
use Rattle.std.specs.Prelude.{Err}
use Rattle.rules.specs.Verdicts.{Verdict, Done, number}
use Rattle.rules.specs.Integer.{integer, Bytes}
use Rattle.rules.specs.Digits.{digit_at, weighted}
use Rattle.rules.specs.Test.{range_fault}
use Rattle.rules.proofs.Verdicts.{done-or-refused}
use Rattle.rules.proofs.Integer.{integer-determines, byte-31}
use Rattle.rules.proofs.Sum.{nil-sum, sum-up}
use Rattle.sum.specs.inner.Adds.{Adds, Totals, SumAnswered, Judged}
use Rattle.sum.specs.SumRead.{summable, end_of, SumRead}

-- ---- one digit more, as the machine works it out in 32 bits

-- what `add_digit` needs and gives
pub record DigitAdded (sum bits digit w : ℕ) : Type 0 where
  pub raised-enough : 256 ≤ digit + (128 * 2 ^ w) % 2 ^ 32
  pub sum_is : sum + ((digit + (128 * 2 ^ w) % 2 ^ 32 - 256) * 2 ^ bits) % 2 ^ 32 + 256 * 2 ^ bits ≡ sum + (digit + 128 * 2 ^ w) * 2 ^ bits
  pub sum-small : sum + ((digit + (128 * 2 ^ w) % 2 ^ 32 - 256) * 2 ^ bits) % 2 ^ 32 < 2 ^ (bits + w + 8)

module _ (sum bits digit w : ℕ) (h : (sum < 2 ^ (bits + 8)) × (bits < 8) × (digit < 256) × (1 ≤ w) × (w ≤ 8)) where
  two : 2 ≤ 2 ^ w
  two = pow_mono {i = 1} {j = w} (omega arith)

  raised-small : digit + 128 * 2 ^ w - 256 < 2 ^ (w + 7)
  raised-small = omega (arith, two, pow-add 2 w 7)

  -- nothing is lost in the two shifts
  half-kept : (128 * 2 ^ w) % 2 ^ 32 ≡ 128 * 2 ^ w
  half-kept = shl_exact 8 w 32 (lit< tt) (omega arith)

  raised-kept : ((digit + 128 * 2 ^ w - 256) * 2 ^ bits) % 2 ^ 32 ≡ (digit + 128 * 2 ^ w - 256) * 2 ^ bits
  raised-kept = shl_exact (w + 7) bits 32 raised-small (omega arith)

  whole : sum + (digit + 128 * 2 ^ w - 256) * 2 ^ bits + 256 * 2 ^ bits ≡ sum + (digit + 128 * 2 ^ w) * 2 ^ bits
  whole =
      let t = digit + 128 * 2 ^ w - 256 in
      let e : t + 256 ≡ digit + 128 * 2 ^ w = omega (arith, two) in
      omega (arith, ap (λ (x : ℕ). x * 2 ^ bits) e, add-mul t 256 (2 ^ bits))

  small : sum + (digit + 128 * 2 ^ w - 256) * 2 ^ bits < 2 ^ (bits + w + 8)
  small =
      let most : (digit + 128 * 2 ^ w) * 2 ^ bits ≤ (256 * 2 ^ w) * 2 ^ bits = mul-le-mul_right (2 ^ bits) (omega (arith, two)) in
      let e : 2 ^ (bits + w + 8) ≡ (256 * 2 ^ w) * 2 ^ bits = rw (pow-add 2 (bits + w) 8, pow-add 2 bits w) (omega (arith, mul_comm (2 ^ bits) (2 ^ w))) in
      omega (arith, whole, most, e, pow-add 2 bits 8)

  pub digit-added : DigitAdded sum bits digit w
  digit-added =
      record {
        raised-enough = rw half-kept (omega (arith, two));
        sum_is = rw (half-kept, raised-kept) whole;
        sum-small = rw (half-kept, raised-kept) small;
      }

-- ---- a digit more, and a byte less

-- an integer and k more, as a balance of naturals
balanced : (z : ℤ) (k n : ℕ) → z +ℤ pos k ≡ pos n → up z + k ≡ n + dn z
balanced z k n e = omega (arith, add-balance z (pos k), ap up e, ap dn e)

unbalanced : (z : ℤ) (k n : ℕ) → up z + k ≡ n + dn z → z +ℤ pos k ≡ pos n
unbalanced z k n e = same (z +ℤ pos k) (pos n) (omega (arith, add-balance z (pos k)))

-- the digits below i and digit i, also past the last digit
next-sum : (b i : ℕ) (ds : List ℤ) → weighted b (take (suc i) ds) ≡ weighted b (take i ds) +ℤ pos (b ^ i) *ℤ digit_at ds i
next-sum b i ds = go (dec_lt i (length ds))
  where
    go : Dec (i < length ds) → weighted b (take (suc i) ds) ≡ weighted b (take i ds) +ℤ pos (b ^ i) *ℤ digit_at ds i
    go (yes h) = sum-up b i ds h
    go (no h) = rw (take_all (suc i) ds (omega arith), take_all i ds (omega arith), get_or-eq_default ds (pos 0) {n = i} (omega arith), *ℤ-zero (pos (b ^ i)), +ℤ_idr (weighted b ds))

scaled : (A B M W held held' digit : ℕ) → M ≡ A * B → held' + 256 * B ≡ held + (digit + 128 * W) * B → A * held' + 256 * M ≡ A * held + (M * digit + 128 * (M * W))
scaled A B M W held held' digit p q = rw p (omega (arith, ap (λ (x : ℕ). A * x) q))

-- no digit yet
pub adds_none : (ds : List ℤ) (w : ℕ) → Adds ds w 0 (integer []) 0 128 0
unfolding positional
adds_none ds w =
    let e : w * 0 ≡ 0 = mul-zero w in
    record { place = sym e; sum = rw (nil-sum (2 ^ w), e) }

-- the law of a turn: one digit more
pub adds-more : {ds : List ℤ} {w at low next held bits : ℕ} (digit held' : ℕ) → Adds ds w at low next held bits → pos digit ≡ digit_at ds next +ℤ pos 128 → held' + 256 * 2 ^ bits ≡ held + (digit + 128 * 2 ^ w) * 2 ^ bits → Adds ds w at low (next + 1) held' (bits + w)
adds-more {ds} {w} {at} {low} {next} {held} {bits} digit held' a e f =
    let M = 2 ^ (w * next) in
    let d = digit_at ds next in
    let S = weighted (2 ^ w) (take next ds) in
    let S' = weighted (2 ^ w) (take (suc next) ds) in
    let step : S' ≡ S +ℤ pos M *ℤ d = next-sum (2 ^ w) next ds ∙ rw (pow-pow w next) in
    let m : M ≡ 256 ^ at * 2 ^ bits = ap (λ (n : ℕ). 2 ^ n) (sym a.place) ∙ pow-add 2 (8 * at) bits ∙ rw (← pow-pow 8 at) in
    let p : w * suc next ≡ w * next + w = mul-suc w next in
    let q : 2 ^ (w * suc next) ≡ M * 2 ^ w = ap (λ (n : ℕ). 2 ^ n) p ∙ pow-add 2 (w * next) w in
    record {
      place = rw (add-one next) (omega (arith, p, a.place));
      sum = rw (add-one next) (unbalanced S' _ _ (omega (
        arith,
        balanced S _ _ a.sum,
        ap up step,
        ap dn step,
        add-balance S (pos M *ℤ d),
        mul-up M d,
        mul-dn M d,
        ap (λ (x : ℕ). M * x) (balanced d 128 digit (sym e)),
        scaled (256 ^ at) (2 ^ bits) M (2 ^ w) held held' digit m f,
        q,
      )));
    }

-- and one byte written: the lowest of what is held
split-byte : (low A held : ℕ) → low + A * held ≡ low + A * (held % 256) + A * 256 * (held / 256)
split-byte low A held = omega (arith, ap (λ (x : ℕ). A * x) (div-add-mod held 256))

written : (bytes : List ℕ) (at v : ℕ) → at < length bytes → integer (take (at + 1) (set bytes at v)) ≡ integer (take at bytes) + 256 ^ at * v
unfolding positional
written bytes at v h =
    let l : at ≤ length bytes = omega arith in
    rw (add-one at, take-suc-set bytes at v h, append 256 (take at bytes) (v ∷ []), length-take-le at bytes l, add-zero v)

pub adds-byte : {ds : List ℤ} {w next held bits : ℕ} (at : ℕ) (bytes : List ℕ) → at < length bytes → Adds ds w at (integer (take at bytes)) next held bits → 8 ≤ bits → Adds ds w (at + 1) (integer (take (at + 1) (set bytes at (held % 256)))) next (held / 256) (bits - 8)
adds-byte {held} at bytes l a h =
    record {
      place = omega (arith, a.place);
      sum = a.sum ∙ ap pos (rw (written bytes at (held % 256) l, add-one at, pow-suc 256 at) (split-byte _ (256 ^ at) held));
    }

pub rest-small : {held bits : ℕ} → held < 2 ^ (bits + 8) → 8 ≤ bits → held / 256 < 2 ^ (bits - 8 + 8)
rest-small {held} {bits} h l = let e : bits ≡ bits - 8 + 8 = omega arith in shr_lt (bits - 8 + 8) 8 (rw e at h)

-- with 32 bytes written and a byte more held, every digit is in
pub adds-all : {ds : List ℤ} {w next held bits : ℕ} (bytes : List ℕ) → length bytes ≡ 32 → 1 ≤ w → w * length ds ≤ 264 → 8 ≤ bits → bits ≤ 15 → Adds ds w 32 (integer (take 32 bytes)) next held bits → Totals (weighted (2 ^ w) ds) bytes held ((128 * 2 ^ bits) % 2 ^ 32)
adds-all {ds} {w} {next} {held} {bits} bytes long w⁺ few full bounded a =
    let all : length ds ≤ next = le_of_mul-le-mul_left {k = w} (omega (arith, a.place)) w⁺ in
    let top : 128 * 2 ^ (w * next) ≡ 2 ^ 256 * (128 * 2 ^ bits) = ap (λ (n : ℕ). 128 * 2 ^ n) (sym a.place) ∙ ap (λ (n : ℕ). 128 * n) (pow-add 2 256 bits) ∙ mul_left_comm 128 (2 ^ 256) (2 ^ bits) in
    record { sum = rw (shl_exact {a = 128} 8 bits 32 (lit< tt) (omega arith), ← top) (rw (take_all next ds all, take_all 32 bytes (omega arith)) at a.sum) }

-- ---- the sum against the range

inside-end : (end x : ℕ) → x < end → range_fault end (pos x) ≡ Done
unfolding range_fault
inside-end end x h = rw (lt-ltb x end h)

outside-end : (end x : ℕ) → end ≤ x → range_fault end (pos x) ≡ Err PastEnd
unfolding range_fault
outside-end end x h = rw (le-ltb x end h)

-- from what stands above X, counted from `half`
below-range : (end X half above low : ℕ) (z : ℤ) → z +ℤ pos (X * half) ≡ pos (low + X * above) → low < X → above < half → range_fault end z ≡ Err Negative
unfolding range_fault
below-range end X half above low (pos x) e l h = absurd (omega (arith, balanced (pos x) _ _ e, mul-le-mul_left X h))
below-range end X half above low (negsuc x) e l h = refl

past-range : (end X half above low : ℕ) (z : ℤ) → z +ℤ pos (X * half) ≡ pos (low + X * above) → end ≤ X → half < above → range_fault end z ≡ Err PastEnd
past-range end X half above low (pos x) e l h = outside-end end x (omega (arith, balanced (pos x) _ _ e, mul-le-mul_left X h))
past-range end X half above low (negsuc x) e l h = absurd (omega (arith, balanced (negsuc x) _ _ e, mul-le-mul_left X h))

level-sum : (X half above low : ℕ) (z : ℤ) → z +ℤ pos (X * half) ≡ pos (low + X * above) → above ≡ half → z ≡ pos low
level-sum X half above low z e h = same z (pos low) (omega (arith, balanced z _ _ e, ap (λ (x : ℕ). X * x) h))

exact : {given : List ℕ} {above half : ℕ} (z : ℤ) → Totals z given above half → above ≡ half → z ≡ pos (integer given)
exact {given} {above} {half} z t h = level-sum (2 ^ 256) half above (integer given) z t.sum h

end-most : (short : Bool) → end_of short ≤ 2 ^ 256
end-most true = pow_mono {i = 255} {j = 256} (lit≤ tt)
end-most false = le_refl (2 ^ 256)

bytes_below : {bytes : List ℕ} → Bytes 32 bytes → integer bytes < 2 ^ 256
bytes_below {bytes} b = subst (λ (n : ℕ). integer bytes < 256 ^ n) b.long (size 256 bytes b.small)

-- byte 31 tells whether the bytes are inside the range
top-fits : (short : Bool) {bytes : List ℕ} → Bytes 32 bytes → (get_or bytes 31 0 ≤ cond short 127 255) ↔ (integer bytes < end_of short)
top-fits true b = byte-31 b
top-fits false b = (λ _. bytes_below b, λ _. omega (arith, b.small 31))

-- ---- what `judge` promises

-- a refusal with zero bytes
abbrev pub Refused : Verdict → Verdict → List ℕ → Type 0
Refused v answer bytes = (answer ≡ v) × (bytes ≡ replicate 32 0)

not_done : {v answer : Verdict} → 0 < number v → answer ≡ v → answer ≢ Done
not_done h e d = omega (arith, ap number e, ap number d)

refuses : {z : ℤ} {short : Bool} {v answer : Verdict} {bytes : List ℕ} → range_fault (end_of short) z ≡ v → 0 < number v → Refused v answer bytes → SumAnswered z short answer bytes
refuses e h r = record { ranged = r.0 ∙ sym e; sums = λ d. absurd (not_done h r.0 d); zeros = λ _. r.1 }

module _ {given : List ℕ} {above half : ℕ} {short : Bool} {answer : Verdict} {bytes : List ℕ} (b : Bytes 32 given) where
  pub judged-negative : above < half → Refused (Err Negative) answer bytes → Judged given above half short answer bytes
  judged-negative h r z t = refuses (below-range (end_of short) (2 ^ 256) half above (integer given) z t.sum (bytes_below b) h) (lit< tt) r

  pub judged-past : half < above → Refused (Err PastEnd) answer bytes → Judged given above half short answer bytes
  judged-past h r z t = refuses (past-range (end_of short) (2 ^ 256) half above (integer given) z t.sum (end-most short) h) (lit< tt) r

  pub judged-over : above ≡ half → cond short 127 255 < get_or given 31 0 → Refused (Err PastEnd) answer bytes → Judged given above half short answer bytes
  judged-over level h r z t =
      let over : end_of short ≤ integer given = by_cases (dec_lt (integer given) (end_of short)) (λ l. absurd (omega (arith, (top-fits short b).1 l))) (λ n. omega arith) in
      refuses (ap (range_fault (end_of short)) (exact z t level) ∙ outside-end (end_of short) (integer given) over) (lit< tt) r

  -- and the bytes themselves, where nothing is wrong
  pub judged-done : above ≡ half → get_or given 31 0 ≤ cond short 127 255 → (answer ≡ Done) × (bytes ≡ given) → Judged given above half short answer bytes
  judged-done level h r z t =
      record {
        ranged = r.0 ∙ sym (ap (range_fault (end_of short)) (exact z t level) ∙ inside-end (end_of short) (integer given) ((top-fits short b).0 h));
        sums = λ _. rw r.1 (exact z t level);
        zeros = λ f. absurd (f r.0);
      }

-- ---- the promise fixes the reply

pub sum-read-determined : {ds : List ℤ} {w : ℕ} {short : Bool} {answer answer' : Verdict} {bytes bytes' : List ℕ} → Bytes 32 bytes → Bytes 32 bytes' → SumRead ds w short answer bytes → SumRead ds w short answer' bytes' → (answer ≡ answer') × (bytes ≡ bytes')
sum-read-determined {ds} {w} {short} {answer} {answer'} {bytes} {bytes'} b b' r r' = (same_answer, done-or-refused answer done refused)
  where
    go : (t : Bool) → summable w ds ≡ t → answer ≡ answer'
    go true e = r.ranged (subst⁻¹ T e tt) ∙ sym (r'.ranged (subst⁻¹ T e tt))
    go false e = r.unsummed (subst⁻¹ (λ (t : Bool). T (not t)) e tt) ∙ sym (r'.unsummed (subst⁻¹ (λ (t : Bool). T (not t)) e tt))

    same_answer : answer ≡ answer'
    same_answer = go (summable w ds) refl

    done : answer ≡ Done → bytes ≡ bytes'
    done d = integer-determines b b' (ap up (sym (r.sums d) ∙ r'.sums (sym same_answer ∙ d)))

    refused : answer ≢ Done → bytes ≡ bytes'
    refused f = r.zeros f ∙ sym (r'.zeros (λ d. f (same_answer ∙ d)))
