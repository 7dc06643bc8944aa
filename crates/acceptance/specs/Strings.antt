-- Document 01, "The numbers of each width", in its own words: numbers, lists, powers and sums written out, and nothing of the library's rules. Assumes nothing.
use Rattle.std.specs.Prelude.{ℕ, ◌+◌, ◌-◌, ◌*◌, ◌/◌, ◌^◌, ◌%◌, ◌<◌, ◌≤◌, ◌≡◌, ◌≢◌, ◌⊎◌, cond, List, eqb, length, get_or, ℤ, pos, neg_ℤ, nat_abs, ◌*ℤ◌, ◌≤ℤ◌, ◌<ℤ◌}
use Rattle.numbers.specs.Total.{total, totalℕ}

-- The integer of some bytes: byte i times 256^i, added up.
unfoldable pub integer_of : List ℕ → ℕ
integer_of bytes = totalℕ (λ i. get_or bytes i 0 * 256 ^ i) (length bytes)

-- Digit i of a string.
abbrev pub digit : List ℤ → ℕ → ℤ
digit ds i = get_or ds i (pos 0)

-- The sum of a string of N: digit i times 2^i, added up.
unfoldable pub sum_n : List ℤ → ℤ
sum_n ds = total (λ i. digit ds i *ℤ pos (2 ^ i)) (length ds)

-- The sum of a string of R at width w: digit i times 2^(w·i), added up.
unfoldable pub sum_r : ℕ → List ℤ → ℤ
sum_r w ds = total (λ i. digit ds i *ℤ pos (2 ^ (w * i))) (length ds)

-- ---- N

-- A digit's own rule: it is 0, or odd with an absolute value below 2^(w-1).
abbrev pub OwnN : ℕ → ℤ → Type 0
OwnN w d = (d ≡ pos 0) ⊎ ((nat_abs d % 2 ≡ 1) × (nat_abs d < 2 ^ (w - 1)))

-- A string of N at width w.
pub record StringN (w : ℕ) (ds : List ℤ) : Type 0 where
  pub long : length ds ≡ 256  -- 256 digits
  pub least : 2 ≤ w  -- widths 2 to 8
  pub most : w ≤ 8
  pub each : (i : ℕ) → i < 256 → OwnN w (digit ds i)  -- each digit keeps its own rule
  pub spaced : (i k : ℕ) → digit ds i ≢ pos 0 → 1 ≤ k → k ≤ w - 1 → i + k < 256 → digit ds (i + k) ≡ pos 0  -- after a non-zero digit the next w-1, as far as the string reaches, are 0
  pub low : pos 0 ≤ℤ sum_n ds  -- the sum is from 0 to 2^255-1
  pub high : sum_n ds <ℤ pos (2 ^ 255)

-- The digit at index i is not 0, and one of the w-1 digits just below it is not 0 either.
abbrev pub CloseN : ℕ → List ℤ → ℕ → Type 0
CloseN w ds i = (digit ds i ≢ pos 0) × (j : ℕ) × (j < i) × (i ≤ j + (w - 1)) × (digit ds j ≢ pos 0)

-- How many of the first n digits are not 0: 1 for each, added up.
unfoldable pub non_zero_among : List ℤ → ℕ → ℕ
non_zero_among ds n = totalℕ (λ i. cond (eqb (nat_abs (digit ds i)) 0) 0 1) n

-- N's count: one more than the index of the highest digit that is not 0, and 0 where every digit is.
pub record CountN (ds : List ℤ) (count : ℕ) : Type 0 where
  pub above : (i : ℕ) → count ≤ i → digit ds i ≡ pos 0
  pub highest : 1 ≤ count → digit ds (count - 1) ≢ pos 0

-- N's additions: how many digits are not 0, which is at most 256/w rounded up.
pub record AdditionsN (w : ℕ) (ds : List ℤ) (additions : ℕ) : Type 0 where
  pub number : additions ≡ non_zero_among ds 256
  pub few : additions ≤ (256 + (w - 1)) / w

-- ---- R

-- The table: the width, the number of digits, the top of the last, and where the range ends.
pub data RowR : ℕ → ℕ → ℕ → ℕ → Type 0 where
  four : RowR 4 64 8 (2 ^ 255)
  five : RowR 5 52 2 (2 ^ 256)
  six : RowR 6 43 16 (2 ^ 256)
  seven : RowR 7 37 16 (2 ^ 256)
  eight : RowR 8 33 1 (2 ^ 256)

-- A digit's own rule at index i, where a string has n digits: before the last from -2^(w-1) to 2^(w-1)-1, the last from 0 to top, and past it 0.
pub record OwnR (w n top i : ℕ) (d : ℤ) : Type 0 where
  pub before : i + 1 < n → (neg_ℤ (pos (2 ^ (w - 1))) ≤ℤ d) × (d ≤ℤ pos (2 ^ (w - 1) - 1))
  pub last : i + 1 ≡ n → (pos 0 ≤ℤ d) × (d ≤ℤ pos top)
  pub past : n ≤ i → d ≡ pos 0

-- A string of R at width w, by the table's row for it.
pub record StringR (w : ℕ) (ds : List ℤ) : Type 0 where
  pub long : length ds ≡ 64  -- 64 entries
  pub n : ℕ
  pub top : ℕ
  pub end : ℕ
  pub row : RowR w n top end
  pub each : (i : ℕ) → i < 64 → OwnR w n top i (digit ds i)  -- each digit keeps its own rule
  pub low : pos 0 ≤ℤ sum_r w ds  -- the sum is from 0 to the range's end, without it
  pub high : sum_r w ds <ℤ pos end
