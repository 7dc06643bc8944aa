-- 01, "The numbers of each width": a form is one value, with all that 01 says of it: its strings, its range, its scalars and what it counts. Assumes nothing.
use Rattle.std.specs.Prelude.{ℕ, ◌+◌, ◌-◌, ◌/◌, ◌^◌, ◌%◌, Bool, not, cond, ◌&&◌, ◌||◌, List, ltb, leb, eqb, get_or, ℤ, pos, neg_ℤ, nat_abs}
use Rattle.std.specs.Int.Signed.{le_z}
use Rattle.rules.specs.Digits.{is_zero, count, additions}
use Rattle.rules.specs.Widths.{width_n, width_r, row}

-- N: a digit is 0, or odd with an absolute value below 2^(w-1).
unfoldable pub digit_n : ℕ → ℤ → Bool
digit_n w d = is_zero d || (eqb (nat_abs d % 2) 1 && ltb (nat_abs d) (2 ^ (w - 1)))

-- From lo to hi, both included.
abbrev pub within : ℤ → ℤ → ℤ → Bool
within lo hi d = le_z lo d && le_z d hi

-- R with n digits: those before the last are from -2^(w-1) to 2^(w-1)-1, the last is from 0 to top, and an entry past the last is 0.
unfoldable pub digit_r : ℕ → ℕ → ℕ → ℕ → ℤ → Bool
digit_r w n top i d =
    cond (ltb (i + 1) n) (within (neg_ℤ (pos (2 ^ (w - 1)))) (pos (2 ^ (w - 1) - 1)) d)
    (cond (eqb (i + 1) n) (within (pos 0) (pos top) d)
    (is_zero d))

-- A form at one width: its strings, its range, its scalars, and what it counts.
pub record Form : Type 0 where
  pub allowed : Bool  -- 3 unless the width is one of the form's
  pub long : ℕ  -- a string has so many entries
  pub own : ℕ → ℤ → Bool  -- the digit at an index keeps its own rule
  pub gap : ℕ  -- after a non-zero digit so many digits are 0
  pub base : ℕ  -- digit i weighs base^i
  pub end : ℕ  -- the range is from 0 to end - 1
  pub bytes : ℕ  -- a scalar has so many bytes
  pub room : List ℕ → Bool  -- 4 unless a scalar's last byte has room in the range: at most 127 in N, and in R at width 4
  pub counted : List ℤ → ℕ  -- the count of the string that a recoder returns
  pub added : List ℤ → ℕ  -- the additions of that string

-- N at width w with n digits, the range ending at 2^(n-1). A scalar's bytes hold n - 1 bits, and the last byte has none above them.
abbrev pub form_n : ℕ → ℕ → ℕ → Form
form_n widest n w = record {
  allowed = width_n widest w;
  long = n;
  own = λ i. digit_n w;
  gap = w - 1;
  base = 2;
  end = 2 ^ (n - 1);
  bytes = (n - 1) / 8 + 1;
  room = λ bytes. leb (get_or bytes ((n - 1) / 8) 0) (2 ^ ((n - 1) % 8) - 1);
  counted = count;
  added = additions;
}

-- R at width w with so many entries: no spacing, and the table's row for the rest. Width 4 leaves no room for the top bit of 32 bytes.
abbrev pub form_r : ℕ → ℕ → Form
form_r entries w = record {
  allowed = width_r w;
  long = entries;
  own = digit_r w (row w).digits (row w).top;
  gap = 0;
  base = 2 ^ w;
  end = 2 ^ (row w).bits;
  bytes = 32;
  room = λ bytes. not (eqb w 4) || leb (get_or bytes 31 0) 127;
  counted = λ ds. (row w).digits;
  added = λ ds. 0;
}

-- The card's N: widths 2 to 8, 256 digits, 32 bytes with byte 31 at most 127.
abbrev pub card_n : ℕ → Form
card_n w = form_n 8 256 w

-- The card's R: 64 entries.
abbrev pub card_r : ℕ → Form
card_r w = form_r 64 w
