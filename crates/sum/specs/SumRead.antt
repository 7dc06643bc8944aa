-- What `read_sum` promises: a digit string's sum, as 32 bytes. Assumes nothing.
use Rattle.std.specs.Prelude.{ℕ, ◌*◌, ◌^◌, ◌≡◌, ◌≢◌, Bool, cond, not, ◌&&◌, List, T, leb, length, replicate, ℤ, pos, Err}
use Rattle.rules.specs.declared.Refusal.TheVariants.{WrongWidth}
use Rattle.rules.specs.Verdicts.{Verdict, Done}
use Rattle.rules.specs.Integer.{integer}
use Rattle.rules.specs.Digits.{weighted}
use Rattle.rules.specs.Test.{range_fault}

-- The strings that it adds up: digits of 1 to 8 bits, 264 bits in all at most.
abbrev pub summable : ℕ → List ℤ → Bool
summable w ds = leb 1 w && leb w 8 && leb (w * length ds) 264

-- The range's end: 2^255 where it is short, else 2^256.
abbrev pub end_of : Bool → ℕ
end_of short = 2 ^ cond short 255 256

-- The sum against the range, 7 or 8, and where it is inside, the 32 bytes that have it; a string that is not added up is 3. Refused: zero bytes.
pub record SumRead (ds : List ℤ) (w : ℕ) (short : Bool) (answer : Verdict) (bytes : List ℕ) : Type 0 where
  pub ranged : T (summable w ds) → answer ≡ range_fault (end_of short) (weighted (2 ^ w) ds)
  pub unsummed : T (not (summable w ds)) → answer ≡ Err WrongWidth
  pub sums : answer ≡ Done → weighted (2 ^ w) ds ≡ pos (integer bytes)
  pub zeros : answer ≢ Done → bytes ≡ replicate 32 0
