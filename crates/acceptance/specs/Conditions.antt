-- The conditions of acceptance, each as a statement over what 01 says of a form. Assumes nothing.
use Rattle.std.specs.Prelude.{ℕ, ◌^◌, ◌<◌, ◌≤◌, ◌≡◌, ◌≢◌, ◌↔◌, ◌⊎◌, Bool, true, false, List, length, get_or, replicate, Result, Ok, Err, ℤ, pos, ◌≤ℤ◌, ◌<ℤ◌}
use Rattle.rules.specs.declared.Refusal.{Refusal}
use Rattle.rules.specs.Verdicts.{Verdict, number, position}
use Rattle.acceptance.specs.Strings.{integer_of, digit, sum_n, sum_r, RowR, OwnN, OwnR, CloseN, StringN, StringR, CountN, AdditionsN, non_zero_among}

-- What 01 says of a form at a width.
pub record Form01 : Type 1 where
  pub Ends : ℕ → Type 0  -- the width is one of the form's, and there the range ends
  pub Four : List ℕ → Type 0  -- the line of 4 in the table of refusals
  pub entries : ℕ  -- a string has so many entries
  pub Own : List ℤ → ℕ → Type 0  -- the digit at an index keeps its own rule
  pub Close : List ℤ → ℕ → Type 0  -- the digit at an index is not 0, and follows another too closely
  pub String : List ℤ → Type 0  -- the strings
  pub sum : List ℤ → ℤ  -- what a string sums to
  pub Count : List ℤ → ℕ → Type 0  -- the count that goes with a string
  pub Additions : List ℤ → ℕ → Type 0  -- and the additions

-- Form N at width w.
abbrev pub n01 : ℕ → Form01
n01 w = record {
  Ends = λ end. (2 ≤ w) × (w ≤ 8) × (end ≡ 2 ^ 255);
  Four = λ bytes. (2 ≤ w) × (w ≤ 8) × (127 < get_or bytes 31 0);
  entries = 256;
  Own = λ ds i. OwnN w (digit ds i);
  Close = CloseN w;
  String = StringN w;
  sum = sum_n;
  Count = CountN;
  Additions = AdditionsN w;
}

-- Form R at width w.
abbrev pub r01 : ℕ → Form01
r01 w = record {
  Ends = λ end. (n : ℕ) × (top : ℕ) × RowR w n top end;
  Four = λ bytes. (w ≡ 4) × (127 < get_or bytes 31 0);
  entries = 64;
  Own = λ ds i. (n top end : ℕ) → RowR w n top end → OwnR w n top i (digit ds i);
  Close = λ ds i. ⊥;
  String = StringR w;
  sum = sum_r w;
  Count = λ ds n. (top : ℕ) × (end : ℕ) × RowR w n top end;
  Additions = λ ds additions. additions ≡ 0;
}

-- Condition 1: a recoder's answer for some bytes.
pub record Answered (F : Form01) (bytes : List ℕ) (answer : Verdict) : Type 0 where
  pub three : number answer ≡ 3 ↔ ((end : ℕ) → F.Ends end → ⊥)  -- 3 exactly if the width is not one of the form's
  pub four : number answer ≡ 4 ↔ ((end : ℕ) × F.Ends end × (end ≤ integer_of bytes))  -- 4 exactly if it is, and the integer is not below the range's end
  pub done : number answer ≡ 0 ↔ ((end : ℕ) × F.Ends end × (integer_of bytes < end))  -- done exactly if it is, and the integer is below
  pub top_byte : number answer ≡ 4 ↔ F.Four bytes  -- 4 in the words of the table
  pub nowhere : position answer ≡ 0

-- The length and the width are right.
abbrev pub Offered : Form01 → List ℤ → ℕ → Type 0
Offered F ds end = (length ds ≡ F.entries) × F.Ends end

-- Nothing is wrong with the digits below index k.
abbrev pub FineBelow : Form01 → List ℤ → ℕ → Type 0
FineBelow F ds k = (i : ℕ) → i < k → F.Own ds i × (F.Close ds i → ⊥)

-- Condition 1: the test's answer for a string, line by line.
pub record Tested (F : Form01) (ds : List ℤ) (answer : Verdict) : Type 0 where
  pub one : number answer ≡ 1 ↔ length ds ≢ F.entries  -- the length is wrong
  pub three : number answer ≡ 3 ↔ ((length ds ≡ F.entries) × ((end : ℕ) → F.Ends end → ⊥))  -- the width is not one of the form's
  pub five : (k : ℕ) → ((number answer ≡ 5) × (position answer ≡ k)) ↔ ((end : ℕ) × Offered F ds end × (k < F.entries) × FineBelow F ds k × (F.Own ds k → ⊥))  -- the first fault is that digit k breaks its own rule
  pub six : (k : ℕ) → ((number answer ≡ 6) × (position answer ≡ k)) ↔ ((end : ℕ) × Offered F ds end × (k < F.entries) × FineBelow F ds k × F.Own ds k × F.Close ds k)  -- .. that it keeps it, and is too close
  pub seven : number answer ≡ 7 ↔ ((end : ℕ) × Offered F ds end × FineBelow F ds F.entries × (F.sum ds <ℤ pos 0))  -- no digit is at fault, and the sum is negative
  pub eight : number answer ≡ 8 ↔ ((end : ℕ) × Offered F ds end × FineBelow F ds F.entries × (pos end ≤ℤ F.sum ds))  -- .. or at or past the range's end
  pub done : number answer ≡ 0 ↔ F.String ds  -- it is a string of the form

-- Conditions 1 and 2: a recoder's reply.
pub record Recoding (F : Form01) (bytes : List ℕ) (answer : Verdict) (digits : List ℤ) (count additions : ℕ) : Type 0 where
  pub answered : Answered F bytes answer
  pub string : number answer ≡ 0 → F.String digits  -- done: the digits are a string of the form
  pub sums : number answer ≡ 0 → F.sum digits ≡ pos (integer_of bytes)  -- .. with the integer of the bytes as its sum
  pub counts : number answer ≡ 0 → F.Count digits count × F.Additions digits additions
  pub zeros : number answer ≢ 0 → (digits ≡ replicate F.entries (pos 0)) × (count ≡ 0) × (additions ≡ 0)  -- refused: zeros

-- Conditions 2 and 3: a reader's reply.
pub record Reading (F : Form01) (digits : List ℤ) (answer : Verdict) (bytes : List ℕ) : Type 0 where
  pub tested : Tested F digits answer  -- the test's answer
  pub sums : number answer ≡ 0 → F.sum digits ≡ pos (integer_of bytes)  -- the bytes of its sum
  pub zeros : number answer ≢ 0 → bytes ≡ replicate 32 0  -- refused: zero bytes

-- Condition 2: recoded, then read. The bytes come back, or a refusal with zero bytes.
pub record Back (F : Form01) (bytes : List ℕ) (answer : Verdict) (back : List ℕ) : Type 0 where
  pub answered : Answered F bytes answer
  pub same : number answer ≡ 0 → back ≡ bytes
  pub zeros : number answer ≢ 0 → back ≡ replicate 32 0

-- Condition 3: a string with this sum, and no other.
pub record OneString (F : Form01) (x : ℕ) : Type 0 where
  pub string : List ℤ
  pub is : F.String string
  pub sums : F.sum string ≡ pos x
  pub only : (es : List ℤ) → F.String es → F.sum es ≡ pos x → es ≡ string

-- Condition 3: each integer of the range has exactly one string.
abbrev pub EachOne : Form01 → Type 0
EachOne F = (x end : ℕ) → F.Ends end → x < end → OneString F x

-- Conditions 1 to 3: two scalars recoded and their digits compared. 4 where either integer is not below the range's end; done, the digits are equal exactly if the bytes are.
pub record Compared (F : Form01) (first second : List ℕ) (answer : Verdict) (same : Bool) : Type 0 where
  pub three : number answer ≡ 3 ↔ ((end : ℕ) → F.Ends end → ⊥)
  pub four : number answer ≡ 4 ↔ ((end : ℕ) × F.Ends end × ((end ≤ integer_of first) ⊎ (end ≤ integer_of second)))
  pub done : number answer ≡ 0 ↔ ((end : ℕ) × F.Ends end × (integer_of first < end) × (integer_of second < end))
  pub equal : number answer ≡ 0 → (same ≡ true) ↔ (first ≡ second)
  pub not_done : number answer ≢ 0 → same ≡ false

-- What an answer says of the two. A refusal says that they are not the same.
abbrev pub same_of : Result Bool Refusal → Bool
same_of (Ok same) = same
same_of (Err refusal) = false

-- Condition 2: a recoding of R, and a caller who goes through the digits that count. He sees every one that is not 0, and at width 8 they are 33.
pub record Seen (w : ℕ) (bytes : List ℕ) (answer : Verdict) (digits : List ℤ) (count seen : ℕ) : Type 0 where
  pub recoded : Recoding (r01 w) bytes answer digits count 0
  pub all : seen ≡ non_zero_among digits 64
  pub width-8 : number answer ≡ 0 → w ≡ 8 → count ≡ 33
