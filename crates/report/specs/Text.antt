-- 01, "The program": the lines of a report, as the bytes that are written. Assumes nothing.
use Rattle.std.specs.Prelude.{ℕ, suc, ◌+◌, ◌/◌, ◌%◌, cond, List, [], ◌∷◌, ◌++◌, ltb, eqb, ℤ, pos, negsuc}
use Rattle.rules.specs.Digits.{is_zero}
use Rattle.rules.specs.Verdicts.{Verdict, number}
use Rattle.report.specs.Ascii.{ascii}

-- A number below 1000 in decimal; no number of a report is larger.
unfoldable pub decimal : ℕ → List ℕ
decimal n =
    cond (ltb n 10) ((48 + n) ∷ [])
    (cond (ltb n 100) ((48 + n / 10) ∷ (48 + n % 10) ∷ [])
    ((48 + n / 100) ∷ (48 + n / 10 % 10) ∷ (48 + n % 10) ∷ []))

-- A digit in decimal, with a minus sign if it is negative.
unfoldable pub signed_decimal : ℤ → List ℕ
signed_decimal (pos n) = decimal n
signed_decimal (negsuc n) = ascii "-" ++ decimal (suc n)

-- The fixed line that every report begins with.
unfoldable pub fixed_line : List ℕ
fixed_line = ascii "card-digits 1\n"

-- The form line: the form's letter, the width and the count.
unfoldable pub form_line : ℕ → ℕ → ℕ → List ℕ
form_line letter w count = ascii "form " ++ (letter ∷ []) ++ ascii " width " ++ decimal w ++ ascii " count " ++ decimal count ++ ascii "\n"

-- A digit's line: its index and the digit. A digit that is 0 has none.
unfoldable pub digit_line : ℕ → ℤ → List ℕ
digit_line i d = cond (is_zero d) [] (decimal i ++ ascii " " ++ signed_decimal d ++ ascii "\n")

-- The lines of the digits from index i up.
unfoldable pub digit_lines : ℕ → List ℤ → List ℕ
digit_lines i [] = []
digit_lines i (d ∷ ds) = digit_line i d ++ digit_lines (suc i) ds

-- The line of a refusal.
unfoldable pub refused_line : Verdict → List ℕ
refused_line v = ascii "refused " ++ decimal (number v) ++ ascii "\n"

-- After the fixed line: the form line and the digits, or the one line of a refusal.
abbrev pub answer_lines : ℕ → ℕ → Verdict → ℕ → List ℤ → List ℕ
answer_lines letter w v count ds = cond (eqb (number v) 0) (form_line letter w count ++ digit_lines 0 ds) (refused_line v)
