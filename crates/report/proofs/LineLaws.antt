-- What follows from `Reports`: each input has one report, and its text lies inside the array. Assumes nothing.
use mathlib.Core.Path.{◌≡◌, sym, ◌∙◌, ap, ap₂}
use mathlib.Core.Logic.{by_cases}
use mathlib.Core.List.{List, ◌++◌}
use Prim.Native.Nat.{ℕ, ◌-◌, ◌≤◌}
use native.Mathlib.Decide.{ℕ_discrete}
use native.Mathlib.Omega.{arith}
use lib.Dec.{T}
use lib.ListN.{length, replicate, length-append}
use Rattle.rules.specs.Forms.{Form, card_n, card_r}
use Rattle.rules.specs.Exactly.{Lawful}
use Rattle.rules.proofs.Promises.{recodes-determined}
use Rattle.rules.proofs.Exactly.{lawful-card-n, lawful-card-r}
use Rattle.report.specs.Text.{fixed_line}
use Rattle.report.specs.Report.{letter_of, width_of, scalar_of, letter_n, letter_r, LinesOf, Lines, Reports}

agreed : (letter : ℕ) (F : ℕ → Form) (bytes : List ℕ) (w : ℕ) {l l' : List ℕ} → (T (F w).allowed → Lawful (F w)) → LinesOf letter F bytes w l → LinesOf letter F bytes w l' → l ≡ l'
agreed letter F bytes w lawful p q = let d = recodes-determined (F w) lawful bytes p.recodes q.recodes in p.are ∙ rw (d.1, d.2) (sym q.are)

lines-determined : (input : List ℕ) {l l' : List ℕ} → Lines input l → Lines input l' → l ≡ l'
lines-determined input {l} {l'} p q =
    by_cases (ℕ_discrete (length input) 34)
    (λ e. by_cases (ℕ_discrete (letter_of input) letter_n)
    (λ n. agreed letter_n card_n (scalar_of input) (width_of input) (lawful-card-n (width_of input)) (p.form-n e n) (q.form-n e n))
    (λ n. by_cases (ℕ_discrete (letter_of input) letter_r)
    (λ r. agreed letter_r card_r (scalar_of input) (width_of input) (lawful-card-r (width_of input)) (p.form-r e r) (q.form-r e r))
    (λ r. p.wrong-form e n r ∙ sym (q.wrong-form e n r))))
    (λ n. p.wrong-length n ∙ sym (q.wrong-length n))

pub report-determined : {input bytes bytes' : List ℕ} {len len' : ℕ} → Reports input bytes len → Reports input bytes' len' → (bytes ≡ bytes') × (len ≡ len')
report-determined {input} {bytes} {bytes'} {len} {len'} p q =
    let e : p.lines ≡ q.lines = lines-determined input p.says q.says in
    let l : len ≡ len' = p.long ∙ ap (λ (x : List ℕ). length (fixed_line ++ x)) e ∙ sym q.long in
    (p.text ∙ ap₂ (λ (x : List ℕ) (n : ℕ). (fixed_line ++ x) ++ replicate (2560 - n) 0) e l ∙ sym q.text, l)

-- the text lies inside the array
pub report-inside : {input bytes : List ℕ} {len : ℕ} → Reports input bytes len → len ≤ length bytes
report-inside {bytes} {len} p = omega (arith, p.long, ap length p.text, length-append (fixed_line ++ p.lines) (replicate (2560 - len) 0))
