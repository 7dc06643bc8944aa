-- The calls of the two forms. Assumes nothing.
use Rattle.std.specs.Prelude.{ℕ, ◌≡◌, ◌&&◌, List, [], ◌∷◌, ℤ}
use Rattle.rules.specs.declared.Refusal.TheVariants.{WrongLength}
use Rattle.rules.specs.Verdicts.{Done, unless, ◌or_else◌}
use Rattle.rules.specs.Integer.{Bytes}
use Rattle.rules.specs.Forms.{Form}
use Rattle.rules.specs.Test.{verdict}
use Rattle.rules.specs.Promises.{due, Recodes, Reads}
use Rattle.calls.specs.Code.{code}
use Rattle.calls.specs.Answers.{sized, Answers}

-- What a recoder leaves in its two buffers: the digits, and then the count and the additions.
pub record Tallied (F : Form) (bytes : List ℕ) (digits : List ℤ) (tally : List ℕ) : Type 0 where
  pub counted : ℕ
  pub added : ℕ
  pub recoded : Recodes F bytes Done digits counted added
  pub tallied : tally ≡ counted ∷ added ∷ []

-- `card_n_recode` and `card_r_recode`: all three lengths first, then the verdict that 01 gives the recoder.
abbrev pub CardRecode : Form → List ℕ → List ℤ → List ℕ → List ℤ → List ℕ → ℕ → Type 0
CardRecode F bytes digits tally digits' tally' result =
    Answers (unless (sized F.bytes bytes && sized F.long digits && sized 2 tally) WrongLength or_else due F bytes)
    (λ (lent : List ℤ × List ℕ). Tallied F bytes lent.0 lent.1) (digits, tally) (digits', tally') result

-- `card_n_test` and `card_r_test`: the code of the test's verdict.
abbrev pub CardTest : Form → List ℤ → ℕ → Type 0
CardTest F digits result = result ≡ code (verdict F digits)

-- `card_n_read` and `card_r_read`: both lengths first, since the test tries that of the digits before all else; done, the bytes of the digits' sum.
abbrev pub CardRead : Form → List ℤ → List ℕ → List ℕ → ℕ → Type 0
CardRead F digits before after result =
    Answers (unless (sized F.bytes before) WrongLength or_else verdict F digits) (λ out. Bytes F.bytes out × Reads F digits Done out) before after result
