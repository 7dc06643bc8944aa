-- The calls of a form, step by step: a length that is wrong, the refusal of the library, and what it made. Over any form of 32 bytes. Assumes nothing.
use mathlib.Core.Path.{◌≡◌, sym, subst, ◌∙◌}
use mathlib.Core.Bool.{◌&&◌}
use mathlib.Core.List.{List, [], ◌∷◌}
use Prim.Native.Nat.{ℕ}
use lib.Dec.{T}
use lib.IntN.{ℤ}
use Rattle.std.specs.Prelude.{Err}
use Rattle.numbers.proofs.Tests.{and_left, and_right, and_both}
use Rattle.rules.specs.declared.Refusal.{Refusal}
use Rattle.rules.specs.declared.Refusal.TheVariants.{WrongLength}
use Rattle.rules.specs.Verdicts.{Verdict, Done, unless, ◌or_else◌}
use Rattle.rules.specs.Integer.{Bytes}
use Rattle.rules.specs.Forms.{Form}
use Rattle.rules.specs.Test.{verdict}
use Rattle.rules.specs.Promises.{due, Recodes, Reads}
use Rattle.calls.specs.Answers.{sized}
use Rattle.calls.specs.Forms.{CardRecode, CardRead}
use Rattle.calls.proofs.Lengths.{wrong-length-first, right-length, right-lengths}
use Rattle.calls.proofs.Answers.{answers-done}

module _ (F : Form) (wide : F.bytes ≡ 32) where
  -- ---- a reader's

  module _ (digits : List ℤ) (before : List ℕ) where
    -- the buffer is not of 32 bytes
    pub read-short : {e : Refusal} → Err e ≡ unless (sized 32 before) WrongLength → unless (sized F.bytes before) WrongLength or_else verdict F digits ≡ Err e
    read-short p = wrong-length-first _ _ _ (subst (λ (n : ℕ). T (sized n before)) wide) p

    -- it is, and the test decides
    pub read-sized : Done ≡ unless (sized 32 before) WrongLength → unless (sized F.bytes before) WrongLength or_else verdict F digits ≡ verdict F digits
    read-sized p = right-lengths _ _ (subst (λ (n : ℕ). T (sized n before)) (sym wide) (right-length _ p))

    pub read-given : {after made : List ℕ} → Done ≡ unless (sized 32 before) WrongLength → Bytes 32 made → Reads F digits Done made → after ≡ made → CardRead F digits before after 0
    read-given {made = made} p b r e =
        answers-done (read-sized p ∙ sym r.answered) (rw e (subst (λ (n : ℕ). Bytes n made) (sym wide) b, r))

  -- ---- a recoder's

  module _ {n : ℕ} (long : F.long ≡ n) (bytes : List ℕ) (digits : List ℤ) (tally : List ℕ) where
    -- all three lengths, as the promise has them
    abbrev lengths : Verdict
    lengths = unless ((sized F.bytes bytes && sized F.long digits) && sized 2 tally) WrongLength

    pub recode-short-digits : {e : Refusal} → Err e ≡ unless (sized n digits) WrongLength → lengths or_else due F bytes ≡ Err e
    recode-short-digits p =
        wrong-length-first _ _ _ (λ t. subst (λ (m : ℕ). T (sized m digits)) long (and_right (sized F.bytes bytes) _ (and_left _ (sized 2 tally) t))) p

    pub recode-short-tally : {e : Refusal} → Err e ≡ unless (sized 2 tally) WrongLength → lengths or_else due F bytes ≡ Err e
    recode-short-tally p = wrong-length-first _ _ _ (and_right (sized F.bytes bytes && sized F.long digits) _) p

    pub recode-short-bytes : {e : Refusal} → Err e ≡ unless (sized 32 bytes) WrongLength → lengths or_else due F bytes ≡ Err e
    recode-short-bytes p =
        wrong-length-first _ _ _ (λ t. subst (λ (m : ℕ). T (sized m bytes)) wide (and_left _ (sized F.long digits) (and_left _ (sized 2 tally) t))) p

    module _ (d : Done ≡ unless (sized n digits) WrongLength) (t : Done ≡ unless (sized 2 tally) WrongLength) (b : Done ≡ unless (sized 32 bytes) WrongLength) where
      -- they are right, and the recoder decides
      pub recode-sized : lengths or_else due F bytes ≡ due F bytes
      recode-sized =
          right-lengths _ _ (and_both _ _ (and_both _ _ (subst (λ (m : ℕ). T (sized m bytes)) (sym wide) (right-length _ b)) (subst (λ (m : ℕ). T (sized m digits)) (sym long) (right-length _ d))) (right-length _ t))

      pub recode-given : {made digits' : List ℤ} {tally' : List ℕ} {counted added : ℕ} → Recodes F bytes Done made counted added → digits' ≡ made → tally' ≡ counted ∷ added ∷ []
          → CardRecode F bytes digits tally digits' tally' 0
      recode-given {counted} {added} r e f = answers-done (recode-sized ∙ sym r.answered) (record { counted = counted; added = added; recoded = rw e r; tallied = f })
