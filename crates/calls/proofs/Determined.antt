-- The calls of a form: two outcomes of one call that both keep its promise are equal, the result and every lent element; and a test's result names its verdict. Assumes nothing.
use mathlib.Core.Path.{◌≡◌, sym, ap, ◌∙◌}
use mathlib.Core.List.{List}
use Prim.Native.Nat.{ℕ, ◌^◌, ◌<◌, ◌≤◌}
use native.Mathlib.Omega.{arith}
use lib.Dec.{T}
use lib.IntN.{ℤ}
use Rattle.rules.specs.Forms.{Form}
use Rattle.rules.specs.Test.{verdict}
use Rattle.rules.specs.Exactly.{Lawful}
use Rattle.rules.proofs.Promises.{recodes-determined}
use Rattle.rules.proofs.Reading.{reads-determined}
use Rattle.rules.proofs.Refusals.{position-inside}
use Rattle.calls.specs.Forms.{Tallied, CardRecode, CardTest, CardRead}
use Rattle.calls.proofs.Codes.{Holds, code_holds}
use Rattle.calls.proofs.Answers.{Unique, answers-determined}

module _ (F : Form) where
  pub card-test-determined : (digits : List ℤ) {r r' : ℕ} → CardTest F digits r → CardTest F digits r' → r ≡ r'
  card-test-determined digits p q = p ∙ sym q

  -- the number and the position of the test's verdict, off the result
  pub card-test-holds : (digits : List ℤ) {r : ℕ} → 0 < F.long → F.long ≤ 2 ^ 24 → CardTest F digits r → Holds (verdict F digits) r
  card-test-holds digits h m p = rw p (code_holds (verdict F digits) (omega (arith, position-inside F digits h)))

  pub card-read-determined : (digits : List ℤ) {before after after' : List ℕ} {r r' : ℕ} → CardRead F digits before after r → CardRead F digits before after' r' → (r ≡ r') × (after ≡ after')
  card-read-determined digits = answers-determined (λ x y p q. (reads-determined F digits p.0 q.0 p.1 q.1).1)

  pub card-recode-determined : (bytes : List ℕ) {before after after' : List ℤ} {tally tallied tallied' : List ℕ} {r r' : ℕ} → (T F.allowed → Lawful F)
      → CardRecode F bytes before tally after tallied r → CardRecode F bytes before tally after' tallied' r' → (r ≡ r') × (after ≡ after') × (tallied ≡ tallied')
  card-recode-determined bytes lawful p q =
      let e = answers-determined unique p q in
      (e.0, ap (λ (lent : List ℤ × List ℕ). lent.0) e.1, ap (λ (lent : List ℤ × List ℕ). lent.1) e.1)
    where
      unique : Unique (λ (lent : List ℤ × List ℕ). Tallied F bytes lent.0 lent.1)
      unique x y s t =
          let e = recodes-determined F lawful bytes s.recoded t.recoded in
          let l : x.1 ≡ y.1 = cc (e.2, e.3, s.tallied, t.tallied) in
          λ i. (e.1 i, l i)
