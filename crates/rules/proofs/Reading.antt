-- What a reader promises, over any form: what it takes to keep it, and that it fixes the reply. Assumes nothing.
use mathlib.Core.Path.{◌≡◌, sym, ◌∙◌, ap}
use mathlib.Core.Logic.{◌≢◌, ◌↔◌, ◌⊎◌, inl, inr}
use mathlib.Core.List.{List}
use Prim.Native.Nat.{ℕ}
use lib.ListN.{length, replicate}
use lib.IntN.{ℤ, pos}
use Rattle.rules.specs.declared.Refusal.TheVariants.{WrongWidth}
use Rattle.rules.specs.Integer.{integer, Bytes}
use Rattle.rules.specs.Digits.{weighted}
use Rattle.rules.specs.Forms.{Form}
use Rattle.rules.specs.Keeps.{Passes}
use Rattle.rules.specs.Verdicts.{Verdict, Done, number, unless}
use Rattle.rules.specs.Test.{first_fault, range_fault, verdict}
use Rattle.rules.specs.Refusals.{Offered}
use Rattle.rules.specs.Promises.{Reads}
use Rattle.rules.proofs.Integer.{integer-determines}
use Rattle.rules.proofs.Verdicts.{done-or, done-or_else, refused-or_else}
use Rattle.rules.proofs.Refusals.{offered-verdict, verdict-done, verdict-width}

module _ (F : Form) (ds : List ℤ) where
  -- ---- what keeps the promise

  module _ (answer : Verdict) (bytes : List ℕ) where
    -- a refusal with zero bytes
    pub reads-refused : (v : Verdict) → verdict F ds ≡ v → number v ≢ 0 → (answer ≡ v) × (bytes ≡ replicate F.bytes 0) → Reads F ds answer bytes
    reads-refused v e n r = record { answered = r.0 ∙ sym e; sums = λ d. absurd (n (ap number (sym r.0 ∙ d))); zeros = λ d. r.1 }

    -- past the length: the refusal of the width, with zero bytes
    pub reads-width : (v : Verdict) → length ds ≡ F.long → v ≡ unless F.allowed WrongWidth → number v ≢ 0 → (answer ≡ v) × (bytes ≡ replicate F.bytes 0) → Reads F ds answer bytes
    reads-width v l e n r = reads-refused v (verdict-width F ds e n l) n r

    -- past the length and the width: what is wrong first, with zero bytes
    pub reads-faulty : Offered F ds → (v : Verdict) → v ≡ first_fault F ds 0 (length ds) → number v ≢ 0 → (answer ≡ v) × (bytes ≡ replicate F.bytes 0) → Reads F ds answer bytes
    reads-faulty o v e n r = reads-refused v (offered-verdict F ds o ∙ rw (← e) (refused-or_else v _ n)) n r

    -- and where nothing is, the sum against the range, with the bytes that have it
    pub reads-summed : Offered F ds → first_fault F ds 0 (length ds) ≡ Done → answer ≡ range_fault F.end (weighted F.base ds)
        → (answer ≡ Done → weighted F.base ds ≡ pos (integer bytes)) → (answer ≢ Done → bytes ≡ replicate F.bytes 0) → Reads F ds answer bytes
    reads-summed o f e s z = record { answered = e ∙ sym (offered-verdict F ds o ∙ rw f (done-or_else _)); sums = s; zeros = z }

  -- ---- what the promise gives

  -- done exactly if the string passes
  pub reads-exactly : {answer : Verdict} {bytes : List ℕ} → Reads F ds answer bytes → answer ≡ Done ↔ Passes F ds
  reads-exactly r = (λ e. (verdict-done F ds).0 (sym r.answered ∙ e), λ p. r.answered ∙ (verdict-done F ds).1 p)

  -- one reply
  pub reads-determined : {answer answer' : Verdict} {bytes bytes' : List ℕ} → Bytes F.bytes bytes → Bytes F.bytes bytes' → Reads F ds answer bytes → Reads F ds answer' bytes' → (answer ≡ answer') × (bytes ≡ bytes')
  reads-determined {answer} {answer'} {bytes} {bytes'} b b' r r' = let e : answer ≡ answer' = r.answered ∙ sym r'.answered in (e, go e (done-or answer'))
    where
      go : answer ≡ answer' → (answer' ≡ Done) ⊎ (number answer' ≢ 0) → bytes ≡ bytes'
      go e (inl d) = integer-determines b b' (cc (r.sums (e ∙ d), r'.sums d))
      go e (inr n) = r.zeros (λ d. n (ap number (sym e ∙ d))) ∙ sym (r'.zeros (λ d. n (ap number d)))
