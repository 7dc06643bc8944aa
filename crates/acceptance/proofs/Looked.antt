-- R: what a caller sees of a reply who goes through the digits that count. Assumes nothing.
use mathlib.Core.Path.{◌≡◌, refl, sym, ◌∙◌, ap, subst}
use mathlib.Core.Logic.{◌≢◌}
use mathlib.Core.List.{List}
use Prim.Native.Nat.{ℕ, ◌+◌, ◌-◌, ◌≤◌}
use native.Mathlib.Omega.{arith}
use lib.Dec.{lit≤}
use lib.IntN.{ℤ, pos}
use Rattle.rules.specs.Integer.{Bytes}
use Rattle.rules.specs.Forms.{card_r}
use Rattle.rules.specs.Verdicts.{Verdict, Done, number}
use Rattle.rules.specs.Promises.{Recodes}
use Rattle.rules.proofs.Verdicts.{done-or-refused}
use Rattle.rules.proofs.ZeroDigit.{replicate-zero}
use Rattle.acceptance.specs.Strings.{digit, non_zero_among, RowR, four, five, six, seven, eight}
use Rattle.acceptance.specs.Conditions.{r01, Recoding, Seen}
use Rattle.acceptance.proofs.Tallies.{among-past}
use Rattle.acceptance.proofs.RulesR.{row_is}
use Rattle.acceptance.proofs.Recoders.{recoding}
use Rattle.acceptance.proofs.Accepted.{agrees-r}

-- no row has more digits than a string has entries
row-few : {w n top end : ℕ} → RowR w n top end → n ≤ 64
row-few four = lit≤ tt
row-few five = lit≤ tt
row-few six = lit≤ tt
row-few seven = lit≤ tt
row-few eight = lit≤ tt

-- 33, and not 256/8
pub thirty-three : {w n top end : ℕ} → RowR w n top end → w ≡ 8 → n ≡ 33
thirty-three four e = absurd (omega arith)
thirty-three five e = absurd (omega arith)
thirty-three six e = absurd (omega arith)
thirty-three seven e = absurd (omega arith)
thirty-three eight e = refl

-- a sum that goes on over zeros
among-on : (ds : List ℤ) (n m : ℕ) → n ≤ m → ((i : ℕ) → n ≤ i → i + 1 ≤ m → digit ds i ≡ pos 0) → non_zero_among ds n ≡ non_zero_among ds m
among-on ds n m l f = let e : n + (m - n) ≡ m = omega arith in sym (rw e at (among-past ds n (m - n) (λ i h u. f i h (omega arith))))

module _ (w : ℕ) {bytes : List ℕ} (b : Bytes 32 bytes) {answer : Verdict} {digits : List ℤ} {count added : ℕ} (p : Recodes (card_r w) bytes answer digits count added) where
  pub none-added : added ≡ 0
  none-added = done-or-refused answer (λ e. (p.counts e).1) (λ f. (p.zeros f).2)

  recoded : Recoding (r01 w) bytes answer digits count 0
  recoded = subst (λ (k : ℕ). Recoding (r01 w) bytes answer digits count k) none-added (recoding (agrees-r w) bytes b p)

  all_seen : non_zero_among digits count ≡ non_zero_among digits 64
  all_seen = done-or-refused answer taken refused
    where
      taken : answer ≡ Done → non_zero_among digits count ≡ non_zero_among digits 64
      taken e =
          let z : number answer ≡ 0 = ap number e in
          let s = recoded.string z in
          let (top, end, r) = (recoded.counts z).0 in
          let n : s.n ≡ count = sym (row_is s.row).0 ∙ (row_is r).0 in
          among-on digits count 64 (row-few r) (λ i l h. (s.each i (omega arith)).past (omega arith))

      refused : answer ≢ Done → non_zero_among digits count ≡ non_zero_among digits 64
      refused f =
          let z = p.zeros f in
          let none : count ≡ 0 = z.1 in
          among-on digits count 64 (omega arith) (λ i l h. rw z.0 (replicate-zero 64 i))

  pub looked : {seen : ℕ} → seen ≡ non_zero_among digits count → Seen w bytes answer digits count seen
  looked e = record {
    recoded = recoded;
    all = e ∙ all_seen;
    width-8 = λ z h. let (top, end, r) = (recoded.counts z).0 in thirty-three r h;
  }
