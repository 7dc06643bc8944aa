-- N and R agree with 01, so that the conditions hold of both: over the width. Assumes nothing.
use mathlib.Core.Path.{◌≡◌, refl, sym, ◌∙◌}
use mathlib.Core.Logic.{◌↔◌, by_cases}
use mathlib.Core.Bool.{not, ◌||◌}
use mathlib.Core.List.{List}
use Prim.Native.Nat.{ℕ, ◌<◌, ◌^◌}
use native.Mathlib.Decide.{ℕ_discrete}
use native.Mathlib.Omega.{arith}
use borrow.Author.Tests.{ne_eqb}
use lib.Dec.{T, leb, eqb, leb→le, nleb→lt, not_T}
use lib.ListN.{get_or}
use lib.IntN.{ℤ}
use Rattle.rules.specs.Verdicts.{Verdict}
use Rattle.rules.specs.Integer.{Bytes}
use Rattle.rules.specs.Digits.{count, additions}
use Rattle.rules.specs.Widths.{width_r, row}
use Rattle.rules.specs.Forms.{Form, card_n, card_r}
use Rattle.rules.specs.Test.{verdict}
use Rattle.rules.specs.Promises.{Recodes, Reads}
use Rattle.rules.proofs.Additions.{additions-bound}
use Rattle.rules.proofs.Exactly.{lawful-card-n, lawful-card-r}
use Rattle.acceptance.specs.Strings.{digit, non_zero_among}
use Rattle.acceptance.specs.Conditions.{n01, r01, Recoding, Tested, Reading, EachOne}
use Rattle.acceptance.specs.Forms.{Named, N, R, form01, card}
use Rattle.acceptance.proofs.Sums.{sum-n-is, sum-r-is}
use Rattle.acceptance.proofs.Tallies.{additions-among, counted-n, one-count}
use Rattle.acceptance.proofs.RulesN.{width-n, digit-n, passes-n}
use Rattle.acceptance.proofs.RulesR.{width-r, row_is, row-r, digit-r, passes-r}
use Rattle.acceptance.proofs.Agreed.{Agrees}
use Rattle.acceptance.proofs.Recoders.{recoding-is}
use Rattle.acceptance.proofs.Readers.{test-is, reading-is}
use Rattle.acceptance.proofs.Together.{each-one}

-- no room: above 127
above-127 : (x : ℕ) → T (not (leb x 127)) ↔ (127 < x)
above-127 x = (nleb→lt x 127, λ l. not_T (leb x 127) (λ t. let m = leb→le x 127 t in omega arith))

four-r : (w x : ℕ) → ((w ≡ 4) × (127 < x)) ↔ (T (width_r w) × T (not (not (eqb w 4) || leb x 127)))
four-r w x = by_cases (ℕ_discrete w 4) (λ e. rw (e) (λ h. (tt, (above-127 x).1 h.1), λ h. (refl, (above-127 x).0 h.1))) (λ f. rw (ne_eqb w 4 f) (λ h. absurd (f h.0), λ h. absurd h.1))

pub agrees-n : (w : ℕ) → Agrees (card_n w) (n01 w)
agrees-n w = record {
  lawful = lawful-card-n w;
  bytes = refl;
  entries = refl;
  ends = λ end. (λ r. ((width-n w).1 (r.0, r.1), r.2), λ h. let b = (width-n w).0 h.0 in (b.0, b.1, h.1));
  fours = λ bytes. (
    λ f. ((width-n w).1 (f.0, f.1), (above-127 (get_or bytes 31 0)).1 f.2),
    λ h. let b = (width-n w).0 h.0 in (b.0, b.1, (above-127 (get_or bytes 31 0)).0 h.1),
  );
  own = λ t ds i. digit-n w (digit ds i);
  close = λ ds i. (λ c. c, λ c. c);
  strings = passes-n w;
  sums = sum-n-is;
  counts = λ ds p j m. let all : additions ds ≡ non_zero_among ds 256 = rw (← p.long) (additions-among ds) in (
    λ (c, d). (one-count ds j (count ds) c (counted-n ds), d.number ∙ sym all),
    λ (c, d). (rw c (counted-n ds), record { number = d ∙ all; few = rw d (additions-bound 8 256 w ds p) }),
  );
}

pub agrees-r : (w : ℕ) → Agrees (card_r w) (r01 w)
agrees-r w = record {
  lawful = lawful-card-r w;
  bytes = refl;
  entries = refl;
  ends = λ end. (λ (n, top, r). (width-r r, sym (row_is r).2), λ h. ((row w).digits, (row w).top, rw h.1 (row-r w h.0)));
  fours = λ bytes. four-r w (get_or bytes 31 0);
  own = λ t ds i. (
    λ o n top end r. let e = row_is r in (digit-r w n top i (digit ds i)).0 (rw (e.0, e.1) at o),
    λ f. (digit-r w (row w).digits (row w).top i (digit ds i)).1 (f _ _ _ (row-r w t)),
  );
  close = λ ds i. (λ c. absurd c, λ (f, j, l, h, g). absurd (omega arith));
  strings = passes-r w;
  sums = sum-r-is w;
  counts = λ ds p j m. (
    λ ((top, end, r), d). (sym (row_is r).0, d),
    λ (c, d). (((row w).top, 2 ^ (row w).bits, rw c (row-r w p.allowed)), d),
  );
}

-- by name
pub agrees : (name : Named) (w : ℕ) {F : Form} → F ≡ card name w → Agrees F (form01 name w)
agrees N w e = rw e (agrees-n w)
agrees R w e = rw e (agrees-r w)

-- ---- the conditions, over the width

module _ (w : ℕ) where
  -- conditions 1 and 2: a recoder's promise is that of 01
  module _ (bytes : List ℕ) (b : Bytes 32 bytes) {answer : Verdict} {digits : List ℤ} {count additions : ℕ} where
    pub recoding-n : Recodes (card_n w) bytes answer digits count additions ↔ Recoding (n01 w) bytes answer digits count additions
    recoding-n = recoding-is (agrees-n w) bytes b

    pub recoding-r : Recodes (card_r w) bytes answer digits count additions ↔ Recoding (r01 w) bytes answer digits count additions
    recoding-r = recoding-is (agrees-r w) bytes b

  -- conditions 1, 2 and 3: so are the test's and a reader's
  module _ {digits : List ℤ} {answer : Verdict} where
    pub test-n : (answer ≡ verdict (card_n w) digits) ↔ Tested (n01 w) digits answer
    test-n = test-is (agrees-n w)

    pub test-r : (answer ≡ verdict (card_r w) digits) ↔ Tested (r01 w) digits answer
    test-r = test-is (agrees-r w)

    pub reading-n : {bytes : List ℕ} → Reads (card_n w) digits answer bytes ↔ Reading (n01 w) digits answer bytes
    reading-n = reading-is (agrees-n w)

    pub reading-r : {bytes : List ℕ} → Reads (card_r w) digits answer bytes ↔ Reading (r01 w) digits answer bytes
    reading-r = reading-is (agrees-r w)

  -- condition 3: each integer of the range has exactly one string
  pub each-n : EachOne (n01 w)
  each-n = each-one (agrees-n w)

  pub each-r : EachOne (r01 w)
  each-r = each-one (agrees-r w)
