-- The test's and a reader's promise in 01's words are the library's, for every form that agrees: conditions 1 to 3. Assumes nothing.
use mathlib.Core.Path.{◌≡◌, refl, sym, ◌∙◌, ap, subst}
use mathlib.Core.Logic.{◌≢◌, ◌↔◌, ◌⊎◌, inl, inr}
use mathlib.Core.Bool.{Bool, true, false}
use mathlib.Core.List.{List}
use Prim.Native.Nat.{ℕ, ◌+◌, ◌<◌, ◌≤◌}
use native.Mathlib.Omega.{arith}
use lib.Dec.{T, T_not, not_T}
use lib.ListN.{length, take, replicate}
use lib.Seq.{get_or-take, length-take-le, take-length}
use lib.IntN.{ℤ, pos}
use Rattle.rules.specs.declared.Refusal.TheVariants.{WrongLength, WrongForm, WrongWidth, TooWide, BrokenDigit, Crowded, Negative, PastEnd, WrongChoice}
use Rattle.std.specs.Prelude.{Ok, Err}
use Rattle.std.specs.Result.{is_ok}
use Rattle.std.proofs.lemmas.Bool.{false≢true}
use Rattle.rules.specs.Digits.{is_zero}
use Rattle.rules.specs.Forms.{Form}
use Rattle.rules.specs.Keeps.{Keeps}
use Rattle.rules.specs.Verdicts.{Verdict, Done, number, position}
use Rattle.rules.specs.Test.{verdict}
use Rattle.rules.specs.Refusals as R
use Rattle.rules.specs.Promises.{Reads}
use Rattle.rules.proofs.Verdicts.{verdict-named, number-zero}
use Rattle.rules.proofs.ZeroDigit.{zero_or, nonzero-is}
use Rattle.rules.proofs.Refusals.{verdict-exactly, verdict-done, refused-1, refused-3, refused-5, refused-6, refused-7, refused-8}
use Rattle.acceptance.specs.Strings.{digit}
use Rattle.acceptance.specs.Conditions.{Form01, Offered, FineBelow, Tested, Reading}
use Rattle.acceptance.proofs.Sums.{integer-is}
use Rattle.acceptance.proofs.Agreed.{Agrees}

-- only 5 and 6 have a position
no-position : (v : Verdict) → number v ≢ 5 → number v ≢ 6 → position v ≡ 0
no-position (Ok done) f g = refl
no-position (Err WrongLength) f g = refl
no-position (Err WrongForm) f g = refl
no-position (Err WrongWidth) f g = refl
no-position (Err TooWide) f g = refl
no-position (Err (BrokenDigit k)) f g = absurd (f refl)
no-position (Err (Crowded k)) f g = absurd (g refl)
no-position (Err Negative) f g = refl
no-position (Err PastEnd) f g = refl
no-position (Err WrongChoice) f g = refl

-- a verdict that is no error is done
done-ok : (v : Verdict) → is_ok v ≡ true → v ≡ Done
done-ok (Ok tt) e = refl
done-ok (Err refusal) e = absurd (false≢true e)

module _ {F : Form} {C : Form01} (a : Agrees F C) where
  -- the test: done exactly if the digits are a string of the form
  pub test-done : (ds : List ℤ) → number (verdict F ds) ≡ 0 ↔ C.String ds
  test-done ds = (λ z. (a.strings ds).0 ((verdict-done F ds).0 (number-zero (verdict F ds) z)), λ s. ap number ((verdict-done F ds).1 ((a.strings ds).1 s)))

  -- .. as a caller asks it, by whether it is done
  pub asked : (ds : List ℤ) {v : Verdict} {b : Bool} → v ≡ verdict F ds → b ≡ is_ok v → (b ≡ true) ↔ C.String ds
  asked ds {v} {b} e m =
      let k : b ≡ is_ok (verdict F ds) = m ∙ ap is_ok e in
      (λ t. (test-done ds).0 (ap number (done-ok (verdict F ds) (sym k ∙ t))), λ s. k ∙ ap is_ok (number-zero (verdict F ds) ((test-done ds).1 s)))

  -- ---- the test, line by line

  -- the digits below an index keep the rules exactly if nothing is wrong with them
  fine-below : T F.allowed → (ds : List ℤ) (k : ℕ) → k ≤ length ds → Keeps F (take k ds) ↔ FineBelow C ds k
  fine-below t ds k l = (there, back)
    where
      n : length (take k ds) ≡ k
      n = length-take-le k ds l

      there : Keeps F (take k ds) → FineBelow C ds k
      there p i h = (
        (a.own t ds i).0 (rw (get_or-take k ds i (pos 0) h) at (p.digits i (omega (arith, n)))),
        λ c. let (f, j, m, u, g) = (a.close ds i).0 c in
            let m' : j < k = omega arith in
            f (rw (get_or-take k ds i (pos 0) h) at (p.spacing j i m u (omega (arith, n)) (rw (get_or-take k ds j (pos 0) m') g))),
      )

      zero-at : (i j : ℕ) → FineBelow C ds k → i < j → j ≤ i + F.gap → j < k → digit ds i ≢ pos 0 → (digit ds j ≡ pos 0) ⊎ (is_zero (digit ds j) ≡ false) → digit ds j ≡ pos 0
      zero-at i j f m u h g (inl e) = e
      zero-at i j f m u h g (inr e) = absurd ((f j h).1 ((a.close ds j).1 (nonzero-is (digit ds j) e, i, m, u, g)))

      back : FineBelow C ds k → Keeps F (take k ds)
      back f = record {
        digits = λ i h. let h' : i < k = omega (arith, n) in rw (get_or-take k ds i (pos 0) h') ((a.own t ds i).1 (f i h').0);
        spacing = λ i j m u h g. let h' : j < k = omega (arith, n) in
            let m' : i < k = omega (arith, n) in
            rw (get_or-take k ds j (pos 0) h') (zero-at i j f m u h' (rw (get_or-take k ds i (pos 0) m') at g) (zero_or (digit ds j)));
      }

  module _ (ds : List ℤ) where
    offered : {end : ℕ} → Offered C ds end → R.Offered F ds
    offered {end} o = record { long = o.0 ∙ sym a.entries; allowed = ((a.ends end).0 o.1).0 }

    offers : R.Offered F ds → Offered C ds F.end
    offers o = (o.long ∙ a.entries, (a.ends F.end).1 (o.allowed, refl))

    -- the whole string
    fine-all : R.Offered F ds → Keeps F ds ↔ FineBelow C ds C.entries
    fine-all o = subst (λ (n : ℕ). Keeps F ds ↔ FineBelow C ds n) (o.long ∙ a.entries) (subst (λ (es : List ℤ). Keeps F es ↔ FineBelow C ds (length ds)) (take-length ds) (fine-below o.allowed ds (length ds) (omega arith)))

    plain : (v : Verdict) → position v ≡ 0 → number v ≢ 5 → number v ≢ 6 → number (verdict F ds) ≡ number v ↔ (verdict F ds ≡ v)
    plain v z f g = (λ e. verdict-named (verdict F ds) v e (no-position (verdict F ds) (λ x. f (sym e ∙ x)) (λ x. g (sym e ∙ x)) ∙ sym z), λ e. ap number e)

    inside : {k : ℕ} → R.Offered F ds → (k < length ds) ↔ (k < C.entries)
    inside o = let n = o.long ∙ a.entries in (λ l. omega arith, λ l. omega arith)

    pub test-tested : Tested C ds (verdict F ds)
    test-tested = record {
      one = (
        λ e n. (refused-1 F ds).0 ((plain (Err WrongLength) refl (λ x. omega arith) (λ x. omega arith)).0 e) (n ∙ sym a.entries),
        λ n. ap number ((refused-1 F ds).1 (λ e. n (e ∙ a.entries))),
      );
      three = (
        λ e. let g = (refused-3 F ds).0 ((plain (Err WrongWidth) refl (λ x. omega arith) (λ x. omega arith)).0 e) in
            (g.0 ∙ a.entries, λ end r. T_not F.allowed g.1 ((a.ends end).0 r).0),
        λ (n, none). ap number ((refused-3 F ds).1 (n ∙ sym a.entries, not_T F.allowed (λ t. none F.end ((a.ends F.end).1 (t, refl))))),
      );
      five = λ k. (
        λ (e, i). let (o, g) = (refused-5 F ds k).0 (verdict-named (verdict F ds) (Err (BrokenDigit k)) e i) in
            let t = o.allowed in
            (F.end, offers o, (inside o).0 g.inside, (fine-below t ds k (let l = g.inside in omega arith)).0 g.below, λ x. T_not (F.own k (digit ds k)) g.broken ((a.own t ds k).1 x)),
        λ (end, r, l, f, x). let o = offered r in
            let t = o.allowed in
            let l' = (inside o).1 l in
            let e = (refused-5 F ds k).1 (o, record { inside = l'; below = (fine-below t ds k (omega arith)).1 f; broken = not_T (F.own k (digit ds k)) (λ y. x ((a.own t ds k).0 y)) }) in
            (ap number e, ap position e),
      );
      six = λ k. (
        λ (e, i). let (o, g) = (refused-6 F ds k).0 (verdict-named (verdict F ds) (Err (Crowded k)) e i) in
            let t = o.allowed in
            (F.end, offers o, (inside o).0 g.inside, (fine-below t ds k (let l = g.inside in omega arith)).0 g.below, (a.own t ds k).0 g.kept, (let (j, m, u, y) = g.follows in (a.close ds k).1 (g.nonzero, j, m, u, y))),
        λ (end, r, l, f, x, c). let o = offered r in
            let t = o.allowed in
            let l' = (inside o).1 l in
            let (y, j, m, u, z) = (a.close ds k).0 c in
            let e = (refused-6 F ds k).1 (o, record { inside = l'; below = (fine-below t ds k (omega arith)).1 f; kept = (a.own t ds k).1 x; nonzero = y; follows = (j, m, u, z) }) in
            (ap number e, ap position e),
      );
      seven = (
        λ e. let (o, g) = (refused-7 F ds).0 ((plain (Err Negative) refl (λ x. omega arith) (λ x. omega arith)).0 e) in
            (F.end, offers o, (fine-all o).0 g.keeps, rw (a.sums ds) at g.negative),
        λ (end, r, f, l). let o = offered r in
            ap number ((refused-7 F ds).1 (o, record { keeps = (fine-all o).1 f; negative = rw (a.sums ds) l })),
      );
      eight = (
        λ e. let (o, g) = (refused-8 F ds).0 ((plain (Err PastEnd) refl (λ x. omega arith) (λ x. omega arith)).0 e) in
            (F.end, offers o, (fine-all o).0 g.keeps, rw (a.sums ds) at g.past),
        λ (end, r, f, l). let o = offered r in
            let i = ((a.ends end).0 r.1).1 in
            ap number ((refused-8 F ds).1 (o, record { keeps = (fine-all o).1 f; past = rw (a.sums ds, ← i) l })),
      );
      done = test-done ds;
    }

  -- the reader
  pub reading : {ds : List ℤ} {answer : Verdict} {bytes : List ℕ} → Reads F ds answer bytes → Reading C ds answer bytes
  reading {ds} {answer} {bytes} r = record {
    tested = subst (Tested C ds) (sym r.answered) (test-tested ds);
    sums = λ z. sym (a.sums ds) ∙ r.sums (number-zero answer z) ∙ ap pos (integer-is bytes);
    zeros = λ f. subst (λ (n : ℕ). bytes ≡ replicate n 0) a.bytes (r.zeros (λ e. f (ap number e)));
  }

  -- .. and nothing but the library's promise keeps it

  one-test : {ds : List ℤ} {answer : Verdict} → Tested C ds answer → answer ≡ verdict F ds
  one-test {ds} {answer} g = go (verdict F ds) refl
    where
      h : Tested C ds (verdict F ds)
      h = test-tested ds

      plainly : (v : Verdict) → number v ≢ 5 → number v ≢ 6 → number answer ≡ number v → verdict F ds ≡ v → answer ≡ verdict F ds
      plainly v x y n e = verdict-named answer v n (no-position answer (λ z. x (sym n ∙ z)) (λ z. y (sym n ∙ z)) ∙ sym (no-position v x y)) ∙ sym e

      go : (v : Verdict) → verdict F ds ≡ v → answer ≡ verdict F ds
      go (Ok done) e = plainly Done (λ z. omega arith) (λ z. omega arith) (g.done.1 (h.done.0 (ap number e))) e
      go (Err WrongLength) e = plainly (Err WrongLength) (λ z. omega arith) (λ z. omega arith) (g.one.1 (h.one.0 (ap number e))) e
      go (Err WrongForm) e = absurd ((verdict-exactly F ds (Err WrongForm)).0 e)
      go (Err WrongWidth) e = plainly (Err WrongWidth) (λ z. omega arith) (λ z. omega arith) (g.three.1 (h.three.0 (ap number e))) e
      go (Err TooWide) e = absurd ((verdict-exactly F ds (Err TooWide)).0 e)
      go (Err (BrokenDigit k)) e = let n = (g.five k).1 ((h.five k).0 (ap number e, ap position e)) in verdict-named answer (Err (BrokenDigit k)) n.0 n.1 ∙ sym e
      go (Err (Crowded k)) e = let n = (g.six k).1 ((h.six k).0 (ap number e, ap position e)) in verdict-named answer (Err (Crowded k)) n.0 n.1 ∙ sym e
      go (Err Negative) e = plainly (Err Negative) (λ z. omega arith) (λ z. omega arith) (g.seven.1 (h.seven.0 (ap number e))) e
      go (Err PastEnd) e = plainly (Err PastEnd) (λ z. omega arith) (λ z. omega arith) (g.eight.1 (h.eight.0 (ap number e))) e
      go (Err WrongChoice) e = absurd ((verdict-exactly F ds (Err WrongChoice)).0 e)

  pub reads : {ds : List ℤ} {answer : Verdict} {bytes : List ℕ} → Reading C ds answer bytes → Reads F ds answer bytes
  reads {ds} {answer} {bytes} r = record {
    answered = one-test r.tested;
    sums = λ e. a.sums ds ∙ r.sums (ap number e) ∙ ap pos (sym (integer-is bytes));
    zeros = λ f. subst (λ (n : ℕ). bytes ≡ replicate n 0) (sym a.bytes) (r.zeros (λ e. f (number-zero answer e)));
  }

  pub test-is : {ds : List ℤ} {answer : Verdict} → (answer ≡ verdict F ds) ↔ Tested C ds answer
  test-is {ds} = (λ e. subst (Tested C ds) (sym e) (test-tested ds), one-test)

  pub reading-is : {ds : List ℤ} {answer : Verdict} {bytes : List ℕ} → Reads F ds answer bytes ↔ Reading C ds answer bytes
  reading-is = (reading, reads)
