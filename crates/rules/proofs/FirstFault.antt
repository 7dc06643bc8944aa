-- The first fault, index by index, and that the walk with a counter finds the same. Assumes nothing.
use mathlib.Core.Path.{◌≡◌, refl, sym, ◌∙◌, ap}
use mathlib.Core.Logic.{◌≢◌, ◌⊎◌, inl, inr}
use mathlib.Core.Bool.{Bool, true, false, not, ◌&&◌}
use mathlib.Core.List.{List}
use Prim.Native.Nat.{ℕ, zero, suc, ◌+◌, ◌-◌, ◌≤◌, ◌<◌}
use native.Mathlib.Nat.{zero-add}
use native.Mathlib.Decide.{dec_lt}
use native.Mathlib.Omega.{arith}
use lib.Dec.{T, ltb, lt→ltb}
use lib.ListN.{length, take, drop, length-drop}
use lib.Seq.{get_or-take, get_or-drop, length-take-le, take-length}
use lib.IntN.{ℤ, pos}
use Rattle.rules.specs.declared.Refusal.TheVariants.{BrokenDigit, Crowded}
use Rattle.std.specs.Prelude.{Err}
use Rattle.rules.specs.Digits.{digit_at, is_zero, non_zeros}
use Rattle.rules.specs.Forms.{Form}
use Rattle.rules.specs.Keeps.{Keeps}
use Rattle.rules.specs.Verdicts.{Done, number, ◌or_else◌}
use Rattle.rules.specs.Test.{crowded, fault_at, first_fault}
use Rattle.rules.specs.Refusals.{BreaksAt, CrowdsAt}
use Rattle.rules.specs.inner.Scan.{scan}
use Rattle.rules.proofs.Verdicts.{done-or_else, refused-or_else, unless-held, unless-failed}
use Rattle.rules.proofs.ZeroDigit.{zero_or, nonzero-of, nonzero-is}
use Rattle.rules.proofs.Tally.{none-nonzero, some-nonzero}
use Rattle.rules.proofs.Scan.{view, View, clean, stops, stopped, good-scan, stop-scan, good-keeps, stop-breaks, stop-crowds}

module _ (gap : ℕ) (ds : List ℤ) where
  -- the digits just below index j: the m-th of them is digit (j - gap) + m
  just-below : (j m : ℕ) → j ≤ length ds → m < length (drop (j - gap) (take j ds)) → (j - gap + m < j) × (digit_at (drop (j - gap) (take j ds)) m ≡ digit_at ds (j - gap + m))
  just-below j m l h =
      let n = length-drop (j - gap) (take j ds) in
      let k = length-take-le j ds l in
      let i : j - gap + m < j = omega (arith, n, k) in
      (i, get_or-drop (j - gap) (take j ds) m (pos 0) ∙ get_or-take j ds (j - gap + m) (pos 0) i)

  -- no crowd at j, where a non-zero digit there would break the spacing
  uncrowded : (j : ℕ) → j < length ds → ((i : ℕ) → i < j → j ≤ i + gap → digit_at ds i ≢ pos 0 → digit_at ds j ≡ pos 0) → T (not (crowded gap ds j))
  unfolding crowded
  uncrowded j h f = go (zero_or (digit_at ds j))
    where
      empty : digit_at ds j ≢ pos 0 → non_zeros (drop (j - gap) (take j ds)) ≡ 0
      empty n = none-nonzero (drop (j - gap) (take j ds)) (λ m k. let b = just-below j m (omega arith) k in b.1 ∙ each (j - gap + m) b.0 (omega arith) (zero_or (digit_at ds (j - gap + m))))
        where
          each : (i : ℕ) → i < j → j ≤ i + gap → (digit_at ds i ≡ pos 0) ⊎ (is_zero (digit_at ds i) ≡ false) → digit_at ds i ≡ pos 0
          each i l g (inl e) = e
          each i l g (inr e) = absurd (n (f i l g (nonzero-is (digit_at ds i) e)))

      go : (digit_at ds j ≡ pos 0) ⊎ (is_zero (digit_at ds j) ≡ false) → T (not (not (is_zero (digit_at ds j)) && ltb 0 (non_zeros (drop (j - gap) (take j ds)))))
      go (inl e) = rw e tt
      go (inr e) = rw (e, empty (nonzero-is (digit_at ds j) e)) tt

  -- a crowd at k
  crowds : (k j : ℕ) → k < length ds → digit_at ds k ≢ pos 0 → j < k → k ≤ j + gap → digit_at ds j ≢ pos 0 → T (crowded gap ds k)
  unfolding crowded
  crowds k j h n l g f =
      let m = j - (k - gap) in
      let xs = drop (k - gap) (take k ds) in
      let s : m < length xs = omega (arith, length-drop (k - gap) (take k ds), length-take-le k ds (omega arith)) in
      let i : k - gap + m ≡ j = omega arith in
      let e : digit_at xs m ≡ digit_at ds j = (just-below k m (omega arith) s).1 ∙ ap (digit_at ds) i in
      rw (nonzero-of (digit_at ds k) n) (lt→ltb 0 (non_zeros xs) (some-nonzero xs m s (λ z. f (sym e ∙ z))))

module _ (F : Form) (ds : List ℤ) where
  -- ---- one index

  fine : (i : ℕ) → T (F.own i (digit_at ds i)) → T (not (crowded F.gap ds i)) → fault_at F ds i ≡ Done
  unfolding fault_at
  fine i s t = rw (unless-held (F.own i (digit_at ds i)) (BrokenDigit i) s, unless-held (not (crowded F.gap ds i)) (Crowded i) t) (done-or_else Done)

  -- below k, where the first k digits keep the rules
  kept_fine : (k i : ℕ) → Keeps F (take k ds) → k ≤ length ds → i < k → fault_at F ds i ≡ Done
  kept_fine k i q l h =
      let n : length (take k ds) ≡ k = length-take-le k ds l in
      let at : (j : ℕ) → j < k → digit_at (take k ds) j ≡ digit_at ds j = λ j h. get_or-take k ds j (pos 0) h in
      fine i (rw (at i h) at (q.digits i (omega arith)))
      (uncrowded F.gap ds i (omega arith) (λ j a b f. sym (at i h) ∙ q.spacing j i a b (omega arith) (λ e. f (sym (at j (omega arith)) ∙ e))))

  -- ---- the first of several

  first-none : (i k : ℕ) → ((j : ℕ) → j < i + k → fault_at F ds j ≡ Done) → first_fault F ds i k ≡ Done
  unfolding first_fault
  first-none i zero f = refl
  first-none i (suc k) f = rw (f i (omega arith)) (done-or_else _ ∙ first-none (suc i) k (λ j h. f j (omega arith)))

  first-at : (k i m : ℕ) → ((j : ℕ) → j < k → fault_at F ds j ≡ Done) → number (fault_at F ds k) ≢ 0 → i ≤ k → k < i + m → first_fault F ds i m ≡ fault_at F ds k
  unfolding first_fault
  first-at k i zero f n l h = absurd (omega arith)
  first-at k i (suc m) f n l h = go (dec_lt i k) (λ s. first-at k (suc i) m f n s (omega arith))
    where
      go : Dec (i < k) → (i < k → first_fault F ds (suc i) m ≡ fault_at F ds k) → fault_at F ds i or_else first_fault F ds (suc i) m ≡ fault_at F ds k
      go (yes s) r = rw (f i s) (done-or_else _ ∙ r s)
      go (no s) r = let e : i ≡ k = omega arith in rw e (refused-or_else (fault_at F ds k) _ n)

  pub keeps-first : Keeps F ds → first_fault F ds 0 (length ds) ≡ Done
  keeps-first q = first-none 0 (length ds) (λ j h. kept_fine (length ds) j (rw (take-length ds) q) (omega arith) (omega arith))

  pub breaks-first : (k : ℕ) → BreaksAt F ds k → first_fault F ds 0 (length ds) ≡ Err (BrokenDigit k)
  unfolding fault_at
  breaks-first k q =
      let e : fault_at F ds k ≡ Err (BrokenDigit k) = rw (unless-failed (F.own k (digit_at ds k)) (BrokenDigit k) q.broken) (refused-or_else (Err (BrokenDigit k)) _ (λ z. omega arith)) in
      let l = q.inside in
      first-at k 0 (length ds) (λ j h. kept_fine k j q.below (omega arith) h) (λ z. omega (arith, ap number e)) (omega arith) (omega arith) ∙ e

  pub crowds-first : (k : ℕ) → CrowdsAt F ds k → first_fault F ds 0 (length ds) ≡ Err (Crowded k)
  unfolding fault_at
  crowds-first k q =
      let (j, a, b, f) = q.follows in
      let l = q.inside in
      let e : fault_at F ds k ≡ Err (Crowded k) = rw (unless-held (F.own k (digit_at ds k)) (BrokenDigit k) q.kept, unless-failed (not (crowded F.gap ds k)) (Crowded k) (double (crowded F.gap ds k) (crowds F.gap ds k j l q.nonzero a b f))) (done-or_else (Err (Crowded k))) in
      first-at k 0 (length ds) (λ j h. kept_fine k j q.below (omega arith) h) (λ z. omega (arith, ap number e)) (omega arith) (omega arith) ∙ e
    where
      double : (b : Bool) → T b → T (not (not b))
      double true t = tt
      double false t = t

  -- ---- and the walk finds the same

  pub data Found : Type 0 where
    nothing : Keeps F ds → first_fault F ds 0 (length ds) ≡ Done → Found
    broken : (k : ℕ) → BreaksAt F ds k → first_fault F ds 0 (length ds) ≡ Err (BrokenDigit k) → Found
    crowd : (k : ℕ) → CrowdsAt F ds k → first_fault F ds 0 (length ds) ≡ Err (Crowded k) → Found

  pub found : Found
  found = go (view F 0 0 ds)
    where
      go : View F 0 0 ds → Found
      go (clean q) = let k = good-keeps F q in nothing k (keeps-first k)
      go (stops {c = false} {k = k} q) = let b = stop-breaks F q in broken k b (breaks-first k b)
      go (stops {c = true} {k = k} q) = let b = stop-crowds F q in crowd k b (crowds-first k b)

  pub scan-is : scan F 0 0 ds ≡ first_fault F ds 0 (length ds)
  scan-is = go (view F 0 0 ds)
    where
      go : View F 0 0 ds → scan F 0 0 ds ≡ first_fault F ds 0 (length ds)
      go (clean q) = good-scan F q ∙ sym (keeps-first (good-keeps F q))
      go (stops {c = false} {k = k} q) = stop-scan F q ∙ ap (stopped false) (zero-add k) ∙ sym (breaks-first k (stop-breaks F q))
      go (stops {c = true} {k = k} q) = stop-scan F q ∙ ap (stopped true) (zero-add k) ∙ sym (crowds-first k (stop-crowds F q))

  -- where there is no fault the rules are kept
  pub first-keeps : first_fault F ds 0 (length ds) ≡ Done → Keeps F ds
  first-keeps d = go found
    where
      go : Found → Keeps F ds
      go (nothing k e) = k
      go (broken k b e) = absurd (let z : ◌≡◌ {A = ℕ} 0 1 = cc in omega arith)
      go (crowd k b e) = absurd (let z : ◌≡◌ {A = ℕ} 0 1 = cc in omega arith)
