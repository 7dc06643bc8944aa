-- The digits' rules by one walk with a counter, as code goes: where it stops, and what that says of the string. Assumes nothing.
use mathlib.Core.Path.{◌≡◌, refl, sym, ◌∙◌, ap}
use mathlib.Core.Logic.{◌≢◌, ◌⊎◌, inl, inr}
use mathlib.Core.Bool.{Bool, true, false, not, cond, ◌||◌}
use mathlib.Core.List.{List, [], ◌∷◌}
use Prim.Native.Nat.{ℕ, zero, suc, ◌+◌, ◌-◌, ◌≤◌, ◌<◌}
use native.Mathlib.Nat.{add-zero, zero-add, suc-add, add-suc}
use native.Mathlib.Decide.{dec_lt}
use native.Mathlib.Omega.{arith}
use lib.Dec.{T, eqb, eqb-suc-zero}
use lib.ListN.{length, take, get_or-eq_default}
use lib.IntN.{ℤ, pos}
use Rattle.rules.specs.declared.Refusal.TheVariants.{BrokenDigit, Crowded}
use Rattle.std.specs.Prelude.{Err}
use Rattle.rules.specs.Digits.{digit_at, is_zero}
use Rattle.rules.specs.Forms.{Form}
use Rattle.rules.specs.Keeps.{Keeps}
use Rattle.rules.specs.Verdicts.{Verdict, Done, unless, ◌or_else◌}
use Rattle.rules.specs.Refusals.{BreaksAt, CrowdsAt}
use Rattle.rules.specs.inner.Scan.{fault, held_next, scan}
use Rattle.rules.proofs.Verdicts.{done-or_else, refused-or_else, unless-held, unless-failed}
use Rattle.rules.proofs.ZeroDigit.{zero_or, nonzero-of, nonzero-is, Zeros, no-zeros, zeros-head}

-- ---- the rules, digit by digit

pub data Good (F : Form) : ℕ → ℕ → List ℤ → Type 0 where
  good-nil : {i held : ℕ} → Good F i held []
  good-cons : {i held : ℕ} {d : ℤ} {ds : List ℤ} → T (F.own i d) → T (is_zero d || eqb held 0) → Good F (suc i) (held_next F.gap held d) ds → Good F i held (d ∷ ds)

-- the walk stops at the k-th digit from index i: for its own rule (false) or for its place (true)
pub data Stop (F : Form) : ℕ → ℕ → List ℤ → Bool → ℕ → Type 0 where
  at_own : {i held : ℕ} {d : ℤ} {ds : List ℤ} → T (not (F.own i d)) → Stop F i held (d ∷ ds) false 0
  at_place : {i held : ℕ} {d : ℤ} {ds : List ℤ} → T (F.own i d) → T (not (is_zero d || eqb held 0)) → Stop F i held (d ∷ ds) true 0
  later : {i held k : ℕ} {c : Bool} {d : ℤ} {ds : List ℤ} → T (F.own i d) → T (is_zero d || eqb held 0) → Stop F (suc i) (held_next F.gap held d) ds c k → Stop F i held (d ∷ ds) c (suc k)

abbrev pub stopped : Bool → ℕ → Verdict
stopped c k = cond c (Err (Crowded k)) (Err (BrokenDigit k))

-- it goes through, or it stops
pub data View (F : Form) (i held : ℕ) (ds : List ℤ) : Type 0 where
  clean : Good F i held ds → View F i held ds
  stops : {c : Bool} {k : ℕ} → Stop F i held ds c k → View F i held ds

module _ (F : Form) where
  pub view : (i held : ℕ) (ds : List ℤ) → View F i held ds
  view i held [] = clean good-nil
  view i held (d ∷ ds) = go (F.own i d) (is_zero d || eqb held 0) (λ t. t) (λ t. t) (λ t. t) (λ t. t) (view (suc i) (held_next F.gap held d) ds)
    where
      go : (a b : Bool) → (T a → T (F.own i d)) → (T (not a) → T (not (F.own i d))) → (T b → T (is_zero d || eqb held 0)) → (T (not b) → T (not (is_zero d || eqb held 0)))
          → View F (suc i) (held_next F.gap held d) ds → View F i held (d ∷ ds)
      go false b f f' g g' v = stops (at_own (f' tt))
      go true false f f' g g' v = stops (at_place (f tt) (g' tt))
      go true true f f' g g' (clean q) = clean (good-cons (f tt) (g tt) q)
      go true true f f' g g' (stops q) = stops (later (f tt) (g tt) q)

  -- ---- what the walk answers

  no-fault : (i held : ℕ) (d : ℤ) (v : Verdict) → T (F.own i d) → T (is_zero d || eqb held 0) → fault F i held d or_else v ≡ v
  unfolding fault
  no-fault i held d v s t = rw (unless-held (F.own i d) (BrokenDigit i) s, unless-held (is_zero d || eqb held 0) (Crowded i) t, done-or_else Done) (done-or_else v)

  pub good-scan : {i held : ℕ} {ds : List ℤ} → Good F i held ds → scan F i held ds ≡ Done
  unfolding scan
  good-scan good-nil = refl
  good-scan (good-cons {i} {held} {d} {ds} s t q) = no-fault i held d (scan F (suc i) (held_next F.gap held d) ds) s t ∙ good-scan q

  nonzero-number : (c : Bool) (k : ℕ) (v : Verdict) → stopped c k or_else v ≡ stopped c k
  nonzero-number true k v = refused-or_else (Err (Crowded k)) v (λ e. omega arith)
  nonzero-number false k v = refused-or_else (Err (BrokenDigit k)) v (λ e. omega arith)

  pub stop-scan : {i held k : ℕ} {c : Bool} {ds : List ℤ} → Stop F i held ds c k → scan F i held ds ≡ stopped c (i + k)
  unfolding scan fault
  stop-scan (at_own {i} {held} {d} {ds} t) =
      rw (add-zero, unless-failed (F.own i d) (BrokenDigit i) t, nonzero-number false i (unless (is_zero d || eqb held 0) (Crowded i))) (nonzero-number false i _)
  stop-scan (at_place {i} {held} {d} {ds} s t) =
      rw (add-zero, unless-held (F.own i d) (BrokenDigit i) s, unless-failed (is_zero d || eqb held 0) (Crowded i) t, done-or_else (Err (Crowded i))) (nonzero-number true i _)
  stop-scan (later {i} {held} {k} {c} {d} {ds} s t q) =
      no-fault i held d (scan F (suc i) (held_next F.gap held d) ds) s t ∙ stop-scan q ∙ ap (stopped c) (suc-add i k ∙ sym (add-suc i k))

  -- ---- what going through says of each index

  pub good-digits : {i held : ℕ} {ds : List ℤ} → Good F i held ds → (k : ℕ) → k < length ds → T (F.own (i + k) (digit_at ds k))
  good-digits good-nil k h = absurd (omega arith)
  good-digits (good-cons {i} s t q) zero h = rw add-zero s
  good-digits (good-cons {i} s t q) (suc k) h = rw (add-suc, ← (suc-add i k)) (good-digits q k (omega arith))

  next-zero : (held : ℕ) (d : ℤ) → d ≡ pos 0 → held_next F.gap held d ≡ held - 1
  next-zero held d e = rw e refl

  next-nonzero : (held : ℕ) (d : ℤ) → is_zero d ≡ false → held_next F.gap held d ≡ F.gap
  next-nonzero held d e = rw e refl

  held-zero : (h : ℕ) (d : ℤ) → T (is_zero d || eqb (suc h) 0) → d ≡ pos 0
  held-zero h d t = go (zero_or d)
    where
      go : (d ≡ pos 0) ⊎ (is_zero d ≡ false) → d ≡ pos 0
      go (inl e) = e
      go (inr f) = absurd (rw (f, eqb-suc-zero) at t)

  pub good-zeros : {i held : ℕ} {ds : List ℤ} → Good F i held ds → (k : ℕ) → k < held → digit_at ds k ≡ pos 0
  good-zeros good-nil k h = refl
  good-zeros (good-cons {held = zero} s t q) k h = absurd (omega arith)
  good-zeros (good-cons {held = suc m} {d = d} s t q) zero h = held-zero m d t
  good-zeros (good-cons {held = suc m} {d = d} s t q) (suc k) h = good-zeros q k (rw (next-zero (suc m) d (held-zero m d t)) (omega arith))

  good-spacing : {i held : ℕ} {ds : List ℤ} → Good F i held ds → (k j : ℕ) → k < j → j ≤ k + F.gap → digit_at ds k ≢ pos 0 → digit_at ds j ≡ pos 0
  good-spacing good-nil k j h l f = refl
  good-spacing (good-cons s t q) k zero h l f = absurd (omega arith)
  good-spacing (good-cons {held = m} {d = d} s t q) zero (suc j) h l f = good-zeros q j (rw (next-nonzero m d (nonzero-of d f)) (omega arith))
  good-spacing (good-cons s t q) (suc k) (suc j) h l f = good-spacing q k j (omega arith) (omega arith) f

  pub good-keeps : {ds : List ℤ} → Good F 0 0 ds → Keeps F ds
  good-keeps {ds} q = record {
    digits = λ i h. rw zero-add at (good-digits q i h);
    spacing = λ i j h l n f. good-spacing q i j h l f;
  }

  -- ---- and back

  pub free : (held : ℕ) (d : ℤ) (ds : List ℤ) → Zeros held (d ∷ ds) → T (is_zero d || eqb held 0)
  free zero d ds z = go (is_zero d)
    where
      go : (b : Bool) → T (b || eqb 0 0)
      go true = tt
      go false = tt
  free (suc m) d ds z = rw (zeros-head z) tt

  good-from : (i held : ℕ) (ds : List ℤ) → ((k : ℕ) → k < length ds → T (F.own (i + k) (digit_at ds k))) → Zeros held ds
      → ((k j : ℕ) → k < j → j ≤ k + F.gap → j < length ds → digit_at ds k ≢ pos 0 → digit_at ds j ≡ pos 0) → Good F i held ds
  good-from i held [] f z g = good-nil
  good-from i held (d ∷ ds) f z g =
      good-cons (rw add-zero at (f 0 (omega arith))) (free held d ds z)
      (good-from (suc i) (held_next F.gap held d) ds
      (λ k h. rw (suc-add, ← (add-suc i k)) (f (suc k) (omega arith)))
      (next (zero_or d))
      (λ k j h l n e. g (suc k) (suc j) (omega arith) (omega arith) (omega arith) e))
    where
      far : (j : ℕ) → is_zero d ≡ false → j < F.gap → Dec (j < length ds) → digit_at ds j ≡ pos 0
      far j e h (yes n) = g 0 (suc j) (omega arith) (omega arith) (omega arith) (nonzero-is d e)
      far j e h (no n) = get_or-eq_default ds (pos 0) (omega arith)

      next : (d ≡ pos 0) ⊎ (is_zero d ≡ false) → Zeros (held_next F.gap held d) ds
      next (inl e) = rw e (record { zero-at = λ j h. z.zero-at (suc j) (omega arith) })
      next (inr e) = rw e (record { zero-at = λ j h. far j e h (dec_lt j (length ds)) })

  pub keeps-good : {ds : List ℤ} → Keeps F ds → Good F 0 0 ds
  keeps-good {ds} k = good-from 0 0 ds (λ i h. rw zero-add (k.digits i h)) (no-zeros ds) k.spacing

  -- ---- what a stop says

  stop-inside : {i held k : ℕ} {c : Bool} {ds : List ℤ} → Stop F i held ds c k → k < length ds
  stop-inside (at_own t) = omega arith
  stop-inside (at_place s t) = omega arith
  stop-inside (later s t q) = omega (arith, stop-inside q)

  stop-below : {i held k : ℕ} {c : Bool} {ds : List ℤ} → Stop F i held ds c k → Good F i held (take k ds)
  stop-below (at_own t) = good-nil
  stop-below (at_place s t) = good-nil
  stop-below (later s t q) = good-cons s t (stop-below q)

  stop-broken : {i held k : ℕ} {ds : List ℤ} → Stop F i held ds false k → T (not (F.own (i + k) (digit_at ds k)))
  stop-broken (at_own {i} t) = rw add-zero t
  stop-broken (later {i} {k = k} s t q) = rw (add-suc, ← (suc-add i k)) (stop-broken q)

  stop-kept : {i held k : ℕ} {ds : List ℤ} → Stop F i held ds true k → T (F.own (i + k) (digit_at ds k))
  stop-kept (at_place {i} s t) = rw add-zero s
  stop-kept (later {i} {k = k} s t q) = rw (add-suc, ← (suc-add i k)) (stop-kept q)

  held_on : (held : ℕ) (d : ℤ) → T (not (is_zero d || eqb held 0)) → (0 < held) × (d ≢ pos 0)
  held_on held d t = go (zero_or d) held t
    where
      go : (d ≡ pos 0) ⊎ (is_zero d ≡ false) → (held : ℕ) → T (not (is_zero d || eqb held 0)) → (0 < held) × (d ≢ pos 0)
      go (inl e) held t = absurd (rw e at t)
      go (inr e) zero t = absurd (rw e at t)
      go (inr e) (suc h) t = (omega arith, nonzero-is d e)

  stop-nonzero : {i held k : ℕ} {ds : List ℤ} → Stop F i held ds true k → digit_at ds k ≢ pos 0
  stop-nonzero (at_place {i} {held} {d} s t) = (held_on held d t).1
  stop-nonzero (later s t q) = stop-nonzero q

  -- the digit there is among the first `held`, or follows a non-zero one of this string within the gap
  Follows : ℕ → List ℤ → ℕ → Type 0
  Follows held ds k = (k < held) ⊎ ((j : ℕ) × (j < k) × (k ≤ j + F.gap) × (digit_at ds j ≢ pos 0))

  stop-follows : {i held k : ℕ} {ds : List ℤ} → Stop F i held ds true k → Follows held ds k
  unfolding Follows
  stop-follows (at_place {i} {held} {d} s t) = inl (held_on held d t).0
  stop-follows (later {i} {held} {k} {d = d} {ds = ds} s t q) = go (zero_or d) (stop-follows q)
    where
      go : (d ≡ pos 0) ⊎ (is_zero d ≡ false) → Follows (held_next F.gap held d) ds k → Follows held (d ∷ ds) (suc k)
      go (inl e) (inl h) = let l : k < held - 1 = rw e at h in inl (omega arith)
      go (inr e) (inl h) = let l : k < F.gap = rw e at h in inr (0, omega arith, omega arith, nonzero-is d e)
      go e (inr x) = let (j, a, b, f) = x in inr (suc j, omega arith, omega arith, f)

  pub stop-breaks : {k : ℕ} {ds : List ℤ} → Stop F 0 0 ds false k → BreaksAt F ds k
  stop-breaks q = record { inside = stop-inside q; below = good-keeps (stop-below q); broken = rw zero-add at (stop-broken q) }

  pub stop-crowds : {k : ℕ} {ds : List ℤ} → Stop F 0 0 ds true k → CrowdsAt F ds k
  unfolding Follows
  stop-crowds {k} {ds} q = record { inside = stop-inside q; below = good-keeps (stop-below q); kept = rw zero-add at (stop-kept q); nonzero = stop-nonzero q; follows = go (stop-follows q) }
    where
      go : Follows 0 ds k → (j : ℕ) × (j < k) × (k ≤ j + F.gap) × (digit_at ds j ≢ pos 0)
      go (inl h) = absurd (omega arith)
      go (inr x) = x
