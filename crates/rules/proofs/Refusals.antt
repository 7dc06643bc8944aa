-- The test gives each verdict exactly if 01's table says so. Assumes nothing.
use mathlib.Core.Path.{◌≡◌, refl, sym, ◌∙◌, subst}
use mathlib.Core.Logic.{◌≢◌, ◌↔◌}
use mathlib.Core.Bool.{Bool, true, false, not}
use mathlib.Core.List.{List}
use Prim.Native.Nat.{ℕ, ◌≤◌, ◌<◌, zero-le}
use native.Mathlib.Omega.{arith}
use lib.Dec.{T, ltb, eqb, eqb→eq, eqb_refl, not_T, T_not, ltb→lt, le→leb, leb→le, nltb→le}
use lib.ListN.{length}
use lib.IntN.{ℤ, pos, negsuc}
use lib.Signed.{◌≤ℤ◌, ◌<ℤ◌, le_z_yes, lt_z_yes}
use Rattle.rules.specs.declared.Refusal.TheVariants.{WrongLength, WrongForm, WrongWidth, TooWide, BrokenDigit, Crowded, Negative, PastEnd, WrongChoice}
use Rattle.std.specs.Prelude.{Ok, Err}
use Rattle.rules.specs.Digits.{weighted}
use Rattle.rules.specs.Forms.{Form}
use Rattle.rules.specs.Keeps.{Keeps, Passes}
use Rattle.rules.specs.Verdicts.{Verdict, Done, number, position, unless, ◌or_else◌}
use Rattle.rules.specs.Test.{first_fault, range_fault, verdict}
use Rattle.rules.specs.Refusals.{Offered, BreaksAt, CrowdsAt, FallsBelow, EndsPast, GivenIf}
use Rattle.rules.proofs.Verdicts.{done-or_else, refused-or_else, unless-held, unless-failed, width-refused}
use Rattle.rules.proofs.FirstFault.{keeps-first, breaks-first, crowds-first, Found, found, nothing, broken, crowd}

-- ---- the sum against the range

below-range : (end : ℕ) (z : ℤ) → z <ℤ pos 0 → range_fault end z ≡ Err Negative
unfolding range_fault
below-range end (pos x) l = let h : x < 0 = ltb→lt x 0 l.lt in absurd (omega arith)
below-range end (negsuc x) l = refl

past-range : (end : ℕ) (z : ℤ) → pos end ≤ℤ z → range_fault end z ≡ Err PastEnd
unfolding range_fault
past-range end (pos x) l = unless-failed (ltb x end) PastEnd (not_T (ltb x end) (λ t. let h : x < end = ltb→lt x end t in let k : end ≤ x = leb→le end x l.le in omega arith))
past-range end (negsuc x) l = absurd l.le

in-range : (end : ℕ) (z : ℤ) → pos 0 ≤ℤ z → z <ℤ pos end → range_fault end z ≡ Done
unfolding range_fault
in-range end (pos x) l h = unless-held (ltb x end) PastEnd h.lt
in-range end (negsuc x) l h = absurd l.le

data Ranged (end : ℕ) (z : ℤ) : Type 0 where
  under : z <ℤ pos 0 → Ranged end z
  inside : pos 0 ≤ℤ z → z <ℤ pos end → Ranged end z
  over : pos end ≤ℤ z → Ranged end z

ranged : (end : ℕ) (z : ℤ) → Ranged end z
ranged end (negsuc x) = under (lt_z_yes tt)
ranged end (pos x) = go (ltb x end) (λ t. t) (λ t. nltb→le x end t)
  where
    go : (b : Bool) → (T b → T (ltb x end)) → (T (not b) → end ≤ x) → Ranged end (pos x)
    go true f g = inside (le_z_yes (le→leb 0 x zero-le)) (lt_z_yes (f tt))
    go false f g = over (le_z_yes (le→leb end x (g tt)))

module _ (F : Form) (ds : List ℤ) where
  -- past the length and the width it is the digits and then the sum
  pub offered-verdict : Offered F ds → verdict F ds ≡ first_fault F ds 0 (length ds) or_else range_fault F.end (weighted F.base ds)
  unfolding verdict
  offered-verdict o =
      rw (unless-held (eqb (length ds) F.long) WrongLength (subst (λ (n : ℕ). T (eqb (length ds) n)) o.long (eqb_refl (length ds))), unless-held F.allowed WrongWidth o.allowed)
      (done-or_else _ ∙ done-or_else _)

  given-verdict : (v : Verdict) → GivenIf F ds v → verdict F ds ≡ v
  unfolding verdict
  given-verdict (Ok done) p = offered-verdict (record { long = p.long; allowed = p.allowed }) ∙ rw (keeps-first F ds p.keeps) (done-or_else _ ∙ in-range F.end (weighted F.base ds) p.low p.high)
  given-verdict (Err WrongLength) n = rw (unless-failed (eqb (length ds) F.long) WrongLength (not_T (eqb (length ds) F.long) (λ t. n (eqb→eq _ _ t)))) (refused-or_else (Err WrongLength) _ (λ z. omega arith))
  given-verdict (Err WrongForm) p = absurd p
  given-verdict (Err WrongWidth) p =
      rw (unless-held (eqb (length ds) F.long) WrongLength (subst (λ (n : ℕ). T (eqb (length ds) n)) p.0 (eqb_refl (length ds))), unless-failed F.allowed WrongWidth p.1)
      (done-or_else _ ∙ refused-or_else (Err WrongWidth) _ (λ z. omega arith))
  given-verdict (Err TooWide) p = absurd p
  given-verdict (Err (BrokenDigit k)) p = offered-verdict p.0 ∙ rw (breaks-first F ds k p.1) (refused-or_else (Err (BrokenDigit k)) _ (λ z. omega arith))
  given-verdict (Err (Crowded k)) p = offered-verdict p.0 ∙ rw (crowds-first F ds k p.1) (refused-or_else (Err (Crowded k)) _ (λ z. omega arith))
  given-verdict (Err Negative) p = offered-verdict p.0 ∙ rw (keeps-first F ds p.1.keeps) (done-or_else _ ∙ below-range F.end (weighted F.base ds) p.1.negative)
  given-verdict (Err PastEnd) p = offered-verdict p.0 ∙ rw (keeps-first F ds p.1.keeps) (done-or_else _ ∙ past-range F.end (weighted F.base ds) p.1.past)
  given-verdict (Err WrongChoice) p = absurd p

  -- some line of the table holds
  some-given : (v : Verdict) × GivenIf F ds v
  some-given = lengths (eqb (length ds) F.long) (λ t. eqb→eq _ _ t) (λ t e. T_not (eqb (length ds) F.long) t (subst (λ (n : ℕ). T (eqb (length ds) n)) e (eqb_refl (length ds))))
    where
      sums : Offered F ds → Keeps F ds → Ranged F.end (weighted F.base ds) → (v : Verdict) × GivenIf F ds v
      sums o k (under l) = (Err Negative, (o, record { keeps = k; negative = l }))
      sums o k (inside l h) = (Done, record { long = o.long; allowed = o.allowed; keeps = k; low = l; high = h })
      sums o k (over l) = (Err PastEnd, (o, record { keeps = k; past = l }))

      digits : Offered F ds → Found F ds → (v : Verdict) × GivenIf F ds v
      digits o (nothing k e) = sums o k (ranged F.end (weighted F.base ds))
      digits o (broken k b e) = (Err (BrokenDigit k), (o, b))
      digits o (crowd k b e) = (Err (Crowded k), (o, b))

      widths : (b : Bool) → (T b → T F.allowed) → (T (not b) → T (not F.allowed)) → length ds ≡ F.long → (v : Verdict) × GivenIf F ds v
      widths true f g l = digits (record { long = l; allowed = f tt }) (found F ds)
      widths false f g l = (Err WrongWidth, (l, g tt))

      lengths : (b : Bool) → (T b → length ds ≡ F.long) → (T (not b) → length ds ≢ F.long) → (v : Verdict) × GivenIf F ds v
      lengths true f g = widths F.allowed (λ t. t) (λ t. t) (f tt)
      lengths false f g = (Err WrongLength, g tt)

  -- 01's table: each verdict is given exactly if its line holds
  pub verdict-exactly : (v : Verdict) → verdict F ds ≡ v ↔ GivenIf F ds v
  verdict-exactly v = (λ e. let (u, g) = some-given in subst (GivenIf F ds) (sym (given-verdict u g) ∙ e) g, given-verdict v)

  -- the lines one by one
  pub verdict-done : verdict F ds ≡ Done ↔ Passes F ds
  verdict-done = verdict-exactly Done

  pub refused-1 : verdict F ds ≡ Err WrongLength ↔ length ds ≢ F.long
  refused-1 = verdict-exactly (Err WrongLength)

  pub refused-3 : verdict F ds ≡ Err WrongWidth ↔ (length ds ≡ F.long) × T (not F.allowed)
  refused-3 = verdict-exactly (Err WrongWidth)

  pub refused-5 : (k : ℕ) → verdict F ds ≡ Err (BrokenDigit k) ↔ Offered F ds × BreaksAt F ds k
  refused-5 k = verdict-exactly (Err (BrokenDigit k))

  pub refused-6 : (k : ℕ) → verdict F ds ≡ Err (Crowded k) ↔ Offered F ds × CrowdsAt F ds k
  refused-6 k = verdict-exactly (Err (Crowded k))

  pub refused-7 : verdict F ds ≡ Err Negative ↔ Offered F ds × FallsBelow F ds
  refused-7 = verdict-exactly (Err Negative)

  pub refused-8 : verdict F ds ≡ Err PastEnd ↔ Offered F ds × EndsPast F ds
  refused-8 = verdict-exactly (Err PastEnd)

  -- past the length, the width's verdict, if it is a refusal, is the test's
  pub verdict-width : {v : Verdict} → v ≡ unless F.allowed WrongWidth → number v ≢ 0 → length ds ≡ F.long → verdict F ds ≡ v
  verdict-width e n l = let r = width-refused F.allowed e n in refused-3.1 (l, r.1) ∙ sym r.0

  -- the position is an index of the string
  pub position-inside : 0 < F.long → position (verdict F ds) < F.long
  position-inside h = go (verdict F ds) ((verdict-exactly (verdict F ds)).0 refl)
    where
      go : (v : Verdict) → GivenIf F ds v → position v < F.long
      go (Ok done) g = h
      go (Err WrongLength) g = h
      go (Err WrongForm) g = h
      go (Err WrongWidth) g = h
      go (Err TooWide) g = h
      go (Err (BrokenDigit k)) g = omega (arith, g.0.long, g.1.inside)
      go (Err (Crowded k)) g = omega (arith, g.0.long, g.1.inside)
      go (Err Negative) g = h
      go (Err PastEnd) g = h
      go (Err WrongChoice) g = h
