-- R's strings as 01 writes them are those that pass. Over the width. Assumes nothing.
use mathlib.Core.Path.{◌≡◌, refl}
use mathlib.Core.Logic.{◌↔◌}
use mathlib.Core.List.{List}
use Prim.Native.Nat.{ℕ, ◌+◌, ◌-◌, ◌^◌, ◌<◌, ◌≤◌, ◌*◌}
use native.Mathlib.Decide.{dec_lt}
use native.Mathlib.Omega.{arith}
use borrow.Author.Tests.{lt-ltb, le-ltb, eq-eqb, ne_eqb}
use lib.Dec.{T, leb, le→leb}
use lib.IntN.{ℤ, pos, neg_ℤ}
use lib.Signed.{le_z, ◌≤ℤ◌, le_z_yes}
use Rattle.numbers.proofs.Tests.{and_left, and_right, and_both}
use Rattle.rules.specs.Widths.{width_r, row}
use Rattle.rules.specs.Forms.{digit_r, within, card_r}
use Rattle.rules.specs.Keeps.{Passes}
use Rattle.rules.proofs.ZeroDigit.{zero_of}
use Rattle.rules.proofs.Table.{at-widths, width-between}
use Rattle.acceptance.specs.Strings.{digit, RowR, four, five, six, seven, eight, OwnR, StringR}
use Rattle.acceptance.proofs.Sums.{sum-r-is}

-- ---- the table

pub width-r : {w n top end : ℕ} → RowR w n top end → T (width_r w)
width-r four = tt
width-r five = tt
width-r six = tt
width-r seven = tt
width-r eight = tt

pub row_is : {w n top end : ℕ} → RowR w n top end → ((row w).digits ≡ n) × ((row w).top ≡ top) × (2 ^ (row w).bits ≡ end)
unfolding row
row_is four = (refl, refl, refl)
row_is five = (refl, refl, refl)
row_is six = (refl, refl, refl)
row_is seven = (refl, refl, refl)
row_is eight = (refl, refl, refl)

pub row-r : (w : ℕ) → T (width_r w) → RowR w (row w).digits (row w).top (2 ^ (row w).bits)
unfolding row
row-r = at-widths (λ w. RowR w (row w).digits (row w).top (2 ^ (row w).bits)) four five six seven eight

-- the rows are those of the widths 4 to 8
pub widths-r : (w : ℕ) → ((4 ≤ w) × (w ≤ 8)) ↔ ((n : ℕ) × (top : ℕ) × (end : ℕ) × RowR w n top end)
widths-r w = (
  λ b. let t = and_both (leb 4 w) (leb w 8) (le→leb 4 w b.0) (le→leb w 8 b.1) in
      ((row w).digits, (row w).top, 2 ^ (row w).bits, row-r w t),
  λ (n, top, end, r). let b = width-between 4 8 w (width-r r) in (b.low, b.high),
)

-- 01: in every row the top of the last digit times its weight equals the range's end
pub top-ends : {w n top end : ℕ} → RowR w n top end → top * 2 ^ (w * (n - 1)) ≡ end
top-ends four = refl
top-ends five = refl
top-ends six = refl
top-ends seven = refl
top-ends eight = refl

-- ---- a digit's own rule: before the last, at it, and past it

within-is : (lo hi d : ℤ) → T (within lo hi d) ↔ ((lo ≤ℤ d) × (d ≤ℤ hi))
within-is lo hi d = (λ t. (le_z_yes (and_left (le_z lo d) (le_z d hi) t), le_z_yes (and_right (le_z lo d) (le_z d hi) t)), λ b. and_both (le_z lo d) (le_z d hi) b.0.le b.1.le)

module _ (w n top i : ℕ) (d : ℤ) where
  pub digit-before : i + 1 < n → T (digit_r w n top i d) ↔ ((neg_ℤ (pos (2 ^ (w - 1))) ≤ℤ d) × (d ≤ℤ pos (2 ^ (w - 1) - 1)))
  unfolding digit_r
  digit-before h = rw (lt-ltb (i + 1) n h) (within-is (neg_ℤ (pos (2 ^ (w - 1)))) (pos (2 ^ (w - 1) - 1)) d)

  pub digit-last : i + 1 ≡ n → T (digit_r w n top i d) ↔ ((pos 0 ≤ℤ d) × (d ≤ℤ pos top))
  unfolding digit_r
  digit-last e = rw (le-ltb (i + 1) n (omega arith), eq-eqb (i + 1) n e) (within-is (pos 0) (pos top) d)

  pub digit-past : n ≤ i → T (digit_r w n top i d) ↔ (d ≡ pos 0)
  unfolding digit_r
  digit-past h = rw (le-ltb (i + 1) n (omega arith), ne_eqb (i + 1) n (λ e. omega arith)) (zero_of d, λ e. rw e tt)

  pub digit-r : T (digit_r w n top i d) ↔ OwnR w n top i d
  digit-r = (λ t. record { before = λ h. (digit-before h).0 t; last = λ e. (digit-last e).0 t; past = λ h. (digit-past h).0 t }, go (dec_lt (i + 1) n) (dec_lt i n))
    where
      go : Dec (i + 1 < n) → Dec (i < n) → OwnR w n top i d → T (digit_r w n top i d)
      go (yes l) m o = (digit-before l).1 (o.before l)
      go (no l) (yes m) o = let e : i + 1 ≡ n = omega arith in (digit-last e).1 (o.last e)
      go (no l) (no m) o = let h : n ≤ i = omega arith in (digit-past h).1 (o.past h)

-- ---- condition 3's rule, both ways

pub passes-r : (w : ℕ) (ds : List ℤ) → Passes (card_r w) ds ↔ StringR w ds
passes-r w ds = (there, back)
  where
    there : Passes (card_r w) ds → StringR w ds
    there p = record {
      long = p.long;
      n = (row w).digits;
      top = (row w).top;
      end = 2 ^ (row w).bits;
      row = row-r w p.allowed;
      each = λ i h. (digit-r w (row w).digits (row w).top i (digit ds i)).0 (p.keeps.digits i (omega (arith, p.long)));
      low = rw (sum-r-is w ds) at p.low;
      high = rw (sum-r-is w ds) at p.high;
    }

    back : StringR w ds → Passes (card_r w) ds
    back s =
        let e = row_is s.row in
        record {
          long = s.long;
          allowed = width-r s.row;
          keeps = record { digits = λ i h. rw (e.0, e.1) ((digit-r w s.n s.top i (digit ds i)).1 (s.each i (omega (arith, s.long)))); spacing = λ i j l m u v. absurd (omega arith) };
          low = rw (sum-r-is w ds) s.low;
          high = rw (sum-r-is w ds, e.2) s.high;
        }
