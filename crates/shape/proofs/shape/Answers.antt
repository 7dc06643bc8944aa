-- `shape::shape` meets its contract, by computing the table's row at each of its widths; any other width is not R's. Assumes nothing.
use mathlib.Core.Path.{◌≡◌, refl, sym, ap}
use Rattle.std.proofs.Common.{◌≢◌, arith}
use Prim.Native.Nat.{ℕ}
use borrow.Author.Tests.{ne_eqb}
use lib.Dec.{T, not_T}
use Rattle.rules.specs.declared.Refusal.TheVariants.{WrongWidth}
use Rattle.rules.specs.Verdicts.{Done}
use Rattle.rules.specs.Widths.{Row, width_r, row}
use Rattle.rules.proofs.Verdicts.{unless-held, unless-failed}
use Rattle.rules.proofs.Table.{at-widths}
use Rattle.shape.specs.Shape.{ShapeOf}
use Rattle.shape.proofs.shape.Goals as goal

-- the row of a width that is one of R's
held : (v : ℕ) {w : ℕ} {digits top bits : ℕ} → T (width_r v) → w ≡ v → (digits ≡ (row v).digits) × (top ≡ (row v).top) × (bits ≡ (row v).bits) → ShapeOf w Done digits top bits
held v t e r = rw e (record { answered = sym (unless-held (width_r v) WrongWidth t); counted = r.0; topped = r.1; ended = r.2 })

pub returns-in-4 : goal.returns-in-4
unfolding row
returns-in-4 c = held 4 tt c.in-4.is c.row_of.ensures

pub returns-in-5 : goal.returns-in-5
unfolding row
returns-in-5 c = held 5 tt c.in-5.is c.row_of-in-5.ensures

pub returns-in-6 : goal.returns-in-6
unfolding row
returns-in-6 c = held 6 tt c.in-6.is c.row_of-in-6.ensures

pub returns-in-7 : goal.returns-in-7
unfolding row
returns-in-7 c = held 7 tt c.in-7.is c.row_of-in-7.ensures

pub returns-in-8 : goal.returns-in-8
unfolding row
returns-in-8 c = held 8 tt c.in-8.is c.row_of-in-8.ensures

pub returns-in_default : goal.returns-in_default
unfolding row
returns-in_default c =
    let w = c.args.w in
    let not_4 : w ≢ 4 = λ e. omega arith in
    let not_5 : w ≢ 5 = λ e. omega arith in
    let not_6 : w ≢ 6 = λ e. omega arith in
    let not_7 : w ≢ 7 = λ e. omega arith in
    let not_8 : w ≢ 8 = λ e. omega arith in
    let e : row w ≡ record { digits = 0; top = 0; bits = 0 } = rw (ne_eqb w 4 not_4, ne_eqb w 5 not_5, ne_eqb w 6 not_6, ne_eqb w 7 not_7, ne_eqb w 8 not_8) in
    record {
      answered = sym (unless-failed (width_r w) WrongWidth (not_T (width_r w) (λ t. at-widths (λ v. w ≡ v → ⊥) not_4 not_5 not_6 not_7 not_8 w t refl)));
      counted = sym (ap (λ (r : Row). r.digits) e);
      topped = sym (ap (λ (r : Row). r.top) e);
      ended = sym (ap (λ (r : Row). r.bits) e);
    }
