-- N's strings as 01 writes them are those that pass. Over the width. Assumes nothing.
use mathlib.Core.Path.{◌≡◌}
use mathlib.Core.Logic.{◌⊎◌, inl, inr, ◌↔◌}
use mathlib.Core.Bool.{false}
use mathlib.Core.List.{List}
use Prim.Native.Nat.{ℕ, ◌+◌, ◌-◌, ◌≤◌}
use native.Mathlib.Omega.{arith}
use lib.Dec.{T, leb, le→leb}
use lib.IntN.{ℤ, pos}
use Rattle.numbers.proofs.Tests.{and_both}
use Rattle.rules.specs.Digits.{is_zero}
use Rattle.rules.specs.Widths.{width_n}
use Rattle.rules.specs.Forms.{digit_n, card_n}
use Rattle.rules.specs.Keeps.{Passes}
use Rattle.rules.proofs.ZeroDigit.{zero_or}
use Rattle.rules.proofs.NonAdjacent.{digit_n-odd, odd-digit_n, zero-digit_n}
use Rattle.rules.proofs.Table.{width-between}
use Rattle.acceptance.specs.Strings.{digit, OwnN, StringN}
use Rattle.acceptance.proofs.Sums.{sum-n-is}

-- the widths
pub width-n : (w : ℕ) → T (width_n 8 w) ↔ ((2 ≤ w) × (w ≤ 8))
width-n w = (λ t. let b = width-between 2 8 w t in (b.low, b.high), λ b. and_both (leb 2 w) (leb w 8) (le→leb 2 w b.0) (le→leb w 8 b.1))

-- a digit's own rule
pub digit-n : (w : ℕ) (d : ℤ) → T (digit_n w d) ↔ OwnN w d
digit-n w d = (λ t. there (zero_or d) t, back)
  where
    there : (d ≡ pos 0) ⊎ (is_zero d ≡ false) → T (digit_n w d) → OwnN w d
    there (inl e) t = inl e
    there (inr e) t = let o = digit_n-odd w d e t in inr (o.odd, o.small)

    back : OwnN w d → T (digit_n w d)
    back (inl e) = rw e (zero-digit_n w)
    back (inr o) = odd-digit_n w d (record { odd = o.0; small = o.1 })

-- condition 3's rule, both ways
pub passes-n : (w : ℕ) (ds : List ℤ) → Passes (card_n w) ds ↔ StringN w ds
passes-n w ds = (there, back)
  where
    there : Passes (card_n w) ds → StringN w ds
    there p = record {
      long = p.long;
      least = ((width-n w).0 p.allowed).0;
      most = ((width-n w).0 p.allowed).1;
      each = λ i h. (digit-n w (digit ds i)).0 (p.keeps.digits i (omega (arith, p.long)));
      spaced = λ i k f l m h. p.keeps.spacing i (i + k) (omega arith) (omega arith) (omega (arith, p.long)) f;
      low = rw (sum-n-is ds) at p.low;
      high = rw (sum-n-is ds) at p.high;
    }

    back : StringN w ds → Passes (card_n w) ds
    back s = record {
      long = s.long;
      allowed = (width-n w).1 (s.least, s.most);
      keeps = record {
        digits = λ i h. (digit-n w (digit ds i)).1 (s.each i (omega (arith, s.long)));
        spacing = λ i j l m h f. let e : i + (j - i) ≡ j = omega arith in rw e at (s.spaced i (j - i) f (omega arith) (omega arith) (omega (arith, s.long)));
      };
      low = rw (sum-n-is ds) s.low;
      high = rw (sum-n-is ds) s.high;
    }
