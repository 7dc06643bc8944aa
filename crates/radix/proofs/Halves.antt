-- Radix 16: the windows are the halves of the bytes, and what the recentring step sees is from 8 to 24. Assumes nothing.
use mathlib.Core.Path.{◌≡◌, ap, ◌∙◌}
use mathlib.Core.List.{List}
use Prim.Native.Nat.{ℕ, ◌+◌, ◌*◌, ◌/◌, ◌%◌, ◌^◌, ◌≤◌, ◌<◌}
use native.Mathlib.Omega.{arith}
use native.Mathlib.Nat.{mod-lt}
use lib.Dec.{lit<, lit≤}
use lib.ListN.{get_or}
use lib.Pow.{pow_pos}
use mir.Syntax.{w8}
use mir.Val.{SFits}
use Rattle.numbers.specs.Centred.{centred}
use Rattle.numbers.proofs.Positional.{Below}
use Rattle.numbers.proofs.Windows.{inside, pow-pow}
use Rattle.digits.proofs.Narrowed.{centred-fits}
use Rattle.rules.specs.Integer.{integer}
use Rattle.rules.proofs.Table.{FromTo}
use Rattle.radix.proofs.Carries.{carry_into, seen, carry-bit}

-- a half of a byte fits its four bits
pub implies-halves : (x : ℕ) → x < 256 → (x % 16 ≤ 15) × (x / 16 ≤ 15)
implies-halves x h = (omega arith, omega arith)

-- .. and with a carry its digit fits a signed byte
pub half-fits : (r : ℕ) → r ≤ 16 → SFits w8 (centred 8 r)
half-fits r h = centred-fits w8 8 r (lit< tt) (lit≤ tt) h

module _ (bytes : List ℕ) (below : Below 256 bytes) where
  -- window k is the lower half of its byte where k is even, and the upper half where it is odd
  window-half : (k j i : ℕ) → j ≤ 1 → 4 * i ≡ 8 * k + 4 * j → integer bytes / 2 ^ (4 * i) % 2 ^ 4 ≡ get_or bytes k 0 / 2 ^ (4 * j) % 2 ^ 4
  window-half k j i h e = rw e (inside 8 bytes k (4 * j) 4 below (omega arith))

  pub low_half : (k : ℕ) → integer bytes / 2 ^ (4 * (2 * k)) % 2 ^ 4 ≡ get_or bytes k 0 % 16
  low_half k = window-half k 0 (2 * k) (omega arith) (omega arith) ∙ omega arith

  pub high_half : (k : ℕ) → integer bytes / 2 ^ (4 * (2 * k + 1)) % 2 ^ 4 ≡ get_or bytes k 0 / 16
  high_half k = window-half k 1 (2 * k + 1) (omega arith) (omega arith) ∙ omega (arith, below k)

-- what the source's recentring step is given, a half and a carry and 8
pub recentred-from : (half carry : ℕ) → half < 16 → carry ≤ 1 → FromTo 8 24 (half + carry + 8)
recentred-from half carry h c = record { low = omega arith; high = omega arith }

-- .. and so at every index, with the half of its byte and the carry of the digits below
pub record Recentred (bytes : List ℕ) (i : ℕ) : Type 0 where
  pub half : seen 4 (integer bytes) i ≡ get_or bytes (i / 2) 0 / 16 ^ (i % 2) % 16 + carry_into 4 (integer bytes) i
  pub range : FromTo 8 24 (seen 4 (integer bytes) i + 8)

pub recentred : (bytes : List ℕ) → Below 256 bytes → (i : ℕ) → Recentred bytes i
recentred bytes below i = record {
  half = ap (λ (n : ℕ). n + carry_into 4 (integer bytes) i) (window-half bytes below (i / 2) (i % 2) i (omega arith) (omega arith) ∙ rw (← pow-pow 4 (i % 2)));
  range = recentred-from (integer bytes / 2 ^ (4 * i) % 2 ^ 4) (carry_into 4 (integer bytes) i) (mod-lt _ (pow_pos 4)) (carry-bit 4 (integer bytes) i);
}
