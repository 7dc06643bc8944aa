-- `scalar::Scalar::from_bits` meets its contract: to reduce the top byte modulo 128 is to reduce the integer modulo 2^255. Assumes nothing.
use borrow.Author.Rules.{rules}
use Prim.Native.Nat.{ℕ}
use mathlib.Core.Path.{◌≡◌}
use lib.Dec.{lit<}
use lib.ListN.{length, get_or}
use mir.Syntax.{w8}
use mir.Val.{Fits}
use Rattle.numbers.proofs.TopDigit.{top-reduced}
use Rattle.scalar.proofs.Scalar.from_bits.Goals as goal

long : (c : goal.Start) → length c.args.bytes ≡ 32
long c = search rules

byte : (c : goal.Start) (k : ℕ) → Fits w8 (get_or c.args.bytes k 0)
byte c k = search rules

pub returns : goal.returns
returns c = record { reduced = top-reduced 256 c.args.bytes 31 (long c) (λ k. (byte c k).fits) 128 (lit< tt) }
