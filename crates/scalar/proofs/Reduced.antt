-- What `from_bits` promises: it fixes the bytes, keeps them below 2^255, and leaves a smaller integer as it is. Assumes nothing.
use Prim.Native.Nat.{ℕ, ◌^◌, ◌<◌}
use mathlib.Core.Path.{◌≡◌, sym, ◌∙◌}
use mathlib.Core.List.{List}
use native.Mathlib.Nat.{mod-lt, mod-eq_of_lt}
use lib.Pow.{pow_pos}
use Rattle.rules.specs.Integer.{integer, Bytes}
use Rattle.scalar.specs.FromBits.{Reduced}
use Rattle.rules.proofs.Integer.{integer-determines}

pub from-bits-determined : {given made made' : List ℕ} → Bytes 32 made → Bytes 32 made' → Reduced given made → Reduced given made' → made ≡ made'
from-bits-determined p q r s = integer-determines p q (r.reduced ∙ sym s.reduced)

pub from-bits-small : {given made : List ℕ} → Reduced given made → integer made < 2 ^ 255
from-bits-small {given} r = rw r.reduced (mod-lt (integer given) (pow_pos 255))

pub from-bits-same : {given made : List ℕ} → Reduced given made → integer given < 2 ^ 255 → integer made ≡ integer given
from-bits-same r h = r.reduced ∙ mod-eq_of_lt h
