-- A window of at most 8 bits is read from two neighbouring bytes, and its promise fixes it. Assumes nothing.
use mathlib.Core.Path.{◌≡◌, sym, ap, ◌∙◌}
use mathlib.Core.List.{List}
use Prim.Native.Nat.{ℕ, ◌+◌, ◌*◌, ◌/◌, ◌%◌, ◌^◌, ◌≤◌, ◌<◌}
use native.Mathlib.Nat.{mod-lt, lt_of_lt_of_le}
use native.Mathlib.Decide.{dec_lt}
use native.Mathlib.Omega.{arith}
use lib.ListN.{get_or}
use lib.Pow.{pow_pos, pow_mono}
use Rattle.rules.specs.Integer.{integer}
use Rattle.numbers.proofs.Positional.{Below}
use Rattle.numbers.proofs.Windows.{window}
use Rattle.window.specs.Window.{Windowed}

-- the two bytes, shifted by the place in the first and cut off at w bits
pub from-two : (bytes : List ℕ) (at w : ℕ) → Below 256 bytes → w ≤ 8 → Windowed bytes at w ((get_or bytes (at / 8) 0 + 256 * get_or bytes (at / 8 + 1) 0) / 2 ^ (at % 8) % 2 ^ w)
from-two bytes at w f h =
    let e : 8 * (at / 8) + at % 8 ≡ at = omega arith in
    record {
      narrow = λ _. sym (window 8 bytes (at / 8) (at % 8) w f (omega arith)) ∙ ap (λ (n : ℕ). integer bytes / 2 ^ n % 2 ^ w) e;
      wide = λ l. absurd (omega arith);
      small = lt_of_lt_of_le (mod-lt _ (pow_pos w)) (pow_mono h);
    }

pub window-determined : (bytes : List ℕ) (at w x y : ℕ) → Windowed bytes at w x → Windowed bytes at w y → x ≡ y
window-determined bytes at w x y p q = go (dec_lt 8 w)
  where
    go : Dec (8 < w) → x ≡ y
    go (yes h) = p.wide h ∙ sym (q.wide h)
    go (no h) = p.narrow (omega arith) ∙ sym (q.narrow (omega arith))
