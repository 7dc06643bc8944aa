-- What a loop made is a string of the integer, and its last digit fits. Over the width. Assumes nothing.
use mathlib.Core.Path.{◌≡◌}
use mathlib.Core.List.{List}
use Prim.Native.Nat.{ℕ, ◌+◌, ◌-◌, ◌*◌, ◌/◌, ◌%◌, ◌^◌, ◌≤◌, ◌<◌}
use native.Mathlib.Omega.{arith}
use lib.Dec.{lit≤}
use lib.ListN.{set}
use lib.IntN.{ℤ, pos}
use Rattle.rules.specs.Verdicts.{Done}
use Rattle.rules.specs.Integer.{integer, Bytes}
use Rattle.rules.specs.Widths.{row}
use Rattle.rules.specs.Forms.{card_r}
use Rattle.rules.specs.Promises.{due, Recoded}
use Rattle.rules.proofs.RecoderR.{recoded-r}
use Rattle.rules.proofs.Table.{row_fits, width-between}
use Rattle.rules.proofs.Exactly.{lawful-card-r}
use Rattle.rules.proofs.Promises.{done-exactly}
use Rattle.shape.proofs.Rows.{top_small, top-span}
use Rattle.radix.proofs.Carries.{Recoding, recoding-top, recoding-last}

-- the digits below the last, and the last: it fits a signed byte, and makes the string whole
pub record Whole (w x : ℕ) (ds : List ℤ) (last : ℕ) : Type 0 where
  pub small : last ≤ 16
  pub string : Recoded (card_r w) x (set ds ((row w).digits - 1) (pos last))

-- where done is due, the last digit is its window and the carry
pub whole : (w : ℕ) {bytes : List ℕ} {ds : List ℤ} {c window : ℕ} → Bytes 32 bytes → due (card_r w) bytes ≡ Done → Recoding w (integer bytes) ((row w).digits - 1) ds c
    → window ≡ integer bytes / 2 ^ (w * ((row w).digits - 1)) % 2 ^ w → Whole w (integer bytes) ds (window + c)
whole w {bytes} {ds} {c} {window} b done r e =
    let (t, takes) = (done-exactly (card_r w) (lawful-card-r w) bytes b).0 done in
    let x = integer bytes in
    let m = (row w).digits - 1 in
    let f = row_fits w t in
    let w⁺ : 0 < w = omega (arith, (width-between 4 8 w t).low) in
    let l : m < 64 = omega (arith, f.most, f.several) in
    let u : x ≤ (row w).top * (2 ^ w) ^ m = omega (arith, f.ends, takes.inside) in
    let n : 63 - m ≡ 64 - (row w).digits = omega (arith, f.several) in
    record {
      small = omega (arith, top_small w t, recoding-top w x w⁺ m ds c window (row w).top l r e u (top-span w t));
      string = rw (recoding-last w x w⁺ m ds c window (row w).top l r e u (top-span w t), n) (recoded-r 64 w x t (lit≤ tt) (omega (arith, takes.inside)));
    }
