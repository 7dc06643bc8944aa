-- Which verdict is due, by the width and byte 31. Assumes nothing.
use mathlib.Core.Path.{◌≡◌}
use mathlib.Core.List.{List}
use Prim.Native.Nat.{ℕ, ◌≤◌, ◌<◌}
use borrow.Author.Tests.{le-leb, lt-leb}
use lib.Dec.{not_T}
use lib.ListN.{get_or}
use Rattle.rules.specs.declared.Refusal.TheVariants.{WrongWidth, TooWide}
use Rattle.rules.specs.Verdicts.{Done}
use Rattle.std.specs.Prelude.{Err}
use Rattle.rules.specs.Widths.{width_n}
use Rattle.rules.specs.Forms.{card_n}
use Rattle.rules.specs.Promises.{due}
use Rattle.rules.proofs.Due.{due-exactly}
use Rattle.rules.proofs.Table.{FromTo, width-between}

module _ (bytes : List ℕ) (w : ℕ) where
  pub due-wrong-width : (FromTo 2 8 w → ⊥) → due (card_n w) bytes ≡ Err WrongWidth
  due-wrong-width f = (due-exactly (card_n w) bytes (Err WrongWidth)).1 (not_T (width_n 8 w) (λ t. f (width-between 2 8 w t)))

  module _ (l : 2 ≤ w) (m : w ≤ 8) where
    pub due-too-wide : 127 < get_or bytes 31 0 → due (card_n w) bytes ≡ Err TooWide
    due-too-wide h = (due-exactly (card_n w) bytes (Err TooWide)).1 (rw (le-leb 2 w l, le-leb w 8 m) tt, rw (lt-leb (get_or bytes 31 0) 127 h) tt)

    pub due-done : get_or bytes 31 0 ≤ 127 → due (card_n w) bytes ≡ Done
    due-done h = (due-exactly (card_n w) bytes Done).1 (rw (le-leb 2 w l, le-leb w 8 m) tt, rw (le-leb (get_or bytes 31 0) 127 h) tt)
