-- Which verdict is due, by the width and byte 31. Assumes nothing.
use mathlib.Core.Path.{◌≡◌}
use mathlib.Core.List.{List}
use Prim.Native.Nat.{ℕ, ◌≤◌, ◌<◌}
use native.Mathlib.Omega.{arith}
use borrow.Author.Tests.{ne_eqb, lt-leb}
use lib.Dec.{le→leb}
use lib.ListN.{get_or}
use Rattle.rules.specs.declared.Refusal.TheVariants.{TooWide}
use Rattle.rules.specs.Verdicts.{Done}
use Rattle.std.specs.Prelude.{Err}
use Rattle.rules.specs.Forms.{card_r}
use Rattle.rules.specs.Promises.{due}
use Rattle.rules.proofs.Due.{due-exactly}
use Rattle.shape.proofs.Rows.{width-held}

pub due-16 : (bytes : List ℕ) → get_or bytes 31 0 ≤ 127 → due (card_r 4) bytes ≡ Done
due-16 bytes l = (due-exactly (card_r 4) bytes Done).1 (tt, le→leb (get_or bytes 31 0) 127 l)

pub due-2w : (bytes : List ℕ) (w : ℕ) → 4 < w → w ≤ 8 → due (card_r w) bytes ≡ Done
due-2w bytes w a b = (due-exactly (card_r w) bytes Done).1 (width-held w (omega arith) b, rw (ne_eqb w 4 (λ e. omega arith)) tt)

pub due-too-wide : (bytes : List ℕ) → 127 < get_or bytes 31 0 → due (card_r 4) bytes ≡ Err TooWide
due-too-wide bytes l = (due-exactly (card_r 4) bytes (Err TooWide)).1 (tt, rw (lt-leb (get_or bytes 31 0) 127 l) tt)
