-- 01, "The numbers of each width": the widths of the two forms, and the table of R. Assumes nothing.
use Rattle.std.specs.Prelude.{ℕ, Bool, cond, ◌&&◌, leb, eqb}

-- N has the widths from 2 up to the widest: 8 on the card.
abbrev pub width_n : ℕ → ℕ → Bool
width_n widest w = leb 2 w && leb w widest

-- R has the widths 4 to 8.
abbrev pub width_r : ℕ → Bool
width_r w = leb 4 w && leb w 8

-- A row of R's table: n digits, the last from 0 to `top`, and the range below 2^bits.
pub record Row : Type 0 where
  pub digits : ℕ
  pub top : ℕ
  pub bits : ℕ

-- R's table, width by width. Another width has no digits, and `width_r` refuses it.
unfoldable pub row : ℕ → Row
row w =
    cond (eqb w 4) (record { digits = 64; top = 8; bits = 255 })
    (cond (eqb w 5) (record { digits = 52; top = 2; bits = 256 })
    (cond (eqb w 6) (record { digits = 43; top = 16; bits = 256 })
    (cond (eqb w 7) (record { digits = 37; top = 16; bits = 256 })
    (cond (eqb w 8) (record { digits = 33; top = 1; bits = 256 })
    (record { digits = 0; top = 0; bits = 0 })))))
