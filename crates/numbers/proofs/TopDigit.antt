-- The top digit of a number written in a base: it tells how large the number is, and to reduce it is to reduce the number. Assumes nothing.
use mathlib.Core.Path.{◌≡◌}
use mathlib.Core.Logic.{◌↔◌}
use mathlib.Core.List.{List, ◌∷◌}
use Prim.Native.Nat.{ℕ, suc, ◌+◌, ◌*◌, ◌/◌, ◌%◌, ◌^◌, ◌<◌}
use native.Mathlib.Nat.{div-add-mod', div-lt_iff_lt-mul, mul_comm, mul-zero, add-zero, one-le-pow}
use native.Mathlib.Omega.{arith}
use lib.ListN.{length, get_or, set, take, drop, drop_of_length-le}
use lib.Seq.{length-take-le, set_split, set-get_or}
use lib.Arith.{mod-mul}
use Rattle.numbers.specs.Positional.{positional}
use Rattle.numbers.proofs.Positional.{Below, off, front, append}

module _ (b : ℕ) (ds : List ℕ) (n : ℕ) (long : length ds ≡ suc n) where
  -- with v for the top digit, the number is v times b^n, and what the digits below it make
  top_set : (v : ℕ) → positional b (set ds n v) ≡ v * b ^ n + positional b (take n ds)
  unfolding positional
  top_set v =
      rw (set_split ds n v (omega arith), append b (take n ds) (v ∷ drop (suc n) ds), length-take-le n ds (omega arith), drop_of_length-le ds {i = suc n} (omega arith), mul-zero b)
      (omega (arith, mul_comm (b ^ n) v))

  module _ (below : Below b ds) where
    unit : 0 < b ^ n
    unit = one-le-pow n b (omega (arith, below 0))

    pub top_digit : positional b ds / b ^ n ≡ get_or ds n 0
    unfolding positional
    top_digit = rw (off b ds n below, front b ds n, drop_of_length-le ds {i = suc n} (omega arith), mul-zero b, add-zero)

    pub top_below : (m : ℕ) → (get_or ds n 0 < m) ↔ (positional b ds < m * b ^ n)
    top_below m = rw top_digit at (div-lt_iff_lt-mul {x = positional b ds} {y = m} unit)

    pub top-reduced : (m : ℕ) → 0 < m → positional b (set ds n (get_or ds n 0 % m)) ≡ positional b ds % (m * b ^ n)
    top-reduced m hm =
        rw (top_set (get_or ds n 0 % m), mod-mul (positional b ds) hm unit, top_digit)
        (omega (arith, rw top_digit at (div-add-mod' (positional b ds) (b ^ n)), rw (set-get_or ds n 0) at (top_set (get_or ds n 0))))
