-- What it is to put a text at a place of a buffer. Assumes nothing.
use Rattle.std.specs.Prelude.{ℕ, ◌+◌, ◌≡◌, List, ◌++◌, length, take, drop}

-- The text stands from place `at` up, `next` is the place after it, and the bytes before and after it stay.
pub record Put (before : List ℕ) (at : ℕ) (text : List ℕ) (after : List ℕ) (next : ℕ) : Type 0 where
  pub long : length after ≡ length before
  pub moved : next ≡ at + length text
  pub written : take next after ≡ take at before ++ text
  pub kept : drop next after ≡ drop next before
