-- A list that a loop fills from the front, one place a turn. Assumes nothing.
use mathlib.Core.Path.{◌≡◌, ◌∙◌}
use mathlib.Core.List.{List}
use Prim.Native.Nat.{ℕ, ◌+◌, ◌<◌}
use native.Mathlib.Omega.{arith}
use borrow.Author.Count.{below_more}
use lib.ListN.{length, get_or, set}
use lib.Seq.{get_or-set_same, get_or-set_other}

-- the first n elements are those of g
abbrev pub Filled : {A : Type 0} → A → (ℕ → A) → ℕ → List A → Type 0
Filled d g n xs = (i : ℕ) → i < n → get_or xs i d ≡ g i

pub filled_more : {A : Type 0} (d : A) (g : ℕ → A) (n : ℕ) (xs : List A) (v : A) → n < length xs → Filled d g n xs → v ≡ g n → Filled d g (n + 1) (set xs n v)
filled_more d g n xs v l f e =
    below_more (λ (i : ℕ). get_or (set xs n v) i d ≡ g i) n
    (λ i h. get_or-set_other xs n i v d (λ p. omega arith) ∙ f i h)
    (get_or-set_same xs n v d l ∙ e)
