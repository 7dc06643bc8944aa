-- The array that `array::from_fn` makes: element i is what the call at i gives. Assumes nothing.
use mathlib.Core.Path.{◌≡◌, subst, ◌∙◌}
use mathlib.Core.List.{List}
use Prim.Native.Nat.{ℕ, zero, suc, ◌+◌, ◌<◌, ◌≤◌}
use native.Mathlib.Decide.{dec_lt}
use native.Mathlib.Omega.{arith}
use denote.Param.Members.{Mut}
use lib.ListN.{length, get_or}
use lib.Seq.{ext_get_or}
use Rattle.std.specs.Fn.{Called}
use Rattle.std.specs.Array.{IsFromFnResult, IsFromFnResultFrom}

-- each call leaves the closure f as it was, and gives h of the number
abbrev Gives : {F B : Type 0} → Mut F (ℕ × Unit {0}) B → F → (ℕ → B) → Type 0
Gives {F} {B} g f h = (i : ℕ) (y : B) (q : F) → Called g f (i, tt) y q → (q ≡ f) × (y ≡ h i)

each-made : {F B : Type 0} (g : Mut F (ℕ × Unit {0}) B) (f : F) (h : ℕ → B) → Gives g f h → (ys : List B) (i n : ℕ) → IsFromFnResultFrom g f ys i n → (k : ℕ) (d : B) → i ≤ k → k < i + n → get_or ys k d ≡ h k
each-made g f h gives ys i zero r k d l m = absurd (omega arith)
each-made {F} g f h gives ys i (suc n) r k d l m =
    let here = gives i r.1 r.0 r.3 in
    elim (dec_lt i k) [
      | yes p ↦ each-made g f h gives ys (i + 1) n (subst (λ (q : F). IsFromFnResultFrom g q ys (i + 1) n) here.0 r.4) k d (omega arith) (omega arith)
      | no p ↦ let e : i ≡ k = omega arith in subst (λ (j : ℕ). get_or ys j d ≡ h j) e (r.2.1 d ∙ here.1)
    ]

module _ {F B : Type 0} {g : Mut F (ℕ × Unit {0}) B} {f : F} {ys : List B} {n : ℕ} (made : IsFromFnResult g f ys n) (h : ℕ → B) (gives : Gives g f h) where
  pub made-each : (k : ℕ) (d : B) → k < n → get_or ys k d ≡ h k
  made-each k d m = each-made g f h gives ys 0 n made.each k d (omega arith) (omega arith)

  -- .. with the elements of another list of its length, it is that list
  pub made-all : (xs : List B) (d : B) → length xs ≡ n → ((k : ℕ) → h k ≡ get_or xs k d) → ys ≡ xs
  made-all xs d l e = ext_get_or d ys xs (omega (arith, made.long)) (λ k m. made-each k d (omega (arith, made.long)) ∙ e k)
