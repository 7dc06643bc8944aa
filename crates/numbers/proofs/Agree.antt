-- Two pairs that both are a third. Assumes nothing.
use mathlib.Core.Path.{◌≡◌, sym, ◌∙◌}

pub agree : {A B : Type 0} {x x' u : A} {y y' v : B} → (x ≡ u) × (y ≡ v) → (x' ≡ u) × (y' ≡ v) → (x ≡ x') × (y ≡ y')
agree p q = (p.0 ∙ sym q.0, p.1 ∙ sym q.1)
