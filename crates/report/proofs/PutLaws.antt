-- A text put at a place of a buffer fixes the buffer and the place after it; and each method of `Text` puts its text so. Assumes nothing.
use mathlib.Core.Path.{◌≡◌, sym, ap, ◌∙◌}
use mathlib.Core.List.{List, ◌++◌}
use Prim.Native.Nat.{ℕ, ◌+◌, ◌-◌, ◌≤◌}
use native.Mathlib.Omega.{arith}
use lib.ListN.{length, take, drop, replicate, length-append, take-append-drop}
use lib.Seq.{length-take-le}
use Rattle.report.specs.declared.TheConstants.{SIZE}
use Rattle.report.specs.inner.Put.{Put}
use Rattle.report.proofs.TextLaws.{zeros_stay}

-- two results that both keep the promise are equal
pub put-determined : {l t m n : List ℕ} {a p q : ℕ} → Put l a t m p → Put l a t n q → (m ≡ n) × (p ≡ q)
put-determined {m = m} {n = n} {p = p} {q = q} f g =
    let e : p ≡ q = f.moved ∙ sym g.moved in
    let heads : take p m ≡ take p n = f.written ∙ sym (rw (← e) at g.written) in
    let tails : drop p m ≡ drop p n = f.kept ∙ sym (rw (← e) at g.kept) in
    (sym (take-append-drop p m) ∙ ap (λ (x : List ℕ). x ++ drop p m) heads ∙ ap (λ (x : List ℕ). take p n ++ x) tails ∙ take-append-drop p n, e)

-- what a method of `Text` promises, over the array and the length that its Model and invariant speak of, is that it puts its text
pub text-puts : (text : List ℕ) {bytes bytes' : List ℕ} {len len' : ℕ} → length bytes ≡ SIZE → length bytes' ≡ SIZE → len ≤ SIZE → len' ≤ SIZE
    → drop len bytes ≡ replicate (SIZE - len) 0 → drop len' bytes' ≡ replicate (SIZE - len') 0
    → take len' bytes' ≡ take len bytes ++ text → Put bytes len text bytes' len'
text-puts text {bytes} {bytes'} {len} {len'} l l' h h' z z' e =
    let shorter : length (take len bytes) ≡ len = length-take-le len bytes (omega (arith, l)) in
    let longer : length (take len' bytes') ≡ len' = length-take-le len' bytes' (omega (arith, l')) in
    let m : len' ≡ len + length text = sym longer ∙ ap length e ∙ rw length-append (omega (arith, shorter)) in
    record {
      long = l' ∙ sym l;
      moved = m;
      written = e;
      kept = z' ∙ rw m (sym (zeros_stay len (length text) bytes z));
    }
