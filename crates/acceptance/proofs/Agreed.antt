-- A form of the library and what 01 says of it: when the two agree. Assumes nothing.
use mathlib.Core.Path.{◌≡◌, sym, ◌∙◌, subst}
use mathlib.Core.Logic.{◌≢◌, ◌↔◌}
use mathlib.Core.Bool.{not}
use mathlib.Core.List.{List}
use Prim.Native.Nat.{ℕ, ◌+◌, ◌<◌, ◌≤◌}
use native.Mathlib.Decide.{dec_lt}
use native.Mathlib.Omega.{arith}
use lib.Dec.{T}
use lib.IntN.{ℤ, pos}
use Rattle.rules.specs.Integer.{Bytes}
use Rattle.rules.specs.Digits.{weighted}
use Rattle.rules.specs.Forms.{Form}
use Rattle.rules.specs.Keeps.{Passes}
use Rattle.rules.specs.Exactly.{Lawful}
use Rattle.acceptance.specs.Strings.{digit}
use Rattle.acceptance.specs.Conditions.{Form01}

pub record Agrees (F : Form) (C : Form01) : Type 0 where
  pub lawful : T F.allowed → Lawful F
  pub bytes : F.bytes ≡ 32
  pub entries : F.long ≡ C.entries
  pub ends : (end : ℕ) → C.Ends end ↔ (T F.allowed × (end ≡ F.end))
  pub fours : (bytes : List ℕ) → C.Four bytes ↔ (T F.allowed × T (not (F.room bytes)))
  pub own : T F.allowed → (ds : List ℤ) (i : ℕ) → T (F.own i (digit ds i)) ↔ C.Own ds i
  pub close : (ds : List ℤ) (i : ℕ) → C.Close ds i ↔ ((digit ds i ≢ pos 0) × (j : ℕ) × (j < i) × (i ≤ j + F.gap) × (digit ds j ≢ pos 0))
  pub strings : (ds : List ℤ) → Passes F ds ↔ C.String ds
  pub sums : (ds : List ℤ) → weighted F.base ds ≡ C.sum ds
  pub counts : (ds : List ℤ) → Passes F ds → (j m : ℕ) → (C.Count ds j × C.Additions ds m) ↔ ((j ≡ F.counted ds) × (m ≡ F.added ds))

pub not-below : (x end : ℕ) → (x < end → ⊥) → end ≤ x
not-below x end f = go (dec_lt x end)
  where
    go : Dec (x < end) → end ≤ x
    go (yes l) = absurd (f l)
    go (no g) = omega arith

module _ {F : Form} {C : Form01} (a : Agrees F C) where
  pub held : {bytes : List ℕ} → Bytes 32 bytes → Bytes F.bytes bytes
  held {bytes} b = subst (λ (n : ℕ). Bytes n bytes) (sym a.bytes) b

  pub one_end : {end end' : ℕ} → C.Ends end → C.Ends end' → end ≡ end'
  one_end {end} {end'} r r' = ((a.ends end).0 r).1 ∙ sym ((a.ends end').0 r').1
