-- What passes, by the integer that it stands for. Assumes nothing.
use mathlib.Core.Path.{◌≡◌, refl}
use mathlib.Core.List.{List}
use Prim.Native.Nat.{ℕ, ◌<◌, zero-le}
use lib.Dec.{T, ltb→lt, le→leb, lt→ltb}
use lib.IntN.{ℤ, pos, negsuc}
use lib.Signed.{◌≤ℤ◌, ◌<ℤ◌, le_z_yes, lt_z_yes}
use Rattle.rules.specs.Digits.{weighted}
use Rattle.rules.specs.Forms.{Form}
use Rattle.rules.specs.Keeps.{Passes}
use Rattle.rules.specs.Promises.{Recoded}

pub pos-same : {x y : ℕ} → pos x ≡ pos y → x ≡ y
pos-same e = cc e

module _ (F : Form) (ds : List ℤ) where
  -- a string for x, x being in range, passes
  pub passing : (x : ℕ) → T F.allowed → Recoded F x ds → x < F.end → Passes F ds
  passing x a r h =
      let e = r.sums in
      record {
        long = r.long;
        allowed = a;
        keeps = r.keeps;
        low = rw e (le_z_yes (le→leb 0 x zero-le));
        high = rw e (lt_z_yes (lt→ltb x F.end h));
      }

  -- what passes stands for an integer of the range
  pub record Stands : Type 0 where
    pub value : ℕ
    pub string : Recoded F value ds
    pub inside : value < F.end

  pub stands : Passes F ds → Stands
  stands p =
      go (weighted F.base ds) p.low p.high
      (λ x e h. record { value = x; string = record { long = p.long; keeps = p.keeps; sums = e }; inside = h })
    where
      go : (z : ℤ) → pos 0 ≤ℤ z → z <ℤ pos F.end → ((x : ℕ) → z ≡ pos x → x < F.end → Stands) → Stands
      go (pos x) l h k = k x refl (ltb→lt x F.end h.lt)
      go (negsuc x) l h k = absurd l.le
