-- What the recoder's promise gives of N's own: the laws over a form at N, the carry past the last place, and the clauses of the original. Assumes nothing.
use mathlib.Core.Path.{◌≡◌, refl}
use mathlib.Core.Logic.{◌≢◌}
use mathlib.Core.List.{List}
use Prim.Native.Nat.{ℕ, ◌+◌, ◌-◌, ◌/◌, ◌<◌, ◌≤◌}
use native.Mathlib.Omega.{arith}
use lib.Dec.{lit<}
use lib.IntN.{ℤ, pos}
use Rattle.rules.specs.Verdicts.{Verdict, Done}
use Rattle.rules.specs.Integer.{integer, Bytes}
use Rattle.rules.specs.Digits.{digit_at, weighted}
use Rattle.rules.specs.Forms.{card_n}
use Rattle.rules.specs.Keeps.{Passes}
use Rattle.rules.specs.Promises.{due, Recodes}
use Rattle.rules.proofs.ZeroDigit.{nonzero-of}
use Rattle.rules.proofs.NonAdjacent.{OddBelow, digit_n-odd}
use Rattle.rules.proofs.Table.{width-between}
use Rattle.rules.proofs.Exactly.{lawful-card-n}
use Rattle.rules.proofs.Additions.{additions-bound}
use Rattle.rules.proofs.Promises.{recodes-determined, done-exactly, recoded-passes, is-the-string}
use Rattle.naf.proofs.Places.{Walked, nothing_left}

-- one reply to a call, in all four parts
pub naf-determined : (w : ℕ) {bytes : List ℕ} {a b : Verdict} {ds es : List ℤ} {j k m n : ℕ} → Recodes (card_n w) bytes a ds j m → Recodes (card_n w) bytes b es k n → (a ≡ b) × (ds ≡ es) × (j ≡ k) × (m ≡ n)
naf-determined w {bytes} p q = recodes-determined (card_n w) (lawful-card-n w) bytes p q

-- byte 31 is at most 127, so nothing is left of the integer when 256 places are done, and the carry is 0
pub carry-zero-at-256 : {bytes : List ℕ} {w at carry : ℕ} {ds : List ℤ} {j m : ℕ} → Bytes 32 bytes → due (card_n w) bytes ≡ Done → Walked w 256 (integer bytes) at carry ds j m → 256 ≤ at → carry ≡ 0
carry-zero-at-256 {bytes} {w} b done p l =
    let t = (done-exactly (card_n w) (lawful-card-n w) bytes b).0 done in
    omega (arith, nothing_left (width-between 2 8 w t.0).low p l (lit< tt) t.1.inside)

-- ---- a call that is done

module _ (w : ℕ) {bytes : List ℕ} {ds : List ℤ} {j m : ℕ} (p : Recodes (card_n w) bytes Done ds j m) where
  pub implies-sum : weighted 2 ds ≡ pos (integer bytes)
  implies-sum = (p.string refl).sums

  pub implies-digit : (i : ℕ) → i < 256 → digit_at ds i ≢ pos 0 → OddBelow (w - 1) (digit_at ds i)
  implies-digit i l f = digit_n-odd w (digit_at ds i) (nonzero-of (digit_at ds i) f) ((p.string refl).keeps.digits i (rw (p.string refl).long l))

  pub implies-gap : (i k : ℕ) → i < k → k ≤ i + (w - 1) → k < 256 → digit_at ds i ≢ pos 0 → digit_at ds k ≡ pos 0
  implies-gap i k l h u f = (p.string refl).keeps.spacing i k l h (rw (p.string refl).long u) f

  module _ (b : Bytes 32 bytes) where
    passes : Passes (card_n w) ds
    passes = recoded-passes (card_n w) (lawful-card-n w) bytes b p refl

    -- the digits pass, and every passing string with that sum is theirs
    pub naf-is-the-string : Passes (card_n w) ds × ((es : List ℤ) → Passes (card_n w) es → weighted 2 es ≡ pos (integer bytes) → es ≡ ds)
    naf-is-the-string = (passes, is-the-string (card_n w) (lawful-card-n w) bytes b p refl)

    -- at most one digit in w is not zero
    pub naf-additions : m ≤ (256 + (w - 1)) / w
    naf-additions = rw (p.counts refl).1 (additions-bound 8 256 w ds passes)
