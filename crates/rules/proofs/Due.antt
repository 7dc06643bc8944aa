-- The verdict that a recoder's call gets, exactly if: over any form. Assumes nothing.
use mathlib.Core.Path.{◌≡◌, refl, sym, ◌∙◌, subst}
use mathlib.Core.Logic.{◌≢◌, ◌↔◌}
use mathlib.Core.Bool.{Bool, true, false, not}
use mathlib.Core.List.{List}
use Prim.Native.Nat.{ℕ}
use native.Mathlib.Omega.{arith}
use lib.Dec.{T}
use Rattle.rules.specs.declared.Refusal.TheVariants.{WrongLength, WrongForm, WrongWidth, TooWide, BrokenDigit, Crowded, Negative, PastEnd, WrongChoice}
use Rattle.std.specs.Prelude.{Ok, Err}
use Rattle.rules.specs.Forms.{Form}
use Rattle.rules.specs.Refusals.{DueIf}
use Rattle.rules.specs.Verdicts.{Verdict, Done, number, position, unless}
use Rattle.rules.specs.Promises.{due}
use Rattle.rules.proofs.Verdicts.{done-or_else, refused-or_else, unless-held, unless-failed, width-refused}

module _ (F : Form) (bytes : List ℕ) where
  due-given : (v : Verdict) → DueIf F bytes v → due F bytes ≡ v
  unfolding due
  due-given (Ok done) p = rw (unless-held F.allowed WrongWidth p.0, unless-held (F.room bytes) TooWide p.1) (done-or_else _)
  due-given (Err WrongLength) p = absurd p
  due-given (Err WrongForm) p = absurd p
  due-given (Err WrongWidth) p = rw (unless-failed F.allowed WrongWidth p) (refused-or_else (Err WrongWidth) _ (λ z. omega arith))
  due-given (Err TooWide) p = rw (unless-held F.allowed WrongWidth p.0, unless-failed (F.room bytes) TooWide p.1) (done-or_else _)
  due-given (Err (BrokenDigit k)) p = absurd p
  due-given (Err (Crowded k)) p = absurd p
  due-given (Err Negative) p = absurd p
  due-given (Err PastEnd) p = absurd p
  due-given (Err WrongChoice) p = absurd p

  some-due : (v : Verdict) × DueIf F bytes v
  some-due = widths F.allowed (λ t. t) (λ t. t)
    where
      rooms : T F.allowed → (b : Bool) → (T b → T (F.room bytes)) → (T (not b) → T (not (F.room bytes))) → (v : Verdict) × DueIf F bytes v
      rooms a true f g = (Done, (a, f tt))
      rooms a false f g = (Err TooWide, (a, g tt))

      widths : (b : Bool) → (T b → T F.allowed) → (T (not b) → T (not F.allowed)) → (v : Verdict) × DueIf F bytes v
      widths true f g = rooms (f tt) (F.room bytes) (λ t. t) (λ t. t)
      widths false f g = (Err WrongWidth, g tt)

  -- 01's table: each verdict is due exactly if its line holds
  pub due-exactly : (v : Verdict) → due F bytes ≡ v ↔ DueIf F bytes v
  due-exactly v = (λ e. let (u, g) = some-due in subst (DueIf F bytes) (sym (due-given u g) ∙ e) g, due-given v)

  -- the width's verdict, if it is a refusal, is the call's
  pub due-width : {v : Verdict} → v ≡ unless F.allowed WrongWidth → number v ≢ 0 → due F bytes ≡ v
  due-width e n = let r = width-refused F.allowed e n in (due-exactly (Err WrongWidth)).1 r.1 ∙ sym r.0

  -- a recoder's refusals have no position
  pub due-position : position (due F bytes) ≡ 0
  due-position = go (due F bytes) ((due-exactly (due F bytes)).0 refl)
    where
      go : (v : Verdict) → DueIf F bytes v → position v ≡ 0
      go (Ok done) g = refl
      go (Err WrongLength) g = refl
      go (Err WrongForm) g = refl
      go (Err WrongWidth) g = refl
      go (Err TooWide) g = refl
      go (Err (BrokenDigit k)) g = absurd g
      go (Err (Crowded k)) g = absurd g
      go (Err Negative) g = refl
      go (Err PastEnd) g = refl
      go (Err WrongChoice) g = refl
