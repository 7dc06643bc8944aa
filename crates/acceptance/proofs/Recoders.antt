-- A recoder's promise in 01's words is the library's, for every form that agrees: conditions 1 and 2. Assumes nothing.
use mathlib.Core.Path.{◌≡◌, refl, sym, ◌∙◌, ap, subst}
use mathlib.Core.Logic.{◌↔◌}
use mathlib.Core.List.{List}
use Prim.Native.Nat.{ℕ, ◌<◌}
use native.Mathlib.Omega.{arith}
use lib.Dec.{T, T_not, not_T}
use lib.ListN.{replicate}
use lib.IntN.{ℤ, pos}
use Rattle.rules.specs.declared.Refusal.TheVariants.{WrongLength, WrongForm, WrongWidth, TooWide, BrokenDigit, Crowded, Negative, PastEnd, WrongChoice}
use Rattle.std.specs.Prelude.{Ok, Err}
use Rattle.rules.specs.Integer.{Bytes}
use Rattle.rules.specs.Forms.{Form}
use Rattle.rules.specs.Keeps.{Passes}
use Rattle.rules.specs.Verdicts.{Verdict, Done, number, position}
use Rattle.rules.specs.Refusals.{DueIf}
use Rattle.rules.specs.Promises.{due, Recodes}
use Rattle.rules.proofs.Verdicts.{verdict-named, number-zero}
use Rattle.rules.proofs.Due.{due-exactly, due-position}
use Rattle.rules.proofs.Promises.{recoded-passes}
use Rattle.acceptance.specs.Strings.{integer_of}
use Rattle.acceptance.specs.Conditions.{Form01, Answered, Recoding}
use Rattle.acceptance.proofs.Sums.{integer-is}
use Rattle.acceptance.proofs.Agreed.{Agrees, not-below, held}

module _ {F : Form} {C : Form01} (a : Agrees F C) where
  module _ (bytes : List ℕ) (b : Bytes 32 bytes) where
    room : T F.allowed → T (F.room bytes) ↔ (integer_of bytes < F.end)
    room t = subst (λ (x : ℕ). T (F.room bytes) ↔ (x < F.end)) (integer-is bytes) ((a.lawful t).roomy bytes (held a b))

    -- a verdict without a position, by its number
    given : (v : Verdict) → position v ≡ 0 → number (due F bytes) ≡ number v ↔ (due F bytes ≡ v)
    given v z = (λ e. verdict-named (due F bytes) v e (due-position F bytes ∙ sym z), λ e. ap number e)

    -- condition 1
    due-answered : Answered C bytes (due F bytes)
    due-answered = record {
      three = (
        λ e end r. T_not F.allowed ((due-exactly F bytes (Err WrongWidth)).0 ((given (Err WrongWidth) refl).0 e)) ((a.ends end).0 r).0,
        λ no. ap number ((due-exactly F bytes (Err WrongWidth)).1 (not_T F.allowed (λ t. no F.end ((a.ends F.end).1 (t, refl))))),
      );
      four = (
        λ e. let h = (due-exactly F bytes (Err TooWide)).0 ((given (Err TooWide) refl).0 e) in
            (F.end, (a.ends F.end).1 (h.0, refl), not-below (integer_of bytes) F.end (λ l. T_not (F.room bytes) h.1 ((room h.0).1 l))),
        λ (end, r, l). let h = (a.ends end).0 r in
            ap number ((due-exactly F bytes (Err TooWide)).1 (h.0, not_T (F.room bytes) (λ t. let m = (room h.0).0 t in let e = h.1 in omega arith))),
      );
      done = (
        λ e. let h = (due-exactly F bytes Done).0 ((given Done refl).0 e) in
            (F.end, (a.ends F.end).1 (h.0, refl), (room h.0).0 h.1),
        λ (end, r, l). let h = (a.ends end).0 r in
            ap number ((due-exactly F bytes Done).1 (h.0, (room h.0).1 (let e = h.1 in omega arith))),
      );
      top_byte = (
        λ e. (a.fours bytes).1 ((due-exactly F bytes (Err TooWide)).0 ((given (Err TooWide) refl).0 e)),
        λ f. ap number ((due-exactly F bytes (Err TooWide)).1 ((a.fours bytes).0 f)),
      );
      nowhere = due-position F bytes;
    }

    module _ {answer : Verdict} {digits : List ℤ} {counted added : ℕ} (p : Recodes F bytes answer digits counted added) where
      pub answered : Answered C bytes answer
      answered = subst (Answered C bytes) (sym p.answered) due-answered

      -- conditions 1 and 2
      pub recoding : Recoding C bytes answer digits counted added
      recoding = record {
        answered = answered;
        string = λ z. (a.strings digits).0 (passes z);
        sums = λ z. sym (a.sums digits) ∙ (p.string (number-zero answer z)).sums ∙ ap pos (integer-is bytes);
        counts = λ z. (a.counts digits (passes z) counted added).1 (p.counts (number-zero answer z));
        zeros = λ f. let z = p.zeros (λ e. f (ap number e)) in (subst (λ (n : ℕ). digits ≡ replicate n (pos 0)) a.entries z.0, z.1, z.2);
      }
        where
          passes : number answer ≡ 0 → Passes F digits
          passes z = recoded-passes F a.lawful bytes (held a b) p (number-zero answer z)

    -- .. and nothing but the library's promise keeps them

    one_answer : {answer : Verdict} → Answered C bytes answer → answer ≡ due F bytes
    one_answer {answer} g = verdict-named answer (due F bytes) (go (due F bytes) refl ((due-exactly F bytes (due F bytes)).0 refl)) (g.nowhere ∙ sym (due-position F bytes))
      where
        h : Answered C bytes (due F bytes)
        h = due-answered

        go : (v : Verdict) → due F bytes ≡ v → DueIf F bytes v → number answer ≡ number (due F bytes)
        go (Ok done) e t = let z = ap number e in g.done.1 (h.done.0 z) ∙ sym z
        go (Err WrongWidth) e t = let z = ap number e in g.three.1 (h.three.0 z) ∙ sym z
        go (Err TooWide) e t = let z = ap number e in g.four.1 (h.four.0 z) ∙ sym z
        go (Err WrongLength) e t = absurd t
        go (Err WrongForm) e t = absurd t
        go (Err (BrokenDigit k)) e t = absurd t
        go (Err (Crowded k)) e t = absurd t
        go (Err Negative) e t = absurd t
        go (Err PastEnd) e t = absurd t
        go (Err WrongChoice) e t = absurd t

    pub recodes : {answer : Verdict} {digits : List ℤ} {counted added : ℕ} → Recoding C bytes answer digits counted added → Recodes F bytes answer digits counted added
    recodes {answer} {digits} {counted} {added} r = record {
      answered = one_answer r.answered;
      string = λ e. let p = passes e in record { long = p.long; keeps = p.keeps; sums = a.sums digits ∙ r.sums (ap number e) ∙ ap pos (sym (integer-is bytes)) };
      counts = λ e. (a.counts digits (passes e) counted added).0 (r.counts (ap number e));
      zeros = λ f. let z = r.zeros (λ e. f (number-zero answer e)) in (subst (λ (n : ℕ). digits ≡ replicate n (pos 0)) (sym a.entries) z.0, z.1, z.2);
    }
      where
        passes : answer ≡ Done → Passes F digits
        passes e = (a.strings digits).1 (r.string (ap number e))

    pub recoding-is : {answer : Verdict} {digits : List ℤ} {counted added : ℕ} → Recodes F bytes answer digits counted added ↔ Recoding C bytes answer digits counted added
    recoding-is = (recoding, recodes)
