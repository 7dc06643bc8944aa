-- `read` of the calls: the lent buffer's length, then the reader. Assumes nothing.
use mathlib.Core.Path.{sym, ◌∙◌}
use Prim.Native.Nat.{ℕ}
use borrow.Author.Rules.{rules}
use lib.ListN.{get_or}
use mir.Syntax.{w8}
use mir.Val.{Fits}
use Rattle.rules.specs.Integer.{Bytes}
use Rattle.rules.proofs.Verdicts.{handed-on}
use Rattle.calls.proofs.Answers.{answers-stopped}
use Rattle.calls.proofs.Lengths.{wrong-length-first, right-length, right-lengths}
use Rattle.calls.proofs.Given.{read-short, read-sized, read-given}
use Rattle.calls_digits.proofs.read.Given.{Over}
use Rattle.calls_digits.proofs.read.Goals as goal
use Rattle.calls_digits.proofs.read.Goals.{In_ok-made}

pub returns-in_err-has_length : goal.returns-in_err-has_length
returns-in_err-has_length g c =
    let a = c.args in
    let form = g.met.F.DigitForm in
    let e = handed-on c.from_residual.result _ c.from_residual.ensures.1 in
    record {
      coded = answers-stopped (read-short _ (form.whole a.width) a.digits.now a.out.now c.in_err-has_length.ensures) e;
      is = e ∙ sym (wrong-length-first _ _ _ (λ t. t) c.in_err-has_length.ensures);
    }

pub returns-in_err-made : goal.returns-in_err-made
returns-in_err-made g c =
    let a = c.args in
    let form = g.met.F.DigitForm in
    let r = c.from_residual-in_err-made in
    let e = handed-on r.result _ r.ensures.1 in
    record {
      coded = answers-stopped (read-sized _ (form.whole a.width) a.digits.now a.out.now c.in_ok-has_length.ensures ∙ sym c.in_err-made.ensures.answered) e;
      is = e ∙ c.in_err-made.ensures.answered ∙ sym (right-lengths _ _ (right-length _ c.in_ok-has_length.ensures));
    }

made_bytes : (g : Over) (c : In_ok-made g) → Bytes 32 c.in_ok-made.made.bytes
made_bytes g c =
    let byte : (k : ℕ) → Fits w8 (get_or c.in_ok-made.made.bytes k 0) = λ k. search rules in
    record { long = search rules; small = λ k. (byte k).fits }

pub returns : goal.returns
returns g c =
    let a = c.args in
    let form = g.met.F.DigitForm in
    record {
      coded = read-given _ (form.whole a.width) a.digits.now a.out.now c.in_ok-has_length.ensures (made_bytes g (goal.at.returns g c).In_ok-made) c.in_ok-made.ensures c.copy_from_slice.ensures.after;
      is = c.in_ok-made.ensures.answered ∙ sym (right-lengths _ _ (right-length _ c.in_ok-has_length.ensures));
    }
