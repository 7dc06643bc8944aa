-- `non_adjacent_form` keeps its promise: each refusal by its test, and the string of the integer otherwise. Assumes nothing.
use Prim.Native.Nat.{ℕ, ◌≤◌}
use native.Mathlib.Omega.{arith}
use borrow.Author.Rules.{rules}
use lib.ListN.{get_or}
use mir.Syntax.{w8}
use mir.Val.{Fits}
use Rattle.rules.specs.Integer.{Bytes}
use Rattle.rules.specs.Forms.{card_n}
use Rattle.rules.proofs.Promises.{done-exactly, recodes-done, recodes-refused}
use Rattle.rules.proofs.Exactly.{lawful-card-n}
use Rattle.naf.proofs.Due.{due-wrong-width, due-too-wide, due-done}
use Rattle.naf.proofs.recode.non_adjacent_form.Goals as goal

pub returns-in_default : goal.returns-in_default
returns-in_default c =
    let a = c.args in
    recodes-refused (card_n a.w) a.s.bytes (due-wrong-width a.s.bytes a.w (λ b. c.in_default.ensures (b.low, b.high))) (λ z. omega arith) c.refused.ensures

pub returns-then-bytes-gt127 : goal.returns-then-bytes-gt127
returns-then-bytes-gt127 c =
    let a = c.args in
    let low : 2 ≤ a.w = rw (← c.in-Some.ensures) c.in-Some.width.least in
    let high : a.w ≤ 8 = rw (← c.in-Some.ensures) c.in-Some.width.most in
    recodes-refused (card_n a.w) a.s.bytes (due-too-wide a.s.bytes a.w low high c.if-bytes-gt127.true) (λ z. omega arith) c.refused-then-bytes-gt127.ensures

pub returns : goal.returns
returns c =
    let w = c.args.w in
    let bytes = c.args.s.bytes in
    let byte : (k : ℕ) → Fits w8 (get_or bytes k 0) = λ k. search rules in
    let b : Bytes 32 bytes = record { long = search rules; small = λ k. (byte k).fits } in
    let low : 2 ≤ w = rw (← c.in-Some.ensures) c.in-Some.width.least in
    let high : w ≤ 8 = rw (← c.in-Some.ensures) c.in-Some.width.most in
    let d = due-done bytes w low high (omega arith) in
    let fits = ((done-exactly (card_n w) (lawful-card-n w) bytes b).0 d).1.inside in
    let r = c.recode.ensures in
    recodes-done (card_n w) bytes d r.tallied.0 (rw c.in-Some.ensures at (r.recoded fits)) r.tallied.1 r.tallied.2
