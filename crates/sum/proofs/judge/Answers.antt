-- `judge`: what stands above the bytes and byte 31 tell the range. Assumes nothing.
use Prim.Native.Nat.{ℕ}
use mathlib.Core.Path.{refl}
use native.Mathlib.Omega.{arith}
use lib.ListN.{get_or}
use mir.Syntax.{w8}
use mir.Val.{Fits}
use borrow.Author.Rules.{rules}
use Rattle.rules.specs.Integer.{Bytes}
use Rattle.sum.proofs.SumLaws.{judged-negative, judged-past, judged-over, judged-done}
use Rattle.sum.proofs.judge.Goals as goal
use Rattle.sum.proofs.judge.Goals.{Start}

bytes : (c : Start) → Bytes 32 c.args.sum.bytes
bytes c =
    let byte : (k : ℕ) → Fits w8 (get_or c.args.sum.bytes k 0) = λ k. search rules in
    record { long = search rules; small = λ k. (byte k).fits }

pub returns-then-sum : goal.returns-then-sum
returns-then-sum c = judged-negative (bytes (goal.at.returns-then-sum c).Start) c.if-sum.true (refl, refl)

pub returns-then-sum-2 : goal.returns-then-sum-2
returns-then-sum-2 c = judged-past (bytes (goal.at.returns-then-sum-2 c).Start) c.if-sum-2.true (refl, refl)

pub returns-then-largest_top-bytes : goal.returns-then-largest_top-bytes
returns-then-largest_top-bytes c = judged-over (bytes (goal.at.returns-then-largest_top-bytes c).Start) (omega arith) (omega arith) (refl, refl)

pub returns : goal.returns
returns c = judged-done (bytes (goal.at.returns c).Start) (omega arith) (omega arith) (refl, refl)
