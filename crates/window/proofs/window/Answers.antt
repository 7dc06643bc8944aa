-- `window::window` meets its contract: two neighbouring bytes hold any window of at most 8 bits. Assumes nothing.
use native.Mathlib.Omega.{arith}
use borrow.Author.Rules.{rules}
use Rattle.numbers.proofs.Windows.{one_shl, one-shl-pos}
use Rattle.window.proofs.WindowLaws.{from-two}
use Rattle.window.proofs.window.Goals as goal

pub nonzero_rem-result-2 : goal.nonzero_rem-result-2
nonzero_rem-result-2 c = one-shl-pos 32 c.args.w (omega arith)

pub returns : goal.returns
returns c =
    let a = c.args in
    rw (one_shl 32 a.w (omega arith), c.pair_at.ensures.0)
    (from-two a.bytes.now a.at a.w (λ k. search rules) (omega arith))
