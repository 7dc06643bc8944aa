-- `equal_digits`: digits are equal exactly if `==` says so, and so are slices of them. Assumes nothing.
use Rattle.std.proofs.lemmas.Bool.Decides.{Decides-int_eq}
use Rattle.std.proofs.lemmas.Slice.Eq.{slice_eq-Decides}
use Rattle.acceptance.proofs.looked_at.equal_digits.Goals as goal

pub returns : goal.returns
returns c = slice_eq-Decides Decides-int_eq _ _ _ c.eq.ensures
