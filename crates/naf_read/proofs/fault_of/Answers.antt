-- `fault_of`: the digit's rule and its place, by its absolute value. Assumes nothing.
use Rattle.naf_read.proofs.Faults.{magnitude-is, fine-zero, broken-own, crowded-held, fine-free}
use Rattle.naf_read.proofs.fault_of.Goals as goal

pub returns-then-m-eq0 : goal.returns-then-m-eq0
returns-then-m-eq0 c w h = fine-zero _ (magnitude-is c.ranges.d c.magnitude-m.ensures.0) _ _ w c.if-m-eq0.true

pub returns-then-not-kept : goal.returns-then-not-kept
returns-then-not-kept c w h =
    broken-own _ (magnitude-is c.ranges.d c.magnitude-m.ensures.0) _ _ w h c.if-m-eq0.false c.odd_below-kept.ensures c.if-not-kept.true

pub returns-then-held-ne0 : goal.returns-then-held-ne0
returns-then-held-ne0 c w h =
    crowded-held _ (magnitude-is c.ranges.d c.magnitude-m.ensures.0) _ _ w h c.if-m-eq0.false c.odd_below-kept.ensures c.if-not-kept.false c.if-held-ne0.true

pub returns : goal.returns
returns c w h =
    fine-free _ (magnitude-is c.ranges.d c.magnitude-m.ensures.0) _ _ w h c.if-m-eq0.false c.odd_below-kept.ensures c.if-not-kept.false c.if-held-ne0.false
