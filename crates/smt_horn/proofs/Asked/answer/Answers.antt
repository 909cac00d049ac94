-- `answer`: of a run the parts must be there, and the table must have a place for each.
use mathlib.Core.Path.{◌∙◌}
use Rattle.smt_horn.proofs.Entries.{answer_none, answer_unplaced, answer_sized}
use Rattle.smt_horn.proofs.Asked.answer.Goals as goal

pub returns-then-sizes-sum : goal.returns-then-sizes-sum
returns-then-sizes-sum c = answer_none c.args.sizes c.args.room c.args.self c.args.places _ _ _ c.in-Run.is c.sum.ensures c.if-sizes-sum.true

pub returns-then-places-count : goal.returns-then-places-count
returns-then-places-count c = answer_unplaced c.args.sizes c.args.room c.args.self c.args.places _ _ _ c.in-Run.is c.sum.ensures c.if-sizes-sum.false c.if-places-count.true

pub returns-in-All : goal.returns-in-All
returns-in-All c = c.sized.ensures ∙ rw c.in-All.is

pub returns-else-places-count : goal.returns-else-places-count
returns-else-places-count c = answer_sized c.args.sizes c.args.room c.args.self c.args.places _ _ _ c.in-Run.is c.sum.ensures c.if-sizes-sum.false _ c.if-places-count.false c.sized-in-Run.ensures
