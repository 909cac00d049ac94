-- check_pieces reads the trailer, walks the items and then the constraint.
use Rattle.std.proofs.Common.{rules}
use native.Mathlib.Omega.{arith}
use lib.ListN.{length-take}
use Rattle.inspect.proofs.Whole.{pieces_inside, pieces_short, pieces_refused, pieces_judged}
use Rattle.inspect.proofs.check_pieces.Goals as goal

pub check_items-requires : goal.check_items-requires
check_items-requires c = pieces_inside _ _ c.in_ok-b.ensures

pub slice_bounds-check_constraint-end : goal.slice_bounds-check_constraint-end
slice_bounds-check_constraint-end c = let h = (pieces_inside _ _ c.in_ok-b.ensures).end in simp length-take (omega arith)

pub check_constraint-requires : goal.check_constraint-requires
check_constraint-requires c = pieces_short _ _ c.in_ok-b.ensures

pub returns-in_err-declarations : goal.returns-in_err-declarations
returns-in_err-declarations c = let h = pieces_refused _ _ c.in_ok-b.ensures _ c.in_err-declarations.ensures in search rules

pub returns : goal.returns
returns c = pieces_judged _ _ c.in_ok-b.ensures _ _ c.in_ok-declarations.ensures _ _ c.in_ok-counted.ensures _ (omega arith) (rw c.lower.ensures at c.judge.ensures)
