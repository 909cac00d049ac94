-- check_part takes the section out of the file; comments are not counted.
use native.Mathlib.Omega.{arith}
use lib.ListN.{length-take}
use Rattle.inspect.proofs.check_part.Goals as goal

pub slice_bounds-check_section-end : goal.slice_bounds-check_section-end
slice_bounds-check_section-end c = simp length-take (omega arith)
