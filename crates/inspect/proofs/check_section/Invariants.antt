-- check_section walks the items one after another.
use Prim.Native.Nat.{◌-◌}
use lib.ListN.{length}
use Rattle.item_check.specs.Items.{item_walk}
use Rattle.inspect.proofs.Sections.{Listing}
use Rattle.inspect.proofs.check_section.Given as goal

abbrev pub invariant-loop-p : goal.invariant-loop-p
invariant-loop-p l = Listing (item_walk l.section l.s) (length l.s) (length l.s) l.at l.p l.count l.fault

abbrev pub decreases-loop-p : goal.decreases-loop-p
decreases-loop-p l = length l.s - l.p
