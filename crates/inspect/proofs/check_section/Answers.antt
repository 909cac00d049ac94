-- check_section walks the items one after another.
use Rattle.std.proofs.Common.{rules}
use native.Mathlib.Omega.{arith}
use Rattle.inspect.proofs.Sections.{listing_starts, listing_ends, listing_stops, listing_goes, item_ahead}
use Rattle.inspect.proofs.check_section.Goals as goal

pub loop-p-init : goal.loop-p-init
loop-p-init c = listing_starts _ _ _

pub overflow_add-count : goal.overflow_add-count
overflow_add-count c = let h = c.loop-p.invariant.few in let g = c.loop-p-test.true in omega arith

pub loop-p-smaller : goal.loop-p-smaller
loop-p-smaller c = let h = item_ahead _ _ _ _ _ c.in_ok-f.ensures in let g = c.loop-p-test.true in omega arith

pub loop-p-preserved : goal.loop-p-preserved
loop-p-preserved c = rw c.lower-fault.ensures (listing_goes _ _ _ _ _ _ _ c.loop-p.invariant c.loop-p-test.true _ _ c.in_ok-f.ensures (item_ahead _ _ _ _ _ c.in_ok-f.ensures))

pub returns-in_err-f : goal.returns-in_err-f
returns-in_err-f c = let h = listing_stops _ _ _ _ _ _ _ c.loop-p.invariant c.loop-p-test.true _ c.in_err-f.ensures in search rules

pub returns : goal.returns
returns c = listing_ends _ _ _ _ _ _ _ c.loop-p.invariant c.loop-p-test.false
