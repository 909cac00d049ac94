-- `find`: the link is that of the last entry of the bucket below some entry, and those from there on do not fit.
use native.Mathlib.Omega.{arith}
use Rattle.names.proofs.Chains.{follow_start, follow_room, follow_named, follow_found, follow_on, follow_down, follow_end, by_kinds}
use Rattle.names.proofs.find.Goals as goal

pub loop-link-init : goal.loop-link-init
loop-link-init c = follow_start _ _ _ _ _ _ c.requires _ _ c.hash-h.ensures c.from-link.ensures

pub is_entry-requires : goal.is_entry-requires
is_entry-requires c = record { within = follow_room _ _ _ _ _ _ c.requires _ c.loop-link.invariant c.loop-link-test.true; named = follow_named _ _ _ _ _ _ c.requires _ c.loop-link.invariant c.loop-link-test.true }

pub returns-then-is_entry : goal.returns-then-is_entry
returns-then-is_entry c = by_kinds _ _ _ _ _ _ _ c.from-low.ensures c.from-high.ensures (follow_found _ _ _ _ _ _ c.requires _ c.loop-link.invariant c.loop-link-test.true _ c.is_entry.ensures c.if-is_entry.true)

pub overflow_mul-k : goal.overflow_mul-k
overflow_mul-k c = let r = follow_room _ _ _ _ _ _ c.requires _ c.loop-link.invariant c.loop-link-test.true in omega arith

pub overflow_add-k : goal.overflow_add-k
overflow_add-k c = let r = follow_room _ _ _ _ _ _ c.requires _ c.loop-link.invariant c.loop-link-test.true in omega arith

pub offset_bounds-table-k : goal.offset_bounds-table-k
offset_bounds-table-k c = let r = follow_room _ _ _ _ _ _ c.requires _ c.loop-link.invariant c.loop-link-test.true in omega arith

pub bounds-table-k : goal.bounds-table-k
bounds-table-k c = let r = follow_room _ _ _ _ _ _ c.requires _ c.loop-link.invariant c.loop-link-test.true in omega arith

pub loop-link-smaller : goal.loop-link-smaller
loop-link-smaller c = follow_down _ _ _ _ _ _ c.requires _ c.loop-link.invariant c.loop-link-test.true _ c.from-link-in-loop-link.ensures

pub loop-link-preserved : goal.loop-link-preserved
loop-link-preserved c = follow_on _ _ _ _ _ _ c.requires _ c.loop-link.invariant c.loop-link-test.true _ c.from-link-in-loop-link.ensures _ c.is_entry.ensures c.if-is_entry.false

pub returns : goal.returns
returns c = by_kinds _ _ _ _ _ _ _ c.from-low.ensures c.from-high.ensures (follow_end _ _ _ _ _ _ c.requires _ c.loop-link.invariant c.loop-link-test.false)
