-- `fill`: the parts are measured, as many as fit are counted, and those are written.
use native.Mathlib.Omega.{arith}
use lib.ListN.{length-take}
use Rattle.console.proofs.Filling.{from_seen, next_most, fill_done}
use Rattle.console.proofs.fill.Goals as goal

pub overflow_sub-sizes : goal.overflow_sub-sizes
overflow_sub-sizes c = from_seen _ c.args.enc.bytes _ _ c.requires.accepted.0 c.requires.accepted.1 _ c.requires.begun _ _ _ c.sum-to.ensures _ c.measure-sizes.ensures

pub slice_bounds-fitting-end-2 : goal.slice_bounds-fitting-end-2
slice_bounds-fitting-end-2 c = let h = c.least-known.ensures in simp length-take (omega arith)

pub overflow_add-next : goal.overflow_add-next
overflow_add-next c = let h = next_most _ c.args.enc.bytes _ _ c.requires.accepted.0 c.requires.accepted.1 _ c.requires.begun _ _ _ c.sum-to.ensures _ c.measure-sizes.ensures _ c.least-known.ensures c.args.buf.now _ c.fitting.ensures in omega arith

pub returns : goal.returns
returns c = fill_done _ c.args.enc.bytes _ _ c.requires.accepted.0 c.requires.accepted.1 _ c.requires.begun _ _ _ c.sum-to.ensures _ c.measure-sizes.ensures _ c.least-known.ensures _ _ c.fitting.ensures _ _ _ _ c.write_smt_horn-put.ensures
