-- `print_turns`: each turn writes out the parts behind those that were written out, at least one.
use native.Mathlib.Omega.{arith}
use lib.ListN.{length-take}
use Rattle.console.proofs.Filling.{going_start, going_begun, turn_inside, going_more, going_less, going_end}
use borrow.Author.Rules.{rules}
use Rattle.console.proofs.print_turns.Goals as goal

pub loop-next-init : goal.loop-next-init
loop-next-init c = (going_start _ _, c.turn_buffer-buffer.ensures, c.turn_lengths-lengths.ensures)

pub fill-turn-requires : goal.fill-turn-requires
fill-turn-requires c = record { accepted = c.requires.accepted; begun = going_begun _ _ _ _ c.loop-next.invariant.0 }

pub slice_bounds-buffer-end : goal.slice_bounds-buffer-end
slice_bounds-buffer-end c = turn_inside _ _ _ _ c.loop-next.invariant.0 c.args.enc.bytes _ _ _ _ c.fill-turn.ensures _ c.requires.accepted.0

pub slice_bounds-print_turn-end : goal.slice_bounds-print_turn-end
slice_bounds-print_turn-end c = let h = turn_inside _ _ _ _ c.loop-next.invariant.0 c.args.enc.bytes _ _ _ _ c.fill-turn.ensures _ c.requires.accepted.0 in simp length-take (omega arith)

pub loop-next-smaller : goal.loop-next-smaller
loop-next-smaller c = going_less _ _ _ _ c.loop-next.invariant.0 c.args.enc.bytes _ _ _ _ c.fill-turn.ensures _ c.requires.accepted.0 _ c.requires.short c.loop-next-test.true (let h = c.loop-next.invariant.2 in omega arith) (let h = c.loop-next.invariant.1 in omega arith)

pub loop-next-preserved : goal.loop-next-preserved
loop-next-preserved c = (going_more _ _ _ _ c.loop-next.invariant.0 c.args.enc.bytes _ _ _ _ c.fill-turn.ensures _ c.requires.accepted.0 _ c.print_turn-done.ensures, search rules, search rules)

pub returns : goal.returns
returns c = going_end _ _ _ _ c.loop-next.invariant.0 _ c.requires.short c.loop-next-test.false
