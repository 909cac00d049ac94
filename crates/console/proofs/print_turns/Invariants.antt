-- `print_turns`: each turn writes out the parts behind those that were written out, at least one.
use mathlib.Core.Path.{◌≡◌}
use Prim.Native.Nat.{◌-◌}
use lib.ListN.{length}
use Rattle.smt_sort.specs.Section.{edition_in}
use Rattle.console.proofs.Filling.{Going}
use Rattle.console.proofs.print_turns.Given as goal

abbrev pub invariant-loop-next : goal.invariant-loop-next
invariant-loop-next l = Going l.enc.file.now (edition_in l.enc.words.now) l.next l.done × (196608 ≡ length l.buffer) × (6144 ≡ length l.lengths)

abbrev pub decreases-loop-next : goal.decreases-loop-next
decreases-loop-next l = l.n - l.next
