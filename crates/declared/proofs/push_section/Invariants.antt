-- `push_section`: each turn collects one of the items that are left.
use Prim.Native.Nat.{◌-◌}
use Rattle.names.specs.Table.{entries}
use Rattle.names.specs.Same.{Same}
use Rattle.declared.specs.Gather.{item_symbols}
use Rattle.declared.proofs.Gathering.{item_covers, section_steps, Sweeping}
use Rattle.declared.proofs.push_section.Given as goal

abbrev pub invariant-loop-p : goal.invariant-loop-p
invariant-loop-p l = Sweeping (entries l.initial.table.file.now) section_steps (item_symbols l.section) (item_covers l.section) l.initial.table.file.now l.at l.end l.initial.table.words.now l.table.words.now l.p × Same l.initial.table l.table

abbrev pub decreases-loop-p : goal.decreases-loop-p
decreases-loop-p l = l.end - l.p
