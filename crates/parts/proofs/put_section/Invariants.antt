-- `put_section`: each turn puts one of the items that are left.
use Prim.Native.Nat.{◌-◌, ◌≤◌}
use lib.ListN.{length}
use Rattle.smt_sort.specs.Section.{encoder_by}
use Rattle.flatten.specs.Parts.{writing}
use Rattle.parts.proofs.Placing.{Left}
use Rattle.parts.proofs.put_section.Given as goal

abbrev pub invariant-loop-moved : goal.invariant-loop-moved
invariant-loop-moved l =
    (h : l.end ≤ length l.enc.file.now) → Left (encoder_by l.enc) l.section l.enc.file.now l.initial.moved.at l.end h (writing l.initial.moved.progress l.initial.buf l.initial.lengths) l.moved.at (writing l.moved.progress l.buf l.lengths)

abbrev pub decreases-loop-moved : goal.decreases-loop-moved
decreases-loop-moved l = l.end - l.moved.at
