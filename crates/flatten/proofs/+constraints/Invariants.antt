-- The walk over a constraint: each piece puts its parts and hands back the numbers that it was given, and the levels left fall from a constraint to
-- those in it.
use mathlib.Core.Path.{◌≡◌}
use Prim.Native.Nat.{◌+◌, ◌*◌}
use Rattle.path.specs.Offsets.{entries}
use Rattle.smt_sort.specs.Section.{encoder_by}
use Rattle.assertion.specs.Under.{on_path}
use Rattle.assertion.specs.Kept.{Stays}
use Rattle.flatten.specs.Parts.{writing}
use Rattle.flatten.proofs.Flattening.{Members}
use Rattle.flatten.proofs.+constraints.Given as goal

abbrev pub decreases-flatten_constraint : goal.decreases-flatten_constraint
decreases-flatten_constraint l = 2 * l.levels

abbrev pub decreases-flatten_for_all : goal.decreases-flatten_for_all
decreases-flatten_for_all l = 2 * l.levels + 1

abbrev pub decreases-flatten_members : goal.decreases-flatten_members
decreases-flatten_members l = 2 * l.levels + 1

abbrev pub invariant-flatten_members-loop-left : goal.invariant-flatten_members-loop-left
invariant-flatten_members-loop-left l =
    Members (encoder_by l.enc) (on_path l.enc.file.now (entries l.path)) l.levels l.enc.file.now l.initial.left l.initial.from.moved.at (writing l.initial.from.moved.progress l.initial.buf l.initial.lengths) l.left l.from.moved.at (writing l.from.moved.progress l.buf l.lengths)
    × (l.from.kept ≡ l.initial.from.kept) × Stays l.initial.from.kept l.initial.text l.text

abbrev pub decreases-flatten_members-loop-left : goal.decreases-flatten_members-loop-left
decreases-flatten_members-loop-left l =
    l.left
