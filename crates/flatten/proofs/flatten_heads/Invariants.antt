-- `flatten_heads`: head by head.
use mathlib.Core.Path.{◌≡◌}
use mathlib.Core.Bool.{true}
use Prim.Native.Nat.{◌-◌, ◌<◌}
use Rattle.constraint_check.specs.Around.{is_head}
use Rattle.smt_sort.specs.Section.{encoder_by}
use Rattle.assertion.specs.Kept.{Keeps}
use Rattle.flatten.specs.Parts.{writing}
use Rattle.flatten.specs.Walk.{Onward}
use Rattle.flatten.proofs.flatten_heads.Given as goal

abbrev pub invariant-loop-i : goal.invariant-loop-i
invariant-loop-i l =
    Onward (λ fs. Keeps (encoder_by l.enc) fs l.text l.kept) (encoder_by l.enc) l.levels l.enc.file.now l.row.left l.initial.moved.at (writing l.initial.moved.progress l.initial.buf l.initial.lengths) (l.row.left - l.i) l.moved.at (writing l.moved.progress l.buf l.lengths)
    × (l.i < l.row.left → is_head l.levels l.enc.file.now l.moved.at ≡ true)
