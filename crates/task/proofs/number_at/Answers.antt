-- number_at gives the number, or refuses where its bytes pass the end.
use native.Mathlib.Omega.{arith}
use Rattle.std.proofs.Common.{rules, ◌<◌}
use Rattle.task.proofs.Numbers.{taken_start, taken_room, taken_step, taken_end}
use Rattle.task.proofs.number_at.Goals as goal

pub loop-b-init : goal.loop-b-init
loop-b-init c = taken_start _ _ _ _ _ _ c.in_ok-bytes.ensures c.requires (search rules)

pub overflow_mul-value : goal.overflow_mul-value
overflow_mul-value c = let h = taken_room _ _ _ _ _ c.loop-b.invariant c.in-Some.ensures.steps in omega arith

pub overflow_add-value : goal.overflow_add-value
overflow_add-value c = let h = taken_room _ _ _ _ _ c.loop-b.invariant c.in-Some.ensures.steps in let b : c.from.result < 256 = search rules in omega arith

pub loop-b-preserved : goal.loop-b-preserved
loop-b-preserved c = taken_step _ _ _ _ _ _ c.loop-b.invariant c.in-Some.ensures.steps (search rules) (search rules)

pub returns : goal.returns
returns c = taken_end _ _ _ _ _ _ _ _ c.in_ok-bytes.ensures (search rules) c.loop-b.invariant (search rules)
