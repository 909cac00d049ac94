-- The constraint walkers walk as the decoder decodes: the levels left fall from a constraint to those in it.
use mathlib.Core.Path.{◌≡◌, sym, ap, ◌∙◌}
use Prim.Native.Nat.{ℕ}
use native.Mathlib.Omega.{arith}
use Rattle.std.proofs.Common.{rules}
use Rattle.task.specs.Decode.{dec_constraint}
use Rattle.task.specs.Fault.{constraint_fault}
use Rattle.task.specs.Task.{heads_of}
use Rattle.task.specs.Node.{read_of}
use Rattle.path.specs.Offsets.{entries}
use Rattle.constraint_check.specs.Tally.{tally}
use Rattle.constraint_check.specs.Around.{names_on}
use Rattle.constraint_check.proofs.Constraints.{constraint_head, constraint_pred, constraint_conj, constraint_for_all, for_all_walks, going_stops, going_room, going_goes}
use Rattle.constraint_check.proofs.+constraints.Goals as goal
use Rattle.constraint_check.proofs.+constraints.Goals.{check_members-Joined-is_head, check_members-then-is_head, check_members-else-is_head}

-- the answer for one member, by whichever arm it came
one_is : (t : ℕ) (c : check_members-Joined-is_head t)
    → read_of c.if-is_head.read ≡ tally (constraint_fault (names_on c.args.s.now (entries c.args.path))) heads_of (dec_constraint c.args.levels c.args.s.now c.loop.p)
one_is t c =
    elim c.if-is_head.branch [
      | check_members-then-is_head w ↦ constraint_head c.args.levels c.args.s.now c.loop.p _ _ _ c.is_head.ensures w.if-is_head.true (ap read_of w.read-is ∙ w.check_head-read.ensures)
      | check_members-else-is_head w ↦ ap read_of w.read-is ∙ w.check_within-read.ensures
    ]

pub check_members-returns-in_err-one : goal.check_members-returns-in_err-one
check_members-returns-in_err-one t c =
    let e = sym (ap read_of c.in_err-one.was) ∙ one_is t (goal.at.check_members-returns-in_err-one t c).Joined-is_head in
    let h = going_stops _ _ _ _ _ _ _ _ _ c.loop.invariant c.loop-test.true _ e in search rules

pub check_members-overflow_add-heads : goal.check_members-overflow_add-heads
check_members-overflow_add-heads t c =
    let e = sym (ap read_of c.in_ok-one.was) ∙ one_is t (goal.at.check_members-overflow_add-heads t c).Joined-is_head in
    let r = going_room _ _ _ _ _ _ _ _ _ c.loop.invariant c.loop-test.true _ _ e in omega arith

pub check_members-loop-preserved : goal.check_members-loop-preserved
check_members-loop-preserved t c =
    let e = sym (ap read_of c.in_ok-one.was) ∙ one_is t (goal.at.check_members-loop-preserved t c).Joined-is_head in
    going_goes _ _ _ _ _ _ _ _ _ c.loop.invariant c.loop-test.true _ _ e _ c.lower-fault.ensures

pub check_within-returns-in-Pred : goal.check_within-returns-in-Pred
check_within-returns-in-Pred t c = constraint_pred _ _ _ _ c.if-levels-eq0.false _ _ c.in_ok-node.ensures _ c.in-Pred.is c.check_head.ensures

pub check_within-returns-in-Conj : goal.check_within-returns-in-Conj
check_within-returns-in-Conj t c = constraint_conj _ _ _ _ c.if-levels-eq0.false _ _ c.in_ok-node.ensures _ _ c.in-Conj.is c.check_members.ensures

pub check_within-returns-in-ForAll : goal.check_within-returns-in-ForAll
check_within-returns-in-ForAll t c = constraint_for_all _ _ _ _ c.if-levels-eq0.false _ _ c.in_ok-node.ensures _ c.in-ForAll.is c.check_for_all.ensures

pub check_for_all-returns : goal.check_for_all-returns
check_for_all-returns t c =
    for_all_walks _ _ (entries c.args.path) _ _ _ c.in_ok-header.ensures _ _ c.in_ok-x.ensures _ _ _ _ _ _ c.push-path.ensures.0 c.in_ok-body.ensures c.shadow_fault.ensures c.lower-fault.ensures c.lower.ensures
