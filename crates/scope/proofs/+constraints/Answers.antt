-- The walkers of names in a constraint walk as the decoder decodes.
use native.Mathlib.Omega.{arith}
use Rattle.std.proofs.Common.{rules}
use Rattle.task.specs.Decode.{dec_constraint}
use Rattle.task.proofs.Pieces.{each_covers}
use Rattle.names.proofs.Sames.{same_both}
use Rattle.scope.specs.Known.{constraint_in}
use Rattle.scope.proofs.Tables.{judges, row_judged}
use Rattle.scope.proofs.Constraints.{constraint_kept, members_fold, constraint_pred, constraint_conj, constraint_for_all, under_space, under_walks, for_all_under_space, for_all_walks}
use Rattle.scope.proofs.+constraints.Goals as goal

pub scope_members-scope_row-requires : goal.scope_members-scope_row-requires
scope_members-scope_row-requires t c = record { space = c.requires; judges = judges constraint_in (dec_constraint c.args.levels) _ (λ m p r w l x y. search rules) (each_covers.constraints _) _ (λ m p l x. search rules) }

pub scope_members-returns : goal.scope_members-returns
scope_members-returns t c =
    let k = c.scope_row.ensures in
    ((row_judged constraint_in (dec_constraint c.args.levels) _ (λ m p r w l x y. search rules) c.args.table.now (members_fold _ _) (constraint_kept _ _) _ _ _ k.0.0, k.0.1), k.1)

pub scope_constraint-returns-in-Pred : goal.scope_constraint-returns-in-Pred
scope_constraint-returns-in-Pred t c = (constraint_pred _ _ _ _ c.if-levels-eq0.false _ _ c.in_ok-node.ensures _ _ c.in-Pred.is c.scope_pred.ensures.0, c.scope_pred.ensures.1)

pub scope_constraint-returns-in-Conj : goal.scope_constraint-returns-in-Conj
scope_constraint-returns-in-Conj t c = (constraint_conj _ _ _ _ c.if-levels-eq0.false _ _ c.in_ok-node.ensures _ _ _ c.in-Conj.is c.scope_members.ensures.0, c.scope_members.ensures.1)

pub scope_constraint-returns-in-ForAll : goal.scope_constraint-returns-in-ForAll
scope_constraint-returns-in-ForAll t c = (constraint_for_all _ _ _ _ c.if-levels-eq0.false _ _ c.in_ok-node.ensures _ _ c.in-ForAll.is c.scope_for_all.ensures.0, c.scope_for_all.ensures.1)

pub scope_for_all-scope_under-under-requires : goal.scope_for_all-scope_under-under-requires
scope_for_all-scope_under-under-requires t c =
    let m = c.decreases in
    (omega arith, rw c.push.ensures.1.file (for_all_under_space _ _ _ _ c.requires _ _ c.in_ok-x.ensures _ _ c.in_ok-q.ensures _ _ c.in_ok-n.ensures _ c.push.ensures.0))

pub scope_for_all-returns : goal.scope_for_all-returns
scope_for_all-returns t c =
    let e = same_both _ _ _ c.push.ensures.1 c.scope_under-under.ensures.1 in (
      for_all_walks _ _ _ _ c.requires _ _ c.in_ok-x.ensures _ _ c.in_ok-q.ensures _ _ c.in_ok-n.ensures _ c.push.ensures.0 _ _ _ _ _ c.clash_fault-clash.ensures
          (rw c.push.ensures.1.file at c.scope_under-under.ensures.0) (rw e.file at c.pop.ensures.0) c.after.ensures,
      same_both _ _ _ e c.pop.ensures.1,
    )

pub scope_under-scope_constraint-requires : goal.scope_under-scope_constraint-requires
scope_under-scope_constraint-requires t c = let m = c.decreases in (omega arith, rw c.in_ok-f.ensures.1.file (under_space _ _ _ _ _ c.requires _ _ _ c.in_ok-f.ensures.0))

pub scope_under-returns : goal.scope_under-returns
scope_under-returns t c = (
  under_walks _ _ _ _ _ c.requires _ _ _ c.in_ok-f.ensures.0 _ _ _ (rw c.in_ok-f.ensures.1.file at c.scope_constraint.ensures.0) c.after.ensures,
  same_both _ _ _ c.in_ok-f.ensures.1 c.scope_constraint.ensures.1,
)
