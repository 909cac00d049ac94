-- judge_names declares, judges the bodies, declares KVars, and judges the constraint.
use Rattle.names.proofs.Sames.{same_both}
use Rattle.scope.proofs.Whole.{sectioned_inside, functions_space, constraint_space, names_read, names_judged}
use Rattle.scope.proofs.judge_names.Goals as goal

pub declare-requires-clause-inside : goal.declare-requires-clause-inside
declare-requires-clause-inside c = (sectioned_inside _ _ c.requires.sectioned.0, c.requires.sectioned.1)

pub scope_functions-bodies-requires : goal.scope_functions-bodies-requires
scope_functions-bodies-requires c = rw c.declare.ensures.1.file (functions_space _ _ c.requires.sectioned.0 _ _ c.requires.room c.declare.ensures.0)

pub declare_kvars-requires : goal.declare_kvars-requires
declare_kvars-requires c = let e = same_both _ _ _ c.declare.ensures.1 c.scope_functions-bodies.ensures.1 in rw e.file (sectioned_inside _ _ c.requires.sectioned.0)

pub scope_constraint-requires : goal.scope_constraint-requires
scope_constraint-requires c =
    let e = same_both _ _ _ c.declare.ensures.1 c.scope_functions-bodies.ensures.1 in
    let e2 = same_both _ _ _ e c.declare_kvars.ensures.1 in
    rw e2.file
    (constraint_space _ _ c.requires.sectioned.0 _ _ c.requires.room c.declare.ensures.0 _ _ (rw c.declare.ensures.1.file at c.scope_functions-bodies.ensures.0) _ (rw e.file at c.declare_kvars.ensures.0))

pub returns-in_default : goal.returns-in_default
returns-in_default c =
    let e = same_both _ _ _ c.declare.ensures.1 c.scope_functions-bodies.ensures.1 in
    let e2 = same_both _ _ _ e c.declare_kvars.ensures.1 in (
      names_read _ _ c.requires.sectioned.0 _ _ c.requires.room c.declare.ensures.0 _ _ (rw c.declare.ensures.1.file at c.scope_functions-bodies.ensures.0) _ (rw e.file at c.declare_kvars.ensures.0) _ _
          (rw e2.file at c.in_default.ensures.0),
      same_both _ _ _ e2 c.in_default.ensures.1,
    )

pub returns : goal.returns
returns c =
    let e = same_both _ _ _ c.declare.ensures.1 c.scope_functions-bodies.ensures.1 in
    let e2 = same_both _ _ _ e c.declare_kvars.ensures.1 in (
      names_judged _ _ c.requires.sectioned.0 _ _ c.requires.room c.declare.ensures.0 _ _ (rw c.declare.ensures.1.file at c.scope_functions-bodies.ensures.0) _ (rw e.file at c.declare_kvars.ensures.0) _ _ _ _
          (rw e2.file at c.in-Ok.ensures.0) c.lower.ensures,
      same_both _ _ _ e2 c.in-Ok.ensures.1,
    )
