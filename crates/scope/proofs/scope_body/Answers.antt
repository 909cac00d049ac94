-- scope_body pushes the arguments, judges the expression, and pops them.
use Rattle.names.proofs.Sames.{same_both}
use Rattle.scope.proofs.Functions.{body_space, body_walks}
use Rattle.scope.proofs.scope_body.Goals as goal

pub scope_expr-body-requires : goal.scope_expr-body-requires
scope_expr-body-requires c = rw c.push_names.ensures.1.file (body_space _ _ _ _ c.requires _ _ c.in_ok-n.ensures c.if-n-inputs.false _ _ c.in_ok-q.ensures _ _ c.push_names.ensures.0)

pub returns : goal.returns
returns c =
    let e = same_both _ _ _ c.push_names.ensures.1 c.scope_expr-body.ensures.1 in (
      body_walks _ _ _ _ c.requires _ _ c.in_ok-n.ensures c.if-n-inputs.false _ _ c.in_ok-q.ensures _ _ c.push_names.ensures.0 _ _ _ (rw c.push_names.ensures.1.file at c.scope_expr-body.ensures.0) (rw e.file at c.pop_last.ensures.0),
      same_both _ _ _ e c.pop_last.ensures.1,
    )
