-- push_binders pushes one binder after another.
use Rattle.std.proofs.Common.{rules}
use Rattle.task.specs.Decode.{binder}
use Rattle.declared.specs.Symbols.{named}
use Rattle.declared.proofs.Collecting.{row_collected}
use Rattle.declared.proofs.push_binders.Goals as goal

pub returns : goal.returns
returns c = row_collected (named c.args.kind) (binder c.args.levels) _ (λ k p q w l y. search rules) _ _ _ _ _ c.push_row.ensures
