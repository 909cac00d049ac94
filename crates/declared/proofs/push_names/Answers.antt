-- push_names pushes one name after another.
use Rattle.std.proofs.Common.{rules}
use Rattle.task.specs.Decode.{name}
use Rattle.declared.specs.Symbols.{alone}
use Rattle.declared.proofs.Collecting.{row_collected}
use Rattle.declared.proofs.push_names.Goals as goal

pub returns : goal.returns
returns c = row_collected (alone c.args.kind) name _ (λ k p q w l y. search rules) _ _ _ _ _ c.push_row.ensures
