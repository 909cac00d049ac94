-- push_ctors pushes one constructor after another.
use Rattle.std.proofs.Common.{rules}
use Rattle.task.specs.Decode.{data_ctor}
use Rattle.declared.specs.Symbols.{ctor_symbols}
use Rattle.declared.proofs.Collecting.{row_collected}
use Rattle.declared.proofs.push_ctors.Goals as goal

pub returns : goal.returns
returns c = row_collected ctor_symbols data_ctor _ (λ k p q w l y. search rules) _ _ _ _ _ c.push_row.ensures
