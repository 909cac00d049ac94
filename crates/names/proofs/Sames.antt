-- What changes of a table leave as it is, one after another.
use mathlib.Core.Path.{refl, ◌∙◌}
use Rattle.names.specs.declared.table.Table.{Table}
use Rattle.names.specs.Same.{Same}

pub same_table : (t : Table) → Same t t
same_table t = record { file = refl; words = refl }

pub same_both : (t u v : Table) → Same t u → Same u v → Same t v
same_both t u v x y = record { file = y.file ∙ x.file; words = y.words ∙ x.words }
