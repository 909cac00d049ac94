-- What a change of a table leaves as it is, beside its words' content.
use Rattle.std.specs.Prelude.{◌≡◌}
use Rattle.names.specs.declared.table.Table.{Table}

-- t became u: it is over the same file, in the same lent words
pub record Same (t u : Table) : Type 0 where
  pub file : u.file.now ≡ t.file.now
  pub words : u.words.ghost_name ≡ t.words.ghost_name
