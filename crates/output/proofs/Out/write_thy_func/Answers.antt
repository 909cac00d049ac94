-- `write_thy_func` sends the text of the function's entry.
use mathlib.Core.Path.{sym, ap, ◌∙◌}
use Rattle.output.specs.Emit.{emits}
use Rattle.output.specs.Names.{name_at, entry_text}
use Rattle.output.proofs.Listing.{entry_text_lem}
use Rattle.output.proofs.Out.write_thy_func.Goals as goal

pub returns-in-Plain : goal.returns-in-Plain
returns-in-Plain c = c.listed.ensures ∙ ap (emits _) (ap name_at c.in_edition.ensures ∙ ap (entry_text _) (sym c.in-Plain.is ∙ c.entry_of.ensures) ∙ entry_text_lem _ _)

pub returns-in-Indexed : goal.returns-in-Indexed
returns-in-Indexed c = c.indexed.ensures ∙ ap (emits _) (ap (entry_text _) (sym c.in-Indexed.is ∙ c.entry_of.ensures) ∙ entry_text_lem _ _)
