-- `put_with`: what inspect found, and what was put of a task in the edition.
use Rattle.assertion.proofs.Short.{are_bytes}
use Rattle.smt_horn.proofs.Entries.{put_refused}
use Rattle.std.proofs.Common.{rules}
use Rattle.smt_horn.proofs.Entries.{accepted, edition_names, edition_is, put_given}
use Rattle.smt_horn.proofs.put_with.Goals as goal

pub invariant_of-enc : goal.invariant_of-enc
invariant_of-enc c = record { chained = (edition_names _ _ c.in_ok-found.ensures.1 c.args.edition _ c.set_edition.ensures).chained; bytes = are_bytes _ c.type_inv.file }

pub put_task-requires : goal.put_task-requires
put_task-requires c = (accepted _ _ c.in_ok-found.ensures.0, edition_names _ _ c.in_ok-found.ensures.1 c.args.edition _ c.set_edition.ensures)

pub returns : goal.returns
returns c = put_given _ _ _ _ c.in_ok-found.ensures.0 _ _ _ _ _ _ (edition_is _ _ c.in_ok-found.ensures.1 _ _ c.set_edition.ensures) c.put_task.ensures

pub returns-in_err-found : goal.returns-in_err-found
returns-in_err-found c = let h = put_refused _ c.args.edition c.args.asked _ c.args.buf.now c.args.lengths.now c.in_err-found.ensures.0 in search rules
