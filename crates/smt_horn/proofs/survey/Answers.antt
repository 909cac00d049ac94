-- `survey`: what was measured of all parts.
use Rattle.assertion.proofs.Short.{are_bytes}
use Rattle.smt_horn.proofs.Entries.{was_given, survey_given}
use Rattle.smt_horn.proofs.survey.Goals as goal

pub returns : goal.returns
returns c = survey_given _ (are_bytes c.args.file.now c.shared_slice_known-1.given) _ _ _ _ _ _ _ (was_given _ _ _ _ _ _ _ _ _ c.in_ok-heads.ensures)
