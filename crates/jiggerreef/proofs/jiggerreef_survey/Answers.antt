-- `jiggerreef_survey`: what `survey` answers.
use Rattle.jiggerreef.proofs.Stored.{sizes_stored, survey_refused}
use Rattle.jiggerreef.proofs.jiggerreef_survey.Goals as goal

pub returns-in-Ok : goal.returns-in-Ok
returns-in-Ok c = rw (← c.into.ensures) (sizes_stored _ _ c.in-Ok.ensures)

pub returns-in-Err : goal.returns-in-Err
returns-in-Err c = rw (← c.into.ensures, c.from.ensures) (survey_refused _ _ c.in-Err.ensures)
