-- Which texts are at fault: `text_faults`.
use mathlib.Core.Path.{◌≡◌, refl, ap, ◌∙◌}
use mathlib.Core.Bool.{Bool, true, false, ◌&&◌}
use Rattle.smtlib.specs.Lexicon.{visible, all}
use Rattle.smtlib.proofs.Bools.{all_append}
use Rattle.task.specs.declared.Fault.TheVariants.{Text}
use Rattle.task.specs.Fault.{lower, unless, text_fault}
use Rattle.task.specs.Laws.{TextFaults}

-- what does not pass both tests is at fault by one of them
unless_both : (a b : Bool) → unless (a && b) Text ≡ lower (unless a Text) (unless b Text)
unfolding lower
unless_both true true = refl
unless_both true false = refl
unless_both false true = refl
unless_both false false = refl

pub text_faults : TextFaults
unfolding text_fault
text_faults = record {
  alone = refl;
  empty = refl;
  joined = λ t u. ap (λ (v : Bool). unless v Text) (all_append visible t u) ∙ unless_both (all visible t) (all visible u);
}
