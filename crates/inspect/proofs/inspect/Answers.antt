-- inspect checks the pieces and judges the names.
use mathlib.Core.Path.{◌≡◌}
use native.Mathlib.Omega.{arith}
use Rattle.std.proofs.Common.{rules}
use Rattle.names.proofs.Theorems.{blank_chained}
use Rattle.scope.proofs.Whole.{sectioned_inside}
use Rattle.inspect.proofs.Naming.{checked, refused_before, checked_words, checked_sections, names_answer}
use Rattle.inspect.proofs.inspect.Goals as goal

pub returns-in_err-sound : goal.returns-in_err-sound
returns-in_err-sound c = let h = refused_before _ _ c.requires _ c.in_err-sound.ensures in let k = h.0 in (search rules, h.1)

pub invariant_of-names : goal.invariant_of-names
invariant_of-names c =
    let i = (sectioned_inside _ _ (checked_sections _ _ _ _ (checked _ _ c.in_ok-sound.ensures))).most in
    record { chained = blank_chained _ _ c.requires.blank; short = omega arith }

pub judge_names-fault-requires : goal.judge_names-fault-requires
judge_names-fault-requires c = record { sectioned = (checked_sections _ _ _ _ (checked _ _ c.in_ok-sound.ensures), c.requires.blank); room = checked_words _ _ _ _ (checked _ _ c.in_ok-sound.ensures) _ c.requires }

pub returns : goal.returns
returns c =
    let w = c.judge_names-fault.ensures.1.words in
    let left : c.table-1.given.0 ≡ c.judge_names-fault.new.table.words.now = search rules in
    rw left (names_answer _ _ _ _ (checked _ _ c.in_ok-sound.ensures) _ _ _ c.judge_names-fault.ensures.0 c.judge.ensures)
