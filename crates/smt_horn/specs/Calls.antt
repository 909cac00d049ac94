-- The answers of the calls in the terms of document 01, "What each call says no to": the values of an answer, or the number of its refusal.
use Rattle.std.specs.Prelude.{ℕ, Result, Ok, Err, [], ◌∷◌}
use Rattle.task.specs.declared.Refusal.{Refusal}
use Rattle.task.specs.Refusals.{number_of}
use Rattle.horn_text.specs.Answers.{Answer, values, refused}
use Rattle.smt_horn.specs.declared.Sizes.{Sizes}

-- survey: the numbers of parts and of assertions, the script's length and that of its longest part
abbrev pub surveyed : Result Sizes Refusal → Answer
surveyed (Ok sizes) = values (sizes.parts ∷ sizes.assertions ∷ sizes.len ∷ sizes.longest ∷ [])
surveyed (Err r) = refused (number_of r)

-- part and script: the written length
abbrev pub written : Result ℕ Refusal → Answer
written (Ok bytes) = values (bytes ∷ [])
written (Err r) = refused (number_of r)
