-- What the calls store, and that an answer can be told from it.
use Prim.Native.Nat.{ℕ, zero, suc, ◌<◌}
use mathlib.Core.Path.{◌≡◌, refl, ap, ◌∙◌}
use mathlib.Core.Logic.{⊎_elim}
use mathlib.Core.List.{List, [], ◌∷◌}
use native.Mathlib.Omega.{arith}
use lib.Dec.{T, eqb}
use Rattle.smtlib.specs.Lexicon.{any}
use Rattle.task.specs.Ast.{Task}
use Rattle.task.specs.Decode.{got}
use Rattle.task.specs.Task.{task_of}
use Rattle.smt_text.specs.Editions.{NameTable}
use Rattle.horn_text.specs.Answers.{Answer, values, refused, survey_numbers, survey_answer}
use Rattle.horn_text.proofs.Demands.{demand1}
use Rattle.horn_text.proofs.RunLaws.{run_laws}
use Rattle.std.specs.Prelude.{Ok, Err}
use Rattle.task.specs.declared.Refusal.{Refusal}
use Rattle.task.specs.Refusals.{number_of}
use Rattle.smt_horn.specs.declared.Sizes.{Sizes}
use Rattle.smt_horn.specs.Calls.{surveyed}
use Rattle.jiggerreef.specs.Archive.{number, stored, Told, AllTold}

-- survey's values
pub sizes_stored : (s : Sizes) (l : List ℕ) {answer : Answer}
    → surveyed (Ok s) ≡ answer → (0 ≡ number answer) × (s.parts ∷ s.assertions ∷ s.len ∷ s.longest ∷ [] ≡ stored answer l)
sizes_stored s l f = rw (← f) (refl, refl)

-- survey's refusal
pub survey_refused : (r : Refusal) (l : List ℕ) {answer : Answer}
    → surveyed (Err r) ≡ answer → (number_of r ≡ number answer) × (l ≡ stored answer l)
survey_refused r l f = rw (← f) (refl, refl)

-- the same answer, the same number and the same values
pub same_answer : {a b : Answer} {n : ℕ} {now : List ℕ} (before : List ℕ)
    → a ≡ b → (n ≡ number a) × (now ≡ stored a before) → (n ≡ number b) × (now ≡ stored b before)
same_answer before e h = rw (← e) h

-- an answer whose refusals have other numbers than 0
told : (a : Answer) → ((n : ℕ) → a ≡ refused n → 0 < n) → Told a
told (values ns) h = record { success = λ before e. refl; refusal = λ n l e. absurd (omega arith) }
told (refused m) h = record {
  success = λ before e. let l = h m refl in absurd (omega arith);
  refusal = λ n l e. ap refused e;
}

-- no number of the list is 0
listed_above : (n : ℕ) → T (any (eqb n) survey_numbers) → 0 < n
listed_above zero h = absurd h
listed_above (suc n) h = omega arith

-- what survey refuses a call refuses alike, and what a call refuses by itself has another number than 0
above : (names : NameTable) (file : List ℕ) (a : Answer) → ((m : ℕ) → survey_answer names file ≡ refused m → a ≡ refused m)
    → ((t : Task) (end : ℕ) → task_of file ≡ got t end → (n : ℕ) → a ≡ refused n → 0 < n) → (n : ℕ) → a ≡ refused n → 0 < n
above names file a f g n e =
    ⊎_elim
    (λ h. g h.task h.end h.holds n e)
    (λ h. let z = f h.number (h.answers names) in
    let w : h.number ≡ n = cc in
    listed_above n (demand1.survey names file n (h.answers names ∙ ap refused w)))
    (demand1.any_bytes file)

pub all_told : AllTold
all_told = record {
  survey = λ names file. told _ (λ n e. listed_above n (demand1.survey names file n e));
  part = λ names file i room. told _ (above names file _ (λ m. demand1.part names names file m i room)
      (λ t end h n e. ⊎_elim (λ w. omega (arith, w.0)) (λ w. omega (arith, w.0)) ((demand1.part_refuses names file t end h i room n).0 e)));
  script = λ names file room. told _ (above names file _ (λ m. demand1.script names names file m room)
      (λ t end h n e. omega (arith, ((demand1.script_refuses names file t end h room n).0 e).0)));
  run = λ names file first count room places. told _ (above names file _ (λ m. run_laws.survey names names file m first count room places)
      (λ t end h n e. ⊎_elim (λ w. omega (arith, w.0)) (λ w. omega (arith, w.0)) ((run_laws.refuses names file t end h first count room places n).0 e)));
}
