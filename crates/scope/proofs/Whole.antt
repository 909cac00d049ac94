-- What the walk over the names of a whole file adds up to.
use mathlib.Core.Path.{◌≡◌, refl, sym, ap, ◌∙◌, subst⁻¹}
use mathlib.Core.Bool.{true}
use mathlib.Core.List.{List, [], ◌∷◌, ◌++◌, map, append_assoc}
use Prim.Native.Nat.{ℕ, ◌+◌, ◌*◌, ◌≤◌}
use native.Mathlib.Omega.{arith}
use lib.ListN.{length, take, length-append}
use Rattle.smtlib.specs.Lexicon.{is_one}
use Rattle.smtlib.proofs.Bools.{clash}
use Rattle.task.specs.declared.Fault.{Fault}
use Rattle.task.specs.declared.Fault.TheVariants.{Sound}
use Rattle.task.specs.Ast.{FunDef, Task}
use Rattle.task.specs.Decode.{Res, got, refuse, function, section, dec_constraint, deepest}
use Rattle.task.specs.Fault.{lower, each, function_fault, task_fault}
use Rattle.task.specs.Scope.{declared_by, taken_names, everywhere, in_constraint, arity_of, functions_scope, globals_of, constraint_names, names_fault}
use Rattle.task.specs.Task.{bound}
use Rattle.task.proofs.Reading.{same_value}
use Rattle.task.proofs.Judging.{sound_parts}
use Rattle.task.proofs.Pieces.{each_covers}
use Rattle.task.proofs.Sections.{in_whole}
use Rattle.task.proofs.Opened.{Opened, opened_framed}
use Rattle.task_check.specs.Walk.{walked}
use Rattle.trailer.specs.declared.Bounds.{Bounds}
use Rattle.trailer.specs.Bounds.{Inside}
use Rattle.trailer.proofs.Trailers.{framed_is}
use Rattle.names.specs.declared.Kind.TheVariants.{Function}
use Rattle.names.specs.Table.{Symbol, entries, names_of}
use Rattle.names.specs.Change.{Restored}
use Rattle.names.proofs.Theorems.{names_append}
use Rattle.declared.specs.Symbols.{together, function_symbols, data_symbols, kvars_symbols, symbols_of}
use Rattle.declared.specs.Gather.{Declared, KVarsDeclared}
use Rattle.declared.specs.Arity.{arity_in}
use Rattle.declared.proofs.Counting.{functions_few}
use Rattle.declared.proofs.Ranges.{kind_names, ranges}
use Rattle.scope.specs.Known.{taken_in, ctors_in, vars_in, globals_in, constraint_in, Space}
use Rattle.scope.specs.Judged.{FunctionsJudged, Sectioned, NamesJudged}

pub sectioned_inside : (file : List ℕ) (b : Bounds) → Sectioned file b → Inside file b
sectioned_inside file b s = subst⁻¹ (Inside file) s.bounds (framed_is file s.framed)

-- the functions of a task without fault have none
functions_sound : (t : Task) → task_fault t ≡ Sound → each function_fault t.functions ≡ Sound
unfolding task_fault
functions_sound t e =
    sound_parts.none_left _ _ (sound_parts.none_right _ _ (sound_parts.none_right _ _ (sound_parts.none_right _ _ e)))

names_many : (fs : List FunDef) → length (together (map function_symbols fs)) ≡ length fs
names_many [] = refl
names_many (f ∷ fs) = let h = names_many fs in omega arith

module _ (file : List ℕ) (b : Bounds) (s : Sectioned file b) (t0 t1 : List ℕ) (room : 1026 + length file ≤ length t0) (d : Declared file b t0 t1) where
  open_task : Opened file s.task
  open_task = opened_framed file s.task s.end s.framed s.decoded

  data_are : (entries file t1 ≡ data_symbols s.task) × (3 * length (entries file t1) ≤ b.functions)
  data_are = d.are s.task s.end s.framed s.decoded s.bounds

  pub functions_space : Space file t1 b.functions × (b.kvars ≤ length file)
  functions_space =
      let i = sectioned_inside file b s in
      let m = i.most in
      let k = i.functions in
      let w = d.words in
      let h = data_are.1 in
      (record { chained = d.chained; short = omega arith; words = omega arith; few = omega arith; room = h }, i.kvars)

  module _ (r1 : Fault) (t2 : List ℕ) (g : FunctionsJudged file b.functions b.kvars t1 r1 t2) where
    judged_functions : (r1 ≡ functions_scope (ctors_in file t1) (vars_in file t1) s.task.functions) × (entries file t2 ≡ entries file t1 ++ together (map function_symbols s.task.functions))
    judged_functions =
        g.are s.task.functions open_task.functions_end (ap (λ (x : Bounds). section function (take x.kvars file) x.functions) s.bounds ∙ open_task.functions) (functions_sound s.task s.sound)

    in_bodies : r1 ≡ functions_scope (declared_by true s.task.datatypes) (everywhere s.task) s.task.functions
    unfolding ctors_in vars_in
    in_bodies =
        let cs : names_of 2 2 (entries file t1) ≡ declared_by true s.task.datatypes = ap (names_of 2 2) data_are.0 ∙ ranges.ctors_first s.task in
        let vs : names_of 2 6 (entries file t1) ≡ everywhere s.task = ap (names_of 2 6) data_are.0 ∙ ranges.everywhere s.task in
        judged_functions.0 ∙ ap (λ (x : List (List ℕ)). functions_scope x (names_of 2 6 (entries file t1)) s.task.functions) cs
        ∙ ap (λ (x : List (List ℕ)). functions_scope (declared_by true s.task.datatypes) x s.task.functions) vs

    functions_words : length t2 ≡ length t0
    functions_words = g.words ∙ d.words

    module _ (t3 : List ℕ) (h : KVarsDeclared file b t2 t3) where
      declared_all : (entries file t3 ≡ entries file t2 ++ kvars_symbols [] s.task.kvars) × (arity_in file t3 ≡ arity_of s.task.kvars) × (3 * length (entries file t3) ≤ b.constraint)
      declared_all =
          let i = sectioned_inside file b s in
          let o = open_task in
          let w = functions_words in
          let q : entries file t2 ≡ data_symbols s.task ++ together (map function_symbols s.task.functions) = judged_functions.1 ∙ ap (λ (es : List Symbol). es ++ together (map function_symbols s.task.functions)) data_are.0 in
          let none : names_of 1 1 (entries file t2) ≡ [] = ap (names_of 1 1) q ∙ names_append 1 1 (data_symbols s.task) (together (map function_symbols s.task.functions))
          ∙ ap (λ (ws : List (List ℕ)). ws ++ names_of 1 1 (together (map function_symbols s.task.functions))) (ranges.no_kvars s.task) ∙ kind_names 1 1 Function (λ (f : FunDef). f.name) s.task.functions in
          let n = length-append (entries file t1) (together (map function_symbols s.task.functions)) in
          let m = names_many s.task.functions in
          let z : length (entries file t2) ≡ length (entries file t1 ++ together (map function_symbols s.task.functions)) = ap length judged_functions.1 in
          let a = data_are.1 in
          let f = functions_few file (bound file 3) (bound file 4) s.task.functions o.functions_end o.rise3 (few_inside) o.functions in
          let u : b.functions ≡ bound file 3 = ap (λ (x : Bounds). x.functions) s.bounds in
          let v : b.kvars ≡ bound file 4 = ap (λ (x : Bounds). x.kvars) s.bounds in
          let y = o.rise3 in
          h.are s.task s.end s.framed s.decoded s.bounds none (omega arith) (omega arith)
        where
          few_inside : bound file 4 ≤ length file
          few_inside = let i = (sectioned_inside file b s).kvars in let v : b.kvars ≡ bound file 4 = ap (λ (x : Bounds). x.kvars) s.bounds in omega arith

      entries_are : entries file t3 ≡ symbols_of s.task
      unfolding symbols_of
      entries_are =
          declared_all.0 ∙ ap (λ (es : List Symbol). es ++ kvars_symbols [] s.task.kvars) (judged_functions.1 ∙ ap (λ (es : List Symbol). es ++ together (map function_symbols s.task.functions)) data_are.0)
          ∙ append_assoc (data_symbols s.task) (together (map function_symbols s.task.functions)) (kvars_symbols [] s.task.kvars)

      pub constraint_space : Space file t3 b.constraint
      constraint_space =
          let i = sectioned_inside file b s in
          let m = i.most in
          let k = i.constraint in
          let w = functions_words in
          let v = h.words in
          let z = declared_all.2 in
          record { chained = h.chained; short = omega arith; words = omega arith; few = omega arith; room = z }

      globals_are : globals_in file t3 ≡ globals_of s.task
      unfolding globals_in globals_of taken_in ctors_in
      globals_are =
          let p : (x : List ℕ) → is_one x (names_of 1 5 (entries file t3)) ≡ is_one x (taken_names s.task) = λ x. ap (λ (es : List Symbol). is_one x (names_of 1 5 es)) entries_are ∙ ranges.taken s.task x in
          let q : names_of 2 2 (entries file t3) ≡ declared_by true s.task.datatypes = ap (names_of 2 2) entries_are ∙ ranges.ctors s.task in
          let r : arity_in file t3 ≡ arity_of s.task.kvars = declared_all.1 in
          λ i. record { taken = λ x. p x i; ctors = q i; arity = r i }

      vars_are : vars_in file t3 ≡ in_constraint s.task
      unfolding vars_in
      vars_are = ap (names_of 2 6) entries_are ∙ ranges.vars s.task

      module _ (w : Res Fault) (t4 : List ℕ) (k : (w ≡ walked (constraint_in file t3) (dec_constraint deepest file b.constraint)) × Restored file t3 t4) where
        judged_constraint : w ≡ got (constraint_names (globals_of s.task) (in_constraint s.task) s.task.constraint) (bound file 6)
        judged_constraint =
            let u : b.constraint ≡ bound file 5 = ap (λ (x : Bounds). x.constraint) s.bounds in
            let q = in_whole (dec_constraint deepest) (each_covers.constraints deepest) file (bound file 6) (bound file 5) s.task.constraint (bound file 6) open_task.constraint in
            k.0 ∙ rw (u, q, globals_are, vars_are)

      module _ (t4 : List ℕ) where
        pub names_read : (j : ℕ) → (refuse j ≡ walked (constraint_in file t3) (dec_constraint deepest file b.constraint)) × Restored file t3 t4 → NamesJudged file r1 t4
        names_read j k = let z : refuse j ≡ got (constraint_names (globals_of s.task) (in_constraint s.task) s.task.constraint) (bound file 6) = judged_constraint (refuse j) t4 k in clash (cc)

        pub names_judged : (f : Fault) (q : ℕ) (r : Fault) → (got f q ≡ walked (constraint_in file t3) (dec_constraint deepest file b.constraint)) × Restored file t3 t4 → r ≡ lower r1 f → NamesJudged file r t4
        unfolding names_fault
        names_judged f q r k m =
            let z : got f q ≡ got (constraint_names (globals_of s.task) (in_constraint s.task) s.task.constraint) (bound file 6) = judged_constraint (got f q) t4 k in
            let y : f ≡ constraint_names (globals_of s.task) (in_constraint s.task) s.task.constraint = cc in
            let x : r ≡ names_fault s.task = m ∙ ap (λ (g' : Fault). lower g' f) in_bodies ∙ ap (lower (functions_scope (declared_by true s.task.datatypes) (everywhere s.task) s.task.functions)) y in
            record {
              chained = k.1.chained;
              are = λ t end q1. let v : s.task ≡ t = same_value (sym s.decoded ∙ q1) in (x ∙ ap names_fault v, k.1.are ∙ entries_are ∙ ap symbols_of v);
            }
