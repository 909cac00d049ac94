-- What the walks over the declarations add up to: the names that the task declares.
use mathlib.Core.Path.{◌≡◌, refl, sym, ap, subst, ◌∙◌}
use mathlib.Core.Bool.{true, cond}
use mathlib.Core.List.{List, [], ◌++◌, map}
use Prim.Native.Nat.{ℕ, ◌+◌, ◌*◌, ◌≤◌}
use native.Mathlib.Omega.{arith}
use lib.ListN.{length, take, length-append}
use Rattle.smtlib.specs.Lexicon.{is_one}
use Rattle.task.specs.Ast.{Task}
use Rattle.task.specs.Decode.{got, datatype, constant, kvar, section}
use Rattle.task.specs.Scope.{arity_of}
use Rattle.task.specs.Task.{bound, framed, decoded}
use Rattle.task.proofs.Opened.{Opened, opened_framed}
use Rattle.task.proofs.Sections.{section_made}
use Rattle.item_check.specs.declared.Section.TheVariants.{Datatypes, Constants}
use Rattle.trailer.specs.declared.Bounds.{Bounds}
use Rattle.trailer.specs.Bounds.{bounds_of, start_of, end_of}
use Rattle.names.specs.declared.Kind.TheVariants.{Constant}
use Rattle.names.specs.Table.{Symbol, entries, names_of}
use Rattle.names.specs.Change.{Blank}
use Rattle.names.proofs.Theorems.{blank_entries}
use Rattle.declared.specs.Symbols.{together, named, datatype_symbols, data_symbols, kvars_symbols, symbols_of, SampleSymbols}
use Rattle.declared.specs.Arity.{arity_in}
use Rattle.declared.specs.Gather.{adds, item_symbols, Sweeps, Gathers, Holding, holding, add_kvars, Declared, KVarsDeclared}
use Rattle.declared.proofs.Collecting.{adds_append}
use Rattle.declared.proofs.Counting.{symbols_few, kvars_few, adds_all}
use Rattle.declared.proofs.Arities.{arity_none, kvars_length, all_added}

module _ (file t0 t1 t2 : List ℕ) (k : Blank t0) (room : 1026 + length file ≤ length t0) (task : Task) (o : Opened file task) where
  ds : List Symbol
  ds = together (map datatype_symbols task.datatypes)

  cs : List Symbol
  cs = together (map (named Constant) task.constants)

  -- the sections, as symbols
  of_datatypes : section (item_symbols Datatypes) (take (bound file 2) file) (bound file 1) ≡ got (map datatype_symbols task.datatypes) o.datatypes_end
  unfolding item_symbols
  of_datatypes = section_made datatype datatype_symbols (take (bound file 2) file) (bound file 1) task.datatypes o.datatypes_end o.datatypes

  of_constants : section (item_symbols Constants) (take (bound file 3) file) (bound file 2) ≡ got (map (named Constant) task.constants) o.constants_end
  unfolding item_symbols
  of_constants = section_made constant (named Constant) (take (bound file 3) file) (bound file 2) task.constants o.constants_end o.constants

  few : 3 * length (ds ++ cs) ≤ bound file 3
  unfolding ds cs
  few =
      let r1 = o.rise1 in
      let r2 = o.rise2 in
      let r3 = o.rise3 in
      let r4 = o.rise4 in
      let r5 = o.rise5 in
      let l = o.last in
      let a = symbols_few Datatypes file (bound file 1) (bound file 2) (map datatype_symbols task.datatypes) o.datatypes_end r1 (omega arith) of_datatypes in
      let b = symbols_few Constants file (bound file 2) (bound file 3) (map (named Constant) task.constants) o.constants_end r2 (omega arith) of_constants in
      omega (arith, length-append ds cs)

  gathered : Gathers file Datatypes (bound file 1) (bound file 2) t0 t1 → Gathers file Constants (bound file 2) (bound file 3) t1 t2
      → (entries file t2 ≡ data_symbols task) × (3 * length (entries file t2) ≤ bound file 3)
  unfolding ds cs data_symbols
  gathered g1 g2 =
      let n = length t0 in
      let m = o.most in
      let r3 = o.rise3 in
      let r4 = o.rise4 in
      let r5 = o.rise5 in
      let l = o.last in
      let f = few in
      let e1 : entries file t1 ≡ adds n [] ds = g1.are _ _ of_datatypes ∙ ap (λ (es : List Symbol). adds n es ds) (blank_entries file t0 k) in
      let e2 : entries file t2 ≡ adds n (entries file t1) cs = g2.are _ _ of_constants ∙ ap (λ (x : ℕ). adds x (entries file t1) cs) g1.words in
      let e : entries file t2 ≡ ds ++ cs =
      e2 ∙ ap (λ (es : List Symbol). adds n es cs) e1 ∙ sym (adds_append n [] ds cs) ∙ adds_all n [] (ds ++ cs) (omega arith) (omega arith) in
      (e, subst (λ (es : List Symbol). 3 * length es ≤ bound file 3) (sym e) f)

pub declared : (file : List ℕ) (b : Bounds) (t0 t1 t2 : List ℕ) → Blank t0 → 1026 + length file ≤ length t0 → Gathers file Datatypes (start_of b Datatypes) (end_of b Datatypes) t0 t1
    → Gathers file Constants (start_of b Constants) (end_of b Constants) t1 t2 → Declared file b t0 t2
declared file b t0 t1 t2 k room g1 g2 =
    record {
      chained = g2.chained;
      words = g2.words ∙ g1.words;
      are = λ task end f e z.
          rw z (gathered file t0 t1 t2 k room task (opened_framed file task end f e) (rw z at g1) (rw z at g2));
    }

-- KVARS

pub kvars_declared : (file : List ℕ) (b : Bounds) (t u : List ℕ) → Sweeps (holding file) add_kvars kvar file b.kvars b.constraint t u → KVarsDeclared file b t u
kvars_declared file b t u g = record { chained = g.chained; words = g.words; are = are }
  where
    are : (task : Task) (end : ℕ) → framed file ≡ true → decoded file ≡ got task end → b ≡ bounds_of file
        → names_of 1 1 (entries file t) ≡ [] → 3 * length (entries file t) ≤ b.kvars → 1026 + length file ≤ length t
        → (entries file u ≡ entries file t ++ kvars_symbols [] task.kvars) × (arity_in file u ≡ arity_of task.kvars) × (3 * length (entries file u) ≤ b.constraint)
    are task end f e z none before room =
        let o = opened_framed file task end f e in
        let m = o.most in
        let r4 = o.rise4 in
        let r5 = o.rise5 in
        let l = o.last in
        let zk : b.kvars ≡ bound file 4 = ap (λ (x : Bounds). x.kvars) z in
        let zc : b.constraint ≡ bound file 5 = ap (λ (x : Bounds). x.constraint) z in
        let ks = task.kvars in
        let few = kvars_few file (bound file 4) (bound file 5) ks o.kvars_end r4 (omega arith) o.kvars in
        let w = g.are ks o.kvars_end (rw (zk, zc) o.kvars) in
        let y = all_added (length t) (holding file t) ks (arity_none file t) (omega arith) (omega arith) in
        let es : entries file u ≡ entries file t ++ kvars_symbols [] ks =
        ap (λ (h : Holding). h.symbols) w ∙ y.symbols ∙ ap (λ (seen : List (List ℕ)). entries file t ++ kvars_symbols seen ks) none in
        let numbers : (x : List ℕ) → arity_in file u x ≡ arity_of ks x =
        λ x. ap (λ (h : Holding). h.arity x) w ∙ y.arity x ∙ ap (λ (seen : List (List ℕ)). cond (is_one x seen) (arity_in file t x) (arity_of ks x)) none in
        let p = kvars_length [] ks in
        let q = length-append (entries file t) (kvars_symbols [] ks) in
        let c : length (entries file u) ≡ length (entries file t ++ kvars_symbols [] ks) = ap length es in
        (es, λ i x. numbers x i, omega arith)

pub sample_symbols : SampleSymbols
unfolding symbols_of data_symbols kvars_symbols
sample_symbols = refl
