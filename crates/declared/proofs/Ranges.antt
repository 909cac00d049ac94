-- Which of the names that a task declares are of the kinds of a range.
use mathlib.Core.Path.{◌≡◌, refl, sym, ap, ◌∙◌}
use mathlib.Core.Bool.{Bool, true, false, cond, ◌||◌}
use mathlib.Core.List.{List, [], ◌∷◌, ◌++◌, map, append-nil, append_assoc}
use Prim.Native.Nat.{ℕ}
use Rattle.smtlib.specs.Lexicon.{same, is_one}
use Rattle.smtlib.proofs.Bools.{true_holds, same→eq, clash}
use Rattle.task.specs.Ast.{Binder, DataCtor, DataDecl, FunDef, KVarDecl, Task}
use Rattle.task.specs.Scope.{ctor_names, declared, declared_by, ctor_takes, ctors_take, datatypes_take, taken_names, everywhere, in_constraint}
use Rattle.task.proofs.Members.{one_append}
use Rattle.names.specs.declared.Kind.{Kind}
use Rattle.names.specs.declared.Kind.TheVariants.{KVar, Field, Constant, Function}
use Rattle.names.specs.Table.{number_of, Symbol, in_range, names_of}
use Rattle.names.proofs.Theorems.{names_append}
use Rattle.declared.specs.Symbols.{alone, together, named, ctor_symbols, ctors_symbols, datatype_symbols, function_symbols, data_symbols, kvars_symbols, symbols_of, Ranges}

-- a test that another includes changes nothing behind it
absorbed : (a b c : Bool) → (b ≡ true → a ≡ true) → (a || c) ≡ (a || (b || c))
absorbed true b c h = refl
absorbed false true c h = clash (let z = h refl in cc)
absorbed false false c h = refl

-- PIECES IN A ROW

module _ (lowest highest : ℕ) where
  -- by the names of each
  row_names : {A : Type 0} (symbols : A → List Symbol) (own : A → List (List ℕ)) (all : List A → List (List ℕ)) → all [] ≡ [] → ((a : A) (xs : List A) → all (a ∷ xs) ≡ own a ++ all xs)
      → ((a : A) → names_of lowest highest (symbols a) ≡ own a) → (xs : List A) → names_of lowest highest (together (map symbols xs)) ≡ all xs
  unfolding names_of
  row_names symbols own all none more one [] = sym none
  row_names symbols own all none more one (a ∷ xs) =
      names_append lowest highest (symbols a) (together (map symbols xs))
      ∙ ap (λ (ws : List (List ℕ)). ws ++ names_of lowest highest (together (map symbols xs))) (one a)
      ∙ ap (λ (ws : List (List ℕ)). own a ++ ws) (row_names symbols own all none more one xs)
      ∙ sym (more a xs)

  -- pieces with one name each, all of one kind: their names if the kind is in the range, and else none
  pub kind_names : {A : Type 0} (kind : Kind) (own : A → List ℕ) (xs : List A)
      → names_of lowest highest (together (map (λ x. alone kind (own x)) xs)) ≡ cond (in_range lowest highest (number_of kind)) (map own xs) []
  unfolding names_of
  kind_names {A} kind own xs = go (in_range lowest highest (number_of kind)) refl
    where
      go : (b : Bool) → in_range lowest highest (number_of kind) ≡ b → names_of lowest highest (together (map (λ x. alone kind (own x)) xs)) ≡ cond b (map own xs) []
      go true e = row_names (λ x. alone kind (own x)) (λ x. own x ∷ []) (map own) refl (λ x ys. refl) (λ x. rw e) xs
      go false e = row_names (λ x. alone kind (own x)) (λ x. []) (λ ys. []) refl (λ x ys. refl) (λ x. rw e) xs

  -- DATATYPES

  -- given which names constructors and datatypes have in the range
  module _ (of_ctor : DataCtor → List (List ℕ)) (of_ctors : List DataCtor → List (List ℕ)) (of_datatype : DataDecl → List (List ℕ)) (of_datatypes : List DataDecl → List (List ℕ))
      (ctors-none : of_ctors [] ≡ []) (ctors_more : (c : DataCtor) (cs : List DataCtor) → of_ctors (c ∷ cs) ≡ of_ctor c ++ of_ctors cs)
      (datatypes-none : of_datatypes [] ≡ []) (datatypes-more : (d : DataDecl) (ds : List DataDecl) → of_datatypes (d ∷ ds) ≡ of_datatype d ++ of_datatypes ds) where
    -- one behind its own name
    front : ℕ → List ℕ → List (List ℕ) → List (List ℕ)
    front k x ws = cond (in_range lowest highest k) (x ∷ ws) ws

    datatypes_named : ((c : DataCtor) → front 2 c.name (cond (in_range lowest highest 3) (map (λ (b : Binder). b.name) c.fields) []) ≡ of_ctor c)
        → ((d : DataDecl) → front 0 d.name (of_ctors d.ctors) ≡ of_datatype d) → (ds : List DataDecl) → names_of lowest highest (together (map datatype_symbols ds)) ≡ of_datatypes ds
    unfolding names_of front
    datatypes_named ctor datatype =
        let ctors : (cs : List DataCtor) → names_of lowest highest (ctors_symbols cs) ≡ of_ctors cs =
        row_names ctor_symbols of_ctor of_ctors ctors-none ctors_more (λ c. ap (front 2 c.name) (kind_names Field (λ (b : Binder). b.name) c.fields) ∙ ctor c) in
        row_names datatype_symbols of_datatype of_datatypes datatypes-none datatypes-more (λ d. ap (front 0 d.name) (ctors d.ctors) ∙ datatype d)

  -- the names that they take
  datatypes_taken : in_range lowest highest 0 ≡ false → in_range lowest highest 2 ≡ true → in_range lowest highest 3 ≡ true → (ds : List DataDecl)
      → names_of lowest highest (together (map datatype_symbols ds)) ≡ datatypes_take ds
  unfolding front
  datatypes_taken e0 e2 e3 =
      datatypes_named ctor_takes ctors_take (λ d. ctors_take d.ctors) datatypes_take refl (λ c cs. refl) refl (λ d ds. refl) (λ c. rw (e2, e3)) (λ d. rw e0)

  -- KVARS

  -- none, if their kind is not in the range
  kvars_none : in_range lowest highest 1 ≡ false → (seen : List (List ℕ)) (ks : List KVarDecl) → names_of lowest highest (kvars_symbols seen ks) ≡ []
  unfolding names_of kvars_symbols
  kvars_none e seen [] = refl
  kvars_none e seen (k ∷ ks) = go (is_one k.kvid seen) (kvars_none e seen ks) (kvars_none e (seen ++ (k.kvid ∷ [])) ks)
    where
      go : (b : Bool) → names_of lowest highest (kvars_symbols seen ks) ≡ [] → names_of lowest highest (kvars_symbols (seen ++ (k.kvid ∷ [])) ks) ≡ []
          → names_of lowest highest (cond b (kvars_symbols seen ks) (alone KVar k.kvid ++ kvars_symbols (seen ++ (k.kvid ∷ [])) ks)) ≡ []
      go true h g = h
      go false h g = rw e g

  -- else a name is one of those that are seen or added exactly if it is one of those that are seen or declared
  module _ (e : in_range lowest highest 1 ≡ true) (x : List ℕ) where
    kvars_one : (seen : List (List ℕ)) (ks : List KVarDecl) → is_one x (seen ++ names_of lowest highest (kvars_symbols seen ks)) ≡ is_one x (seen ++ map (λ k. k.kvid) ks)
    unfolding names_of kvars_symbols
    kvars_one seen [] = refl
    kvars_one seen (k ∷ ks) = go (is_one k.kvid seen) refl (kvars_one seen ks) (kvars_one (seen ++ (k.kvid ∷ [])) ks)
      where
        go : (b : Bool) → is_one k.kvid seen ≡ b → is_one x (seen ++ names_of lowest highest (kvars_symbols seen ks)) ≡ is_one x (seen ++ map (λ (j : KVarDecl). j.kvid) ks)
            → is_one x ((seen ++ (k.kvid ∷ [])) ++ names_of lowest highest (kvars_symbols (seen ++ (k.kvid ∷ [])) ks)) ≡ is_one x ((seen ++ (k.kvid ∷ [])) ++ map (λ (j : KVarDecl). j.kvid) ks)
            → is_one x (seen ++ names_of lowest highest (cond b (kvars_symbols seen ks) (alone KVar k.kvid ++ kvars_symbols (seen ++ (k.kvid ∷ [])) ks)))
            ≡ is_one x (seen ++ (k.kvid ∷ map (λ (j : KVarDecl). j.kvid) ks))
        go true s h g =
            let ws = map (λ (j : KVarDecl). j.kvid) ks in
            h ∙ one_append x seen ws
            ∙ absorbed (is_one x seen) (same x k.kvid) (is_one x ws) (λ z. ap (λ (y : List ℕ). is_one y seen) (same→eq x k.kvid (true_holds z)) ∙ s)
            ∙ sym (one_append x seen (k.kvid ∷ ws))
        go false s h g =
            rw e
            (ap (is_one x) (sym (append_assoc seen (k.kvid ∷ []) (names_of lowest highest (kvars_symbols (seen ++ (k.kvid ∷ [])) ks))))
            ∙ g
            ∙ ap (is_one x) (append_assoc seen (k.kvid ∷ []) (map (λ (j : KVarDecl). j.kvid) ks)))

  -- ALL SECTIONS

  data_names : (t : Task)
      → names_of lowest highest (data_symbols t)
      ≡ names_of lowest highest (together (map datatype_symbols t.datatypes)) ++ cond (in_range lowest highest 4) (map (λ b. b.name) t.constants) []
  unfolding data_symbols
  data_names t =
      let ds = together (map datatype_symbols t.datatypes) in
      names_append lowest highest ds (together (map (named Constant) t.constants))
      ∙ ap (λ (ws : List (List ℕ)). names_of lowest highest ds ++ ws) (kind_names Constant (λ (b : Binder). b.name) t.constants)

  task_names : (t : Task)
      → names_of lowest highest (symbols_of t)
      ≡ names_of lowest highest (data_symbols t) ++ (cond (in_range lowest highest 5) (map (λ f. f.name) t.functions) [] ++ names_of lowest highest (kvars_symbols [] t.kvars))
  unfolding symbols_of
  task_names t =
      let fs = together (map function_symbols t.functions) in
      let ks = kvars_symbols [] t.kvars in
      names_append lowest highest (data_symbols t) (fs ++ ks)
      ∙ ap (λ (ws : List (List ℕ)). names_of lowest highest (data_symbols t) ++ ws)
      (names_append lowest highest fs ks ∙ ap (λ (ws : List (List ℕ)). ws ++ names_of lowest highest ks) (kind_names Function (λ (f : FunDef). f.name) t.functions))

  -- without KVars
  kvarless : in_range lowest highest 1 ≡ false → (t : Task)
      → names_of lowest highest (symbols_of t) ≡ names_of lowest highest (data_symbols t) ++ cond (in_range lowest highest 5) (map (λ f. f.name) t.functions) []
  kvarless e t =
      let fs : List (List ℕ) = cond (in_range lowest highest 5) (map (λ f. f.name) t.functions) [] in
      task_names t ∙ ap (λ (ws : List (List ℕ)). names_of lowest highest (data_symbols t) ++ (fs ++ ws)) (kvars_none e [] t.kvars)
      ∙ ap (λ (ws : List (List ℕ)). names_of lowest highest (data_symbols t) ++ ws) (append-nil fs)

-- THE RANGES

-- a range without datatypes and with constructors, fields and constants
module _ (lowest highest : ℕ) (e0 : in_range lowest highest 0 ≡ false) (e2 : in_range lowest highest 2 ≡ true) (e3 : in_range lowest highest 3 ≡ true) (e4 : in_range lowest highest 4 ≡ true) where
  data_everywhere : (t : Task) → names_of lowest highest (data_symbols t) ≡ everywhere t
  unfolding everywhere
  data_everywhere t =
      data_names lowest highest t
      ∙ rw (datatypes_taken lowest highest e0 e2 e3 t.datatypes, e4)

-- constructors alone
data_ctors : (t : Task) → names_of 2 2 (data_symbols t) ≡ declared_by true t.datatypes
unfolding front
data_ctors t =
    data_names 2 2 t ∙ append-nil (names_of 2 2 (together (map datatype_symbols t.datatypes)))
    ∙ datatypes_named 2 2 (λ c. c.name ∷ []) ctor_names (declared true) (declared_by true) refl (λ c cs. refl) refl (λ d ds. refl) (λ c. refl) (λ d. refl) t.datatypes

-- datatypes alone
data_datatypes : (t : Task) → names_of 0 0 (data_symbols t) ≡ declared_by false t.datatypes
unfolding front
data_datatypes t =
    data_names 0 0 t ∙ append-nil (names_of 0 0 (together (map datatype_symbols t.datatypes)))
    ∙ datatypes_named 0 0 (λ c. []) (λ cs. []) (declared false) (declared_by false) refl (λ c cs. refl) refl (λ d ds. refl) (λ c. refl) (λ d. refl) t.datatypes

-- KVars alone
data_kvars : (t : Task) → names_of 1 1 (data_symbols t) ≡ []
unfolding front
data_kvars t =
    data_names 1 1 t ∙ append-nil (names_of 1 1 (together (map datatype_symbols t.datatypes)))
    ∙ datatypes_named 1 1 (λ c. []) (λ cs. []) (λ d. []) (λ ds. []) refl (λ c cs. refl) refl (λ d ds. refl) (λ c. refl) (λ d. refl) t.datatypes

-- a whole task
task_vars : (t : Task) → names_of 2 6 (symbols_of t) ≡ in_constraint t
unfolding in_constraint
task_vars t = kvarless 2 6 refl t ∙ ap (λ (ws : List (List ℕ)). ws ++ map (λ f. f.name) t.functions) (data_everywhere 2 6 refl refl refl refl t)

module _ (x : List ℕ) where
  one_behind : (ws vs us : List (List ℕ)) → is_one x vs ≡ is_one x us → is_one x (ws ++ vs) ≡ is_one x (ws ++ us)
  one_behind ws vs us e = one_append x ws vs ∙ ap (λ (b : Bool). is_one x ws || b) e ∙ sym (one_append x ws us)

  task_taken : (t : Task) → is_one x (names_of 1 5 (symbols_of t)) ≡ is_one x (taken_names t)
  unfolding taken_names everywhere
  task_taken t =
      let ds = datatypes_take t.datatypes in
      let cs : List (List ℕ) = map (λ b. b.name) t.constants in
      let fs : List (List ℕ) = map (λ f. f.name) t.functions in
      let ks : List (List ℕ) = map (λ k. k.kvid) t.kvars in
      let own = names_of 1 5 (kvars_symbols [] t.kvars) in
      ap (is_one x) (task_names 1 5 t ∙ ap (λ (ws : List (List ℕ)). ws ++ (fs ++ own)) (data_everywhere 1 5 refl refl refl refl t))
      ∙ one_behind (ds ++ cs) (fs ++ own) (fs ++ ks) (one_behind fs own ks (kvars_one 1 5 refl x [] t.kvars))
      ∙ ap (is_one x) (append_assoc ds cs (fs ++ ks))

pub ranges : Ranges
ranges = record {
  everywhere = data_everywhere 2 6 refl refl refl refl;
  ctors_first = data_ctors;
  no_kvars = data_kvars;
  vars = task_vars;
  ctors = λ t. kvarless 2 2 refl t ∙ append-nil (names_of 2 2 (data_symbols t)) ∙ data_ctors t;
  datatypes = λ t. kvarless 0 0 refl t ∙ append-nil (names_of 0 0 (data_symbols t)) ∙ data_datatypes t;
  taken = λ t x. task_taken x t;
}
