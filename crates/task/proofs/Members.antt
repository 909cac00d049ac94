-- Names in lists: those that a task's declarations take, kind by kind.
use Prim.Native.Nat.{ℕ}
use mathlib.Core.Path.{◌≡◌, refl, sym, ap, ◌∙◌}
use mathlib.Core.Bool.{Bool, true, false, ◌||◌}
use mathlib.Core.List.{List, [], ◌∷◌, ◌++◌, map}
use Rattle.smtlib.specs.Lexicon.{same, is_one}
use Rattle.smtlib.proofs.Bools.{clash}
use Rattle.task.specs.Ast.{Binder, DataCtor, DataDecl, Task}
use Rattle.task.specs.Scope.{ctor_names, declared_by, ctor_takes, ctors_take, datatypes_take, taken_names}
use Rattle.task.specs.Names.{ctor_fields, field_names}

or_assoc : (a b c : Bool) → ((a || b) || c) ≡ (a || (b || c))
or_assoc true b c = refl
or_assoc false b c = refl

-- two tests exchanged behind a third
or_swap : (a b c d : Bool) → ((a || b) || (c || d)) ≡ ((a || c) || (b || d))
or_swap true b c d = refl
or_swap false true true d = refl
or_swap false true false d = refl
or_swap false false c d = refl

pub none_first : (a b : Bool) → (a || b) ≡ false → a ≡ false
none_first true b e = e
none_first false b e = refl

pub none_second : (a b : Bool) → (a || b) ≡ false → b ≡ false
none_second true b e = clash (cc)
none_second false b e = e

pub first : (a b : Bool) → a ≡ true → (a || b) ≡ true
first a b h = rw h

pub second : (a b : Bool) → b ≡ true → (a || b) ≡ true
second true b h = refl
second false b h = h

module _ (x : List ℕ) where
  pub one_append : (xs ys : List (List ℕ)) → is_one x (xs ++ ys) ≡ (is_one x xs || is_one x ys)
  one_append [] ys = refl
  one_append (y ∷ xs) ys = ap (λ (b : Bool). same x y || b) (one_append xs ys) ∙ sym (or_assoc (same x y) (is_one x xs) (is_one x ys))

  -- the names that constructors take are their own and those of their fields
  one_ctors : (cs : List DataCtor) → is_one x (ctors_take cs) ≡ (is_one x (ctor_names cs) || is_one x (ctor_fields cs))
  one_ctors [] = refl
  one_ctors (c ∷ cs) =
      let own = map (λ (b : Binder). b.name) c.fields in
      one_append (ctor_takes c) (ctors_take cs)
      ∙ ap (λ (b : Bool). (same x c.name || is_one x own) || b) (one_ctors cs)
      ∙ or_swap (same x c.name) (is_one x own) (is_one x (ctor_names cs)) (is_one x (ctor_fields cs))
      ∙ ap (λ (b : Bool). (same x c.name || is_one x (ctor_names cs)) || b) (sym (one_append own (ctor_fields cs)))

  one_datatypes : (ds : List DataDecl) → is_one x (datatypes_take ds) ≡ (is_one x (declared_by true ds) || is_one x (field_names ds))
  one_datatypes [] = refl
  one_datatypes (d ∷ ds) =
      one_append (ctors_take d.ctors) (datatypes_take ds)
      ∙ ap (λ (b : Bool). b || is_one x (datatypes_take ds)) (one_ctors d.ctors)
      ∙ ap (λ (b : Bool). (is_one x (ctor_names d.ctors) || is_one x (ctor_fields d.ctors)) || b) (one_datatypes ds)
      ∙ or_swap (is_one x (ctor_names d.ctors)) (is_one x (ctor_fields d.ctors)) (is_one x (declared_by true ds)) (is_one x (field_names ds))
      ∙ ap (λ (b : Bool). b || (is_one x (ctor_fields d.ctors) || is_one x (field_names ds))) (sym (one_append (ctor_names d.ctors) (declared_by true ds)))
      ∙ ap (λ (b : Bool). is_one x (declared_by true (d ∷ ds)) || b) (sym (one_append (ctor_fields d.ctors) (field_names ds)))

  -- the five kinds one by one
  pub one_taken : (t : Task) → is_one x (taken_names t)
      ≡ ((is_one x (declared_by true t.datatypes) || is_one x (field_names t.datatypes))
      || (is_one x (map (λ b. b.name) t.constants) || (is_one x (map (λ f. f.name) t.functions) || is_one x (map (λ k. k.kvid) t.kvars))))
  unfolding taken_names
  one_taken t =
      let cs = map (λ b. b.name) t.constants in
      let fs = map (λ f. f.name) t.functions in
      let ks = map (λ k. k.kvid) t.kvars in
      rw (one_append (datatypes_take t.datatypes) (cs ++ (fs ++ ks)), one_datatypes t.datatypes, one_append cs (fs ++ ks), one_append fs ks)
