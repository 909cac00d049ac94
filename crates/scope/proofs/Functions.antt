-- What the steps of the walk over functions add up to, with premises in the form in which the code's steps give them.
use mathlib.Core.Path.{◌≡◌, refl, sym, ap, ◌∙◌}
use mathlib.Core.Bool.{Bool, true, false}
use mathlib.Core.List.{List, [], ◌∷◌, ◌++◌, map}
use mathlib.Core.Option.{Option, some}
use Prim.Native.Nat.{ℕ, ◌+◌, ◌*◌, ◌≤◌}
use native.Mathlib.Omega.{arith}
use lib.ListN.{length}
use borrow.Author.Tests.{eq-eqb, ne_eqb}
use Rattle.task.specs.declared.Fault.{Fault}
use Rattle.task.specs.declared.Fault.TheVariants.{Sound}
use Rattle.task.specs.Ast.{Sorts, Expr, FunBody}
use Rattle.task.specs.Covers.{Covers}
use Rattle.task.specs.Decode.{Res, got, refuse, bind, ◌▹◌, number, many, name, flag, dec_sort, dec_expr, deepest}
use Rattle.task.specs.Fault.{each, name_fault, sort_fault, sorts_fault, sorts_number}
use Rattle.task.specs.Scope.{expr_scope, body_scope}
use Rattle.task.proofs.Judging.{sound_lower}
use Rattle.task.proofs.Covering.{forward, covers_many, covers_number}
use Rattle.task.proofs.Pieces.{each_covers, wide_names, flags_cover}
use Rattle.task_check.specs.Walk.{walked}
use Rattle.task_check.proofs.Rows.{after_sound, next_is}
use Rattle.task_check.proofs.Exprs.{stops, goes, lasts}
use Rattle.item_check.proofs.Walks.{many_size}
use Rattle.names.specs.declared.Kind.TheVariants.{Bound}
use Rattle.names.specs.Table.{entries}
use Rattle.names.specs.Change.{Popped, Restored}
use Rattle.names.proofs.Theorems.{restored_all}
use Rattle.declared.specs.Symbols.{alone, row_symbols}
use Rattle.declared.specs.Gather.{Collects}
use Rattle.scope.specs.Known.{ctors_in, vars_in, expr_in, Space}
use Rattle.scope.specs.Walk.{body_form, perhaps_body, signature_form, function_form, body_in, perhaps_in}
use Rattle.scope.proofs.Tables.{space_on, walked_on, vars_more, ctors_more, row_few, row_bound, row_space, row_ends}

-- A BODY

names_wide : (n : ℕ) → Covers (λ xs. 2 * length xs) (many [] ◌∷◌ name n)
names_wide n = covers_many (λ xs. 2 * length xs) (λ x. 2) [] ◌∷◌ name (omega arith) (λ x xs. omega arith) wide_names n

same_names : (xs : List (List ℕ)) → map (λ x. x) xs ≡ xs
same_names [] = refl
same_names (x ∷ xs) = ap (λ (ys : List (List ℕ)). x ∷ ys) (same_names xs)

module _ (s t : List ℕ) (at inputs : ℕ) (c : Space s t at × (3 * length (entries s t) + inputs ≤ at)) where
  pub body_uncounted : (j : ℕ) → number 2 s at ≡ refuse j → (refuse j ≡ walked (body_in s t) (body_form inputs s at)) × Restored s t t
  body_uncounted j e = (rw e, restored_all s t c.0.chained)

  module _ (n p : ℕ) (e : number 2 s at ≡ got n p) where
    pub body_unmatched : (n ≡ inputs → ⊥) → (refuse 6 ≡ walked (body_in s t) (body_form inputs s at)) × Restored s t t
    body_unmatched z = (rw (e, ne_eqb n inputs z), restored_all s t c.0.chained)

    module _ (z : n ≡ inputs) where
      from_count : (w : Res Fault) → w ≡ walked (body_in s t) (bind (many [] ◌∷◌ name n s p) (λ xs q. bind (dec_expr deepest s q) (λ d r. got (record { args = xs; expr = d }) r))) → w ≡ walked (body_in s t) (body_form inputs s at)
      from_count w h = rw (e, eq-eqb n inputs z) h

      pub body_args_stop : (j : ℕ) → refuse j ≡ walked (each name_fault) (many [] ◌∷◌ name n s p) → (refuse j ≡ walked (body_in s t) (body_form inputs s at)) × Restored s t t
      body_args_stop j i =
          (from_count (refuse j) (stops (each name_fault) (body_in s t) (many [] ◌∷◌ name n s p) (λ xs q. bind (dec_expr deepest s q) (λ d r. got (record { args = xs; expr = d }) r)) j i), restored_all s t c.0.chained)

      module _ (f : Fault) (q : ℕ) (i : got f q ≡ walked (each name_fault) (many [] ◌∷◌ name n s p)) (u : List ℕ) (r : ℕ) (w : Collects (row_symbols (alone Bound)) (many [] ◌∷◌ name n s p) s t u r) where
        module _ (xs : List (List ℕ)) (g : many [] ◌∷◌ name n s p ≡ got xs q) where
          roomy : 3 * (length (entries s t) + n) ≤ q
          roomy =
              let y = (names_wide n).covered s p xs q g in
              let a = y.room in
              let o = y.end in
              let k = many_size [] ◌∷◌ length refl (λ a r. refl) name s n p xs q g in
              let b = forward (number 2) (covers_number 2) s at n p e in
              let d = c.1 in
              omega arith

          few : 3 * (length (entries s t) + n) ≤ length s
          few =
              let y = (names_wide n).covered s p xs q g in
              let a = y.room in
              let j = many_size [] ◌∷◌ length refl (λ a r. refl) name s n p xs q g in
              row_few n (length (entries s t)) q (length s) c.0.few (λ h. y.inside (omega arith)) roomy

          args_space : Space s u q
          args_space = row_space (λ x. x) name s t u n p r xs q g w c.0.short c.0.words roomy few

          in_body : expr_in s u ≡ expr_scope (ctors_in s t) (vars_in s t ++ xs)
          in_body =
              let h = row_bound (λ x. x) name s t u n p r xs q g w c.0.short c.0.words roomy few in
              rw (vars_more s t u (map (λ x. x) xs) h, ctors_more s t u (map (λ x. x) xs) h, same_names xs)

          args_end : (u3 u4 : List ℕ) → Restored s u u3 → Popped s u3 n u4 → Restored s t u4
          args_end u3 u4 a o = row_ends (λ x. x) name s t u n p r xs q g w c.0.short c.0.words roomy few u3 u4 a o

        pub body_space : Space s u q
        body_space = let y = next_is (each name_fault) (many [] ◌∷◌ name n s p) q f i in args_space y.value y.is

        pub body_walks : (x : Res Fault) (u3 u4 : List ℕ) → (x ≡ walked (expr_in s u) (dec_expr deepest s q)) × Restored s u u3 → Popped s u3 n u4
            → (x ≡ walked (body_in s t) (body_form inputs s at)) × Restored s t u4
        body_walks x u3 u4 a o =
            let y = next_is (each name_fault) (many [] ◌∷◌ name n s p) q f i in (
              from_count x (goes (each name_fault) (body_in s t) (many [] ◌∷◌ name n s p) (λ xs q. bind (dec_expr deepest s q) (λ d r. got (record { args = xs; expr = d }) r)) q f x i
                  (λ xs g k. a.0 ∙ ap (λ (h : Expr → Fault). walked h (dec_expr deepest s q)) (in_body xs g)
                  ∙ sym (after_sound (walked (expr_scope (ctors_in s t) (vars_in s t ++ xs)) (dec_expr deepest s q)))
                  ∙ lasts (expr_scope (ctors_in s t) (vars_in s t ++ xs)) (body_in s t) (dec_expr deepest s q) (λ d. record { args = xs; expr = d }) Sound (λ d. sym (sound_lower (expr_scope (ctors_in s t) (vars_in s t ++ xs) d))))),
              args_end y.value y.is u3 u4 a.1 o,
            )

-- A SIGNATURE

sorts_wide : (n : ℕ) → Covers (λ bs. sorts_number bs) (many Sorts.none Sorts.more (dec_sort deepest) n)
sorts_wide n = covers_many (λ bs. sorts_number bs) (λ b. 1) Sorts.none Sorts.more (dec_sort deepest) (omega arith) (λ b bs. omega arith) (each_covers.sorts deepest) n

module _ (s t : List ℕ) (at : ℕ) (c : Space s t at) where
  from_inputs : Sorts → ℕ → Res (Option FunBody)
  from_inputs ins p = (dec_sort deepest ▹ λ out. flag ▹ λ b. perhaps_body b (sorts_number ins)) s p

  pub signature_uncounted : (j : ℕ) → number 2 s at ≡ refuse j → (refuse j ≡ walked (perhaps_in s t) (signature_form s at)) × Restored s t t
  signature_uncounted j e = (rw e, restored_all s t c.chained)

  module _ (n p : ℕ) (e : number 2 s at ≡ got n p) where
    from_count' : (w : Res Fault) → w ≡ walked (perhaps_in s t) (bind (many Sorts.none Sorts.more (dec_sort deepest) n s p) from_inputs) → w ≡ walked (perhaps_in s t) (signature_form s at)
    unfolding from_inputs
    from_count' w h = rw e h

    pub signature_inputs_stop : (j : ℕ) → refuse j ≡ walked sorts_fault (many Sorts.none Sorts.more (dec_sort deepest) n s p) → (refuse j ≡ walked (perhaps_in s t) (signature_form s at)) × Restored s t t
    signature_inputs_stop j i = (from_count' (refuse j) (stops sorts_fault (perhaps_in s t) (many Sorts.none Sorts.more (dec_sort deepest) n s p) from_inputs j i), restored_all s t c.chained)

    module _ (f : Fault) (q : ℕ) (i : got f q ≡ walked sorts_fault (many Sorts.none Sorts.more (dec_sort deepest) n s p)) where
      by_inputs : (w : Res Fault) → ((ins : Sorts) → sorts_number ins ≡ n → w ≡ walked (perhaps_in s t) (from_inputs ins q)) → w ≡ walked (perhaps_in s t) (signature_form s at)
      by_inputs w h =
          from_count' w (goes sorts_fault (perhaps_in s t) (many Sorts.none Sorts.more (dec_sort deepest) n s p) from_inputs q f w i
          (λ ins g d. h ins (many_size Sorts.none Sorts.more sorts_number refl (λ a r. refl) (dec_sort deepest) s n p ins q g)))

      pub signature_output_stop : (j : ℕ) → refuse j ≡ walked (sort_fault false) (dec_sort deepest s q) → (refuse j ≡ walked (perhaps_in s t) (signature_form s at)) × Restored s t t
      unfolding from_inputs
      signature_output_stop j k =
          (by_inputs (refuse j) (λ ins z. stops (sort_fault false) (perhaps_in s t) (dec_sort deepest s q) (λ out r. (flag ▹ λ b. perhaps_body b (sorts_number ins)) s r) j k), restored_all s t c.chained)

      module _ (f2 : Fault) (r : ℕ) (k : got f2 r ≡ walked (sort_fault false) (dec_sort deepest s q)) where
        by_output : (w : Res Fault) → ((ins : Sorts) → sorts_number ins ≡ n → w ≡ walked (perhaps_in s t) ((flag ▹ λ b. perhaps_body b (sorts_number ins)) s r)) → w ≡ walked (perhaps_in s t) (signature_form s at)
        unfolding from_inputs
        by_output w h =
            by_inputs w (λ ins z. goes (sort_fault false) (perhaps_in s t) (dec_sort deepest s q) (λ out r. (flag ▹ λ b. perhaps_body b (sorts_number ins)) s r) r f2 w k (λ out g y. h ins z))

        pub signature_unflagged : (j : ℕ) → flag s r ≡ refuse j → (refuse j ≡ walked (perhaps_in s t) (signature_form s at)) × Restored s t t
        signature_unflagged j d = (by_output (refuse j) (λ ins z. rw d), restored_all s t c.chained)

        module _ (b : Bool) (t2 : ℕ) (d : flag s r ≡ got b t2) where
          pub signature_none : b ≡ false → (got Sound t2 ≡ walked (perhaps_in s t) (signature_form s at)) × Restored s t t
          unfolding body_scope
          signature_none h = (by_output (got Sound t2) (λ ins z. rw (d, h)), restored_all s t c.chained)

          pub signature_space : Space s t t2 × (3 * length (entries s t) + n ≤ t2)
          signature_space =
              let y = next_is sorts_fault (many Sorts.none Sorts.more (dec_sort deepest) n s p) q f i in
              let o = (sorts_wide n).covered s p y.value q y.is in
              let a = o.room in
              let b1 = o.end in
              let g = many_size Sorts.none Sorts.more sorts_number refl (λ a r. refl) (dec_sort deepest) s n p y.value q y.is in
              let h = forward (number 2) (covers_number 2) s at n p e in
              let h2 = walked_on (sort_fault false) (dec_sort deepest) (each_covers.sorts deepest) s q r f2 k in
              let h3 = forward flag flags_cover s r b t2 d in
              let h4 = c.room in
              (space_on s t at t2 c (omega arith), omega arith)

          pub signature_body : (w : Res Fault) (u : List ℕ) → b ≡ true → (w ≡ walked (body_in s t) (body_form n s t2)) × Restored s t u → (w ≡ walked (perhaps_in s t) (signature_form s at)) × Restored s t u
          unfolding body_scope
          signature_body w u h a = (
            by_output w (λ ins z. rw (d, h, z) (a.0 ∙ sym (after_sound (walked (body_in s t) (body_form n s t2)))
                ∙ lasts (body_in s t) (perhaps_in s t) (body_form n s t2) some Sound (λ o. sym (sound_lower (body_in s t o))))),
            a.1,
          )

-- A FUNCTION

module _ (s t : List ℕ) (at : ℕ) (c : Space s t at) where
  pub function_unnamed : (j : ℕ) → name s at ≡ refuse j → (refuse j ≡ walked (perhaps_in s t) (function_form s at)) × Restored s t t
  function_unnamed j e = (rw e, restored_all s t c.chained)

  module _ (y : List ℕ) (p : ℕ) (e : name s at ≡ got y p) where
    pub function_unparameterized : (j : ℕ) → number 2 s p ≡ refuse j → (refuse j ≡ walked (perhaps_in s t) (function_form s at)) × Restored s t t
    function_unparameterized j d = (rw (e, d), restored_all s t c.chained)

    module _ (n q : ℕ) (d : number 2 s p ≡ got n q) where
      pub function_space : Space s t q
      function_space =
          let a = forward name wide_names s at y p e in
          let b = forward (number 2) (covers_number 2) s p n q d in
          space_on s t at q c (omega arith)

      pub function_walks : (w : Res Fault) (u : List ℕ) → (w ≡ walked (perhaps_in s t) (signature_form s q)) × Restored s t u → (w ≡ walked (perhaps_in s t) (function_form s at)) × Restored s t u
      function_walks w u a = (rw (e, d) a.0, a.1)
