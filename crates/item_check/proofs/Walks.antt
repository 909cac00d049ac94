-- What the steps of the item walkers add up to, with premises in the form in which the code's steps give them.
use mathlib.Core.Path.{◌≡◌, refl, sym, ap, ◌∙◌}
use mathlib.Core.Bool.{Bool, true, false}
use mathlib.Core.List.{List, [], ◌∷◌}
use mathlib.Core.Option.{Option, some}
use Prim.Native.Nat.{ℕ, zero, suc}
use lib.ListN.{length}
use Rattle.task.specs.declared.Fault.{Fault}
use Rattle.task.specs.declared.Fault.TheVariants.{Sound}
use Rattle.task.specs.Ast.{Sort, Sorts, FunBody, FunDef}
use Rattle.task.specs.Decode.{Res, got, refuse, bind, Decoder, give, ◌▹◌, number, many, counted, name, flag, dec_sort, dec_expr, deepest, binder, data_ctor, datatype, body, function, kvar}
use Rattle.task.specs.Fault.{lower, each, name_fault, sort_fault, sorts_fault, binder_fault, expr_fault, data_ctor_fault, empty_fault, datatype_fault, sorts_number, arity_fault, body_fault, function_fault, kvar_fault}
use Rattle.task.proofs.Judging.{lower_assoc}
use Rattle.task.proofs.Reading.{bind_got}
use Rattle.task_check.specs.Walk.{walked, after}
use Rattle.task_check.proofs.Exprs.{stops, goes}
use Rattle.item_check.specs.Items.{signature, signature_fault}

-- the last piece, whose answer is put behind the faults before
pub last : {A B : Type 0} (one : A → Fault) (whole : B → Fault) (x : Res A) (k : A → B) (f : Fault) (v w : Res Fault) → v ≡ walked one x → w ≡ after f v
    → ((a : A) (q : ℕ) → x ≡ got a q → whole (k a) ≡ lower f (one a)) → w ≡ walked whole (bind x (λ a q. got (k a) q))
last {A} {B} one whole x k f v w e e' h = e' ∙ ap (after f) e ∙ go x h
  where
    go : (y : Res A) → ((a : A) (q : ℕ) → y ≡ got a q → whole (k a) ≡ lower f (one a)) → after f (walked one y) ≡ walked whole (bind y (λ a q. got (k a) q))
    go (got a q) h = ap (λ (z : Fault). got z q) (sym (h a q refl))
    go (refuse j) h = refl

-- n pieces in a row are n
module _ {A R : Type 0} (end : R) (more : A → R → R) (size : R → ℕ) (h : size end ≡ 0) (g : (a : A) (r : R) → size (more a r) ≡ suc (size r)) (d : Decoder A) (s : List ℕ) where
  same_next : {B C : Type 0} (f : B → C) {x y : B} {p q : ℕ} → got x p ≡ got y q → f x ≡ f y
  same_next f e = ap f (cc)

  pub many_size : (n p : ℕ) (r : R) (q : ℕ) → many end more d n s p ≡ got r q → size r ≡ n
  many_size zero p r q e = sym (same_next size e) ∙ h
  many_size (suc n) p r q e =
      let x = bind_got (d s p) (λ a t. bind (many end more d n s t) (λ b u. got (more a b) u)) r q e in
      let y = bind_got (many end more d n s x.next) (λ b u. got (more x.value b) u) r q x.then in
      sym (same_next size y.then) ∙ g x.value y.value ∙ ap suc (many_size n x.next y.value y.next y.first)

-- a name and a number, and what follows them
module _ (s : List ℕ) (at : ℕ) (y : List ℕ) (p n q : ℕ) (f : Fault) (v w : Res Fault) (a : name s at ≡ got y p) (b : number 2 s p ≡ got n q) (e : f ≡ name_fault y) where
  pub ctor_walks : v ≡ walked (each binder_fault) (many [] ◌∷◌ (binder deepest) n s q) → w ≡ after f v → w ≡ walked data_ctor_fault (data_ctor s at)
  unfolding data_ctor_fault
  ctor_walks u e' =
      rw (a, b) (last (each binder_fault) data_ctor_fault (many [] ◌∷◌ (binder deepest) n s q) (λ fs. record { name = y; fields = fs }) f v w u e' (λ fs r i. rw e))

  pub kvar_walks : v ≡ walked sorts_fault (many Sorts.none Sorts.more (dec_sort deepest) n s q) → w ≡ after f v → w ≡ walked kvar_fault (kvar s at)
  unfolding kvar_fault
  kvar_walks u e' =
      rw (a, b) (last sorts_fault kvar_fault (many Sorts.none Sorts.more (dec_sort deepest) n s q) (λ bs. record { kvid = y; sorts = bs }) f v w u e' (λ bs r i. rw e))

  pub datatype_walks : (m r : ℕ) (g h : Fault) → number 2 s q ≡ got m r → g ≡ empty_fault m → h ≡ lower f g
      → v ≡ walked (each data_ctor_fault) (many [] ◌∷◌ data_ctor m s r) → w ≡ after h v → w ≡ walked datatype_fault (datatype s at)
  unfolding datatype_fault
  datatype_walks m r g h d i i' u u' =
      rw (a, b, d) (last (each data_ctor_fault) datatype_fault (many [] ◌∷◌ data_ctor m s r) (λ cs. record { name = y; vars = n; ctors = cs }) h v w u u'
      (λ cs t z. rw (i', e, i, many_size [] ◌∷◌ length refl (λ a r. refl) data_ctor s m r cs t z) (sym (lower_assoc (name_fault y) (empty_fault m) (each data_ctor_fault cs)))))

-- a body
pub body_none : (inputs : ℕ) (s : List ℕ) (at : ℕ) (b : Bool) → b ≡ false → got Sound at ≡ walked (body_fault inputs) (body b s at)
unfolding body_fault
body_none inputs s at b e = rw e

pub body_some : (inputs : ℕ) (s : List ℕ) (at : ℕ) (b : Bool) (w : Res Fault) → b ≡ true → w ≡ walked (body_fault inputs) (body true s at) → w ≡ walked (body_fault inputs) (body b s at)
body_some inputs s at b w e u = rw e u

module _ (inputs : ℕ) (s : List ℕ) (at : ℕ) where
  behind : List (List ℕ) → ℕ → Res (Option FunBody)
  behind xs p = (dec_expr deepest ▹ λ y. give (some (record { args = xs; expr = y }))) s p

  pub body_uncounted : (j : ℕ) → number 2 s at ≡ refuse j → refuse j ≡ walked (body_fault inputs) (body true s at)
  body_uncounted j e = rw e

  module _ (n p : ℕ) (e : number 2 s at ≡ got n p) where
    pub body_names_stop : (j : ℕ) → refuse j ≡ walked (each name_fault) (many [] ◌∷◌ name n s p) → refuse j ≡ walked (body_fault inputs) (body true s at)
    unfolding behind
    body_names_stop j u = rw e (stops (each name_fault) (body_fault inputs) (many [] ◌∷◌ name n s p) behind j u)

    pub body_walks : (q : ℕ) (f g h : Fault) (x w : Res Fault) → got f q ≡ walked (each name_fault) (many [] ◌∷◌ name n s p) → g ≡ arity_fault n inputs → h ≡ lower g f
        → x ≡ walked (expr_fault false) (dec_expr deepest s q) → w ≡ after h x → w ≡ walked (body_fault inputs) (body true s at)
    unfolding behind body_fault
    body_walks q f g h x w u i i' k k' =
        rw e (goes (each name_fault) (body_fault inputs) (many [] ◌∷◌ name n s p) behind q f w u (λ xs y m.
        last (expr_fault false) (body_fault inputs) (dec_expr deepest s q) (λ y. some (record { args = xs; expr = y })) h x w k k' (λ d r t.
        rw (i', i, ← m, many_size [] ◌∷◌ length refl (λ a r. refl) name s n p xs q y) (sym (lower_assoc (arity_fault n inputs) (each name_fault xs) (expr_fault false d))))))

-- a function behind its parameters
module _ (s : List ℕ) (at : ℕ) where
  from_inputs : Sorts → ℕ → Res FunDef
  from_inputs ins p = (dec_sort deepest ▹ λ out. flag ▹ λ b. body b ▹ λ o. give (record { name = []; params = 0; inputs = ins; output = out; body = o })) s p

  from_output : Sorts → Sort → ℕ → Res FunDef
  from_output ins out p = (flag ▹ λ b. body b ▹ λ o. give (record { name = []; params = 0; inputs = ins; output = out; body = o })) s p

  pub signature_uncounted : (j : ℕ) → number 2 s at ≡ refuse j → refuse j ≡ walked signature_fault (signature [] 0 s at)
  signature_uncounted j e = rw e

  module _ (n p : ℕ) (e : number 2 s at ≡ got n p) where
    from_count : (w : Res Fault) → w ≡ walked signature_fault (bind (many Sorts.none Sorts.more (dec_sort deepest) n s p) from_inputs) → w ≡ walked signature_fault (signature [] 0 s at)
    unfolding from_inputs
    from_count w h = rw e h

    pub signature_inputs_stop : (j : ℕ) → refuse j ≡ walked sorts_fault (many Sorts.none Sorts.more (dec_sort deepest) n s p) → refuse j ≡ walked signature_fault (signature [] 0 s at)
    signature_inputs_stop j u = from_count (refuse j) (stops sorts_fault signature_fault (many Sorts.none Sorts.more (dec_sort deepest) n s p) from_inputs j u)

    module _ (q : ℕ) (f : Fault) (u : got f q ≡ walked sorts_fault (many Sorts.none Sorts.more (dec_sort deepest) n s p)) where
      by_inputs : (w : Res Fault) → ((ins : Sorts) → sorts_fault ins ≡ f → sorts_number ins ≡ n → w ≡ walked signature_fault (bind (dec_sort deepest s q) (from_output ins)))
          → w ≡ walked signature_fault (signature [] 0 s at)
      unfolding from_inputs from_output
      by_inputs w h =
          from_count w (goes sorts_fault signature_fault (many Sorts.none Sorts.more (dec_sort deepest) n s p) from_inputs q f w u (λ ins y m.
          h ins m (many_size Sorts.none Sorts.more sorts_number refl (λ a r. refl) (dec_sort deepest) s n p ins q y)))

      pub signature_output_stops : (j : ℕ) → refuse j ≡ walked (sort_fault false) (dec_sort deepest s q) → refuse j ≡ walked signature_fault (signature [] 0 s at)
      signature_output_stops j i = by_inputs (refuse j) (λ ins y m. stops (sort_fault false) signature_fault (dec_sort deepest s q) (from_output ins) j i)

      module _ (r : ℕ) (g : Fault) (i : got g r ≡ walked (sort_fault false) (dec_sort deepest s q)) where
        by_output : (w : Res Fault) → ((ins : Sorts) (out : Sort) → sorts_fault ins ≡ f → sorts_number ins ≡ n → sort_fault false out ≡ g → w ≡ walked signature_fault (from_output ins out r))
            → w ≡ walked signature_fault (signature [] 0 s at)
        by_output w h = by_inputs w (λ ins y m. goes (sort_fault false) signature_fault (dec_sort deepest s q) (from_output ins) r g w i (λ out t z. h ins out y m z))

        pub signature_unflagged : (j : ℕ) → flag s r ≡ refuse j → refuse j ≡ walked signature_fault (signature [] 0 s at)
        unfolding from_output
        signature_unflagged j k = by_output (refuse j) (λ ins out y m z. rw k)

        pub signature_walks : (has : Bool) (t : ℕ) (h : Fault) (x w : Res Fault) → flag s r ≡ got has t → h ≡ lower f g → x ≡ walked (body_fault n) (body has s t) → w ≡ after h x
            → w ≡ walked signature_fault (signature [] 0 s at)
        unfolding from_output
        signature_walks has t h x w k l a a' =
            by_output w (λ ins out y m z. rw k (last (body_fault n) signature_fault (body has s t) (λ o. record { name = []; params = 0; inputs = ins; output = out; body = o }) h x w a a' (λ o d j.
            rw (l, ← y, ← z, m) (sym (lower_assoc (sorts_fault ins) (sort_fault false out) (body_fault n o))))))

-- a function's name makes no difference to the rest
alike : {A B : Type 0} (x : Res A) (k k' : A → ℕ → Res B) (f : Fault) (one two : B → Fault) → ((a : A) (q : ℕ) → walked one (k a q) ≡ after f (walked two (k' a q)))
    → walked one (bind x k) ≡ after f (walked two (bind x k'))
alike (got a q) k k' f one two h = h a q
alike (refuse j) k k' f one two h = refl

pub function_walks : (s : List ℕ) (at : ℕ) (y : List ℕ) (p n q : ℕ) (f : Fault) (v w : Res Fault) → name s at ≡ got y p → number 2 s p ≡ got n q → f ≡ name_fault y
    → v ≡ walked signature_fault (signature [] 0 s q) → w ≡ after f v → w ≡ walked function_fault (function s at)
unfolding function_fault
function_walks s at y p n q f v w a b e u u' =
    rw (a, b) (u' ∙ ap (after f) u ∙ sym (alike (counted Sorts.none Sorts.more (dec_sort deepest) s q) _ _ f function_fault signature_fault (λ ins q.
    alike (dec_sort deepest s q) _ _ f function_fault signature_fault (λ out r. alike (flag s r) _ _ f function_fault signature_fault (λ b t.
    alike (body b s t) _ _ f function_fault signature_fault (λ o y. ap (λ (z : Fault). got (lower z (lower (sorts_fault ins) (lower (sort_fault false out) (body_fault (sorts_number ins) o)))) y) (sym e)))))))
