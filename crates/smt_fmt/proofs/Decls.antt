-- What the steps of the writers of predicates and declarations add up to.
use Rattle.std.specs.Prelude.{Ok, Err}
use mathlib.Core.Path.{◌≡◌, refl, sym, ap, ◌∙◌}
use mathlib.Core.List.{List, [], ◌∷◌}
use Prim.Native.Nat.{ℕ, suc, ◌+◌, ◌-◌, ◌<◌, ◌≤◌}
use native.Mathlib.Numerals.{add-one}
use native.Mathlib.Omega.{arith}
use borrow.Author.Tests.{ne_eqb}
use Rattle.smtlib.specs.Lexicon.{bytes}
use Rattle.smtlib.specs.Compose.{decimal}
use Rattle.task.specs.declared.Refusal.{Refusal}
use Rattle.task.specs.declared.PredNode.{PredNode}
use Rattle.task.specs.declared.PredNode.TheVariants as pred_node
use Rattle.task.specs.Ast.{Sorts, Exprs, Pred}
use Rattle.task.specs.Decode.{Res, got, refuse, bind, number, many, name, binder, dec_sort, dec_expr, dec_pred, data_ctor, datatype, constant, function, kvar, deepest}
use Rattle.task.specs.Node.{Bytes, pred_of, PredAt}
use Rattle.task.specs.Refusals.{number_of}
use Rattle.task.proofs.Nodes.{pred_at}
use Rattle.smt_text.specs.Encoder.{Encoder}
use Rattle.smt_text.specs.Text.{spaced, sexp_list, write_name, write_parameter, write_sort, write_expr, write_pred, write_ctor, write_ctors, write_parameters, write_datatype_decl, write_const_decl, write_fun_def, write_kvar_decl}
use Rattle.output.specs.Emit.{Output, emit, emits, Sends}
use Rattle.output.proofs.Sent.{emits_append}
use Rattle.output.proofs.Sending.{sends_refused, sends_end, sends_then, sends_map, Row}
use Rattle.smt_sort.specs.Section.{sort_list, binders_text}
use Rattle.smt_fmt.specs.Items.{kvar_text, ctor_list, body_text, open_text, opening_text, SignatureSends}

-- a predicate by its node
module _ (enc : Encoder) (l : ℕ) (s : List ℕ) (at : ℕ) (o o' : Output) (r : ℕ) where
  pub pred_none : l ≡ 0 → Sends (write_pred enc) (dec_pred l s at) o o' r
  unfolding dec_pred
  pred_none e = rw e (sends_refused (write_pred enc) o o' r 3)

  module _ (z : l ≡ 0 → ⊥) where
    pub pred_refused : (k : Refusal) → PredAt s at (Err k) → Sends (write_pred enc) (dec_pred l s at) o o' r
    unfolding pred_of
    pred_refused k h = rw (pred_at l s at (Err k) (Err k) z h refl) (sends_refused (write_pred enc) o o' r (number_of k))

    module _ (node : PredNode) (p : ℕ) (h : PredAt s at (Ok (node, p))) where
      by_node : (node' : PredNode) → node ≡ node' → Sends (write_pred enc) (pred_of s (dec_expr (l - 1)) (Ok (node', p))) o o' r → Sends (write_pred enc) (dec_pred l s at) o o' r
      by_node node' e w = rw (pred_at l s at (Ok (node, p)) (Ok (node', p)) z h (ap (λ (n : PredNode). Ok (n, p)) e)) w

      pub kvar_arm : (x : Bytes) (n : ℕ) → node ≡ pred_node.KVar x n → Sends (kvar_text enc x.now) (many Exprs.none Exprs.more (dec_expr (l - 1)) n s p) o o' r
          → Sends (write_pred enc) (dec_pred l s at) o o' r
      unfolding pred_of write_pred kvar_text
      kvar_arm x n e w =
          by_node (pred_node.KVar x n) e (sends_map (write_pred enc) (Pred.kvar x.now) (many Exprs.none Exprs.more (dec_expr (l - 1)) n s p) o o' r w)

      pub expr_arm : node ≡ pred_node.Expr → Sends (write_expr enc) (dec_expr (l - 1) s p) o o' r → Sends (write_pred enc) (dec_pred l s at) o o' r
      unfolding pred_of write_pred
      expr_arm e w = by_node pred_node.Expr e (sends_map (write_pred enc) Pred.expr (dec_expr (l - 1) s p) o o' r w)

pub ctors_row : (enc : Encoder) → Row [] ◌∷◌ (write_ctor enc) (write_ctors enc)
ctors_row enc = record { none = refl; step = λ c cs. refl }

-- What begins with a name is refused without one.
pub no_name : {A : Type 0} (text : A → List ℕ) (s : List ℕ) (at : ℕ) (k : List ℕ → ℕ → Res A) (j : ℕ) (o o' : Output) (r : ℕ) → name s at ≡ refuse j
    → Sends text (bind (name s at) k) o o' r
no_name text s at k j o o' r h = rw h (sends_refused text o o' r j)

-- What has numbers behind a name is refused without them.
module _ (enc : Encoder) (s : List ℕ) (at : ℕ) (x : Bytes) (p : ℕ) (h : name s at ≡ got x.now p) (o o' : Output) (r : ℕ) where
  module _ (j : ℕ) (h' : number 2 s p ≡ refuse j) where
    pub ctor_uncounted : Sends (write_ctor enc) (data_ctor s at) o o' r
    ctor_uncounted = rw (h, h') (sends_refused (write_ctor enc) o o' r j)

    pub kvar_uncounted : Sends (write_kvar_decl enc) (kvar s at) o o' r
    kvar_uncounted = rw (h, h') (sends_refused (write_kvar_decl enc) o o' r j)

    pub datatype_unnumbered : Sends (write_datatype_decl enc) (datatype s at) o o' r
    datatype_unnumbered = rw (h, h') (sends_refused (write_datatype_decl enc) o o' r j)

    pub function_unnumbered : Sends (write_fun_def enc) (function s at) o o' r
    function_unnumbered = rw (h, h') (sends_refused (write_fun_def enc) o o' r j)

  module _ (n q : ℕ) (h' : number 2 s p ≡ got n q) (j : ℕ) (h'' : number 2 s q ≡ refuse j) where
    pub datatype_uncounted : Sends (write_datatype_decl enc) (datatype s at) o o' r
    datatype_uncounted = rw (h, h', h'') (sends_refused (write_datatype_decl enc) o o' r j)

    pub function_uncounted : Sends (write_fun_def enc) (function s at) o o' r
    function_uncounted = rw (h, h', h'') (sends_refused (write_fun_def enc) o o' r j)

-- a constructor with its fields
pub ctor_sends : (enc : Encoder) (s : List ℕ) (at : ℕ) (o : Output) (x : Bytes) (p n q : ℕ) (o1 o2 o3 o4 : Output) (r : ℕ) → name s at ≡ got x.now p → number 2 s p ≡ got n q
    → o1 ≡ emit o 40 → o2 ≡ emits o1 x.now → Sends (binders_text enc) (many [] ◌∷◌ (binder deepest) n s q) o2 o3 r → o4 ≡ emit o3 41
    → Sends (write_ctor enc) (data_ctor s at) o o4 r
unfolding write_name write_ctor binders_text emits
ctor_sends enc s at o x p n q o1 o2 o3 o4 r h h' e1 e2 w e4 =
    rw (h, h')
    (sends_then (write_ctor enc) o o4 r (binders_text enc) (many [] ◌∷◌ (binder deepest) n s q) _ o2 o3 r w (λ fs e u.
    sends_end (write_ctor enc) o o4 r (record { name = x.now; fields = fs }) r refl (rw (e4, u, e2, e1) (simp emits_append))))

-- constructors behind the parameters, if there are any
module _ (enc : Encoder) (s : List ℕ) (n p : ℕ) (o : Output) where
  pub no_parameters : (vars : ℕ) (o' : Output) (r : ℕ) → vars ≡ 0 → Sends (ctor_list enc) (many [] ◌∷◌ data_ctor n s p) o o' r
      → Sends (body_text enc vars) (many [] ◌∷◌ data_ctor n s p) o o' r
  unfolding body_text
  no_parameters vars o' r z w = rw z w

  pub parameters_sends : (vars : ℕ) (o1 o2 o3 o4 o5 : Output) (r : ℕ) → (vars ≡ 0 → ⊥) → o1 ≡ emits o (bytes "(par ") → o2 ≡ emits o1 (sexp_list (write_parameters 0 vars))
      → o3 ≡ emit o2 32 → Sends (ctor_list enc) (many [] ◌∷◌ data_ctor n s p) o3 o4 r → o5 ≡ emit o4 41
      → Sends (body_text enc vars) (many [] ◌∷◌ data_ctor n s p) o o5 r
  unfolding body_text Sends emits
  parameters_sends vars o1 o2 o3 o4 o5 r z e1 e2 e3 w e5 cs u e =
      let v = w cs u e in
      (v.0, rw (ne_eqb vars 0 z, e5, v.1, e3, e2, e1) (simp emits_append))

-- The loop over the parameters: those from i to n are left, o was sent so far; from 1 on they are all.
pub record Listing (n i : ℕ) (first o : Output) : Type 0 where
  pub left : emits o (spaced (write_parameters i (n - i))) ≡ emits first (spaced (write_parameters 1 (n - 1)))

module _ (n : ℕ) (first : Output) where
  pub list_start : Listing n 1 first first
  list_start = record { left = refl }

  pub list_more : (i : ℕ) (o o1 o2 : Output) (r : ℕ) → i < n → Listing n i first o → o1 ≡ emit o 32 → (r ≡ 0) × (o2 ≡ emits o1 (write_parameter i)) → Listing n (i + 1) first o2
  unfolding emits
  list_more i o o1 o2 r h l e1 w =
      let k : n - i ≡ suc (n - (i + 1)) = omega arith in
      let u : emits o (spaced (write_parameters i (suc (n - (i + 1))))) ≡ emits first (spaced (write_parameters 1 (n - 1))) = rw k at l.left in
      record {
        left = ap (λ (j : ℕ). emits o2 (spaced (write_parameters j (n - (i + 1))))) (add-one i)
            ∙ ap (λ (x : Output). emits x (spaced (write_parameters (suc i) (n - (i + 1))))) (w.1 ∙ ap (λ (x : Output). emits x (write_parameter i)) e1)
            ∙ sym (emits_append (emit o 32) (write_parameter i) (spaced (write_parameters (suc i) (n - (i + 1))))) ∙ u;
      }

  pub list_end : (i : ℕ) (before o o1 : Output) → (n ≡ 0 → ⊥) → n ≤ i → Listing n i first o → first ≡ emits before (bytes "(T0") → o1 ≡ emit o 41
      → o1 ≡ emits before (sexp_list (write_parameters 0 n))
  unfolding emits decimal
  list_end i before o o1 z h l e e1 =
      let k : n - i ≡ 0 = omega arith in
      let m : n ≡ suc (n - 1) = omega arith in
      let u : o ≡ emits first (spaced (write_parameters 1 (n - 1))) = rw k at l.left in
      rw m (rw (e1, u, e) (sym (emits_append (emits before (bytes "(T0")) (spaced (write_parameters 1 (n - 1))) (41 ∷ []))))

pub no_list : (n : ℕ) (o o' : Output) → n ≡ 0 → o' ≡ emits o (bytes "()") → o' ≡ emits o (sexp_list (write_parameters 0 n))
no_list n o o' z e = rw z e

-- a datatype
pub datatype_sends : (enc : Encoder) (s : List ℕ) (at : ℕ) (o : Output) (x : Bytes) (p vars q n t : ℕ) (o1 o2 o3 : Output) (r : ℕ) → name s at ≡ got x.now p → number 2 s p ≡ got vars q
    → number 2 s q ≡ got n t → o1 ≡ emits o (open_text x.now vars) → Sends (body_text enc vars) (many [] ◌∷◌ data_ctor n s t) o1 o2 r → o3 ≡ emits o2 (bytes "))\n")
    → Sends (write_datatype_decl enc) (datatype s at) o o3 r
unfolding write_datatype_decl body_text ctor_list open_text emits
datatype_sends enc s at o x p vars q n t o1 o2 o3 r h h' h'' e1 w e3 =
    rw (h, h', h'')
    (sends_then (write_datatype_decl enc) o o3 r (body_text enc vars) (many [] ◌∷◌ data_ctor n s t) _ o1 o2 r w (λ cs e u.
    sends_end (write_datatype_decl enc) o o3 r (record { name = x.now; vars = vars; ctors = cs }) r refl (rw (e3, u, e1) (simp emits_append))))

-- a constant
pub constant_sends : (enc : Encoder) (s : List ℕ) (at : ℕ) (o : Output) (x : Bytes) (p : ℕ) (o1 o2 o3 o4 o5 : Output) (q : ℕ) → name s at ≡ got x.now p
    → o1 ≡ emits o (bytes "(declare-const ") → o2 ≡ emits o1 x.now → o3 ≡ emit o2 32 → Sends (write_sort enc) (dec_sort deepest s p) o3 o4 q → o5 ≡ emits o4 (bytes ")\n")
    → Sends (write_const_decl enc) (constant s at) o o5 q
unfolding write_name write_const_decl emits
constant_sends enc s at o x p o1 o2 o3 o4 o5 q h e1 e2 e3 w e5 =
    rw h
    (sends_then (write_const_decl enc) o o5 q (write_sort enc) (dec_sort deepest s p) _ o3 o4 q w (λ b e u.
    sends_end (write_const_decl enc) o o5 q (record { name = x.now; sort = b }) q refl (rw (e5, u, e3, e2, e1) (simp emits_append))))

-- a name and sorts; a function of them
module _ (enc : Encoder) (s : List ℕ) (x : List ℕ) (n at : ℕ) (o : Output) where
  pub opening_sends : (o1 o2 o3 o4 o5 : Output) (q : ℕ) → o1 ≡ emits o (bytes "(declare-fun ") → o2 ≡ emits o1 x → o3 ≡ emit o2 32
      → Sends (sort_list enc) (many Sorts.none Sorts.more (dec_sort deepest) n s at) o3 o4 q → o5 ≡ emit o4 32
      → Sends (opening_text enc x) (many Sorts.none Sorts.more (dec_sort deepest) n s at) o o5 q
  unfolding write_name opening_text sort_list Sends emits
  opening_sends o1 o2 o3 o4 o5 q e1 e2 e3 w e5 bs u e =
      let v = w bs u e in
      (v.0, rw (e5, v.1, e3, e2, e1) (simp emits_append))

  pub signature_sends : (from : ℕ) (o1 o2 o3 : Output) (q r : ℕ) → Sends (opening_text enc x) (many Sorts.none Sorts.more (dec_sort deepest) n s at) o o1 q
      → Sends (write_sort enc) (dec_sort deepest s from) o1 o2 r → o3 ≡ emits o2 (bytes ")\n")
      → SignatureSends enc x (many Sorts.none Sorts.more (dec_sort deepest) n s at) (dec_sort deepest s from) o o3
  unfolding SignatureSends opening_text Sends emits
  signature_sends from o1 o2 o3 q r w w' e3 bs p b u e e' =
      let v = w bs p e in
      let v' = w' b u e' in
      rw (e3, v'.1, v.1) (simp emits_append)

-- a KVar
pub kvar_sends : (enc : Encoder) (s : List ℕ) (at : ℕ) (o : Output) (x : Bytes) (p n q : ℕ) (o1 o2 : Output) (r : ℕ) → name s at ≡ got x.now p → number 2 s p ≡ got n q
    → Sends (opening_text enc x.now) (many Sorts.none Sorts.more (dec_sort deepest) n s q) o o1 r → o2 ≡ emits o1 (bytes "Bool)\n") → Sends (write_kvar_decl enc) (kvar s at) o o2 r
unfolding write_kvar_decl opening_text emits
kvar_sends enc s at o x p n q o1 o2 r h h' w e2 =
    rw (h, h')
    (sends_then (write_kvar_decl enc) o o2 r (opening_text enc x.now) (many Sorts.none Sorts.more (dec_sort deepest) n s q) _ o o1 r w (λ bs e u.
    sends_end (write_kvar_decl enc) o o2 r (record { kvid = x.now; sorts = bs }) r refl (rw (e2, u) (simp emits_append))))
