-- What the steps of the walk over expressions add up to, with premises in the form in which the code's steps give them.
use Rattle.std.specs.Prelude.{Ok, Err, Option as Found, Some, None, is_some}
use mathlib.Core.Path.{◌≡◌, refl, sym, ap, ◌∙◌}
use mathlib.Core.Bool.{Bool, true, false}
use mathlib.Core.List.{List, [], ◌∷◌, ◌++◌, map}
use mathlib.Core.Option.{Option}
use Prim.Native.Nat.{ℕ, ◌+◌, ◌*◌, ◌-◌, ◌^◌, ◌≤◌, ◌<◌}
use native.Mathlib.Omega.{arith}
use lib.ListN.{length}
use Rattle.smtlib.specs.Lexicon.{is_one}
use Rattle.task.specs.declared.Fault.{Fault}
use Rattle.task.specs.declared.Fault.TheVariants.{Unknown, Sound}
use Rattle.task.specs.declared.Refusal.{Refusal}
use Rattle.task.specs.declared.Quantifier.TheVariants.{Forall}
use Rattle.task.specs.declared.ExprNode.{ExprNode}
use Rattle.task.specs.declared.ExprNode.TheVariants as expr_node
use Rattle.task.specs.Ast.{Sort, Binder, Constant, Expr, Exprs}
use Rattle.task.specs.Covers.{Covers}
use Rattle.task.specs.Decode.{Res, got, refuse, give, ◌▹◌, number, many, counted, name, binder, given, dec_expr}
use Rattle.task.specs.Fault.{lower, each, binder_fault, given_fault}
use Rattle.task.specs.Scope.{known_fault, expr_scope}
use Rattle.task.specs.Node.{expr_of, ExprBehind, ExprAt}
use Rattle.task.specs.Refusals.{number_of}
use Rattle.task.proofs.Judging.{sound_lower}
use Rattle.task.proofs.Nodes.{expr_at}
use Rattle.task.proofs.Covering.{forward, covers_many, covers_number}
use Rattle.task.proofs.Pieces.{each_covers, wide_names, givens}
use Rattle.item_check.proofs.Walks.{many_size}
use Rattle.task_check.specs.Walk.{walked, after, applied, quantified}
use Rattle.task_check.proofs.Rows.{Fold, after_sound, next_is}
use Rattle.task_check.proofs.Exprs.{alike, stops, goes, lasts, leaf, unary, binary, ternary, nary}
use Rattle.names.specs.declared.Kind.TheVariants.{Bound}
use Rattle.names.specs.Table.{entries, last_of, fits, names_of}
use Rattle.names.specs.Theorems.{is_found}
use Rattle.names.specs.Change.{Pushed, Popped, Restored}
use Rattle.names.proofs.Theorems.{members, restored_all, restored_both, scope_ends}
use Rattle.declared.specs.Symbols.{named, row_symbols}
use Rattle.declared.specs.Gather.{Collects}
use Rattle.declared.proofs.Counting.{binders_wide}
use Rattle.scope.specs.declared.ScopeParts.{ScopeParts}
use Rattle.scope.specs.declared.ScopeParts.TheVariants as scope_parts_is
use Rattle.scope.specs.Known.{ctors_in, vars_in, expr_in, exprs_in, Space}
use Rattle.scope.specs.Walk.{scope_parts, let_form}
use Rattle.scope.proofs.Tables.{space_on, space_kept, walked_on, vars_kept, ctors_kept, vars_more, ctors_more, bound_one, bound_all, row_few, row_bound, row_space, row_ends}

-- A NAME

found_is : (f : Found ℕ) → is_some f ≡ is_found f
found_is (Some k) = refl
found_is None = refl

-- it is found in the table exactly if it is known
module _ (s table x : List ℕ) (lowest highest : ℕ) (f : Found ℕ) (u : f ≡ last_of (fits x lowest highest) (entries s table)) where
  pub found_one : is_some f ≡ is_one x (names_of lowest highest (entries s table))
  found_one = found_is f ∙ ap is_found u ∙ members x lowest highest (entries s table)

  module _ (b : Bool) (e : b ≡ is_some f) where
    pub name_known : b ≡ true → Sound ≡ known_fault (names_of lowest highest (entries s table)) x
    unfolding known_fault
    name_known t = let z : is_one x (names_of lowest highest (entries s table)) ≡ true = sym found_one ∙ sym e ∙ t in rw z

    pub name_unknown : b ≡ false → Unknown ≡ known_fault (names_of lowest highest (entries s table)) x
    unfolding known_fault
    name_unknown t = let z : is_one x (names_of lowest highest (entries s table)) ≡ false = sym found_one ∙ sym e ∙ t in rw z

-- AN EXPRESSION BY ITS NODE

pub exprs_fold : (s t : List ℕ) → Fold Exprs.none Exprs.more (expr_in s t) (exprs_in s t)
unfolding expr_scope
exprs_fold s t = record { none = refl; step = λ e es. refl }

-- the walk of what a node at `at` leaves, which stands from p on
abbrev walk_parts : List ℕ → List ℕ → ℕ → ℕ → ℕ → ScopeParts → Res Fault
walk_parts s t l at p (scope_parts_is.Row n f) = after f (walked (exprs_in s t) (many Exprs.none Exprs.more (dec_expr l) n s p))
walk_parts s t l at p (scope_parts_is.App b) = walked (expr_in s t) (applied l b s p)
walk_parts s t l at p scope_parts_is.Let = walked (expr_in s t) (let_form l s (at + 1))
walk_parts s t l at p (scope_parts_is.Quantifier n) = walked (expr_in s t) (quantified l n s p)

-- it stands behind the code
abbrev Behind : List ℕ → ℕ → ℕ → ScopeParts → Type 0
Behind s at p (scope_parts_is.Row n f) = at ≤ p
Behind s at p (scope_parts_is.App b) = at ≤ p
Behind s at p scope_parts_is.Let = at + 1 < length s
Behind s at p (scope_parts_is.Quantifier n) = at ≤ p

module _ (s t : List ℕ) (l at : ℕ) where
  two : (k : Expr → Expr → Expr) (p : ℕ) → ((a b : Expr) → expr_in s t (k a b) ≡ lower (expr_in s t a) (expr_in s t b))
      → walked (expr_in s t) ((dec_expr l ▹ λ a. dec_expr l ▹ λ b. give (k a b)) s p) ≡ walk_parts s t l at p (scope_parts_is.Row 2 Sound)
  two k p h = binary (exprs_fold s t) (expr_in s t) s l k Sound p (λ a b. h a b ∙ sym (sound_lower (lower (expr_in s t a) (expr_in s t b))))

  node_walks : (n : ExprNode) (p : ℕ) → ExprBehind s (at + 1) (Ok (n, p)) → walked (expr_in s t) (expr_of s l (dec_expr l) (Ok (n, p))) ≡ walk_parts s t l at p (scope_parts s t n)
  unfolding expr_of expr_scope
  node_walks (expr_node.Numeral lo hi) p h = leaf (exprs_fold s t) (expr_in s t) s l (Expr.constant (Constant.numeral (lo + 2 ^ 64 * hi))) Sound p refl
  node_walks (expr_node.Boolean b) p h = leaf (exprs_fold s t) (expr_in s t) s l (Expr.constant (Constant.boolean b)) Sound p refl
  node_walks (expr_node.Real n) p h = leaf (exprs_fold s t) (expr_in s t) s l (Expr.constant (Constant.real n)) Sound p refl
  node_walks (expr_node.String x) p h = leaf (exprs_fold s t) (expr_in s t) s l (Expr.constant (Constant.string x.now)) Sound p refl
  node_walks (expr_node.BitVec lo hi w) p h = leaf (exprs_fold s t) (expr_in s t) s l (Expr.constant (Constant.bit_vec (lo + 2 ^ 64 * hi) w)) Sound p refl
  node_walks (expr_node.Var x) p h = leaf (exprs_fold s t) (expr_in s t) s l (Expr.var x.now) (known_fault (vars_in s t) x.now) p refl
  node_walks expr_node.WKVar p h = leaf (exprs_fold s t) (expr_in s t) s l Expr.wk_var Sound p refl
  node_walks expr_node.Neg p h = unary (exprs_fold s t) (expr_in s t) s l Expr.neg Sound p (λ a. sym (sound_lower (expr_in s t a)))
  node_walks expr_node.Not p h = unary (exprs_fold s t) (expr_in s t) s l Expr.not Sound p (λ a. sym (sound_lower (expr_in s t a)))
  node_walks (expr_node.BinaryOp o) p h = two (Expr.binary_op o) p (λ a b. refl)
  node_walks (expr_node.Atom r) p h = two (Expr.atom r) p (λ a b. refl)
  node_walks expr_node.Imp p h = two Expr.imp p (λ a b. refl)
  node_walks expr_node.Iff p h = two Expr.iff p (λ a b. refl)
  node_walks (expr_node.And n) p h = nary (exprs_fold s t) (expr_in s t) s l Expr.and n p (λ es. refl)
  node_walks (expr_node.Or n) p h = nary (exprs_fold s t) (expr_in s t) s l Expr.or n p (λ es. refl)
  node_walks expr_node.IfThenElse p h =
      ternary (exprs_fold s t) (expr_in s t) s l Expr.if_then_else Sound p (λ a b c. sym (sound_lower (lower (expr_in s t a) (lower (expr_in s t b) (expr_in s t c)))))
  node_walks (expr_node.Let x) p h = rw h
  node_walks (expr_node.App b) p h = refl
  node_walks (expr_node.ThyFunc f) p h = leaf (exprs_fold s t) (expr_in s t) s l (Expr.thy_func f) Sound p refl
  node_walks (expr_node.IsCtor x) p h = unary (exprs_fold s t) (expr_in s t) s l (Expr.is_ctor x.now) (known_fault (ctors_in s t) x.now) p (λ a. refl)
  node_walks (expr_node.Quantifier q n) p h =
      alike (many [] ◌∷◌ (binder l) n s p) _ _ (expr_in s t) (expr_in s t) (λ bs r. alike (dec_expr l s r) _ _ (expr_in s t) (expr_in s t) (λ e z. refl))

  node_behind : (n : ExprNode) (p : ℕ) → ExprBehind s (at + 1) (Ok (n, p)) → Behind s at p (scope_parts s t n)
  node_behind (expr_node.Numeral lo hi) p h = omega arith
  node_behind (expr_node.Boolean b) p h = omega arith
  node_behind (expr_node.Real n) p h = omega arith
  node_behind (expr_node.String x) p h = omega arith
  node_behind (expr_node.BitVec lo hi w) p h = omega arith
  node_behind (expr_node.Var x) p h = omega arith
  node_behind expr_node.WKVar p h = omega arith
  node_behind expr_node.Neg p h = omega arith
  node_behind expr_node.Not p h = omega arith
  node_behind (expr_node.BinaryOp o) p h = omega arith
  node_behind (expr_node.Atom r) p h = omega arith
  node_behind expr_node.Imp p h = omega arith
  node_behind expr_node.Iff p h = omega arith
  node_behind (expr_node.And n) p h = omega arith
  node_behind (expr_node.Or n) p h = omega arith
  node_behind expr_node.IfThenElse p h = omega arith
  node_behind (expr_node.Let x) p h = let y = wide_names.covered s (at + 1) x.now p h in let r = y.room in let e = y.end in let i = y.inside (omega arith) in omega arith
  node_behind (expr_node.App b) p h = omega arith
  node_behind (expr_node.ThyFunc f) p h = omega arith
  node_behind (expr_node.IsCtor x) p h = omega arith
  node_behind (expr_node.Quantifier q n) p h = omega arith

pub expr_none : (s t : List ℕ) (l at : ℕ) → l ≡ 0 → Space s t at → (refuse 3 ≡ walked (expr_in s t) (dec_expr l s at)) × Restored s t t
unfolding dec_expr
expr_none s t l at e c = (rw e, restored_all s t c.chained)

module _ (s t : List ℕ) (l at : ℕ) (z : l ≡ 0 → ⊥) where
  pub expr_refused : (r : Refusal) → ExprAt s at (Err r) → Space s t at → (refuse (number_of r) ≡ walked (expr_in s t) (dec_expr l s at)) × Restored s t t
  unfolding expr_of
  expr_refused r h c = (ap (walked (expr_in s t)) (sym (expr_at l s at (Err r) (Err r) z h refl)), restored_all s t c.chained)

  module _ (node : ExprNode) (p : ℕ) (h : ExprAt s at (Ok (node, p))) where
    by_parts : (parts : ScopeParts) → parts ≡ scope_parts s t node → walk_parts s t (l - 1) at p parts ≡ walked (expr_in s t) (dec_expr l s at)
    by_parts parts e =
        ap (walk_parts s t (l - 1) at p) e ∙ sym (node_walks s t (l - 1) at node p h.behind)
        ∙ ap (walked (expr_in s t)) (sym (expr_at l s at (Ok (node, p)) (Ok (node, p)) z h refl))

    by_behind : (parts : ScopeParts) → parts ≡ scope_parts s t node → Behind s at p parts
    by_behind parts e = rw e (node_behind s t l at node p h.behind)

    pub row_space_on : (n : ℕ) (f : Fault) → scope_parts_is.Row n f ≡ scope_parts s t node → Space s t at → Space s t p
    row_space_on n f e c = space_on s t at p c (by_behind (scope_parts_is.Row n f) e)

    pub app_space_on : (b : Bool) → scope_parts_is.App b ≡ scope_parts s t node → Space s t at → Space s t p
    app_space_on b e c = space_on s t at p c (by_behind (scope_parts_is.App b) e)

    pub quantifier_space_on : (n : ℕ) → scope_parts_is.Quantifier n ≡ scope_parts s t node → Space s t at → Space s t p
    quantifier_space_on n e c = space_on s t at p c (by_behind (scope_parts_is.Quantifier n) e)

    pub let_inside : scope_parts_is.Let ≡ scope_parts s t node → at + 1 < length s
    let_inside e = by_behind scope_parts_is.Let e

    pub expr_row : (n : ℕ) (f : Fault) (v w : Res Fault) (u : List ℕ) → scope_parts_is.Row n f ≡ scope_parts s t node
        → (v ≡ walked (exprs_in s t) (many Exprs.none Exprs.more (dec_expr (l - 1)) n s p)) × Restored s t u → w ≡ after f v
        → (w ≡ walked (expr_in s t) (dec_expr l s at)) × Restored s t u
    expr_row n f v w u e k m = (m ∙ ap (after f) k.0 ∙ by_parts (scope_parts_is.Row n f) e, k.1)

    pub expr_app : (b : Bool) (w : Res Fault) (u : List ℕ) → scope_parts_is.App b ≡ scope_parts s t node → (w ≡ walked (expr_in s t) (applied (l - 1) b s p)) × Restored s t u
        → (w ≡ walked (expr_in s t) (dec_expr l s at)) × Restored s t u
    expr_app b w u e k = (k.0 ∙ by_parts (scope_parts_is.App b) e, k.1)

    pub expr_let : (w : Res Fault) (u : List ℕ) → scope_parts_is.Let ≡ scope_parts s t node → (w ≡ walked (expr_in s t) (let_form (l - 1) s (at + 1))) × Restored s t u
        → (w ≡ walked (expr_in s t) (dec_expr l s at)) × Restored s t u
    expr_let w u e k = (k.0 ∙ by_parts scope_parts_is.Let e, k.1)

    pub expr_quantifier : (n : ℕ) (w : Res Fault) (u : List ℕ) → scope_parts_is.Quantifier n ≡ scope_parts s t node → (w ≡ walked (expr_in s t) (quantified (l - 1) n s p)) × Restored s t u
        → (w ≡ walked (expr_in s t) (dec_expr l s at)) × Restored s t u
    expr_quantifier n w u e k = (k.0 ∙ by_parts (scope_parts_is.Quantifier n) e, k.1)

pub let_space_on : (s t : List ℕ) (at : ℕ) → Space s t at → Space s t (at + 1) × (3 * length (entries s t) < at + 1)
let_space_on s t at c = let r = c.room in (space_on s t at (at + 1) c (omega arith), omega arith)

-- AN APPLICATION

module _ (s t : List ℕ) (l : ℕ) (b : Bool) (at : ℕ) (c : Space s t at) where
  pub app_stops : (j : ℕ) → refuse j ≡ walked given_fault (given l b s at) → (refuse j ≡ walked (expr_in s t) (applied l b s at)) × Restored s t t
  app_stops j e =
      (stops given_fault (expr_in s t) (given l b s at) (λ o p. (dec_expr l ▹ λ h. counted Exprs.none Exprs.more (dec_expr l) ▹ λ es. give (Expr.app h es o)) s p) j e, restored_all s t c.chained)

  module _ (f : Fault) (p : ℕ) (e : got f p ≡ walked given_fault (given l b s at)) where
    pub app_head_space : Space s t p
    app_head_space = space_on s t at p c (walked_on given_fault (given l b) (givens l b) s at p f e)

    -- by the output sort
    onward : (w : Res Fault) → ((o : Option Sort) → w ≡ walked (expr_in s t) ((dec_expr l ▹ λ h. counted Exprs.none Exprs.more (dec_expr l) ▹ λ es. give (Expr.app h es o)) s p))
        → w ≡ walked (expr_in s t) (applied l b s at)
    onward w h =
        goes given_fault (expr_in s t) (given l b s at) (λ o p. (dec_expr l ▹ λ h. counted Exprs.none Exprs.more (dec_expr l) ▹ λ es. give (Expr.app h es o)) s p) p f w e (λ o i g. h o)

    pub app_head_stops : (j : ℕ) (u : List ℕ) → (refuse j ≡ walked (expr_in s t) (dec_expr l s p)) × Restored s t u → (refuse j ≡ walked (expr_in s t) (applied l b s at)) × Restored s t u
    app_head_stops j u k =
        (onward (refuse j) (λ o. stops (expr_in s t) (expr_in s t) (dec_expr l s p) (λ h q. (counted Exprs.none Exprs.more (dec_expr l) ▹ λ es. give (Expr.app h es o)) s q) j k.0), k.1)

    module _ (g : Fault) (q : ℕ) (u : List ℕ) (k : (got g q ≡ walked (expr_in s t) (dec_expr l s p)) × Restored s t u) where
      pub app_count_stops : (j : ℕ) → number 2 s q ≡ refuse j → (refuse j ≡ walked (expr_in s t) (applied l b s at)) × Restored s t u
      app_count_stops j i = (
        onward (refuse j) (λ o. goes (expr_in s t) (expr_in s t) (dec_expr l s p) (λ h q. (counted Exprs.none Exprs.more (dec_expr l) ▹ λ es. give (Expr.app h es o)) s q) q g (refuse j) k.0
            (λ h y z. rw i)),
        k.1,
      )

      module _ (n r : ℕ) (i : number 2 s q ≡ got n r) where
        pub app_rest_space : Space s u r
        app_rest_space =
            let a = walked_on (expr_in s t) (dec_expr l) (each_covers.exprs l) s p q g k.0 in
            let d = forward (number 2) (covers_number 2) s q n r i in
            space_on s u p r (space_kept s t u p app_head_space k.1) (omega arith)

        pub app_walks : (x w : Res Fault) (u2 : List ℕ) → (x ≡ walked (exprs_in s u) (many Exprs.none Exprs.more (dec_expr l) n s r)) × Restored s u u2 → w ≡ after g x
            → (w ≡ walked (expr_in s t) (applied l b s at)) × Restored s t u2
        unfolding expr_scope
        app_walks x w u2 a a' =
            let all_kept : exprs_in s u ≡ exprs_in s t = rw (vars_kept s t u k.1.are, ctors_kept s t u k.1.are) in (
              onward w (λ o. goes (expr_in s t) (expr_in s t) (dec_expr l s p) (λ h q. (counted Exprs.none Exprs.more (dec_expr l) ▹ λ es. give (Expr.app h es o)) s q) q g w k.0
                  (λ h y z. rw i (a' ∙ ap (after g) (a.0 ∙ ap (λ (o : Exprs → Fault). walked o (many Exprs.none Exprs.more (dec_expr l) n s r)) all_kept)
                  ∙ lasts (exprs_in s t) (expr_in s t) (many Exprs.none Exprs.more (dec_expr l) n s r) (λ es. Expr.app h es o) g (λ es. rw (← z))))),
              restored_both s t u u2 k.1 a.1,
            )

-- A LET

module _ (s t : List ℕ) (l at : ℕ) (c : Space s t at × (3 * length (entries s t) < at)) where
  pub let_unnamed : (j : ℕ) → name s at ≡ refuse j → (refuse j ≡ walked (expr_in s t) (let_form l s at)) × Restored s t t
  let_unnamed j e = (rw e, restored_all s t c.0.chained)

  module _ (y : List ℕ) (p : ℕ) (e : name s at ≡ got y p) where
    pub let_first_space : Space s t p
    let_first_space = space_on s t at p c.0 (forward name wide_names s at y p e)

    -- behind the name
    from_name : (w : Res Fault) → w ≡ walked (expr_in s t) ((dec_expr l ▹ λ a. dec_expr l ▹ λ b. give (Expr.let_in y a b)) s p) → w ≡ walked (expr_in s t) (let_form l s at)
    from_name w h = rw e h

    pub let_first_stops : (j : ℕ) (u : List ℕ) → (refuse j ≡ walked (expr_in s t) (dec_expr l s p)) × Restored s t u → (refuse j ≡ walked (expr_in s t) (let_form l s at)) × Restored s t u
    let_first_stops j u k = (from_name (refuse j) (stops (expr_in s t) (expr_in s t) (dec_expr l s p) (λ a q. (dec_expr l ▹ λ b. give (Expr.let_in y a b)) s q) j k.0), k.1)

    module _ (f : Fault) (q : ℕ) (u : List ℕ) (k : (got f q ≡ walked (expr_in s t) (dec_expr l s p)) × Restored s t u) (u2 : List ℕ) (w : Pushed s u at 6 u2) where
      pushed_one : (entries s u2 ≡ entries s u ++ bound_all (y ∷ [])) × Space s u2 p
      pushed_one =
          let r = wide_names.covered s at y p e in
          let n = r.room in
          let o = r.end in
          bound_one s u u2 at y p (space_kept s t u at c.0 k.1) (rw k.1.are c.1) e (omega arith) (r.inside (omega arith)) w

      pub let_second_space : Space s u2 q
      let_second_space = space_on s u2 p q pushed_one.1 (walked_on (expr_in s t) (dec_expr l) (each_covers.exprs l) s p q f k.0)

      pub let_walks : (v r : Res Fault) (u3 u4 : List ℕ) → (v ≡ walked (expr_in s u2) (dec_expr l s q)) × Restored s u2 u3 → Popped s u3 1 u4 → r ≡ after f v
          → (r ≡ walked (expr_in s t) (let_form l s at)) × Restored s t u4
      unfolding expr_scope
      let_walks v r u3 u4 a o m =
          let vs : vars_in s u2 ≡ vars_in s t ++ (y ∷ []) = vars_more s u u2 (y ∷ []) pushed_one.0 ∙ ap (λ (ws : List (List ℕ)). ws ++ (y ∷ [])) (vars_kept s t u k.1.are) in
          let cs : ctors_in s u2 ≡ ctors_in s t = ctors_more s u u2 (y ∷ []) pushed_one.0 ∙ ctors_kept s t u k.1.are in
          let body : expr_in s u2 ≡ expr_scope (ctors_in s t) (vars_in s t ++ (y ∷ [])) = rw (vs, cs) in (
            from_name r (goes (expr_in s t) (expr_in s t) (dec_expr l s p) (λ a q. (dec_expr l ▹ λ b. give (Expr.let_in y a b)) s q) q f r k.0
                (λ g j d. m ∙ ap (after f) (a.0 ∙ ap (λ (g' : Expr → Fault). walked g' (dec_expr l s q)) body)
                ∙ lasts (expr_scope (ctors_in s t) (vars_in s t ++ (y ∷ []))) (expr_in s t) (dec_expr l s q) (Expr.let_in y g) f (λ b. rw (← d)))),
            restored_both s t u u4 k.1 (scope_ends s u u2 u3 u4 (bound_all (y ∷ [])) 1 pushed_one.0 refl w.kept w.words a.1 o),
          )

-- A QUANTIFIER

rows_wide : (l n : ℕ) → Covers (λ bs. 3 * length bs) (many [] ◌∷◌ (binder l) n)
rows_wide l n = covers_many (λ bs. 3 * length bs) (λ b. 3) [] ◌∷◌ (binder l) (omega arith) (λ b bs. omega arith) (binders_wide l) n

module _ (s t : List ℕ) (l n at : ℕ) (c : Space s t at) where
  pub quantifier_stops : (j : ℕ) → refuse j ≡ walked (each binder_fault) (many [] ◌∷◌ (binder l) n s at) → (refuse j ≡ walked (expr_in s t) (quantified l n s at)) × Restored s t t
  quantifier_stops j e =
      (stops (each binder_fault) (expr_in s t) (many [] ◌∷◌ (binder l) n s at) (λ bs p. (dec_expr l ▹ λ b. give (Expr.quantifier Forall bs b)) s p) j e, restored_all s t c.chained)

  module _ (f : Fault) (p : ℕ) (e : got f p ≡ walked (each binder_fault) (many [] ◌∷◌ (binder l) n s at)) (u : List ℕ) (r : ℕ) (w : Collects (row_symbols (named Bound)) (many [] ◌∷◌ (binder l) n s at) s t u r) where
    -- what it binds
    module _ (bs : List Binder) (g : many [] ◌∷◌ (binder l) n s at ≡ got bs p) where
      many_are : length bs ≡ n
      many_are = many_size [] ◌∷◌ length refl (λ a r. refl) (binder l) s n at bs p g

      roomy : 3 * (length (entries s t) + n) ≤ p
      roomy =
          let y = (rows_wide l n).covered s at bs p g in
          let m = y.room in
          let o = y.end in
          let k = many_are in
          let q = c.room in
          omega arith

      few : 3 * (length (entries s t) + n) ≤ length s
      few =
          let y = (rows_wide l n).covered s at bs p g in
          let m = y.room in
          let j = many_are in
          row_few n (length (entries s t)) p (length s) c.few (λ h. y.inside (omega arith)) roomy

      body_space : Space s u p
      body_space = row_space (λ b. b.name) (binder l) s t u n at r bs p g w c.short c.words roomy few

      in_body : expr_in s u ≡ expr_scope (ctors_in s t) (vars_in s t ++ map (λ b. b.name) bs)
      in_body =
          let h = row_bound (λ b. b.name) (binder l) s t u n at r bs p g w c.short c.words roomy few in
          rw (vars_more s t u (map (λ b. b.name) bs) h, ctors_more s t u (map (λ b. b.name) bs) h)

      behind : (u3 u4 : List ℕ) → Restored s u u3 → Popped s u3 n u4 → Restored s t u4
      behind u3 u4 a o = row_ends (λ b. b.name) (binder l) s t u n at r bs p g w c.short c.words roomy few u3 u4 a o

    pub quantifier_space : Space s u p
    quantifier_space = let y = next_is (each binder_fault) (many [] ◌∷◌ (binder l) n s at) p f e in body_space y.value y.is

    pub quantifier_walks : (x : Res Fault) (u3 u4 : List ℕ) → (x ≡ walked (expr_in s u) (dec_expr l s p)) × Restored s u u3 → Popped s u3 n u4
        → (x ≡ walked (expr_in s t) (quantified l n s at)) × Restored s t u4
    unfolding expr_scope
    quantifier_walks x u3 u4 a o =
        let y = next_is (each binder_fault) (many [] ◌∷◌ (binder l) n s at) p f e in (
          goes (each binder_fault) (expr_in s t) (many [] ◌∷◌ (binder l) n s at) (λ bs p. (dec_expr l ▹ λ b. give (Expr.quantifier Forall bs b)) s p) p f x e
              (λ bs g m. a.0 ∙ ap (λ (o' : Expr → Fault). walked o' (dec_expr l s p)) (in_body bs g)
              ∙ sym (after_sound (walked (expr_scope (ctors_in s t) (vars_in s t ++ map (λ b. b.name) bs)) (dec_expr l s p)))
              ∙ lasts (expr_scope (ctors_in s t) (vars_in s t ++ map (λ b. b.name) bs)) (expr_in s t) (dec_expr l s p) (Expr.quantifier Forall bs) Sound (λ b. sym (sound_lower (expr_scope (ctors_in s t) (vars_in s t ++ map (λ b. b.name) bs) b)))),
          behind y.value y.is u3 u4 a.1 o,
        )
