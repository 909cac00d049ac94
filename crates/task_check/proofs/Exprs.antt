-- What the steps of the expression walkers add up to, with premises in the form in which the code's steps give them.
use Rattle.std.specs.Prelude.{Ok, Err}
use mathlib.Core.Path.{◌≡◌, refl, sym, ap, ◌∙◌}
use mathlib.Core.Bool.{Bool, true, false}
use mathlib.Core.List.{List, [], ◌∷◌}
use mathlib.Core.Option.{Option, none, some}
use Prim.Native.Nat.{ℕ, ◌+◌, ◌-◌, ◌*◌, ◌^◌}
use native.Mathlib.Omega.{arith}
use Rattle.task.specs.declared.Fault.{Fault}
use Rattle.task.specs.declared.Fault.TheVariants.{Sound, WKVar}
use Rattle.task.specs.declared.Quantifier.TheVariants.{Forall}
use Rattle.task.specs.declared.ExprNode.{ExprNode}
use Rattle.task.specs.declared.ExprNode.TheVariants as expr_node
use Rattle.task.specs.Ast.{Sort, Constant, Expr, Exprs}
use Rattle.task.specs.Decode.{Res, got, refuse, bind, give, ◌▹◌, number, many, counted, name, binder, given, dec_sort, dec_expr}
use Rattle.task.specs.Fault.{lower, each, name_fault, sort_fault, binder_fault, is_given, given_fault, expr_fault, exprs_fault}
use Rattle.task.specs.declared.Refusal.{Refusal}
use Rattle.task.specs.Node.{expr_of, ExprAt}
use Rattle.task.specs.Refusals.{number_of}
use Rattle.task.proofs.Judging.{lower_assoc, sound_lower}
use Rattle.task.proofs.Nodes.{expr_at}
use Rattle.task_check.specs.declared.ExprParts.{ExprParts}
use Rattle.task_check.specs.declared.ExprParts.TheVariants as expr_parts_is
use Rattle.task_check.specs.Walk.{walked, after, expr_parts, applied, quantified}
use Rattle.task_check.proofs.Rows.{after_sound, after_after, Fold, next_is, refused_is, row_step, row_stop, row_all}

pub exprs_fold : Fold Exprs.none Exprs.more (expr_fault false) exprs_fault
unfolding expr_fault exprs_fault
exprs_fold = record { none = refl; step = λ e es. refl }

-- a list's fault
pub each_fold : {A : Type 0} (one : A → Fault) → Fold [] ◌∷◌ one (each one)
each_fold one = record { none = refl; step = λ a rest. refl }

-- what follows a piece has the same faults in two ways of telling them
pub alike : {A B : Type 0} (x : Res A) (k k' : A → ℕ → Res B) (f f' : B → Fault) → ((a : A) (q : ℕ) → walked f (k a q) ≡ walked f' (k' a q))
    → walked f (bind x k) ≡ walked f' (bind x k')
alike (got a q) k k' f f' h = h a q
alike (refuse j) k k' f f' h = refl

-- a piece that is refused, and a piece with what follows it
module _ {A B : Type 0} (one : A → Fault) (whole : B → Fault) (x : Res A) (k : A → ℕ → Res B) where
  pub stops : (j : ℕ) → refuse j ≡ walked one x → refuse j ≡ walked whole (bind x k)
  stops j e = sym (ap (λ (y : Res A). walked whole (bind y k)) (refused_is one x j e))

  pub goes : (q : ℕ) (g : Fault) (w : Res Fault) → got g q ≡ walked one x → ((a : A) → x ≡ got a q → one a ≡ g → w ≡ walked whole (k a q))
      → w ≡ walked whole (bind x k)
  goes q g w e h =
      let y = next_is one x q g e in
      h y.value y.is y.fault ∙ sym (ap (λ (z : Res A). walked whole (bind z k)) y.is)

-- the last piece, whose answer is put behind the faults before
pub lasts : {A B : Type 0} (one : A → Fault) (whole : B → Fault) (x : Res A) (k : A → B) (f : Fault) → ((a : A) → whole (k a) ≡ lower f (one a))
    → after f (walked one x) ≡ walked whole (bind x (λ a q. got (k a) q))
lasts one whole (got a q) k f h = ap (λ (z : Fault). got z q) (sym (h a))
lasts one whole (refuse j) k f h = refl

-- the walk of what a node leaves
abbrev walk_parts : List ℕ → ℕ → ℕ → ExprParts → Res Fault
walk_parts s l p (expr_parts_is.Row n f) = after f (walked exprs_fault (many Exprs.none Exprs.more (dec_expr l) n s p))
walk_parts s l p (expr_parts_is.App b) = walked (expr_fault false) (applied l b s p)
walk_parts s l p (expr_parts_is.Quantifier n) = walked (expr_fault false) (quantified l n s p)

-- an expression by its operands in a row: `one` is the fault of an operand, `all` that of operands in a row, `whole` that of the expression
module _ {one : Expr → Fault} {all : Exprs → Fault} (fold : Fold Exprs.none Exprs.more one all) (whole : Expr → Fault) (s : List ℕ) (l : ℕ) where
  pub leaf : (e : Expr) (f : Fault) (p : ℕ) → whole e ≡ f → walked whole (got e p) ≡ after f (walked all (many Exprs.none Exprs.more (dec_expr l) 0 s p))
  leaf e f p h = row_stop fold (dec_expr l) s whole f e p h

  pub unary : (k : Expr → Expr) (f : Fault) (p : ℕ) → ((a : Expr) → whole (k a) ≡ lower f (one a))
      → walked whole ((dec_expr l ▹ λ a. give (k a)) s p) ≡ after f (walked all (many Exprs.none Exprs.more (dec_expr l) 1 s p))
  unary k f p h =
      row_step fold (dec_expr l) s whole f (λ a. give (k a)) 0 p (λ a q.
      row_stop fold (dec_expr l) s whole (lower f (one a)) (k a) q (h a))

  pub binary : (k : Expr → Expr → Expr) (f : Fault) (p : ℕ) → ((a b : Expr) → whole (k a b) ≡ lower f (lower (one a) (one b)))
      → walked whole ((dec_expr l ▹ λ a. dec_expr l ▹ λ b. give (k a b)) s p) ≡ after f (walked all (many Exprs.none Exprs.more (dec_expr l) 2 s p))
  binary k f p h =
      row_step fold (dec_expr l) s whole f (λ a. dec_expr l ▹ λ b. give (k a b)) 1 p (λ a q.
      row_step fold (dec_expr l) s whole (lower f (one a)) (λ b. give (k a b)) 0 q (λ b r.
      row_stop fold (dec_expr l) s whole (lower (lower f (one a)) (one b)) (k a b) r
      (h a b ∙ sym (lower_assoc f (one a) (one b)))))

  pub ternary : (k : Expr → Expr → Expr → Expr) (f : Fault) (p : ℕ) → ((a b c : Expr) → whole (k a b c) ≡ lower f (lower (one a) (lower (one b) (one c))))
      → walked whole ((dec_expr l ▹ λ a. dec_expr l ▹ λ b. dec_expr l ▹ λ c. give (k a b c)) s p) ≡ after f (walked all (many Exprs.none Exprs.more (dec_expr l) 3 s p))
  ternary k f p h =
      row_step fold (dec_expr l) s whole f (λ a. dec_expr l ▹ λ b. dec_expr l ▹ λ c. give (k a b c)) 2 p (λ a q.
      row_step fold (dec_expr l) s whole (lower f (one a)) (λ b. dec_expr l ▹ λ c. give (k a b c)) 1 q (λ b r.
      row_step fold (dec_expr l) s whole (lower (lower f (one a)) (one b)) (λ c. give (k a b c)) 0 r (λ c t.
      row_stop fold (dec_expr l) s whole (lower (lower (lower f (one a)) (one b)) (one c)) (k a b c) t
      (h a b c ∙ sym (lower_assoc f (one a) (lower (one b) (one c))) ∙ sym (lower_assoc (lower f (one a)) (one b) (one c))))))

  pub nary : (k : Exprs → Expr) (n p : ℕ) → ((es : Exprs) → whole (k es) ≡ all es)
      → walked whole ((many Exprs.none Exprs.more (dec_expr l) n ▹ λ es. give (k es)) s p) ≡ after Sound (walked all (many Exprs.none Exprs.more (dec_expr l) n s p))
  nary k n p h = row_all fold (dec_expr l) s whole Sound k n p (λ es. h es ∙ sym (sound_lower (all es)))

module _ (s : List ℕ) (l : ℕ) (head : Bool) where
  node_walks : (n : ExprNode) (p : ℕ) → walked (expr_fault head) (expr_of s l (dec_expr l) (Ok (n, p))) ≡ walk_parts s l p (expr_parts head n)
  unfolding expr_of expr_fault exprs_fault
  node_walks (expr_node.Numeral lo hi) p = leaf exprs_fold (expr_fault head) s l (Expr.constant (Constant.numeral (lo + 2 ^ 64 * hi))) _ p refl
  node_walks (expr_node.Boolean b) p = leaf exprs_fold (expr_fault head) s l (Expr.constant (Constant.boolean b)) _ p refl
  node_walks (expr_node.Real n) p = leaf exprs_fold (expr_fault head) s l (Expr.constant (Constant.real n)) _ p refl
  node_walks (expr_node.String x) p = leaf exprs_fold (expr_fault head) s l (Expr.constant (Constant.string x.now)) _ p refl
  node_walks (expr_node.BitVec lo hi w) p = leaf exprs_fold (expr_fault head) s l (Expr.constant (Constant.bit_vec (lo + 2 ^ 64 * hi) w)) _ p refl
  node_walks (expr_node.Var x) p = leaf exprs_fold (expr_fault head) s l (Expr.var x.now) _ p refl
  node_walks expr_node.WKVar p = leaf exprs_fold (expr_fault head) s l Expr.wk_var WKVar p refl
  node_walks expr_node.Neg p = unary exprs_fold (expr_fault head) s l Expr.neg Sound p (λ a. sym (sound_lower (expr_fault false a)))
  node_walks expr_node.Not p = unary exprs_fold (expr_fault head) s l Expr.not Sound p (λ a. sym (sound_lower (expr_fault false a)))
  node_walks (expr_node.BinaryOp o) p = binary exprs_fold (expr_fault head) s l (Expr.binary_op o) Sound p (λ a b. sym (sound_lower (lower (expr_fault false a) (expr_fault false b))))
  node_walks (expr_node.Atom r) p = binary exprs_fold (expr_fault head) s l (Expr.atom r) Sound p (λ a b. sym (sound_lower (lower (expr_fault false a) (expr_fault false b))))
  node_walks expr_node.Imp p = binary exprs_fold (expr_fault head) s l Expr.imp Sound p (λ a b. sym (sound_lower (lower (expr_fault false a) (expr_fault false b))))
  node_walks expr_node.Iff p = binary exprs_fold (expr_fault head) s l Expr.iff Sound p (λ a b. sym (sound_lower (lower (expr_fault false a) (expr_fault false b))))
  node_walks (expr_node.And n) p = nary exprs_fold (expr_fault head) s l Expr.and n p (λ es. refl)
  node_walks (expr_node.Or n) p = nary exprs_fold (expr_fault head) s l Expr.or n p (λ es. refl)
  node_walks expr_node.IfThenElse p =
      ternary exprs_fold (expr_fault head) s l Expr.if_then_else Sound p (λ a b c. sym (sound_lower (lower (expr_fault false a) (lower (expr_fault false b) (expr_fault false c)))))
  node_walks (expr_node.Let x) p = binary exprs_fold (expr_fault head) s l (Expr.let_in x.now) (name_fault x.now) p (λ a b. refl)
  node_walks (expr_node.App b) p =
      alike (given l b s p) _ _ (expr_fault head) (expr_fault false) (λ o q. alike (dec_expr l s q) _ _ (expr_fault head) (expr_fault false) (λ h r.
      alike (counted Exprs.none Exprs.more (dec_expr l) s r) _ _ (expr_fault head) (expr_fault false) (λ es t. refl)))
  node_walks (expr_node.ThyFunc f) p = leaf exprs_fold (expr_fault head) s l (Expr.thy_func f) _ p refl
  node_walks (expr_node.IsCtor x) p = unary exprs_fold (expr_fault head) s l (Expr.is_ctor x.now) (name_fault x.now) p (λ a. refl)
  node_walks (expr_node.Quantifier q n) p =
      alike (many [] ◌∷◌ (binder l) n s p) _ _ (expr_fault head) (expr_fault false) (λ bs r. alike (dec_expr l s r) _ _ (expr_fault head) (expr_fault false) (λ e t. refl))

module _ (l : ℕ) (s : List ℕ) (at : ℕ) (head : Bool) where
  pub expr_none : l ≡ 0 → refuse 3 ≡ walked (expr_fault head) (dec_expr l s at)
  unfolding dec_expr
  expr_none e = rw e

  module _ (z : l ≡ 0 → ⊥) where
    pub expr_refused : (r : Refusal) → ExprAt s at (Err r) → refuse (number_of r) ≡ walked (expr_fault head) (dec_expr l s at)
    unfolding expr_of
    expr_refused r h = ap (walked (expr_fault head)) (sym (expr_at l s at (Err r) (Err r) z h refl))

    module _ (node : ExprNode) (p : ℕ) (h : ExprAt s at (Ok (node, p))) where
      by_parts : (parts : ExprParts) → parts ≡ expr_parts head node → walk_parts s (l - 1) p parts ≡ walked (expr_fault head) (dec_expr l s at)
      by_parts parts e =
          ap (walk_parts s (l - 1) p) e ∙ sym (node_walks s (l - 1) head node p)
          ∙ ap (walked (expr_fault head)) (sym (expr_at l s at (Ok (node, p)) (Ok (node, p)) z h refl))

      pub expr_row : (n : ℕ) (f : Fault) (v w : Res Fault) → expr_parts_is.Row n f ≡ expr_parts head node
          → v ≡ walked exprs_fault (many Exprs.none Exprs.more (dec_expr (l - 1)) n s p) → w ≡ after f v → w ≡ walked (expr_fault head) (dec_expr l s at)
      expr_row n f v w e u u' = u' ∙ ap (after f) u ∙ by_parts (expr_parts_is.Row n f) e

      pub expr_app : (b : Bool) (w : Res Fault) → expr_parts_is.App b ≡ expr_parts head node
          → w ≡ walked (expr_fault false) (applied (l - 1) b s p) → w ≡ walked (expr_fault head) (dec_expr l s at)
      expr_app b w e u = u ∙ by_parts (expr_parts_is.App b) e

      pub expr_quantifier : (n : ℕ) (w : Res Fault) → expr_parts_is.Quantifier n ≡ expr_parts head node
          → w ≡ walked (expr_fault false) (quantified (l - 1) n s p) → w ≡ walked (expr_fault head) (dec_expr l s at)
      expr_quantifier n w e u = u ∙ by_parts (expr_parts_is.Quantifier n) e

-- a name and a sort
module _ (l : ℕ) (s : List ℕ) (at : ℕ) where
  pub binder_refused : (k : ℕ) → name s at ≡ refuse k → refuse k ≡ walked binder_fault (binder l s at)
  binder_refused k e = rw e

  pub binder_walks : (y : List ℕ) (p : ℕ) (f : Fault) (v w : Res Fault) → name s at ≡ got y p → f ≡ name_fault y
      → v ≡ walked (sort_fault false) (dec_sort l s p) → w ≡ after f v → w ≡ walked binder_fault (binder l s at)
  unfolding binder_fault
  binder_walks y p f v w e u h h' =
      rw e (h' ∙ ap (after f) h ∙ lasts (sort_fault false) binder_fault (dec_sort l s p) (λ b. record { name = y; sort = b }) f (λ b. rw u))

-- an output sort
pub given_walks : (l : ℕ) (s : List ℕ) (at : ℕ) (b : Bool) (w : Res Fault) → b ≡ true → w ≡ walked (sort_fault false) (dec_sort l s at) → w ≡ walked given_fault (given l b s at)
given_walks l s at b w e h =
    rw e (h ∙ sym (after_sound (walked (sort_fault false) (dec_sort l s at))) ∙ lasts (sort_fault false) given_fault (dec_sort l s at) some Sound (λ b. sym (sound_lower (sort_fault false b))))

pub given_none : (l : ℕ) (s : List ℕ) (at : ℕ) (b : Bool) → b ≡ false → got Sound at ≡ walked given_fault (given l b s at)
given_none l s at b e = rw e

given_is : (l : ℕ) (s : List ℕ) (at : ℕ) (b : Bool) (o : Option Sort) (q : ℕ) → given l b s at ≡ got o q → is_given o ≡ b
given_is l s at false o q e = let z : none ≡ o = cc in rw (← z)
given_is l s at true o q e = go (dec_sort l s at) e
  where
    go : (x : Res Sort) → bind x (λ b p. got (some b) p) ≡ got o q → is_given o ≡ true
    go (got b p) e = let z : some b ≡ o = cc in rw (← z)
    go (refuse k) e = absurd (let z : ◌≡◌ {A = ℕ} 0 1 = cc in omega arith)

-- an application: refused in its output sort, in its head, in its count, or walked to its end
module _ (l : ℕ) (b : Bool) (s : List ℕ) (at : ℕ) where
  pub app_stops : (j : ℕ) → refuse j ≡ walked given_fault (given l b s at) → refuse j ≡ walked (expr_fault false) (applied l b s at)
  app_stops j e = stops given_fault (expr_fault false) (given l b s at) (λ o p. (dec_expr l ▹ λ h. counted Exprs.none Exprs.more (dec_expr l) ▹ λ es. give (Expr.app h es o)) s p) j e

  module _ (f : Fault) (p : ℕ) (e : got f p ≡ walked given_fault (given l b s at)) where
    -- by the output sort
    onward : (w : Res Fault) → ((o : Option Sort) → given_fault o ≡ f → is_given o ≡ b → w ≡ walked (expr_fault false) ((dec_expr l ▹ λ h. counted Exprs.none Exprs.more (dec_expr l) ▹ λ es. give (Expr.app h es o)) s p))
        → w ≡ walked (expr_fault false) (applied l b s at)
    onward w h =
        goes given_fault (expr_fault false) (given l b s at) (λ o p. (dec_expr l ▹ λ h. counted Exprs.none Exprs.more (dec_expr l) ▹ λ es. give (Expr.app h es o)) s p) p f w e
        (λ o i g. h o g (given_is l s at b o p i))

    pub app_head_stops : (j : ℕ) → refuse j ≡ walked (expr_fault b) (dec_expr l s p) → refuse j ≡ walked (expr_fault false) (applied l b s at)
    app_head_stops j u = onward (refuse j) (λ o g i. stops (expr_fault b) (expr_fault false) (dec_expr l s p) (λ h q. (counted Exprs.none Exprs.more (dec_expr l) ▹ λ es. give (Expr.app h es o)) s q) j u)

    module _ (g : Fault) (q : ℕ) (u : got g q ≡ walked (expr_fault b) (dec_expr l s p)) where
      pub app_count_stops : (j : ℕ) → number 2 s q ≡ refuse j → refuse j ≡ walked (expr_fault false) (applied l b s at)
      app_count_stops j i =
          onward (refuse j) (λ o z y. goes (expr_fault b) (expr_fault false) (dec_expr l s p) (λ h q. (counted Exprs.none Exprs.more (dec_expr l) ▹ λ es. give (Expr.app h es o)) s q) q g (refuse j) u
          (λ h k m. rw i))

      pub app_walks : (n r : ℕ) (x y w : Res Fault) → number 2 s q ≡ got n r → x ≡ walked exprs_fault (many Exprs.none Exprs.more (dec_expr l) n s r)
          → y ≡ after g x → w ≡ after f y → w ≡ walked (expr_fault false) (applied l b s at)
      unfolding expr_fault exprs_fault
      app_walks n r x y w i a a' a'' =
          onward w (λ o z t. goes (expr_fault b) (expr_fault false) (dec_expr l s p) (λ h q. (counted Exprs.none Exprs.more (dec_expr l) ▹ λ es. give (Expr.app h es o)) s q) q g w u
          (λ h k m. rw i (a'' ∙ ap (after f) (a' ∙ ap (after g) a) ∙ sym (after_after f g (walked exprs_fault (many Exprs.none Exprs.more (dec_expr l) n s r)))
          ∙ lasts exprs_fault (expr_fault false) (many Exprs.none Exprs.more (dec_expr l) n s r) (λ es. Expr.app h es o) (lower f g)
          (λ es. rw (← z, ← m, t) (sym (lower_assoc (given_fault o) (expr_fault b h) (exprs_fault es)))))))

-- a quantifier: refused in what it binds, or walked to its end
module _ (l n : ℕ) (s : List ℕ) (at : ℕ) where
  pub quantifier_stops : (j : ℕ) → refuse j ≡ walked (each binder_fault) (many [] ◌∷◌ (binder l) n s at) → refuse j ≡ walked (expr_fault false) (quantified l n s at)
  quantifier_stops j e = stops (each binder_fault) (expr_fault false) (many [] ◌∷◌ (binder l) n s at) (λ bs p. (dec_expr l ▹ λ b. give (Expr.quantifier Forall bs b)) s p) j e

  pub quantifier_walks : (f : Fault) (p : ℕ) (x w : Res Fault) → got f p ≡ walked (each binder_fault) (many [] ◌∷◌ (binder l) n s at)
      → x ≡ walked (expr_fault false) (dec_expr l s p) → w ≡ after f x → w ≡ walked (expr_fault false) (quantified l n s at)
  unfolding expr_fault
  quantifier_walks f p x w e u u' =
      goes (each binder_fault) (expr_fault false) (many [] ◌∷◌ (binder l) n s at) (λ bs p. (dec_expr l ▹ λ b. give (Expr.quantifier Forall bs b)) s p) p f w e
      (λ bs k m. u' ∙ ap (after f) u ∙ lasts (expr_fault false) (expr_fault false) (dec_expr l s p) (Expr.quantifier Forall bs) f (λ b. rw m))
