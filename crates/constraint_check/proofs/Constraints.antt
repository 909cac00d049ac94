-- What the steps of the constraint walkers add up to, with premises in the form in which the code's steps give them.
use Rattle.std.specs.Prelude.{Ok, Err}
use mathlib.Core.Path.{◌≡◌, refl, sym, ap, ◌∙◌}
use mathlib.Core.Bool.{Bool, true, false, cond}
use mathlib.Core.List.{List, [], ◌∷◌, ◌++◌}
use Prim.Native.Nat.{ℕ, suc, ◌+◌, ◌-◌, ◌<◌, ◌≤◌}
use native.Mathlib.Nat.{add_assoc, zero-add, add-zero}
use native.Mathlib.Omega.{arith}
use lib.ListN.{length}
use Rattle.task.specs.declared.Fault.{Fault}
use Rattle.task.specs.declared.Fault.TheVariants.{Sound}
use Rattle.task.specs.declared.ConstraintNode.{ConstraintNode}
use Rattle.task.specs.declared.ConstraintNode.TheVariants as constraint_node
use Rattle.task.specs.Ast.{Sort, Binder, Pred, Constraint, Constraints}
use Rattle.task.specs.Decode.{Res, got, refuse, bind, give, ◌▹◌, number, many, counted, name, binder, dec_sort, dec_pred, constraint_forms, dec_constraint}
use Rattle.task.specs.Fault.{lower, each, name_fault, sort_fault, binder_fault, pred_fault, shadow_fault, constraint_fault, constraints_fault}
use Rattle.task.specs.Task.{pred_heads, heads_of, heads_in}
use Rattle.task.specs.declared.Refusal.{Refusal}
use Rattle.task.specs.Node.{constraint_of, ConstraintAt}
use Rattle.task.specs.Refusals.{number_of}
use Rattle.task.proofs.Reading.{coded_at, bind_got, same_value}
use Rattle.task.proofs.Judging.{lower_assoc, lower_comm, lower_sound, sound_lower}
use Rattle.task.proofs.Nodes.{constraint_at}
use Rattle.task.proofs.Pieces.{each_covers}
use Rattle.task_check.specs.Walk.{walked, after, read_true}
use Rattle.task_check.proofs.Rows.{next_is, refused_is}
use Rattle.task_check.proofs.Exprs.{stops as walk_stops, goes as walk_goes, lasts as walk_lasts}
use Rattle.constraint_check.specs.declared.Counted.{Counted}
use Rattle.constraint_check.specs.Tally.{tally}
use Rattle.constraint_check.specs.Around.{names_on, is_head, Header, header_fault, header, for_all}
use Rattle.constraint_check.proofs.Names.{names_append, head_stands}

-- an answer part by part
counts : {f f' : Fault} {n n' p p' : ℕ} → f ≡ f' → n ≡ n' → p ≡ p'
    → ◌≡◌ {A = Res Counted} (got (record { fault = f; heads = n }) p) (got (record { fault = f'; heads = n' }) p')
counts a b c = λ i. got (record { fault = a i; heads = b i }) (c i)

-- what an answer tells of the decoder's
record Tells {A : Type 0} (one : A → Fault) (number : A → ℕ) (x : Res A) (c : Counted) (q : ℕ) : Type 0 where
  value : A
  is : x ≡ got value q
  fault : c.fault ≡ one value
  heads : c.heads ≡ number value

tells : {A : Type 0} (one : A → Fault) (number : A → ℕ) (x : Res A) (c : Counted) (q : ℕ) → got c q ≡ tally one number x → Tells one number x c q
tells one number (got a p) c q e =
    let d : c ≡ record { fault = one a; heads = number a } = same_value e in
    record { value = a; is = ap (got a) (cc); fault = ap (λ (y : Counted). y.fault) d; heads = ap (λ (y : Counted). y.heads) d }
tells one number (refuse k) c q e = absurd (let z : ◌≡◌ {A = ℕ} 0 1 = cc in omega arith)

none_told : {A : Type 0} (one : A → Fault) (number : A → ℕ) (x : Res A) (k : ℕ) → refuse k ≡ tally one number x → x ≡ refuse k
none_told one number (got a p) k e = absurd (let z : ◌≡◌ {A = ℕ} 0 1 = cc in omega arith)
none_told one number (refuse j) k e = ap refuse (cc)

-- a head
pub head_read : (l : ℕ) (s : List ℕ) (at p : ℕ) (f : Fault) (n : ℕ) → got f p ≡ walked pred_fault (dec_pred l s at) → n ≡ cond (read_true (dec_pred l s at)) 0 1
    → got (record { fault = f; heads = n }) p ≡ tally pred_fault pred_heads (dec_pred l s at)
unfolding pred_heads
head_read l s at p f n e u = by_answer (dec_pred l s at) e u
  where
    by_answer : (x : Res Pred) → got f p ≡ walked pred_fault x → n ≡ cond (read_true x) 0 1 → got (record { fault = f; heads = n }) p ≡ tally pred_fault pred_heads x
    by_answer (got a q) e u = counts (cc) u (cc)
    by_answer (refuse j) e u = absurd (let z : ◌≡◌ {A = ℕ} 0 1 = cc in omega arith)

pub head_refused : (l : ℕ) (s : List ℕ) (at k : ℕ) → refuse k ≡ walked pred_fault (dec_pred l s at) → refuse k ≡ tally pred_fault pred_heads (dec_pred l s at)
head_refused l s at k e = sym (ap (tally pred_fault pred_heads) (refused_is pred_fault (dec_pred l s at) k e))

-- the node of a head is known from its code
pub head_node : (l : ℕ) (s : List ℕ) (at : ℕ) (b : Bool) → b ≡ is_head l s at → b ≡ true → (l ≡ 0 → ⊥) × ConstraintAt s at (Ok (constraint_node.Pred, at + 1))
unfolding constraint_of
head_node l s at b e t =
    let h = head_stands l s at b e t in
    let h0 = h.0 in
    (λ q. absurd (omega arith), record { is = λ k d. coded_at (constraint_forms k d) s at 0 h.1 h.2; behind = omega arith })

-- a constraint by its node
module _ (l : ℕ) (s : List ℕ) (at : ℕ) (around : List (List ℕ)) where
  pub constraint_none : l ≡ 0 → refuse 3 ≡ tally (constraint_fault around) heads_of (dec_constraint l s at)
  unfolding dec_constraint
  constraint_none e = rw e

  pred_made : (x : Res Pred) → tally pred_fault pred_heads x ≡ tally (constraint_fault around) heads_of (bind x (λ h q. got (Constraint.pred h) q))
  unfolding constraint_fault heads_of
  pred_made (got a q) = refl
  pred_made (refuse k) = refl

  conj_made : (x : Res Constraints) → tally (constraints_fault around) heads_in x ≡ tally (constraint_fault around) heads_of (bind x (λ cs q. got (Constraint.conj cs) q))
  unfolding constraint_fault constraints_fault heads_of heads_in
  conj_made (got a q) = refl
  conj_made (refuse k) = refl

  module _ (z : l ≡ 0 → ⊥) where
    pub constraint_refused : (r : Refusal) → ConstraintAt s at (Err r) → refuse (number_of r) ≡ tally (constraint_fault around) heads_of (dec_constraint l s at)
    unfolding constraint_of
    constraint_refused r h = ap (tally (constraint_fault around) heads_of) (sym (constraint_at l s at (Err r) (Err r) z h refl))

    module _ (node : ConstraintNode) (p : ℕ) (h : ConstraintAt s at (Ok (node, p))) where
      by_node : (k : ConstraintNode) → node ≡ k → dec_constraint l s at ≡ constraint_of s (l - 1) (dec_constraint (l - 1)) (Ok (k, p))
      by_node k e = constraint_at l s at (Ok (node, p)) (Ok (k, p)) z h (rw e)

      pub constraint_pred : (c : Res Counted) → node ≡ constraint_node.Pred → c ≡ tally pred_fault pred_heads (dec_pred (l - 1) s p)
          → c ≡ tally (constraint_fault around) heads_of (dec_constraint l s at)
      unfolding constraint_of
      constraint_pred c e u = rw (by_node constraint_node.Pred e) (u ∙ pred_made (dec_pred (l - 1) s p))

      pub constraint_conj : (n : ℕ) (c : Res Counted) → node ≡ constraint_node.Conj n
          → c ≡ tally (constraints_fault around) heads_in (many Constraints.none Constraints.more (dec_constraint (l - 1)) n s p)
          → c ≡ tally (constraint_fault around) heads_of (dec_constraint l s at)
      unfolding constraint_of
      constraint_conj n c e u = rw (by_node (constraint_node.Conj n) e) (u ∙ conj_made (many Constraints.none Constraints.more (dec_constraint (l - 1)) n s p))

      pub constraint_for_all : (c : Res Counted) → node ≡ constraint_node.ForAll → c ≡ tally (constraint_fault around) heads_of (for_all (l - 1) s p)
          → c ≡ tally (constraint_fault around) heads_of (dec_constraint l s at)
      unfolding constraint_of
      constraint_for_all c e u = rw (by_node constraint_node.ForAll e) u

-- a head by its test
pub constraint_head : (l : ℕ) (s : List ℕ) (at : ℕ) (around : List (List ℕ)) (c : Res Counted) (b : Bool) → b ≡ is_head l s at → b ≡ true
    → c ≡ tally pred_fault pred_heads (dec_pred (l - 1) s (at + 1)) → c ≡ tally (constraint_fault around) heads_of (dec_constraint l s at)
constraint_head l s at around c b e t u = let h = head_node l s at b e t in constraint_pred l s at around h.0 constraint_node.Pred (at + 1) h.1 c refl u

-- a header: refused in its binder or in its count, or walked to its end
module _ (l : ℕ) (s : List ℕ) (at : ℕ) where
  -- what follows the binder
  behind : Binder → ℕ → Res Header
  behind b p = (counted [] ◌∷◌ (dec_pred l) ▹ λ ps. give (record { binder = b; preds = ps })) s p

  pub header_stops : (j : ℕ) → refuse j ≡ walked binder_fault (binder l s at) → refuse j ≡ walked header_fault (header l s at)
  unfolding behind
  header_stops j u = walk_stops binder_fault header_fault (binder l s at) behind j u

  module _ (f : Fault) (p : ℕ) (u : got f p ≡ walked binder_fault (binder l s at)) where
    from_binder : (w : Res Fault) → ((b : Binder) → binder_fault b ≡ f → w ≡ walked header_fault (behind b p)) → w ≡ walked header_fault (header l s at)
    unfolding behind
    from_binder w h = walk_goes binder_fault header_fault (binder l s at) behind p f w u (λ b z g. h b g)

    pub header_uncounted : (j : ℕ) → number 2 s p ≡ refuse j → refuse j ≡ walked header_fault (header l s at)
    unfolding behind
    header_uncounted j i = from_binder (refuse j) (λ b g. rw i)

    pub header_walks : (n q : ℕ) (v w : Res Fault) → number 2 s p ≡ got n q → v ≡ walked (each pred_fault) (many [] ◌∷◌ (dec_pred l) n s q) → w ≡ after f v
        → w ≡ walked header_fault (header l s at)
    unfolding behind
    header_walks n q v w i m a =
        from_binder w (λ b g. rw i
        (a ∙ ap (after f) m
        ∙ walk_lasts (each pred_fault) header_fault (many [] ◌∷◌ (dec_pred l) n s q) (λ ps. record { binder = b; preds = ps }) f (λ ps. rw g)))

-- what follows the header of a ForAll: its body
abbrev pub under : ℕ → List ℕ → Header → ℕ → Res Constraint
under l s h t = bind (dec_constraint l s t) (λ c q. got (Constraint.for_all h.binder.name h.binder.sort h.preds c) q)

-- a ForAll is its header and its body
pub for_all_is : (l : ℕ) (s : List ℕ) (at : ℕ)
    → for_all l s at ≡ bind (header l s at) (under l s)
for_all_is l s at = by_name (name s at)
  where
    by_preds : (x : List ℕ) (b : Sort) (y : Res (List Pred)) → bind y (λ ps p. bind (dec_constraint l s p) (λ c q. got (Constraint.for_all x b ps c) q))
        ≡ bind (bind y (λ ps p. got (record { binder = record { name = x; sort = b }; preds = ps }) p)) (under l s)
    by_preds x b (got ps p) = refl
    by_preds x b (refuse k) = refl

    by_sort : (x : List ℕ) (y : Res Sort) → bind y (λ b p. bind (counted [] ◌∷◌ (dec_pred l) s p) (λ ps r. bind (dec_constraint l s r) (λ c q. got (Constraint.for_all x b ps c) q)))
        ≡ bind (bind (bind y (λ b p. got (record { name = x; sort = b }) p)) (λ (b : Binder) p. bind (counted [] ◌∷◌ (dec_pred l) s p) (λ ps q. got (record { binder = b; preds = ps }) q)))
        (under l s)
    by_sort x (got b p) = by_preds x b (counted [] ◌∷◌ (dec_pred l) s p)
    by_sort x (refuse k) = refl

    by_name : (y : Res (List ℕ)) → bind y (λ x p. bind (dec_sort l s p) (λ b t. bind (counted [] ◌∷◌ (dec_pred l) s t) (λ ps r. bind (dec_constraint l s r) (λ c q. got (Constraint.for_all x b ps c) q))))
        ≡ bind (bind (bind y (λ x p. bind (dec_sort l s p) (λ b q. got (record { name = x; sort = b }) q))) (λ (b : Binder) p. bind (counted [] ◌∷◌ (dec_pred l) s p) (λ ps q. got (record { binder = b; preds = ps }) q)))
        (under l s)
    by_name (got x p) = by_sort x (dec_sort l s p)
    by_name (refuse k) = refl

-- the name in a header is the one that stands there
pub header_named : (l : ℕ) (s : List ℕ) (at : ℕ) (h : Header) (t : ℕ) (x : List ℕ) (p : ℕ) → header l s at ≡ got h t → name s at ≡ got x p → h.binder.name ≡ x
header_named l s at h t x p e e' =
    let i = bind_got (binder l s at) _ h t e in
    let j = bind_got (name s at) _ i.value i.next i.first in
    let k = bind_got (dec_sort l s j.next) _ i.value i.next j.then in
    let m = bind_got (counted [] ◌∷◌ (dec_pred l) s i.next) _ h t i.then in
    let d : record { binder = i.value; preds = m.value } ≡ h = same_value m.then in
    let c : record { name = j.value; sort = k.value } ≡ i.value = same_value k.then in
    sym (ap (λ (g : Header). g.binder.name) d) ∙ sym (ap (λ (b : Binder). b.name) c) ∙ same_value (sym j.first ∙ e')

-- a ForAll: refused in its name, its header or its body, or walked to its end
module _ (l : ℕ) (s offsets : List ℕ) (at : ℕ) where
  pub for_all_unnamed : (k : ℕ) → name s at ≡ refuse k → refuse k ≡ tally (constraint_fault (names_on s offsets)) heads_of (for_all l s at)
  for_all_unnamed k e = rw e

  from_header : (c : Res Counted) → c ≡ tally (constraint_fault (names_on s offsets)) heads_of (bind (header l s at) (under l s)) → c ≡ tally (constraint_fault (names_on s offsets)) heads_of (for_all l s at)
  from_header c w = w ∙ sym (ap (tally (constraint_fault (names_on s offsets)) heads_of) (for_all_is l s at))

  pub for_all_stops : (j : ℕ) → refuse j ≡ walked header_fault (header l s at) → refuse j ≡ tally (constraint_fault (names_on s offsets)) heads_of (for_all l s at)
  for_all_stops j u =
      from_header (refuse j) (sym (ap (λ (y : Res Header). tally (constraint_fault (names_on s offsets)) heads_of (bind y (under l s))) (refused_is header_fault (header l s at) j u)))

  module _ (t : ℕ) (f : Fault) (u : got f t ≡ walked header_fault (header l s at)) where
    by_header : (c : Res Counted) → ((h : Header) → header l s at ≡ got h t → header_fault h ≡ f → c ≡ tally (constraint_fault (names_on s offsets)) heads_of (under l s h t))
        → c ≡ tally (constraint_fault (names_on s offsets)) heads_of (for_all l s at)
    by_header c g =
        let y = next_is header_fault (header l s at) t f u in
        from_header c (g y.value y.is y.fault ∙ sym (ap (λ (z : Res Header). tally (constraint_fault (names_on s offsets)) heads_of (bind z (under l s))) y.is))

    pub for_all_body_stops : (around : List (List ℕ)) (j : ℕ) → refuse j ≡ tally (constraint_fault around) heads_of (dec_constraint l s t)
        → refuse j ≡ tally (constraint_fault (names_on s offsets)) heads_of (for_all l s at)
    for_all_body_stops around j e =
        by_header (refuse j) (λ h z g. sym (ap (λ (y : Res Constraint). tally (constraint_fault (names_on s offsets)) heads_of (bind y (λ c q. got (Constraint.for_all h.binder.name h.binder.sort h.preds c) q)))
        (none_told (constraint_fault around) heads_of (dec_constraint l s t) j e)))

    pub for_all_walks : (x : List ℕ) (p : ℕ) → name s at ≡ got x p → (offsets' : List ℕ) (body : Counted) (q : ℕ) (fs fb fw : Fault) → offsets' ≡ offsets ++ at ∷ []
        → got body q ≡ tally (constraint_fault (names_on s offsets')) heads_of (dec_constraint l s t)
        → fs ≡ shadow_fault (names_on s offsets) x → fb ≡ lower f fs → fw ≡ lower fb body.fault
        → got (record { fault = fw; heads = body.heads }) q ≡ tally (constraint_fault (names_on s offsets)) heads_of (for_all l s at)
    unfolding constraint_fault heads_of binder_fault
    for_all_walks x p own offsets' body q fs fb fw o d sf a a' =
        let names : names_on s offsets' ≡ names_on s offsets ++ x ∷ [] = ap (names_on s) o ∙ names_append s offsets at x p own in
        let inner = constraint_fault (names_on s offsets ++ x ∷ []) in
        let b = tells inner heads_of (dec_constraint l s t) body q (d ∙ ap (λ (xs : List (List ℕ)). tally (constraint_fault xs) heads_of (dec_constraint l s t)) names) in
        by_header (got (record { fault = fw; heads = body.heads }) q) (λ h z g.
        let n : h.binder.name ≡ x = header_named l s at h t x p z own in
        counts
        (a' ∙ ap (lower fb) b.fault ∙ rw (a, sf, ← g, n) (regroup (name_fault x) (shadow_fault (names_on s offsets) x) (sort_fault false h.binder.sort) (each pred_fault h.preds) (inner b.value)))
        b.heads
        refl
        ∙ sym (ap (λ (y : Res Constraint). tally (constraint_fault (names_on s offsets)) heads_of (bind y (λ c r. got (Constraint.for_all h.binder.name h.binder.sort h.preds c) r))) b.is))
      where
        -- the fault of a repeat comes behind those of sort and predicates as well as before them
        regroup : (f1 f2 f3 f4 f5 : Fault) → lower (lower (lower (lower f1 f3) f4) f2) f5 ≡ lower f1 (lower f2 (lower f3 (lower f4 f5)))
        regroup f1 f2 f3 f4 f5 =
            sym (
            ap (lower f1) (ap (lower f2) (sym (lower_assoc f3 f4 f5)) ∙ sym (lower_assoc f2 (lower f3 f4) f5) ∙ ap (λ (g : Fault). lower g f5) (lower_comm f2 (lower f3 f4)) ∙ lower_assoc (lower f3 f4) f2 f5)
            ∙ sym (lower_assoc f1 (lower f3 f4) (lower f2 f5)) ∙ sym (lower_assoc (lower f1 (lower f3 f4)) f2 f5)
            ∙ ap (λ (g : Fault). lower (lower g f2) f5) (sym (lower_assoc f1 f3 f4)))

-- an answer with what was counted before
abbrev put : Fault → ℕ → Res Counted → Res Counted
put f h (got c p) = got (record { fault = lower f c.fault; heads = h + c.heads }) p
put f h (refuse k) = refuse k

put_none : (w : Res Counted) → put Sound 0 w ≡ w
put_none (got c p) = counts (sound_lower c.fault) (zero-add c.heads) refl
put_none (refuse k) = refl

put_put : (f g : Fault) (h n : ℕ) (w : Res Counted) → put (lower f g) (h + n) w ≡ put f h (put g n w)
put_put f g h n (got c p) = counts (lower_assoc f g c.fault) (add_assoc h n c.heads) refl
put_put f g h n (refuse k) = refl

-- the loop: of n members i were walked, the others stand from p on; f is the fault and h the number of heads so far
module _ (s : List ℕ) (l : ℕ) (around : List (List ℕ)) where
  pub record Going (n at i p : ℕ) (f : Fault) (h : ℕ) : Type 0 where
    pub are : put f h (tally (constraints_fault around) heads_in (many Constraints.none Constraints.more (dec_constraint l) (n - i) s p))
        ≡ tally (constraints_fault around) heads_in (many Constraints.none Constraints.more (dec_constraint l) n s at)
    pub few : h ≤ p

  pub going_starts : (n at : ℕ) → Going n at 0 at Sound 0
  going_starts n at =
      let e : n - 0 ≡ n = omega arith in
      record { are = rw e (put_none (tally (constraints_fault around) heads_in (many Constraints.none Constraints.more (dec_constraint l) n s at))); few = omega arith }

  -- one more member
  put_before : (a : Constraint) (x : Res Constraints) → tally (constraints_fault around) heads_in (bind x (λ b q. got (Constraints.more a b) q))
      ≡ put (constraint_fault around a) (heads_of a) (tally (constraints_fault around) heads_in x)
  unfolding constraint_fault constraints_fault heads_of heads_in
  put_before a (got b q) = refl
  put_before a (refuse k) = refl

  row_first : (n p : ℕ) (x : Res Constraint) → dec_constraint l s p ≡ x
      → tally (constraints_fault around) heads_in (many Constraints.none Constraints.more (dec_constraint l) (suc n) s p)
      ≡ tally (constraints_fault around) heads_in (bind x (λ a q. bind (many Constraints.none Constraints.more (dec_constraint l) n s q) (λ b r. got (Constraints.more a b) r)))
  row_first n p x e = rw e

  module _ (n at i p : ℕ) (f : Fault) (h : ℕ) (g : Going n at i p f h) where
    module _ (z : i < n) where
      pub going_stops : (k : ℕ) → refuse k ≡ tally (constraint_fault around) heads_of (dec_constraint l s p)
          → refuse k ≡ tally (constraints_fault around) heads_in (many Constraints.none Constraints.more (dec_constraint l) n s at)
      going_stops k e =
          let m : n - i ≡ suc (n - (i + 1)) = omega arith in
          sym (ap (put f h) (ap (λ (j : ℕ). tally (constraints_fault around) heads_in (many Constraints.none Constraints.more (dec_constraint l) j s p)) m
          ∙ row_first (n - (i + 1)) p (refuse k) (none_told (constraint_fault around) heads_of (dec_constraint l s p) k e)))
          ∙ g.are

      module _ (c : Counted) (q : ℕ) (e : got c q ≡ tally (constraint_fault around) heads_of (dec_constraint l s p)) where
        one : Tells (constraint_fault around) heads_of (dec_constraint l s p) c q
        one = tells (constraint_fault around) heads_of (dec_constraint l s p) c q e

        -- heads take bytes
        pub going_room : (h + c.heads ≤ q) × (q ≤ length s)
        going_room =
            let y = (each_covers.heads l).covered s p one.value q one.is in
            let y' = (each_covers.constraints l).covered s p one.value q one.is in
            let a = y.end in
            let b = y'.end in
            let r = y.room in
            let r' = y'.room in
            let o = one.heads in
            let w = g.few in
            (omega arith, y'.inside (omega arith))

        pub going_goes : (f' : Fault) → f' ≡ lower f c.fault → Going n at (i + 1) q f' (h + c.heads)
        going_goes f' u = record {
          are = ap (λ (k : Fault). put k (h + c.heads) rest) (u ∙ ap (lower f) one.fault) ∙ ap (λ (k : ℕ). put (lower f (constraint_fault around one.value)) (h + k) rest) one.heads
              ∙ put_put f (constraint_fault around one.value) h (heads_of one.value) rest ∙ sym (ap (put f h) step) ∙ g.are;
          few = going_room.0;
        }
          where
            rest : Res Counted
            rest = tally (constraints_fault around) heads_in (many Constraints.none Constraints.more (dec_constraint l) (n - (i + 1)) s q)

            step : tally (constraints_fault around) heads_in (many Constraints.none Constraints.more (dec_constraint l) (n - i) s p) ≡ put (constraint_fault around one.value) (heads_of one.value) rest
            step =
                let m : n - i ≡ suc (n - (i + 1)) = omega arith in
                ap (λ (j : ℕ). tally (constraints_fault around) heads_in (many Constraints.none Constraints.more (dec_constraint l) j s p)) m
                ∙ row_first (n - (i + 1)) p (got one.value q) one.is
                ∙ put_before one.value (many Constraints.none Constraints.more (dec_constraint l) (n - (i + 1)) s q)

    pub going_ends : n ≤ i → got (record { fault = f; heads = h }) p ≡ tally (constraints_fault around) heads_in (many Constraints.none Constraints.more (dec_constraint l) n s at)
    unfolding constraints_fault heads_in
    going_ends z =
        let m : n - i ≡ 0 = omega arith in
        counts (sym (lower_sound f)) (sym (add-zero h)) refl
        ∙ sym (ap (λ (j : ℕ). put f h (tally (constraints_fault around) heads_in (many Constraints.none Constraints.more (dec_constraint l) j s p))) m)
        ∙ g.are
