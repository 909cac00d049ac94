-- What the steps of the walk over a constraint add up to.
use Rattle.std.specs.Prelude.{Ok, Err}
use mathlib.Core.Path.{◌≡◌, refl, sym, ap, ◌∙◌}
use mathlib.Core.Bool.{Bool, true, false, not, ◌&&◌}
use mathlib.Core.List.{List, [], ◌∷◌, ◌++◌, map-append}
use Prim.Native.Nat.{ℕ, suc, ◌+◌, ◌-◌, ◌<◌, ◌≤◌, min}
use native.Mathlib.Omega.{arith}
use lib.ListN.{length, take, drop, get_or, length-append}
use borrow.Author.Tests.{ne_eqb}
use Rattle.smtlib.proofs.Bools.{clash}
use Rattle.task.specs.declared.Fault.{Fault}
use Rattle.task.specs.declared.ConstraintNode.{ConstraintNode}
use Rattle.task.specs.declared.ConstraintNode.TheVariants as constraint_node
use Rattle.task.specs.Ast.{Sort, Binder, Pred, Constraint, Constraints}
use Rattle.task.specs.Decode.{Res, got, refuse, bind, number, many, counted, name, binder, dec_sort, dec_pred, dec_constraint, deepest}
use Rattle.task.specs.Fault.{pred_fault}
use Rattle.task.specs.Run.{Runs}
use Rattle.task.specs.Task.{literally_true}
use Rattle.task.specs.declared.Refusal.{Refusal}
use Rattle.task.specs.Node.{Answered, constraint_of, ConstraintAt}
use Rattle.task.specs.Refusals.{number_of}
use Rattle.task.proofs.Reading.{bind_got, got_refuse}
use Rattle.task.proofs.Levels.{deeper}
use Rattle.task.proofs.Nodes.{constraint_at}
use Rattle.task_check.specs.Walk.{walked, read_true}
use Rattle.task_check.proofs.Rows.{refused_is, next_is}
use Rattle.path.specs.declared.Path.{Path}
use Rattle.path.specs.Offsets.{entries}
use Rattle.path.proofs.Entries.{depth_is, leaves_fewer, leaves_pushed}
use Rattle.constraint_check.specs.Around.{is_head, Header, header_fault, header, for_all}
use Rattle.constraint_check.proofs.Names.{name_inside}
use Rattle.constraint_check.proofs.Constraints.{head_node}
use Rattle.smt_text.specs.Editions.{Valid}
use Rattle.smt_text.specs.Encoder.{Encoder}
use Rattle.horn_text.specs.Clauses.{ForAll, binders_of, guards_of, flatten_constraint, flatten_constraints}
use Rattle.horn_text.specs.Script.{write_assert, write_asserts}
use Rattle.horn_text.proofs.Places.{binders_snoc, guards_snoc}
use Rattle.output.specs.Emit.{output, most}
use Rattle.task.proofs.Running.{runs_refused, runs_end, runs_then, Steps}
use Rattle.assertion.specs.declared.Kept.{Kept}
use Rattle.assertion.specs.Under.{for_all_at, on_path, assert_text, HeadSends}
use Rattle.assertion.specs.Kept.{measured, plus, minus, Within, fits, Keeps, Stays, Extended, Extends, Numbers, MeasuredSends, KeptSends}
use Rattle.assertion.proofs.Asserts.{both, not_set, empty}
use Rattle.assertion.proofs.Keeping.{measured_plus, within_plus, plus_minus, keeps_stays, keeps_extended, stays_around}
use Rattle.assertion.proofs.Short.{path_short}
use Rattle.flatten.specs.declared.Progress.{Progress}
use Rattle.flatten.specs.declared.Moved.{Moved}
use Rattle.flatten.specs.declared.Row.{Row}
use Rattle.flatten.specs.Parts.{Writing, writing, has, passed, put, puts, Puts, PutsUnder, head_parts, clause_parts, member_parts}
use Rattle.flatten.specs.Walk.{Ready, enough, wanted, Passes, Places, MeasuredPlaces, KeptPlaces, PathPlaces, KeptPuts, Onward, HeadsPut}
use Rattle.flatten.proofs.Lending.{Counted, part_placed, put_out, puts_append}

-- HEADS

-- one that is not literally true and not written is not in the range
out_of : (a : Bool) → (a && not false) ≡ false → a ≡ false
out_of true e = clash (cc)
out_of false e = refl

module _ (d : Res Pred) (f : Moved) where
  -- one that is refused has no parts
  pub pred_refused : (k : ℕ) → refuse k ≡ walked pred_fault d → Passes f d f
  unfolding Passes Puts
  pred_refused k e i enc fs b ls =
      rw (refused_is pred_fault d k e)
      (runs_refused (λ z a. puts z (head_parts enc fs a)) (writing f.progress b ls) (writing f.progress b ls) f.at k)

  module _ (t : Bool) (h : t ≡ read_true d) (q : ℕ) (x : Fault) (e : got x q ≡ walked pred_fault d) where
    ends : (a : Pred) (z : ℕ) → d ≡ got a z → q ≡ z
    ends a z k = let y : got x q ≡ got (pred_fault a) z = e ∙ ap (walked pred_fault) k in cc

    -- one that is literally true has none
    pub head_true : (m : Moved) → t ≡ true → (m.at ≡ q) × (m.progress ≡ f.progress) → Passes f d m
    unfolding Passes Puts head_parts flatten_constraint puts
    head_true m h' u i enc fs b ls a z k =
        let l : literally_true a ≡ true = sym (sym h' ∙ h ∙ ap read_true k) in
        (u.0 ∙ ends a z k, rw (l, u.1))

    -- the part of another is counted
    pub head_out : (p : Progress) → t ≡ false → p ≡ passed f.progress → Passes f d (record { at = q; progress = p })
    unfolding Passes wanted Puts head_parts assert_text flatten_constraint puts
    head_out p h' u i enc fs b ls a z k =
        let l : literally_true a ≡ false = sym (sym h' ∙ h ∙ ap read_true k) in
        let j : (has f.progress.range f.progress.seen && not false) ≡ false = rw (sym h ∙ h') at i in
        (ends a z k, rw l (put_out f.progress p b (assert_text enc fs a) ls (out_of (has f.progress.range f.progress.seen) j) u))

-- what is written
module _ (d : Res Pred) (f : Moved) (c : Bool) (e : c ≡ wanted f.progress d) where
  -- what is put is a head's part
  placed_puts : (enc : Encoder) (fs : List ForAll) (w' : Writing) (b ls : List ℕ) (at : ℕ) → c ≡ true → Places enc fs d (writing f.progress b ls) w' at
      → Puts (head_parts enc fs) d (writing f.progress b ls) w' at
  unfolding wanted Places Puts head_parts assert_text flatten_constraint puts put
  placed_puts enc fs w' b ls at e' w a z k =
      let v = w a z k in
      let h = both (has f.progress.range f.progress.seen) (not (read_true d)) (sym e ∙ e') in
      let l : literally_true a ≡ false = sym (ap read_true k) ∙ not_set (read_true d) h.1 in
      (v.0, v.1 ∙ rw (l, h.0))

  module _ (enc : Encoder) (text : List ℕ) (kept : Kept) (b ls : List ℕ) where
    pub kept_passed : (m : Moved) → c ≡ false → Passes f d m → KeptPuts enc text kept d (writing f.progress b ls) (writing m.progress b ls) m.at
    unfolding KeptPuts Passes
    kept_passed m e' u fs k = u (sym e ∙ e') enc fs b ls

    pub measured_wanted : (m : Moved) (ls' : List ℕ) → c ≡ true → length b ≤ 0 → MeasuredPlaces enc kept d (writing f.progress [] ls) (writing m.progress [] ls') m.at
        → KeptPuts enc text kept d (writing f.progress b ls) (writing m.progress b ls') m.at
    unfolding KeptPuts MeasuredPlaces
    measured_wanted m ls' e' h w fs k = rw (empty b h) (placed_puts enc fs (writing m.progress [] ls') [] ls m.at e' (w fs k.measures))

    pub kept_wanted : (w' : Writing) (at : ℕ) → c ≡ true → KeptPlaces enc text kept d (writing f.progress b ls) w' at
        → KeptPuts enc text kept d (writing f.progress b ls) w' at
    unfolding KeptPuts KeptPlaces
    kept_wanted w' at e' w fs k = placed_puts enc fs w' b ls at e' (w fs k)

  module _ (enc : Encoder) (path : Res (List ForAll)) (b ls : List ℕ) where
    pub path_passed : (m : Moved) → c ≡ false → Passes f d m → PutsUnder (head_parts enc) path d (writing f.progress b ls) (writing m.progress b ls) m.at
    unfolding PutsUnder Passes
    path_passed m e' u fs q g = u (sym e ∙ e') enc fs b ls

    pub path_wanted : (w' : Writing) (at : ℕ) → c ≡ true → PathPlaces enc path d (writing f.progress b ls) w' at
        → PutsUnder (head_parts enc) path d (writing f.progress b ls) w' at
    unfolding PutsUnder PathPlaces
    path_wanted w' at e' w fs q g = placed_puts enc fs w' b ls at e' (w fs q g)

-- the assertion of a head that was measured
pub measured_placed : (enc : Encoder) (kept : Kept) (d : Res Pred) (p p' : Progress) (ls ls' : List ℕ) (n at : ℕ) → Counted p n ls p' ls' → MeasuredSends enc kept d n at
    → MeasuredPlaces enc kept d (writing p [] ls) (writing p' [] ls') at
unfolding MeasuredSends MeasuredPlaces Places
measured_placed enc kept d p p' ls ls' n at e w fs k =
    part_placed (assert_text enc fs) p p' [] ls ls' d [] 0 0 n at (omega arith) refl (omega arith) (w fs k) e

-- the assertion of a head behind what was written
module _ (enc : Encoder) (d : Res Pred) (p p' : Progress) (xs ys ls ls' : List ℕ) (start z n at : ℕ) (e : start ≡ min p.len (length xs)) (e0 : z ≡ 0) (m : length xs ≤ most)
    (e' : Counted p n ls p' ls') where
  pub kept_placed : (text : List ℕ) (kept : Kept) → KeptSends enc text kept d (output (take (length xs - start) (drop start xs)) z) (output ys n) at
      → KeptPlaces enc text kept d (writing p xs ls) (writing p' (take start xs ++ (ys ++ drop (length xs - start) (drop start xs))) ls') at
  unfolding KeptSends KeptPlaces Places
  kept_placed text kept w fs k = part_placed (assert_text enc fs) p p' xs ls ls' d ys start z n at e e0 m (w fs k) e'

  pub path_placed : (path : Res (List ForAll)) → HeadSends (assert_text enc) path d (output (take (length xs - start) (drop start xs)) z) (output ys n) at
      → PathPlaces enc path d (writing p xs ls) (writing p' (take start xs ++ (ys ++ drop (length xs - start) (drop start xs))) ls') at
  unfolding HeadSends PathPlaces Places
  path_placed path w fs q g = part_placed (assert_text enc fs) p p' xs ls ls' d ys start z n at e e0 m (w fs q g) e'

-- where ForAlls stand on a path and all is kept of them, the number of their guards is that of the path
pub kept_numbers : (s : List ℕ) (enc : Encoder) (text os : List ℕ) (kept : Kept) (fs : List ForAll) (z : ℕ) → on_path s os ≡ got fs z → Keeps enc fs text kept → Numbers s os kept.count
unfolding Numbers
kept_numbers s enc text os kept fs z e k gs q g =
    let n : got fs z ≡ got gs q = sym e ∙ g in
    let i : fs ≡ gs = cc in
    ap (λ (x : Kept). x.count) k.measures ∙ ap (λ (hs : List ForAll). length (guards_of hs)) i

-- A CONSTRAINT BY ITS NODE

-- the walk goes on from another position, with the same progress
abbrev To : Moved → ℕ → Progress → Type 0
To m at p = (m.at ≡ at) × (m.progress ≡ p)

module _ (enc : Encoder) (path : Res (List ForAll)) (pr : Progress) (xs ls : List ℕ) (w' : Writing) (q : ℕ) where
  -- a constraint that is made of another piece
  under_map : {B : Type 0} (k : B → Constraint) (x : Res B) → PutsUnder (λ fs b. clause_parts enc fs (k b)) path x (writing pr xs ls) w' q
      → PutsUnder (clause_parts enc) path (bind x (λ b t. got (k b) t)) (writing pr xs ls) w' q
  unfolding PutsUnder Puts
  under_map k x u fs z g =
      runs_then (λ v c. puts v (clause_parts enc fs c)) (writing pr xs ls) w' q (λ v b. puts v (clause_parts enc fs (k b))) x _ (writing pr xs ls) w' q (u fs z g) (λ b e v.
      runs_end (λ v c. puts v (clause_parts enc fs c)) (writing pr xs ls) w' q (k b) q refl v)

  module _ (l : ℕ) (s : List ℕ) (at : ℕ) where
    pub none_left : l ≡ 0 → PutsUnder (clause_parts enc) path (dec_constraint l s at) (writing pr xs ls) w' q
    unfolding PutsUnder Puts dec_constraint
    none_left z fs t g = rw z (runs_refused (λ v c. puts v (clause_parts enc fs c)) (writing pr xs ls) w' q 3)

    pub node_refused : (node : Answered ConstraintNode) (r : Refusal) → (l ≡ 0 → ⊥) → ConstraintAt s at node → node ≡ Err r → PutsUnder (clause_parts enc) path (dec_constraint l s at) (writing pr xs ls) w' q
    unfolding PutsUnder Puts constraint_of
    node_refused node r z h e fs t g = rw (constraint_at l s at node (Err r) z h e) (runs_refused (λ v c. puts v (clause_parts enc fs c)) (writing pr xs ls) w' q (number_of r))

    module _ (node : ConstraintNode) (p : ℕ) (z : l ≡ 0 → ⊥) (h : ConstraintAt s at (Ok (node, p))) where
      by_node : (node' : ConstraintNode) → node ≡ node' → dec_constraint l s at ≡ constraint_of s (l - 1) (dec_constraint (l - 1)) (Ok (node', p))
      by_node node' e = constraint_at l s at (Ok (node, p)) (Ok (node', p)) z h (ap (λ (n : ConstraintNode). Ok (n, p)) e)

      pub node_pred : (m : Moved) → node ≡ constraint_node.Pred → To m p pr → PutsUnder (head_parts enc) path (dec_pred (l - 1) s m.at) (writing m.progress xs ls) w' q
          → PutsUnder (clause_parts enc) path (dec_constraint l s at) (writing pr xs ls) w' q
      unfolding constraint_of head_parts clause_parts
      node_pred m e i u = rw (by_node constraint_node.Pred e) (under_map Constraint.pred (dec_pred (l - 1) s p) (rw (i.0, i.1) at u))

      pub node_conj : (n : ℕ) (k : Kept) (m : Row) → node ≡ constraint_node.Conj n → (m.from.moved.at ≡ p) × (m.from.moved.progress ≡ pr) × (m.from.kept ≡ k) × (m.left ≡ n)
          → PutsUnder (member_parts enc) path (many Constraints.none Constraints.more (dec_constraint (l - 1)) m.left s m.from.moved.at) (writing m.from.moved.progress xs ls) w' q
          → PutsUnder (clause_parts enc) path (dec_constraint l s at) (writing pr xs ls) w' q
      unfolding constraint_of member_parts clause_parts flatten_constraint
      node_conj n k m e i u =
          rw (by_node (constraint_node.Conj n) e)
          (under_map Constraint.conj (many Constraints.none Constraints.more (dec_constraint (l - 1)) n s p) (rw (i.0, i.1, i.3) at u))

      pub node_for_all : (m : Moved) → node ≡ constraint_node.ForAll → To m p pr → PutsUnder (clause_parts enc) path (for_all (l - 1) s m.at) (writing m.progress xs ls) w' q
          → PutsUnder (clause_parts enc) path (dec_constraint l s at) (writing pr xs ls) w' q
      unfolding constraint_of
      node_for_all m e i u = rw (by_node constraint_node.ForAll e) (rw (i.0, i.1) at u)

-- MEMBERS

member_steps : (enc : Encoder) (fs : List ForAll)
    → Steps Constraints.none Constraints.more (λ (w : Writing) (c : Constraint). puts w (clause_parts enc fs c)) (λ w cs. puts w (member_parts enc fs cs))
unfolding puts clause_parts member_parts flatten_constraints
member_steps enc fs = record {
  none = λ w. refl;
  step = λ w c cs.
      ap (puts w) (map-append (write_assert enc) (flatten_constraint c (binders_of fs) (guards_of fs)) (flatten_constraints cs (binders_of fs) (guards_of fs)))
      ∙ puts_append w (write_asserts enc (flatten_constraint c (binders_of fs) (guards_of fs))) (write_asserts enc (flatten_constraints cs (binders_of fs) (guards_of fs)));
}

-- a piece before the rest of a row
runs_before : {A R W : Type 0} {end : R} {more : A → R → R} {one : W → A → W} {all : W → R → W} (steps : Steps end more one all) (x : Res A) (rest : ℕ → Res R) (w w' z : W) (p t : ℕ)
    → Runs one x w w' p → Runs all (rest p) w' z t → Runs all (bind x (λ a p1. bind (rest p1) (λ b q. got (more a b) q))) w z t
runs_before {more = more} {all = all} steps x rest w w' z p t u v b q e =
    let i = bind_got x (λ a p1. bind (rest p1) (λ c p2. got (more a c) p2)) b q e in
    let j = bind_got (rest i.next) (λ c p2. got (more i.value c) p2) b q i.then in
    let y = u i.value i.next i.first in
    let y' = v j.value j.next (rw y.0 j.first) in
    let eb : more i.value j.value ≡ b = cc in
    let ep : j.next ≡ q = cc in
    (y'.0 ∙ ep, y'.1 ∙ rw y.1 (sym (steps.step w i.value j.value) ∙ ap (all w) eb))

module _ (holds : List ForAll → Type 0) (enc : Encoder) (l : ℕ) (s : List ℕ) where
  pub onward_start : (n m at : ℕ) (w : Writing) → m ≡ n → Onward holds enc l s n at w m at w
  unfolding Onward
  onward_start n m at w e = rw e (λ fs h z t u. u)

  onward_one : (n p : ℕ) (w w' : Writing) (t : ℕ) → ((fs : List ForAll) → holds fs → Puts (clause_parts enc fs) (dec_constraint l s p) w w' t)
      → Onward holds enc l s (suc n) p w n t w'
  unfolding Onward Puts
  onward_one n p w w' t u fs e z r v =
      runs_before (member_steps enc fs) (dec_constraint l s p) (many Constraints.none Constraints.more (dec_constraint l) n s) w w' z t r (u fs e) v

  module _ (n at : ℕ) (w : Writing) (n1 p : ℕ) (w1 : Writing) (i : Onward holds enc l s n at w n1 p w1) where
    pub onward_then : (n2 q : ℕ) (w2 : Writing) → Onward holds enc l s n1 p w1 n2 q w2 → Onward holds enc l s n at w n2 q w2
    unfolding Onward
    onward_then n2 q w2 j fs h z t u = i fs h z t (j fs h z t u)

    -- one more constraint
    pub onward_more : (n2 : ℕ) (w2 : Writing) (t : ℕ) → n1 ≡ suc n2 → ((fs : List ForAll) → holds fs → Puts (clause_parts enc fs) (dec_constraint l s p) w1 w2 t)
        → Onward holds enc l s n at w n2 t w2
    onward_more n2 w2 t h u = onward_then n2 t w2 (rw (sym h) at (onward_one n2 p w1 w2 t u))

    -- none is left
    pub onward_end : n1 ≤ 0 → (fs : List ForAll) → holds fs → Puts (member_parts enc fs) (many Constraints.none Constraints.more (dec_constraint l) n s at) w w1 p
    unfolding Onward Puts
    onward_end h fs e =
        let en : n1 ≡ 0 = omega arith in
        i fs e w1 p (rw en (λ b q g. let z : Constraints.none ≡ b = cc in (cc, sym ((member_steps enc fs).none w1) ∙ ap (λ (cs : Constraints). puts w1 (member_parts enc fs cs)) z)))

    pub onward_holds : (holds' : List ForAll → Type 0) → ((fs : List ForAll) → holds' fs → holds fs) → Onward holds' enc l s n at w n1 p w1
    unfolding Onward
    onward_holds holds' k fs h z t u = i fs (k fs h) z t u

-- the loop over members on a path: n of m are left
module _ (enc : Encoder) (path : Res (List ForAll)) (l : ℕ) (s : List ℕ) (m at : ℕ) (first : Writing) where
  pub Members : ℕ → ℕ → Writing → Type 0
  Members n p w = (q : ℕ) → Onward (λ fs. path ≡ got fs q) enc l s m at first n p w

  pub members_start : Members m at first
  unfolding Members
  members_start q = onward_start _ enc l s m m at first refl

  pub members_more : (n p : ℕ) (w w' : Writing) (t : ℕ) → 0 < n → Members n p w → PutsUnder (clause_parts enc) path (dec_constraint l s p) w w' t → Members (n - 1) t w'
  unfolding Members PutsUnder
  members_more n p w w' t h i u q = onward_more _ enc l s m at first n p w (i q) (n - 1) w' t (omega arith) (λ fs g. u fs q g)

  pub members_end : (n p : ℕ) (w : Writing) → n ≤ 0 → Members n p w → PutsUnder (member_parts enc) path (many Constraints.none Constraints.more (dec_constraint l) m s at) first w p
  unfolding Members PutsUnder
  members_end n p w h i fs q g = onward_end _ enc l s m at first n p w (i q) h fs g

-- A FORALL

-- a name and a sort make a binder
made_binder : (l : ℕ) (s : List ℕ) (at : ℕ) (x : List ℕ) (p : ℕ) (b : Sort) (q : ℕ) → name s at ≡ got x p → dec_sort l s p ≡ got b q
    → binder l s at ≡ got (record { name = x; sort = b }) q
made_binder l s at x p b q e h = rw (e, h)

-- a ForAll part by part
record Parts (l : ℕ) (s : List ℕ) (at : ℕ) (c : Constraint) (t : ℕ) : Type 0 where
  all : ForAll
  inner : Constraint
  p : ℕ
  n : ℕ
  q : ℕ
  body : ℕ
  binds : binder l s at ≡ got all.binder p
  numbers : number 2 s p ≡ got n q
  holds : many [] ◌∷◌ (dec_pred l) n s q ≡ got all.preds body
  rest : dec_constraint l s body ≡ got inner t
  is : Constraint.for_all all.binder.name all.binder.sort all.preds inner ≡ c

parts : (l : ℕ) (s : List ℕ) (at : ℕ) (c : Constraint) (t : ℕ) → for_all l s at ≡ got c t → Parts l s at c t
parts l s at c t e =
    let x = bind_got (name s at) _ c t e in
    let b = bind_got (dec_sort l s x.next) _ c t x.then in
    let k = bind_got (counted [] ◌∷◌ (dec_pred l) s b.next) _ c t b.then in
    let n = bind_got (number 2 s b.next) (λ n p. many [] ◌∷◌ (dec_pred l) n s p) k.value k.next k.first in
    let i = bind_got (dec_constraint l s k.next) _ c t k.then in
    let et : i.next ≡ t = cc in
    record {
      all = record { binder = record { name = x.value; sort = b.value }; preds = k.value };
      inner = i.value;
      p = b.next;
      n = n.value;
      q = n.next;
      body = k.next;
      binds = made_binder l s at x.value x.next b.value b.next x.first b.first;
      numbers = n.first;
      holds = n.then;
      rest = i.first ∙ ap (got i.value) et;
      is = cc;
    }

-- an offset before a path
on_cons : (s os : List ℕ) (o : ℕ) (f : ForAll) (p : ℕ) (fs : List ForAll) (q : ℕ) → for_all_at s o ≡ got f p → on_path s os ≡ got fs q
    → on_path s (o ∷ os) ≡ got (f ∷ fs) q
unfolding on_path
on_cons s os o f p fs q e h = rw (e, h)

-- an offset that is put on a path
on_snoc : (s os : List ℕ) (at : ℕ) (fs : List ForAll) (q : ℕ) (f : ForAll) → on_path s os ≡ got fs q → for_all_at s at ≡ got f 0
    → on_path s (os ++ at ∷ []) ≡ got (fs ++ f ∷ []) 0
unfolding on_path
on_snoc s [] at fs q f e h =
    let z : [] ≡ fs = cc in
    rw (h, ← z)
on_snoc s (o ∷ os) at fs q f e h =
    let i = bind_got (for_all_at s o) _ fs q e in
    let j = bind_got (on_path s os) _ fs q i.then in
    let z : i.value ∷ j.value ≡ fs = cc in
    on_cons s (os ++ at ∷ []) o i.value i.next (j.value ++ f ∷ []) 0 i.first (on_snoc s os at j.value j.next f j.first h)
    ∙ ap (λ (gs : List ForAll). got (gs ++ f ∷ []) 0) z

-- the ForAll of a header that was read: it is the same with more levels
header_at : (l : ℕ) (s : List ℕ) (at : ℕ) (b : Binder) (ps : List Pred) (q : ℕ) → l ≤ deepest → header l s at ≡ got (record { binder = b; preds = ps }) q
    → for_all_at s at ≡ got (record { binder = b; preds = ps }) 0
unfolding for_all_at
header_at l s at b ps q d e =
    let i = bind_got (binder l s at) _ (record { binder = b; preds = ps }) q e in
    let j = bind_got (counted [] ◌∷◌ (dec_pred l) s i.next) _ (record { binder = b; preds = ps }) q i.then in
    let n = bind_got (number 2 s i.next) (λ n p. many [] ◌∷◌ (dec_pred l) n s p) j.value j.next j.first in
    let h : ◌≡◌ {A = Header} (record { binder = i.value; preds = j.value }) (record { binder = b; preds = ps }) = cc in
    rw (
      (deeper.binders l deepest d).agrees s at i.value i.next i.first,
      n.first,
      (deeper.preds l deepest d n.value).agrees s n.next j.value j.next n.then,
    )
    (ap (λ (x : Header). got (record { binder = x.binder; preds = x.preds }) 0) h)

-- what is under a ForAll too
under_one : (enc : Encoder) (w : Writing) (fs : List ForAll) (f : ForAll) (c : Constraint)
    → puts w (clause_parts enc (fs ++ f ∷ []) c) ≡ puts w (clause_parts enc fs (Constraint.for_all f.binder.name f.binder.sort f.preds c))
unfolding clause_parts flatten_constraint
under_one enc w fs f c = rw (binders_snoc fs f, guards_snoc fs f)

module _ (enc : Encoder) (s os : List ℕ) (l at : ℕ) (pr : Progress) (xs ls : List ℕ) (w' : Writing) (t : ℕ) where
  headed : (c : Constraint) (z : ℕ) (h : for_all l s at ≡ got c z) → header l s at ≡ got (record { binder = (parts l s at c z h).all.binder; preds = (parts l s at c z h).all.preds }) (parts l s at c z h).body
  headed c z h = let i = parts l s at c z h in rw (i.binds, i.numbers, i.holds)

  -- one that is refused in its header
  pub for_all_unheaded : (k : ℕ) → refuse k ≡ walked header_fault (header l s at) → PutsUnder (clause_parts enc) (on_path s os) (for_all l s at) (writing pr xs ls) w' t
  unfolding PutsUnder Puts
  for_all_unheaded k e fs q g c z h = got_refuse (sym (headed c z h) ∙ refused_is header_fault (header l s at) k e)

  -- its body is walked with its offset on the path
  pub for_all_puts : (b : ℕ) (x : Fault) (os' : List ℕ) (j : Moved) → l ≤ deepest → got x b ≡ walked header_fault (header l s at) → os' ≡ os ++ at ∷ [] → To j b pr
      → PutsUnder (clause_parts enc) (on_path s os') (dec_constraint l s j.at) (writing j.progress xs ls) w' t → PutsUnder (clause_parts enc) (on_path s os) (for_all l s at) (writing pr xs ls) w' t
  unfolding PutsUnder Puts
  for_all_puts b x os' j d e o ej i fs y g c z h =
      let a = parts l s at c z h in
      let eb : got x b ≡ got (header_fault (record { binder = a.all.binder; preds = a.all.preds })) a.body = e ∙ ap (walked header_fault) (headed c z h) in
      let e1 : b ≡ a.body = cc in
      let stands : for_all_at s at ≡ got a.all 0 = header_at l s at a.all.binder a.all.preds a.body d (headed c z h) in
      let on : on_path s os' ≡ got (fs ++ a.all ∷ []) 0 = ap (on_path s) o ∙ on_snoc s os at fs y a.all g stands in
      let n = i (fs ++ a.all ∷ []) 0 on a.inner z (rw (ej.0, e1) a.rest) in
      (n.0, n.1 ∙ rw ej.1 (under_one enc (writing pr xs ls) fs a.all a.inner ∙ ap (λ (k : Constraint). puts (writing pr xs ls) (clause_parts enc fs k)) a.is))

-- a header that was read has an offset of two bytes
pub header_offset : (l : ℕ) (s : List ℕ) (at q : ℕ) (f : Fault) → got f q ≡ walked header_fault (header l s at) → length s < 65536 → at < 65536
header_offset l s at q f e h =
    let y = next_is header_fault (header l s at) q f e in
    let b = bind_got (binder l s at) _ y.value q y.is in
    let n = bind_got (name s at) _ b.value b.next b.first in
    let g = name_inside s at n.value n.next n.first in
    omega arith

-- HEADS FOR WHICH WHAT IS KEPT IS ENOUGH

-- where there is room in the buffer, there is room in the text
pub enough_room : (size room : ℕ) (kept : Kept) → enough size room kept ≡ true → (room ≡ 0 → ⊥) → fits size kept ≡ true
enough_room size room kept h n = rw (ne_eqb room 0 n) at h

-- a head in a row
module _ (l : ℕ) (s : List ℕ) (at : ℕ) (h : is_head l s at ≡ true) where
  pub head_put : (enc : Encoder) (text : List ℕ) (kept : Kept) (f m : Moved) (b ls : List ℕ) (w' : Writing) (t : ℕ) → at ≡ f.at
      → (m.at ≡ at + 1) × (m.progress ≡ f.progress) → KeptPuts enc text kept (dec_pred (l - 1) s m.at) (writing m.progress b ls) w' t
      → (fs : List ForAll) → Keeps enc fs text kept → Puts (clause_parts enc fs) (dec_constraint l s f.at) (writing f.progress b ls) w' t
  unfolding PutsUnder KeptPuts
  head_put enc text kept f m b ls w' t ea u w fs k =
      let n = head_node l s at true (sym h) refl in
      rw (← ea)
      (node_pred enc (got fs 0) f.progress b ls w' t l s at constraint_node.Pred (at + 1) n.0 n.1 m refl u
      (λ gs q g. let i : fs ≡ gs = cc in rw i at (w fs k)) fs 0 refl)

-- ForAlls that stand on a path and of which all is kept
on_path_lem : (s : List ℕ) (enc : Encoder) (text os : List ℕ) (kept : Kept) (fs gs : List ForAll) (z q : ℕ) → on_path s os ≡ got fs z → Keeps enc fs text kept → on_path s os ≡ got gs q
    → Keeps enc gs text kept
on_path_lem s enc text os kept fs gs z q e k g =
    let n : got fs z ≡ got gs q = sym e ∙ g in
    let i : fs ≡ gs = cc in
    rw i at k

-- heads of a row that were put are members that were put
pub members_heads : (s : List ℕ) (enc : Encoder) (text : List ℕ) (path : Path) (kept : Kept) (l : ℕ) → Ready s enc text path kept l → (m at : ℕ) (first : Writing) (n p : ℕ) (w : Writing) (n' p' : ℕ) (w' : Writing)
    → Members enc (on_path s (entries path)) l s m at first n p w
    → Onward (λ fs. Keeps enc fs text kept) enc l s n p w n' p' w'
    → Members enc (on_path s (entries path)) l s m at first n' p' w'
unfolding Members
members_heads s enc text path kept l r m at first n p w n' p' w' i j q =
    onward_then _ enc l s m at first n p w (i q) n' p' w'
    (onward_holds _ enc l s n p w n' p' w' j (λ fs. on_path s (entries path) ≡ got fs q) (λ fs g. on_path_lem s enc text (entries path) kept r.around fs 0 q r.stands r.keeps g))

-- a head by itself is a row of one
one_head : (s : List ℕ) (enc : Encoder) (text : List ℕ) (path : Path) (kept : Kept) (l : ℕ) → Ready s enc text path kept l → (at : ℕ) (w : Writing) (n p : ℕ) (w' : Writing) → n < 1
    → Onward (λ fs. Keeps enc fs text kept) enc l s 1 at w n p w'
    → PutsUnder (clause_parts enc) (on_path s (entries path)) (dec_constraint l s at) w w' p
unfolding PutsUnder Puts
one_head s enc text path kept l r at w n p w' h j fs q g c z e =
    let k = on_path_lem s enc text (entries path) kept r.around fs 0 q r.stands r.keeps g in
    let u = onward_end _ enc l s 1 at w n p w' j (omega arith) fs k (Constraints.more c Constraints.none) z (rw e refl) in
    let st = member_steps enc fs in
    (u.0, u.1 ∙ st.step w c Constraints.none ∙ st.none (puts w (clause_parts enc fs c)))

pub row_of_one : (s : List ℕ) (enc : Encoder) (text : List ℕ) (path : Path) (k : Kept) (l : ℕ) → Ready s enc text path k l → (at : ℕ) (pr : Progress) (xs ls : List ℕ) (m r : Row) (w' : Writing)
    → (m.from.moved.at ≡ at) × (m.from.moved.progress ≡ pr) × (m.from.kept ≡ k) × (m.left ≡ 1)
    → HeadsPut s enc text l m (writing m.from.moved.progress xs ls) r w' → r.left < m.left
    → PutsUnder (clause_parts enc) (on_path s (entries path)) (dec_constraint l s at) (writing pr xs ls) w' r.from.moved.at
row_of_one s enc text path k l rd at pr xs ls m r w' e h g =
    let n = e.3 in
    one_head s enc text path k l rd at (writing pr xs ls) r.left r.from.moved.at w' (omega arith) (rw (e.0, e.1, e.2, e.3) at h)

-- READY

module _ (s : List ℕ) (enc : Encoder) (text : List ℕ) (path : Path) (k : Kept) (l : ℕ) (h : Ready s enc text path k l) where
  pub ready_fewer : (j : ℕ) (k' : Kept) → j ≤ l → k' ≡ k → Ready s enc text path k' j
  ready_fewer j k' g e = record {
    short = h.short;
    leaves = leaves_fewer path l j g h.leaves;
    around = h.around;
    stands = h.stands;
    keeps = rw e h.keeps;
  }

  pub ready_stays : (text' : List ℕ) (k' : Kept) → Stays k text text' → k' ≡ k → Ready s enc text' path k' l
  ready_stays text' k' g e = record {
    short = h.short;
    leaves = h.leaves;
    around = h.around;
    stands = h.stands;
    keeps = rw e (keeps_stays enc h.around text text' k h.keeps g);
  }

-- A FORALL'S OWN

module _ (s : List ℕ) (enc : Encoder) (text text' : List ℕ) (path : Path) (k own : Kept) (l at : ℕ) (h : Ready s enc text path k (l + 1)) (b : ℕ) (x : Fault)
    (e : got x b ≡ walked header_fault (header l s at)) (u : Extends s enc at k text text' own) where
  -- the ForAll
  last : ForAll
  last = let y = next_is header_fault (header l s at) b x e in record { binder = y.value.binder; preds = y.value.preds }

  last_stands : for_all_at s at ≡ got last 0
  unfolding last
  last_stands =
      let y = next_is header_fault (header l s at) b x e in
      let g = h.leaves.within in
      header_at l s at y.value.binder y.value.preds b (omega arith) y.is

  extended : Extended enc last k text text' own
  unfolding Extends
  extended = u last 0 last_stands

  -- what it has is added without reaching the largest number
  pub own_added : ((i : ℕ) → get_or s i 0 < 256) → Valid enc.names → (k.vars + own.vars ≤ most) × (k.guards + own.guards ≤ most) × (k.count + own.count ≤ most)
  own_added bytes valid =
      let p : plus k own ≡ measured enc (h.around ++ last ∷ []) = measured_plus enc h.around (last ∷ []) k own h.keeps.measures extended.measures in
      let g = path_short s bytes h.short enc valid (entries path ++ at ∷ []) (h.around ++ last ∷ []) 0 (on_snoc s (entries path) at h.around 0 last h.stands last_stands) in
      let n = length-append (entries path) (at ∷ []) in
      let d = depth_is path (l + 1) h.leaves in
      let w = h.leaves.within in (
        omega (arith, ap (λ (y : Kept). y.vars) p, g.0),
        omega (arith, ap (λ (y : Kept). y.guards) p, g.1),
        omega (arith, ap (λ (y : Kept). y.count) p, g.2),
      )

  module _ (k' : Kept) (i : k' ≡ plus k own) where
    -- the walk goes on below
    pub ready_pushed : (path' : Path) → (entries path' ≡ entries path ++ at ∷ []) × (path'.depth ≡ path.depth + 1) × (length path'.offsets ≡ 256) → Ready s enc text' path' k' l
    ready_pushed path' g = record {
      short = h.short;
      leaves = leaves_pushed path path' l at h.leaves g;
      around = h.around ++ last ∷ [];
      stands = ap (on_path s) g.0 ∙ on_snoc s (entries path) at h.around 0 last h.stands last_stands;
      keeps = keeps_extended enc last k own k' text text' extended i h.around h.keeps;
    }

    -- what stays of the longer path stays
    pub stays_inside : (text'' : List ℕ) → Stays k' text' text'' → Stays k text text''
    stays_inside text'' y = stays_around enc last k own k' text text' extended i text'' y

-- coming up, the numbers are those that were given
pub own_within : (k own k' back : Kept) → k' ≡ plus k own → back ≡ k' → Within own back
own_within k own k' back e r = within_plus k own back (r ∙ e)

pub own_back : (k own k' back up : Kept) → k' ≡ plus k own → back ≡ k' → up ≡ minus back own → up ≡ k
own_back k own k' back up e r m = m ∙ plus_minus k own back (r ∙ e)
