-- What is kept of a path: that the numbers are those of the path, that the text is the path's own where there is room for it, and that both stay
-- while the walk is below.
use mathlib.Core.Path.{◌≡◌, refl, sym, ap, ◌∙◌}
use mathlib.Core.List.{List, [], ◌∷◌, ◌++◌, append-nil, append_assoc}
use Prim.Native.Nat.{ℕ, suc, ◌+◌, ◌-◌, ◌/◌, ◌≤◌, min}
use native.Mathlib.Omega.{arith}
use lib.ListN.{length, set, take, drop, length-append, length-take, length-drop, drop_of_length-le}
use lib.Seq.{sets, sets-eq, length-sets, take-append_seam, take-take, take_at, drop_at, take-set-le, take_all}
use Rattle.task.specs.Ast.{Pred}
use Rattle.task.specs.Decode.{Res, got}
use Rattle.smt_text.specs.Encoder.{Encoder}
use Rattle.smt_text.specs.Text.{write_binder}
use Rattle.horn_text.specs.Clauses.{ForAll, kept, guards_of}
use Rattle.horn_text.specs.Script.{write_preds}
use Rattle.output.specs.Emit.{output, most, Sends}
use Rattle.output.proofs.Sent.{sent_lent}
use Rattle.assertion.specs.declared.Kept as code
use Rattle.assertion.specs.Under.{for_all_at, vars_text, guards_text}
use Rattle.assertion.specs.Kept.{measured, plus, minus, Within, vars_half, guards_half, Begins, Keeps, Stays, Stores, Counts, Extended, Extends}
use Rattle.assertion.proofs.Guards.{spaced_append, preds_append}

-- THE NUMBERS

pub same_kept : {v v' g g' c c' : ℕ} → v ≡ v' → g ≡ g' → c ≡ c'
    → ◌≡◌ {A = code.Kept} (record { vars = v; guards = g; count = c }) (record { vars = v'; guards = g'; count = c' })
same_kept p q r = λ i. record { vars = p i; guards = q i; count = r i }

-- texts of more ForAlls stand behind those of the others
vars_append : (enc : Encoder) (fs gs : List ForAll) → vars_text enc (fs ++ gs) ≡ vars_text enc fs ++ vars_text enc gs
unfolding vars_text
vars_append enc [] gs = refl
vars_append enc (f ∷ fs) gs =
    ap (λ (w : List ℕ). write_binder enc f.binder ++ w) (vars_append enc fs gs)
    ∙ sym (append_assoc (write_binder enc f.binder) (vars_text enc fs) (vars_text enc gs))

all_append : (fs gs : List ForAll) → guards_of (fs ++ gs) ≡ guards_of fs ++ guards_of gs
all_append [] gs = refl
all_append (f ∷ fs) gs = ap (λ (ps : List Pred). kept f.preds ++ ps) (all_append fs gs) ∙ sym (append_assoc (kept f.preds) (guards_of fs) (guards_of gs))

guards_append : (enc : Encoder) (fs gs : List ForAll) → guards_text enc (fs ++ gs) ≡ guards_text enc fs ++ guards_text enc gs
unfolding guards_text
guards_append enc fs gs = rw (all_append fs gs, preds_append enc (guards_of fs) (guards_of gs)) (spaced_append (write_preds enc (guards_of fs)) (write_preds enc (guards_of gs)))

-- so the numbers add up
pub measured_append : (enc : Encoder) (fs gs : List ForAll) → measured enc (fs ++ gs) ≡ plus (measured enc fs) (measured enc gs)
measured_append enc fs gs =
    same_kept
    (ap length (vars_append enc fs gs) ∙ length-append (vars_text enc fs) (vars_text enc gs))
    (ap length (guards_append enc fs gs) ∙ length-append (guards_text enc fs) (guards_text enc gs))
    (ap length (all_append fs gs) ∙ length-append (guards_of fs) (guards_of gs))

pub measured_plus : (enc : Encoder) (fs gs : List ForAll) (k own : code.Kept) → k ≡ measured enc fs → own ≡ measured enc gs → plus k own ≡ measured enc (fs ++ gs)
measured_plus enc fs gs k own e e' = rw (e, e') (sym (measured_append enc fs gs))

-- what was added is no more than all, and taking it back undoes the adding
pub within_plus : (k own k' : code.Kept) → k' ≡ plus k own → Within own k'
within_plus k own k' e = rw e (record { vars_within = omega arith; guards_within = omega arith; count_within = omega arith })

pub plus_minus : (k own k' : code.Kept) → k' ≡ plus k own → minus k' own ≡ k
plus_minus k own k' e = rw e (same_kept (omega arith) (omega arith) (omega arith))

-- THE TEXT

-- what is stored from a place on leaves what stands before it
take_sets : (u xs : List ℕ) (n i : ℕ) → n ≤ i → take n (sets xs i u) ≡ take n xs
take_sets [] xs n i h = refl
take_sets (a ∷ u) xs n i h = take_sets u (set xs i a) n (suc i) (omega arith) ∙ take-set-le n xs i a h

-- a text behind another
begins_more : (half t u : List ℕ) (n : ℕ) → n ≡ length t → Begins half t → Begins (sets half n u) (t ++ u)
begins_more half t u n e h g =
    let a = length-append t u in
    let b = length-sets half n u in
    let l : n + length u ≤ length half = omega arith in
    rw (sets-eq u half n l, e, h (omega arith)) (take-append_seam (t ++ u) (drop (length t + length u) half))

-- fewer of the same
fewer : (xs ys : List ℕ) (m n : ℕ) → m ≤ n → take n xs ≡ take n ys → take m xs ≡ take m ys
fewer xs ys m n h e = sym (take-take m n xs h) ∙ ap (take m) e ∙ take-take m n ys h

-- the same first bytes begin with the same text
begins_same : (half half' t : List ℕ) (n : ℕ) → n ≡ length t → length half' ≡ length half → take n half' ≡ take n half → Begins half t → Begins half' t
begins_same half half' t n e l s h g = rw e at s ∙ h (rw l at g)

-- halves of texts of the same size have the same size
vars_size : (text text' : List ℕ) → length text' ≡ length text → length (vars_half text') ≡ length (vars_half text)
vars_size text text' e = length-take (length text' / 2) text' ∙ rw e (sym (length-take (length text / 2) text))

guards_size : (text text' : List ℕ) → length text' ≡ length text → length (guards_half text') ≡ length (guards_half text)
guards_size text text' e = length-drop (length text' / 2) text' ∙ rw e (sym (length-drop (length text / 2) text))

-- KEPT

-- of the path without ForAlls
pub keeps_start : (enc : Encoder) (text : List ℕ) (k : code.Kept) → (k.vars ≡ 0) × (k.guards ≡ 0) × (k.count ≡ 0) → Keeps enc [] text k
unfolding vars_text guards_text
keeps_start enc text k e = record { measures = same_kept e.0 e.1 e.2; vars = λ h. refl; guards = λ h. refl }

-- what stays and stays again stays
pub stays_then : (k : code.Kept) (a a' a'' : List ℕ) → Stays k a a' → Stays k a' a'' → Stays k a a''
stays_then k a a' a'' x y = record { size = y.size ∙ x.size; same_vars = y.same_vars ∙ x.same_vars; same_guards = y.same_guards ∙ x.same_guards }

-- what stays is kept still
pub keeps_stays : (enc : Encoder) (fs : List ForAll) (text text' : List ℕ) (k : code.Kept) → Keeps enc fs text k → Stays k text text' → Keeps enc fs text' k
keeps_stays enc fs text text' k h st = record {
  measures = h.measures;
  vars = begins_same (vars_half text) (vars_half text') (vars_text enc fs) k.vars (ap (λ (x : code.Kept). x.vars) h.measures) (vars_size text text' st.size) st.same_vars h.vars;
  guards = begins_same (guards_half text) (guards_half text') (guards_text enc fs) k.guards (ap (λ (x : code.Kept). x.guards) h.measures) (guards_size text text' st.size) st.same_guards h.guards;
}

module _ (enc : Encoder) (f : ForAll) (k own k' : code.Kept) (text text' : List ℕ) (x : Extended enc f k text text' own) (e : k' ≡ plus k own) where
  -- with one ForAll more
  pub keeps_extended : (fs : List ForAll) → Keeps enc fs text k → Keeps enc (fs ++ f ∷ []) text' k'
  keeps_extended fs h = record {
    measures = e ∙ measured_plus enc fs (f ∷ []) k own h.measures x.measures;
    vars = rw (vars_append enc fs (f ∷ []), x.vars) (begins_more (vars_half text) (vars_text enc fs) (vars_text enc (f ∷ [])) k.vars (ap (λ (y : code.Kept). y.vars) h.measures) h.vars);
    guards = rw (guards_append enc fs (f ∷ []), x.guards) (begins_more (guards_half text) (guards_text enc fs) (guards_text enc (f ∷ [])) k.guards (ap (λ (y : code.Kept). y.guards) h.measures) h.guards);
  }

  -- what stays of the longer path stays of the path around it
  pub stays_around : (text'' : List ℕ) → Stays k' text' text'' → Stays k text text''
  stays_around text'' y =
      let v : k.vars ≤ k'.vars = rw e (omega arith) in
      let g : k.guards ≤ k'.guards = rw e (omega arith) in
      stays_then k text text' text''
      (record {
        size = x.size;
        same_vars = rw x.vars (take_sets (vars_text enc (f ∷ [])) (vars_half text) k.vars k.vars (omega arith));
        same_guards = rw x.guards (take_sets (guards_text enc (f ∷ [])) (guards_half text) k.guards k.guards (omega arith));
      })
      (record {
        size = y.size;
        same_vars = fewer (vars_half text'') (vars_half text') k.vars k'.vars v y.same_vars;
        same_guards = fewer (guards_half text'') (guards_half text') k.guards k'.guards g y.same_guards;
      })

-- EXTENDED

-- a text that was sent to what is left of a half
pub stores : (text : ForAll → List ℕ) (d : Res ForAll) (xs ys : List ℕ) (n start z r : ℕ) → start ≡ min n (length xs) → z ≡ 0 → length xs ≤ most
    → Sends text d (output (take (length xs - start) (drop start xs)) z) (output ys r) 0 → ((f : ForAll) (p : ℕ) → d ≡ got f p → length (text f) ≤ most)
    → Stores text d n xs (take start xs ++ (ys ++ drop (length xs - start) (drop start xs))) r
unfolding Sends Stores
stores text d xs ys n start z r e e0 h w short f p g =
    let l = sent_lent (text f) xs ys n start z r e e0 h (w f p g).1 in
    let k = short f p g in
    (l.1 ∙ omega arith, l.0)

-- both halves were lent, and a ForAll's binder and its guards were put into them
module _ (text ys : List ℕ) (ly : length ys ≡ length (take (length text / 2) text)) where
  -- the text with the first half
  abbrev first : List ℕ
  first = ys ++ drop (length text / 2) text

  half_is : length ys ≡ length text / 2
  half_is = ly ∙ length-take (length text / 2) text ∙ omega arith

  pub first_size : length first ≡ length text
  first_size = length-append ys (drop (length text / 2) text) ∙ rw (half_is, length-drop) (omega arith)

  rest_is : drop (length text / 2) first ≡ guards_half text
  rest_is = drop_at ys (drop (length text / 2) text) (length text / 2) half_is

  -- all of the second half was lent
  lent_is : take (length first - length text / 2) (drop (length text / 2) first) ≡ guards_half text
  lent_is = rw (rest_is, first_size) (take_all (length text - length text / 2) (guards_half text) (rw length-drop (omega arith)))

  module _ (zs : List ℕ) (lz : length zs ≡ length (take (length first - length text / 2) (drop (length text / 2) first))) where
    -- and with the second
    abbrev second : List ℕ
    second = take (length text / 2) first ++ (zs ++ drop (length first - length text / 2) (drop (length text / 2) first))

    second_is : second ≡ ys ++ zs
    second_is =
        let none : drop (length first - length text / 2) (drop (length text / 2) first) ≡ [] = rw (rest_is, first_size) (drop_of_length-le (guards_half text) {i = length text - length text / 2} (rw length-drop (omega arith))) in
        rw (none, append-nil zs, take_at ys (drop (length text / 2) text) (length text / 2) half_is)

    pub extends : (s : List ℕ) (enc : Encoder) (at : ℕ) (k : code.Kept) (v g c : ℕ)
        → Stores (λ f. vars_text enc (f ∷ [])) (for_all_at s at) k.vars (take (length text / 2) text) ys v
        → Stores (λ f. guards_text enc (f ∷ [])) (for_all_at s at) k.guards (take (length first - length text / 2) (drop (length text / 2) first)) zs g → Counts (for_all_at s at) c
        → Extends s enc at k text second (record { vars = v; guards = g; count = c })
    unfolding Stores Counts Extends
    extends s enc at k v g c w u n f p e =
        let size : length second ≡ length text = ap length (second_is) ∙ length-append ys zs ∙ rw (half_is, lz, lent_is, length-drop) (omega arith) in
        record {
          measures = same_kept (w f p e).0 (u f p e).0 (n f p e);
          size = size;
          vars = rw (size, second_is) (take_at ys zs (length text / 2) half_is ∙ (w f p e).1);
          guards = rw (size, second_is) (drop_at ys zs (length text / 2) half_is ∙ (u f p e).1 ∙ rw lent_is);
        }
