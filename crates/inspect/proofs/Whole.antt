-- The answer for the whole file is put together from the walks of its sections.
use Rattle.std.specs.Prelude.{Result, Ok, Err}
use mathlib.Core.Path.{◌≡◌, refl, sym, ap, subst, ◌∙◌}
use mathlib.Core.Bool.{Bool, true, false, cond}
use mathlib.Core.List.{List, []}
use Prim.Native.Nat.{ℕ, ◌+◌, ◌<◌, ◌≤◌}
use native.Mathlib.Nat.{zero-add, add_assoc}
use lib.Dec.{eqb}
use lib.ListN.{length, take, length-take}
use native.Mathlib.Omega.{arith}
use Rattle.item_check.specs.declared.Section.{Section}
use Rattle.task.specs.declared.Fault.{Fault}
use Rattle.task.specs.Ast.{DataDecl, Binder, FunDef, KVarDecl, Constraint, Task}
use Rattle.task.specs.Decode.{Res, got, refuse, bind, section, comment, datatype, constant, function, kvar, dec_constraint, deepest}
use Rattle.task.specs.Fault.{lower, each, refusal_of, text_fault, datatype_fault, binder_fault, function_fault, kvar_fault, constraint_fault, task_fault}
use Rattle.task.specs.Task.{bound, framed, within, decoded, judged_by, heads_of}
use Rattle.task.proofs.Judging.{lower_assoc}
use Rattle.constraint_check.specs.declared.Counted.{Counted}
use Rattle.constraint_check.specs.Tally.{tally}
use Rattle.item_check.specs.declared.Section.TheVariants.{Comments, Datatypes, Constants, Functions, KVars}
use Rattle.item_check.specs.Items.{item_walk}
use Rattle.trailer.specs.declared.Bounds.{Bounds}
use Rattle.trailer.specs.Bounds.{bounds_of, Inside, trailer_of}
use Rattle.trailer.proofs.Trailers.{framed_is}
use Rattle.inspect.specs.declared.Inspected.{Inspected}
use Rattle.task.specs.declared.Refusal.{Refusal}
use Rattle.task.specs.declared.Refusal.TheVariants.{Trailer}
use Rattle.task.specs.Refusals.{number_of}
use Rattle.smtlib.proofs.Bools.{clash}
use borrow.Author.Tests.{eq-eqb, ne_eqb}
use Rattle.inspect.specs.Inspect.{sizes_of, inspected_of}
use Rattle.inspect.specs.Walk.{Listed, join, walk_items, listed, uncounted, section_of, items_of, judge, conclude, finish, sound_of}
use Rattle.inspect.proofs.Sections.{counts, listed_walks, items_most}

-- comments are not counted
abbrev taken : Section → Listed → Listed
taken Comments x = uncounted x
taken Datatypes x = x
taken Constants x = x
taken Functions x = x
taken KVars x = x

-- the walk of a section is that of what is decoded there; comments are not counted
section_is : (k : Section) (s : List ℕ) (at : ℕ) → section_of k s at ≡ taken k (walk_items (length s) (item_walk k s) (length s) at)
unfolding section_of item_walk
section_is Comments s at = ap uncounted (listed_walks text_fault comment s (length s) at)
section_is Datatypes s at = listed_walks datatype_fault datatype s (length s) at
section_is Constants s at = listed_walks binder_fault constant s (length s) at
section_is Functions s at = listed_walks function_fault function s (length s) at
section_is KVars s at = listed_walks kvar_fault kvar s (length s) at

-- the code's answer for a section
module _ (k : Section) (s : List ℕ) (at : ℕ) where
  abbrev walk : Listed
  walk = walk_items (length s) (item_walk k s) (length s) at

  pub part_refused : (j : ℕ) → Err j ≡ walk → Err j ≡ section_of k s at
  part_refused j e = sym (section_is k s at ∙ ap (taken k) (sym e) ∙ go k)
    where
      go : (k : Section) → taken k (Err j) ≡ Err j
      go Comments = refl
      go Datatypes = refl
      go Constants = refl
      go Functions = refl
      go KVars = refl

  module _ (n : ℕ) (f : Fault) (e : Ok (n, f) ≡ walk) where
    pub part_counted : (k ≡ Comments → ⊥) → Ok (n, f) ≡ section_of k s at
    part_counted o = sym (section_is k s at ∙ ap (taken k) (sym e) ∙ go k o)
      where
        go : (k : Section) → (k ≡ Comments → ⊥) → taken k (Ok (n, f)) ≡ Ok (n, f)
        go Comments o = absurd (o refl)
        go Datatypes o = refl
        go Constants o = refl
        go Functions o = refl
        go KVars o = refl

    pub part_comments : k ≡ Comments → Ok (0, f) ≡ section_of k s at
    part_comments c = sym (section_is k s at ∙ ap (taken k) (sym e) ∙ ap (λ (j : Section). taken j (Ok (n, f))) c)

-- a section has no more items than the file has bytes
pub section_most : (k : Section) (file : List ℕ) (end at n : ℕ) (f : Fault) → length file ≤ 60000 → Ok (n, f) ≡ section_of k (take end file) at → n ≤ 60000
section_most k file end at n f h e = go k (walk_items (length s) (item_walk k s) (length s) at) (e ∙ section_is k s at) (λ m g u. items_most (length s) (item_walk k s) (length s) at m g u)
  where
    s : List ℕ
    s = take end file

    few : length (take end file) ≤ 60000
    few = rw (length-take end file) (omega arith)

    go : (k : Section) (x : Listed) → Ok (n, f) ≡ taken k x → ((m : ℕ) (g : Fault) → Ok (m, g) ≡ x → m ≤ length (take end file)) → n ≤ 60000
    go Comments (Ok (m, g)) e l = let z : n ≡ 0 = ap counts e in omega arith
    go Comments (Err j) e l = absurd (let z : ◌≡◌ {A = ℕ} 0 1 = cc in omega arith)
    go Datatypes x e l = let z = l n f e in let y = few in omega arith
    go Constants x e l = let z = l n f e in let y = few in omega arith
    go Functions x e l = let z = l n f e in let y = few in omega arith
    go KVars x e l = let z = l n f e in let y = few in omega arith

-- five sections one after another: the first refusal, or all of them
module _ (file : List ℕ) (b : Bounds) where
  pub stops_0 : (j : ℕ) → Err j ≡ section_of Comments (take b.datatypes file) b.comments → Err j ≡ items_of file b
  stops_0 j e = rw (← e)

  module _ (n0 : ℕ) (f0 : Fault) (e0 : Ok (n0, f0) ≡ section_of Comments (take b.datatypes file) b.comments) where
    pub stops_1 : (j : ℕ) → Err j ≡ section_of Datatypes (take b.constants file) b.datatypes → Err j ≡ items_of file b
    stops_1 j e = rw (← e0, ← e)

    module _ (n1 : ℕ) (f1 : Fault) (e1 : Ok (n1, f1) ≡ section_of Datatypes (take b.constants file) b.datatypes) where
      pub stops_2 : (j : ℕ) → Err j ≡ section_of Constants (take b.functions file) b.constants → Err j ≡ items_of file b
      stops_2 j e = rw (← e0, ← e1, ← e)

      module _ (n2 : ℕ) (f2 : Fault) (e2 : Ok (n2, f2) ≡ section_of Constants (take b.functions file) b.constants) where
        pub stops_3 : (j : ℕ) → Err j ≡ section_of Functions (take b.kvars file) b.functions → Err j ≡ items_of file b
        stops_3 j e = rw (← e0, ← e1, ← e2, ← e)

        module _ (n3 : ℕ) (f3 : Fault) (e3 : Ok (n3, f3) ≡ section_of Functions (take b.kvars file) b.functions) where
          pub stops_4 : (j : ℕ) → Err j ≡ section_of KVars (take b.constraint file) b.kvars → Err j ≡ items_of file b
          stops_4 j e = rw (← e0, ← e1, ← e2, ← e3, ← e)

          pub all_five : (n4 : ℕ) (f4 g3 g2 g1 f : Fault) → Ok (n4, f4) ≡ section_of KVars (take b.constraint file) b.kvars
              → g3 ≡ lower f3 f4 → g2 ≡ lower f2 g3 → g1 ≡ lower f1 g2 → f ≡ lower f0 g1 → Ok (n0 + (n1 + (n2 + (n3 + n4))), f) ≡ items_of file b
          all_five n4 f4 g3 g2 g1 f e4 u3 u2 u1 u = rw (← e0, ← e1, ← e2, ← e3, ← e4, u, u1, u2, u3)

-- the whole chain
module _ (file : List ℕ) where
  -- by the answers of the sections' decoders
  chain : Res (List (List ℕ)) → Res (List DataDecl) → Res (List Binder) → Res (List FunDef) → Res (List KVarDecl) → Res Constraint → Res Task
  chain x0 x1 x2 x3 x4 x5 =
      bind x0 (λ comments _. bind x1 (λ datatypes _. bind x2 (λ constants _. bind x3 (λ functions _. bind x4 (λ kvars _. bind x5 (λ constraint end.
      cond (eqb end (bound file 6))
      (got (record { comments = comments; datatypes = datatypes; constants = constants; functions = functions; kvars = kvars; constraint = constraint }) end)
      (refuse 2)))))))

  parts : Res (List (List ℕ)) → Res (List DataDecl) → Res (List Binder) → Res (List FunDef) → Res (List KVarDecl) → Listed
  parts x0 x1 x2 x3 x4 =
      join (uncounted (listed text_fault x0)) (join (listed datatype_fault x1) (join (listed binder_fault x2) (join (listed function_fault x3) (listed kvar_fault x4))))

  regroup : (a b c d e f : Fault) → lower a (lower b (lower c (lower d (lower e f)))) ≡ lower (lower a (lower b (lower c (lower d e)))) f
  regroup a b c d e f =
      sym (lower_assoc a (lower b (lower c (lower d e))) f ∙ ap (lower a) (lower_assoc b (lower c (lower d e)) f ∙ ap (lower b) (lower_assoc c (lower d e) f ∙ ap (lower c) (lower_assoc d e f))))

  count : (a b c d : ℕ) → a + b + c + d ≡ 0 + (a + (b + (c + d)))
  count a b c d = sym (zero-add (a + (b + (c + d))) ∙ sym (add_assoc a b (c + d)) ∙ sym (add_assoc (a + b) c d))

  judges : (t : Task) (end n h : ℕ) (f : Fault) → task_fault t ≡ f → (n ≡ length t.datatypes + length t.constants + length t.functions + length t.kvars) → h ≡ heads_of t.constraint
      → inspected_of file (judged_by task_fault t end) ≡ judge (bounds_of file) n h f
  judges t end n h f e u u' = rw (e, u, u') (go (eqb (refusal_of f) 0))
    where
      go : (b : Bool) → inspected_of file (cond b (got t end) (refuse (refusal_of f))) ≡ cond b (Ok (sizes_of (bounds_of file) (length t.datatypes + length t.constants + length t.functions + length t.kvars) (heads_of t.constraint))) (Err (refusal_of f))
      go true = refl
      go false = refl

  chains : (x0 : Res (List (List ℕ))) (x1 : Res (List DataDecl)) (x2 : Res (List Binder)) (x3 : Res (List FunDef)) (x4 : Res (List KVarDecl)) (x5 : Res Constraint)
      → inspected_of file (bind (chain x0 x1 x2 x3 x4 x5) (judged_by task_fault)) ≡ finish (bounds_of file) (parts x0 x1 x2 x3 x4) (tally (constraint_fault []) heads_of x5)
  unfolding chain parts task_fault
  chains (refuse k) x1 x2 x3 x4 x5 = refl
  chains (got a p) (refuse k) x2 x3 x4 x5 = refl
  chains (got a p) (got b q) (refuse k) x3 x4 x5 = refl
  chains (got a p) (got b q) (got c r) (refuse k) x4 x5 = refl
  chains (got a p) (got b q) (got c r) (got d t) (refuse k) x5 = refl
  chains (got a p) (got b q) (got c r) (got d t) (got e u) (refuse k) = refl
  chains (got a p) (got b q) (got c r) (got d t) (got e u) (got f v) = go (eqb v (bound file 6))
    where
      whole : Task
      whole = record { comments = a; datatypes = b; constants = c; functions = d; kvars = e; constraint = f }

      fault : Fault
      fault = lower (lower (each text_fault a) (lower (each datatype_fault b) (lower (each binder_fault c) (lower (each function_fault d) (each kvar_fault e))))) (constraint_fault [] f)

      go : (t : Bool) → inspected_of file (bind (cond t (got whole v) (refuse 2)) (judged_by task_fault))
          ≡ cond t (judge (bounds_of file) (0 + (length b + (length c + (length d + length e)))) (heads_of f) fault) (Err 2)
      go true = judges whole v (0 + (length b + (length c + (length d + length e)))) (heads_of f) fault
          (regroup (each text_fault a) (each datatype_fault b) (each binder_fault c) (each function_fault d) (each kvar_fault e) (constraint_fault [] f))
          (sym (count (length b) (length c) (length d) (length e))) refl
      go false = refl

  pub whole_is : framed file ≡ true
      → inspected_of file (sound_of file) ≡ finish (bounds_of file) (items_of file (bounds_of file)) (tally (constraint_fault []) heads_of (within file 5 (dec_constraint deepest)))
  unfolding sound_of decoded chain parts section_of
  whole_is e =
      rw e (chains (within file 0 (section comment)) (within file 1 (section datatype)) (within file 2 (section constant)) (within file 3 (section function)) (within file 4 (section kvar)) (within file 5 (dec_constraint deepest)))

  pub unframed : framed file ≡ false → Err 1 ≡ inspected_of file (sound_of file)
  unfolding sound_of
  unframed e = rw e

  -- what read_trailer answered
  by_trailer : (x : Result Bounds Refusal) → x ≡ trailer_of file → {C : Type 0} → (framed file ≡ true → x ≡ Ok (bounds_of file) → C) → (framed file ≡ false → x ≡ Err Trailer → C) → C
  by_trailer x e {C = C} read none = go (framed file) refl
    where
      go : (t : Bool) → framed file ≡ t → C
      go true u = read u (e ∙ rw u)
      go false u = none u (e ∙ rw u)

  pub pieces_unframed : (r : Refusal) → Err r ≡ trailer_of file → Err (number_of r) ≡ inspected_of file (sound_of file)
  pieces_unframed r e = by_trailer (Err r) e (λ u h. clash (cc)) (λ u h. let z : r ≡ Trailer = cc in rw z (unframed u))

  module _ (b : Bounds) (e : Ok b ≡ trailer_of file) where
    framed_at : (framed file ≡ true) × (b ≡ bounds_of file)
    framed_at = by_trailer (Ok b) e (λ u h. (u, cc)) (λ u h. clash (cc))

    pub pieces_inside : Inside file b
    pieces_inside = subst (Inside file) (sym framed_at.1) (framed_is file framed_at.0)

    -- two bytes hold each offset of the constraint
    pub pieces_short : length (take b.end file) < 65536
    pieces_short = let m = pieces_inside.most in let l = length-take b.end file in omega arith

    abbrev counted : Res Counted
    counted = tally (constraint_fault []) heads_of (dec_constraint deepest (take b.end file) b.constraint)

    by_parts : (l : Listed) → l ≡ items_of file b → finish b l counted ≡ inspected_of file (sound_of file)
    by_parts l u =
        ap (λ (x : Listed). finish b x counted) u
        ∙ ap (λ (z : Bounds). finish z (items_of file z) (tally (constraint_fault []) heads_of (dec_constraint deepest (take z.end file) z.constraint))) framed_at.1
        ∙ sym (whole_is framed_at.0)

    pub pieces_refused : (k : ℕ) → Err k ≡ items_of file b → Err k ≡ inspected_of file (sound_of file)
    pieces_refused k u = by_parts (Err k) u

    module _ (n : ℕ) (f : Fault) (u : Ok (n, f) ≡ items_of file b) where
      by_count : (c : Res Counted) → c ≡ counted → conclude b n f c ≡ inspected_of file (sound_of file)
      by_count c v = ap (conclude b n f) v ∙ by_parts (Ok (n, f)) u

      pub pieces_stop : (k : ℕ) → refuse k ≡ counted → Err k ≡ inspected_of file (sound_of file)
      pieces_stop k v = by_count (refuse k) v

      module _ (c : Counted) (p : ℕ) (v : got c p ≡ counted) where
        pub pieces_left : (p ≡ b.end → ⊥) → Err 2 ≡ inspected_of file (sound_of file)
        pieces_left o = rw (ne_eqb p b.end o) at (by_count (got c p) v)

        pub pieces_judged : (w : Result Inspected ℕ) → p ≡ b.end → w ≡ judge b n c.heads (lower f c.fault) → w ≡ inspected_of file (sound_of file)
        pieces_judged w o h = h ∙ rw (eq-eqb p b.end o) at (by_count (got c p) v)
