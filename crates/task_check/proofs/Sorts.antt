-- What the steps of check_sort add up to, with premises in the form in which the code's steps give them.
use Rattle.std.specs.Prelude.{Ok, Err}
use mathlib.Core.Path.{◌≡◌, refl, sym, ap, ◌∙◌}
use mathlib.Core.Bool.{Bool, true, false}
use mathlib.Core.List.{List}
use Prim.Native.Nat.{ℕ, ◌-◌}
use Rattle.task.specs.declared.Fault.{Fault}
use Rattle.task.specs.declared.SortNode.{SortNode}
use Rattle.task.specs.declared.SortNode.TheVariants as sort_node_is
use Rattle.task.specs.Ast.{SortCtor, Sort, Sorts}
use Rattle.task.specs.Decode.{Res, got, refuse, bind, Decoder, give, ◌▹◌, many, dec_sort}
use Rattle.task.specs.Fault.{lower, name_fault, width_fault, sort_fault, sorts_fault}
use Rattle.task.specs.declared.Refusal.{Refusal}
use Rattle.task.specs.Node.{sort_of, SortAt}
use Rattle.task.specs.Refusals.{number_of}
use Rattle.task.proofs.Judging.{lower_assoc, sound_lower}
use Rattle.task.proofs.Nodes.{sort_at}
use Rattle.task_check.specs.declared.SortParts.{SortParts}
use Rattle.task_check.specs.declared.SortParts.TheVariants as sort_parts_is
use Rattle.task_check.specs.Walk.{walked, after, sort_parts}
use Rattle.task_check.proofs.Rows.{Fold, row_step, row_stop, row_all}

pub sorts_fold : Fold Sorts.none Sorts.more (sort_fault false) sorts_fault
unfolding sort_fault sorts_fault
sorts_fold = record { none = refl; step = λ b bs. refl }

-- the walk of what a node leaves
abbrev walk_parts : List ℕ → Decoder Sort → ℕ → SortParts → Res Fault
walk_parts s sort p (sort_parts_is.Row n f) = after f (walked sorts_fault (many Sorts.none Sorts.more sort n s p))
walk_parts s sort p (sort_parts_is.Width f) = after f (walked (sort_fault true) (sort s p))

module _ (s : List ℕ) (sort : Decoder Sort) (under : Bool) where
  leaf : (b : Sort) (f : Fault) (p : ℕ) → sort_fault under b ≡ f → walked (sort_fault under) (got b p) ≡ walk_parts s sort p (sort_parts_is.Row 0 f)
  leaf b f p e = row_stop sorts_fold sort s (sort_fault under) f b p e

  applied : (c : SortCtor) (f : Fault) (n p : ℕ) → ((bs : Sorts) → sort_fault under (Sort.app c bs) ≡ lower f (sorts_fault bs))
      → walked (sort_fault under) ((many Sorts.none Sorts.more sort n ▹ λ bs. give (Sort.app c bs)) s p) ≡ walk_parts s sort p (sort_parts_is.Row n f)
  applied c f n p e = row_all sorts_fold sort s (sort_fault under) f (Sort.app c) n p e

  width : (x : Res Sort) → walked (sort_fault under) (bind x (λ b q. got (Sort.bit_vec b) q)) ≡ after (width_fault under) (walked (sort_fault true) x)
  unfolding sort_fault
  width (got b q) = refl
  width (refuse k) = refl

  node_walks : (n : SortNode) (p : ℕ) → walked (sort_fault under) (sort_of s sort (Ok (n, p))) ≡ walk_parts s sort p (sort_parts under n)
  unfolding sort_of sort_fault sorts_fault
  node_walks sort_node_is.Int p = leaf Sort.int _ p refl
  node_walks sort_node_is.Bool p = leaf Sort.bool _ p refl
  node_walks sort_node_is.Real p = leaf Sort.real _ p refl
  node_walks sort_node_is.Str p = leaf Sort.str _ p refl
  node_walks sort_node_is.BitVec p = width (sort s p)
  node_walks (sort_node_is.BvSize n) p = leaf (Sort.bv_size n) _ p refl
  node_walks (sort_node_is.Var n) p = leaf (Sort.var n) _ p refl
  node_walks sort_node_is.Func p =
      row_step sorts_fold sort s (sort_fault under) (width_fault under) (λ a. sort ▹ λ b. give (Sort.func a b)) 1 p (λ a q.
      row_step sorts_fold sort s (sort_fault under) (lower (width_fault under) (sort_fault false a)) (λ b. give (Sort.func a b)) 0 q (λ b r.
      row_stop sorts_fold sort s (sort_fault under) _ (Sort.func a b) r (sym (lower_assoc (width_fault under) (sort_fault false a) (sort_fault false b)))))
  node_walks (sort_node_is.Abs n) p =
      row_step sorts_fold sort s (sort_fault under) (width_fault under) (λ b. give (Sort.abs n b)) 0 p (λ b q.
      row_stop sorts_fold sort s (sort_fault under) _ (Sort.abs n b) q refl)
  node_walks (sort_node_is.Set n) p = applied SortCtor.set (width_fault under) n p (λ bs. ap (lower (width_fault under)) (sound_lower (sorts_fault bs)))
  node_walks (sort_node_is.Map n) p = applied SortCtor.map (width_fault under) n p (λ bs. ap (lower (width_fault under)) (sound_lower (sorts_fault bs)))
  node_walks (sort_node_is.Data x n) p =
      applied (SortCtor.named x.now) (lower (width_fault under) (name_fault x.now)) n p
      (λ bs. sym (lower_assoc (width_fault under) (name_fault x.now) (sorts_fault bs)))

module _ (l : ℕ) (s : List ℕ) (at : ℕ) (under : Bool) where
  pub sort_none : l ≡ 0 → refuse 3 ≡ walked (sort_fault under) (dec_sort l s at)
  unfolding dec_sort
  sort_none e = rw e

  module _ (z : l ≡ 0 → ⊥) where
    pub sort_refused : (r : Refusal) → SortAt s at (Err r) → refuse (number_of r) ≡ walked (sort_fault under) (dec_sort l s at)
    unfolding sort_of
    sort_refused r h = ap (walked (sort_fault under)) (sym (sort_at l s at (Err r) (Err r) z h refl))

    module _ (node : SortNode) (p : ℕ) (h : SortAt s at (Ok (node, p))) where
      by_parts : (parts : SortParts) → parts ≡ sort_parts under node → walk_parts s (dec_sort (l - 1)) p parts ≡ walked (sort_fault under) (dec_sort l s at)
      by_parts parts e =
          ap (walk_parts s (dec_sort (l - 1)) p) e ∙ sym (node_walks s (dec_sort (l - 1)) under node p)
          ∙ ap (walked (sort_fault under)) (sym (sort_at l s at (Ok (node, p)) (Ok (node, p)) z h refl))

      pub sort_row : (n : ℕ) (f : Fault) (v w : Res Fault) → sort_parts_is.Row n f ≡ sort_parts under node
          → v ≡ walked sorts_fault (many Sorts.none Sorts.more (dec_sort (l - 1)) n s p) → w ≡ after f v → w ≡ walked (sort_fault under) (dec_sort l s at)
      sort_row n f v w e u u' = u' ∙ ap (after f) u ∙ by_parts (sort_parts_is.Row n f) e

      pub sort_width : (f : Fault) (v w : Res Fault) → sort_parts_is.Width f ≡ sort_parts under node
          → v ≡ walked (sort_fault true) (dec_sort (l - 1) s p) → w ≡ after f v → w ≡ walked (sort_fault under) (dec_sort l s at)
      sort_width f v w e u u' = u' ∙ ap (after f) u ∙ by_parts (sort_parts_is.Width f) e
