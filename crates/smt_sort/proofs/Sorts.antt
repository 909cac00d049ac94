-- What the steps of the sort writers add up to.
use Rattle.std.specs.Prelude.{Option, Some, None, is_some, Ok, Err}
use mathlib.Core.Path.{◌≡◌, refl, sym, ap, ◌∙◌}
use mathlib.Core.Bool.{Bool, true, false, not, cond}
use mathlib.Core.List.{List, [], ◌∷◌}
use Prim.Native.Nat.{ℕ, ◌-◌}
use Rattle.smtlib.specs.Lexicon.{bytes, is_one}
use Rattle.smtlib.specs.Compose.{decimal}
use Rattle.task.specs.declared.Fault.{Fault}
use Rattle.task.specs.declared.Refusal.{Refusal}
use Rattle.task.specs.declared.SortNode.{SortNode}
use Rattle.task.specs.declared.SortNode.TheVariants as sort_node_is
use Rattle.task.specs.Ast.{SortCtor, Sort, Sorts}
use Rattle.task.specs.Decode.{got, refuse, bind, many, name, binder, dec_sort}
use Rattle.task.specs.Fault.{sorts_fault}
use Rattle.task.specs.Node.{Bytes, sort_of, SortAt}
use Rattle.task.specs.Refusals.{number_of}
use Rattle.task.proofs.Nodes.{sort_at}
use Rattle.task_check.specs.Walk.{walked}
use Rattle.task_check.proofs.Rows.{next_is, refused_is}
use Rattle.names.specs.declared.Kind.{Kind}
use Rattle.names.specs.declared.Kind.TheVariants.{Datatype}
use Rattle.names.specs.Table.{number_of as code_of, entries, last_of, fits}
use Rattle.names.specs.Theorems.{is_found}
use Rattle.names.proofs.Theorems.{members}
use Rattle.smt_text.specs.Encoder.{Encoder, is_opaque}
use Rattle.smt_text.specs.Text.{applied, write_name, write_parameter, write_sort_ctor, write_sort, write_sorts, write_binder, write_binders}
use Rattle.output.specs.Emit.{Output, emit, emits, Sends}
use Rattle.output.proofs.Sent.{emits_append}
use Rattle.output.proofs.Sending.{sends_refused, sends_end, sends_then, sends_map, Row}
use Rattle.smt_sort.specs.Section.{declared_in, encoder_in, applied_text}

pub sorts_row : (enc : Encoder) → Row Sorts.none Sorts.more (write_sort enc) (write_sorts enc)
unfolding write_sort write_sorts
sorts_row enc = record { none = refl; step = λ b bs. refl }

pub binders_row : (enc : Encoder) → Row [] ◌∷◌ (write_binder enc) (write_binders enc)
binders_row enc = record { none = refl; step = λ b bs. refl }

-- a search finds the declared names of its kind
pub declared_is : (s enc x : List ℕ) (kind : Kind) (f : Option ℕ) → f ≡ last_of (fits x (code_of kind) (code_of kind)) (entries s enc) → is_some f ≡ is_one x (declared_in s enc kind)
unfolding declared_in
declared_is s enc x kind f e = same f ∙ ap is_found e ∙ members x (code_of kind) (code_of kind) (entries s enc)
  where
    same : (f : Option ℕ) → is_some f ≡ is_found f
    same (Some k) = refl
    same None = refl

-- what stands behind a node
module _ (enc : Encoder) (s : List ℕ) (l p : ℕ) (o : Output) where
  pub bit_vec_sends : (o1 o2 o3 : Output) (q : ℕ) → o1 ≡ emits o (bytes "(_ BitVec ") → Sends (write_sort enc) (dec_sort l s p) o1 o2 q → o3 ≡ emit o2 41
      → Sends (write_sort enc) (sort_of s (dec_sort l) (Ok (sort_node_is.BitVec, p))) o o3 q
  unfolding sort_of write_sort emits
  bit_vec_sends o1 o2 o3 q e1 w e3 =
      sends_then (write_sort enc) o o3 q (write_sort enc) (dec_sort l s p) _ o1 o2 q w (λ b e v.
      sends_end (write_sort enc) o o3 q (Sort.bit_vec b) q refl (rw (e3, v, e1) (simp emits_append)))

  pub func_sends : (o1 o2 o3 o4 o5 : Output) (q r : ℕ) → o1 ≡ emits o (bytes "(Array ") → Sends (write_sort enc) (dec_sort l s p) o1 o2 q → o3 ≡ emit o2 32
      → Sends (write_sort enc) (dec_sort l s q) o3 o4 r → o5 ≡ emit o4 41 → Sends (write_sort enc) (sort_of s (dec_sort l) (Ok (sort_node_is.Func, p))) o o5 r
  unfolding sort_of write_sort emits
  func_sends o1 o2 o3 o4 o5 q r e1 w e3 w' e5 =
      sends_then (write_sort enc) o o5 r (write_sort enc) (dec_sort l s p) _ o1 o2 q w (λ a e v.
      sends_then (write_sort enc) o o5 r (write_sort enc) (dec_sort l s q) _ o3 o4 r w' (λ b e' v'.
      sends_end (write_sort enc) o o5 r (Sort.func a b) r refl (rw (e5, v', e3, v, e1) (simp emits_append))))

  -- a sort that is made of others: its text by whether it is opaque, and what is sent if it is not
  app_text : (c : SortCtor) (t : Bool) → is_opaque enc.declares c ≡ t → (bs : Sorts) → write_sort enc (Sort.app c bs) ≡ cond t (bytes "Int") (applied_text enc c bs)
  unfolding write_sort applied_text
  app_text c t h bs = ap (λ (u : Bool). cond u (bytes "Int") (applied (write_sort_ctor c) (write_sorts enc bs))) h

  made_sends : (c : SortCtor) (node : SortNode) (n : ℕ) (o' : Output) (r : ℕ) → is_opaque enc.declares c ≡ false
      → sort_of s (dec_sort l) (Ok (node, p)) ≡ bind (many Sorts.none Sorts.more (dec_sort l) n s p) (λ bs q. got (Sort.app c bs) q)
      → Sends (applied_text enc c) (many Sorts.none Sorts.more (dec_sort l) n s p) o o' r → Sends (write_sort enc) (sort_of s (dec_sort l) (Ok (node, p))) o o' r
  made_sends c node n o' r h e w =
      rw e
      (sends_then (write_sort enc) o o' r (applied_text enc c) (many Sorts.none Sorts.more (dec_sort l) n s p) _ o o' r w (λ bs e' v.
      sends_end (write_sort enc) o o' r (Sort.app c bs) r refl (v ∙ ap (emits o) (sym (app_text c false h bs)))))

-- a datatype that is declared, and one that is not
module _ (s enc : List ℕ) (l : ℕ) (x : Bytes) (n p : ℕ) (o : Output) (t : Bool) (e : t ≡ is_one x.now (declared_in s enc Datatype)) where
  opaque_is : is_opaque (encoder_in s enc).declares (SortCtor.named x.now) ≡ not t
  unfolding encoder_in declared_in
  opaque_is = ap not (sym e)

  pub data_sends : (o' : Output) (r : ℕ) → t ≡ true
      → Sends (applied_text (encoder_in s enc) (SortCtor.named x.now)) (many Sorts.none Sorts.more (dec_sort l) n s p) o o' r
      → Sends (write_sort (encoder_in s enc)) (sort_of s (dec_sort l) (Ok (sort_node_is.Data x n, p))) o o' r
  unfolding sort_of
  data_sends o' r u w =
      made_sends (encoder_in s enc) s l p o (SortCtor.named x.now) (sort_node_is.Data x n) n o' r (opaque_is ∙ ap not u) refl w

  pub opaque_sends : (q : ℕ) (f : Fault) (o' : Output) (r : ℕ) → t ≡ false
      → got f q ≡ walked sorts_fault (many Sorts.none Sorts.more (dec_sort l) n s p) → (r ≡ q) × (o' ≡ emits o (bytes "Int"))
      → Sends (write_sort (encoder_in s enc)) (sort_of s (dec_sort l) (Ok (sort_node_is.Data x n, p))) o o' r
  unfolding sort_of
  opaque_sends q f o' r u h w =
      let y = next_is sorts_fault (many Sorts.none Sorts.more (dec_sort l) n s p) q f h in
      rw y.is
      (sends_end (write_sort (encoder_in s enc)) o o' r (Sort.app (SortCtor.named x.now) y.value) q w.0
      (w.1 ∙ ap (emits o) (sym (app_text (encoder_in s enc) s l p o (SortCtor.named x.now) true (opaque_is ∙ ap not u) y.value))))

  pub skipped_sends : (k : ℕ) (o' : Output) (r : ℕ) → refuse k ≡ walked sorts_fault (many Sorts.none Sorts.more (dec_sort l) n s p)
      → Sends (write_sort (encoder_in s enc)) (sort_of s (dec_sort l) (Ok (sort_node_is.Data x n, p))) o o' r
  unfolding sort_of
  skipped_sends k o' r h =
      rw (refused_is sorts_fault (many Sorts.none Sorts.more (dec_sort l) n s p) k h) (sends_refused (write_sort (encoder_in s enc)) o o' r k)

-- a sort by its node
module _ (enc : Encoder) (l : ℕ) (s : List ℕ) (at : ℕ) (o o' : Output) (r : ℕ) where
  pub sort_none : l ≡ 0 → Sends (write_sort enc) (dec_sort l s at) o o' r
  unfolding dec_sort
  sort_none e = rw e (sends_refused (write_sort enc) o o' r 3)

  module _ (z : l ≡ 0 → ⊥) where
    pub sort_refused : (k : Refusal) → SortAt s at (Err k) → Sends (write_sort enc) (dec_sort l s at) o o' r
    unfolding sort_of
    sort_refused k h = rw (sort_at l s at (Err k) (Err k) z h refl) (sends_refused (write_sort enc) o o' r (number_of k))

    module _ (node : SortNode) (p : ℕ) (h : SortAt s at (Ok (node, p))) where
      pub sort_arm : (node' : SortNode) → node ≡ node' → Sends (write_sort enc) (sort_of s (dec_sort (l - 1)) (Ok (node', p))) o o' r
          → Sends (write_sort enc) (dec_sort l s at) o o' r
      sort_arm node' e w = rw (sort_at l s at (Ok (node, p)) (Ok (node', p)) z h (ap (λ (n : SortNode). Ok (n, p)) e)) w

      -- a node that is the whole sort
      leaf : (node' : SortNode) (b : Sort) → node ≡ node' → sort_of s (dec_sort (l - 1)) (Ok (node', p)) ≡ got b p → (r ≡ p) × (o' ≡ emits o (write_sort enc b))
          → Sends (write_sort enc) (dec_sort l s at) o o' r
      leaf node' b e u v = sort_arm node' e (rw u (sends_end (write_sort enc) o o' r b p v.0 v.1))

      pub int_arm : node ≡ sort_node_is.Int → (r ≡ p) × (o' ≡ emits o (bytes "Int")) → Sends (write_sort enc) (dec_sort l s at) o o' r
      unfolding sort_of write_sort
      int_arm e v = leaf _ Sort.int e refl v

      pub bool_arm : node ≡ sort_node_is.Bool → (r ≡ p) × (o' ≡ emits o (bytes "Bool")) → Sends (write_sort enc) (dec_sort l s at) o o' r
      unfolding sort_of write_sort
      bool_arm e v = leaf _ Sort.bool e refl v

      pub real_arm : node ≡ sort_node_is.Real → (r ≡ p) × (o' ≡ emits o (bytes "Real")) → Sends (write_sort enc) (dec_sort l s at) o o' r
      unfolding sort_of write_sort
      real_arm e v = leaf _ Sort.real e refl v

      pub str_arm : node ≡ sort_node_is.Str → (r ≡ p) × (o' ≡ emits o (bytes "String")) → Sends (write_sort enc) (dec_sort l s at) o o' r
      unfolding sort_of write_sort
      str_arm e v = leaf _ Sort.str e refl v

      pub bv_size_arm : (n : ℕ) → node ≡ sort_node_is.BvSize n → (r ≡ p) × (o' ≡ emits o (decimal n)) → Sends (write_sort enc) (dec_sort l s at) o o' r
      unfolding sort_of write_sort
      bv_size_arm n e v = leaf _ (Sort.bv_size n) e refl v

      pub var_arm : (i : ℕ) → node ≡ sort_node_is.Var i → (r ≡ p) × (o' ≡ emits o (write_parameter i)) → Sends (write_sort enc) (dec_sort l s at) o o' r
      unfolding sort_of write_sort
      var_arm i e v = leaf _ (Sort.var i) e refl v

      -- a node of one sort, and of sorts in a row
      pub abs_arm : (i : ℕ) → node ≡ sort_node_is.Abs i → Sends (write_sort enc) (dec_sort (l - 1) s p) o o' r → Sends (write_sort enc) (dec_sort l s at) o o' r
      unfolding sort_of write_sort
      abs_arm i e w = sort_arm (sort_node_is.Abs i) e (sends_map (write_sort enc) (Sort.abs i) (dec_sort (l - 1) s p) o o' r w)

      pub set_arm : (n : ℕ) → node ≡ sort_node_is.Set n → Sends (applied_text enc SortCtor.set) (many Sorts.none Sorts.more (dec_sort (l - 1)) n s p) o o' r
          → Sends (write_sort enc) (dec_sort l s at) o o' r
      unfolding sort_of
      set_arm n e w = sort_arm (sort_node_is.Set n) e (made_sends enc s (l - 1) p o SortCtor.set (sort_node_is.Set n) n o' r refl refl w)

      pub map_arm : (n : ℕ) → node ≡ sort_node_is.Map n → Sends (applied_text enc SortCtor.map) (many Sorts.none Sorts.more (dec_sort (l - 1)) n s p) o o' r
          → Sends (write_sort enc) (dec_sort l s at) o o' r
      unfolding sort_of
      map_arm n e w = sort_arm (sort_node_is.Map n) e (made_sends enc s (l - 1) p o SortCtor.map (sort_node_is.Map n) n o' r refl refl w)

-- a name with its sort
module _ (enc : Encoder) (l : ℕ) (s : List ℕ) (at : ℕ) (o : Output) where
  pub no_name : (k : ℕ) (o' : Output) (r : ℕ) → name s at ≡ refuse k → Sends (write_binder enc) (binder l s at) o o' r
  no_name k o' r h = rw h (sends_refused (write_binder enc) o o' r k)

  pub binder_sends : (x : Bytes) (p : ℕ) (o1 o2 o3 o4 o5 : Output) (q : ℕ) → name s at ≡ got x.now p → o1 ≡ emit o 40 → o2 ≡ emits o1 x.now
      → o3 ≡ emit o2 32 → Sends (write_sort enc) (dec_sort l s p) o3 o4 q → o5 ≡ emit o4 41 → Sends (write_binder enc) (binder l s at) o o5 q
  unfolding write_name write_binder emits
  binder_sends x p o1 o2 o3 o4 o5 q h e1 e2 e3 w e5 =
      rw h
      (sends_then (write_binder enc) o o5 q (write_sort enc) (dec_sort l s p) _ o3 o4 q w (λ b e' u.
      sends_end (write_binder enc) o o5 q (record { name = x.now; sort = b }) q refl (rw (e5, u, e3, e2, e1) (simp emits_append))))
