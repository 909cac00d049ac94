-- What a KVar adds to a table: a name that is not there yet, and the number of its sorts. What KVars in a row add: `all_added`.
use Rattle.std.specs.Prelude.{Option as Found, Some, None}
use Rattle.std.specs.Option.{is_some}
use mathlib.Core.Path.{◌≡◌, refl, sym, ap, ◌∙◌}
use mathlib.Core.Bool.{Bool, true, false, cond, ◌||◌}
use mathlib.Core.List.{List, [], ◌∷◌, ◌++◌, append-nil, append_assoc}
use mathlib.Core.Option.{Option, none, some}
use Prim.Native.Nat.{ℕ, ◌+◌, ◌*◌, ◌≤◌}
use native.Mathlib.Omega.{arith}
use lib.ListN.{length, length-append}
use borrow.Author.Tests.{lt-ltb, le-leb}
use Rattle.smtlib.specs.Lexicon.{same, is_one}
use Rattle.smtlib.proofs.Bools.{true_holds, same→eq, clash}
use Rattle.task.specs.declared.Fault.{Fault}
use Rattle.task.specs.Ast.{Sorts, KVarDecl}
use Rattle.task.specs.Decode.{Res, got, refuse, bind, number, counted, name, dec_sort, kvar, deepest}
use Rattle.task.specs.Fault.{sorts_number, kvar_fault}
use Rattle.task.specs.Scope.{arity_of}
use Rattle.task.proofs.Reading.{bind_got, got_refuse, same_value}
use Rattle.task.proofs.Running.{Steps}
use Rattle.task.proofs.Members.{one_append, none_first, none_second}
use Rattle.task_check.proofs.Rows.{next_is, refused_is}
use Rattle.item_check.specs.declared.Section.TheVariants.{KVars}
use Rattle.item_check.specs.Items.{item_walk}
use Rattle.item_check.proofs.Walks.{many_size}
use Rattle.names.specs.Table.{count_of, offset_of, Symbol, symbol, entries, last_of, fits, names_of, room_for, add}
use Rattle.names.specs.Change.{Kept, Pushed}
use Rattle.names.specs.Theorems.{is_found}
use Rattle.names.proofs.Lasts.{snoc_from, entries_length}
use Rattle.names.proofs.Theorems.{searches, names_append, members}
use Rattle.declared.specs.Symbols.{kvars_symbols}
use Rattle.declared.specs.Arity.{value_of, size_at, size_found, arity_in}
use Rattle.declared.specs.Gather.{adds, Holding, holding, with_kvar, add_kvar, add_kvars, AddsKVar}
use Rattle.declared.proofs.Collecting.{name_added, Ready}

-- SEARCHES

found_some : (f : Found ℕ) → is_found f ≡ is_some f
found_some (Some k) = refl
found_some None = refl

found_none : (f : Found ℕ) → is_found f ≡ false → f ≡ None
found_none (Some k) e = clash (cc)
found_none None e = refl

-- a name that no KVar has
pub arity_none : (s t x : List ℕ) → is_one x (names_of 1 1 (entries s t)) ≡ false → arity_in s t x ≡ none
unfolding arity_in
arity_none s t x e = ap (size_found s t) (found_none (last_of (fits x 1 1) (entries s t)) (members x 1 1 (entries s t) ∙ e))

-- the entries of t are in u at their places
module _ (s t u : List ℕ) (kept : Kept t u) (x : List ℕ) where
  found_kept : (f : Found ℕ) → last_of (fits x 1 1) (entries s t) ≡ f → size_found s u f ≡ size_found s t f
  found_kept (Some k) e = ap (size_at s) (kept.places k ((searches s t x 1 1).entry_below k e))
  found_kept None e = refl

  -- and no others
  arity_kept : entries s u ≡ entries s t → arity_in s u x ≡ arity_in s t x
  unfolding arity_in
  arity_kept e =
      ap (λ (es : List Symbol). size_found s u (last_of (fits x 1 1) es)) e
      ∙ found_kept (last_of (fits x 1 1) (entries s t)) refl

  -- and a KVar behind them
  arity_more : (w : List ℕ) (n : ℕ) → entries s u ≡ entries s t ++ (symbol 1 w ∷ []) → size_at s (offset_of u (count_of t)) ≡ some n
      → arity_in s u x ≡ cond (same x w) (some n) (arity_in s t x)
  unfolding arity_in fits
  arity_more w n e z =
      ap (λ (es : List Symbol). size_found s u (last_of (fits x 1 1) es)) e
      ∙ ap (size_found s u) (snoc_from (fits x 1 1) 0 (entries s t) (symbol 1 w))
      ∙ go (same x w)
    where
      go : (b : Bool) → size_found s u (cond b (Some (0 + length (entries s t))) (last_of (fits x 1 1) (entries s t))) ≡ cond b (some n) (size_found s t (last_of (fits x 1 1) (entries s t)))
      go true =
          let l = entries_length s t (count_of t) in
          let c : 0 + length (entries s t) ≡ count_of t = omega arith in
          ap (λ (k : ℕ). size_at s (offset_of u k)) c ∙ z
      go false = found_kept (last_of (fits x 1 1) (entries s t)) refl

-- A KVAR

module _ (s : List ℕ) (at : ℕ) (k : KVarDecl) (p : ℕ) (e : kvar s at ≡ got k p) where
  -- its name stands first
  kvar_name : (v : List ℕ) (q : ℕ) → name s at ≡ got v q → v ≡ k.kvid
  kvar_name v q h =
      let i = bind_got (name s at) _ k p e in
      let j = bind_got (counted Sorts.none Sorts.more (dec_sort deepest) s i.next) _ k p i.then in
      let z : ◌≡◌ {A = KVarDecl} (record { kvid = i.value; sorts = j.value }) k = same_value j.then in
      same_value (sym h ∙ i.first) ∙ ap (λ (y : KVarDecl). y.kvid) z

  -- the number of its sorts stands behind the name
  kvar_size : size_at s at ≡ some (sorts_number k.sorts)
  unfolding size_at
  kvar_size =
      let i = bind_got (name s at) _ k p e in
      let j = bind_got (counted Sorts.none Sorts.more (dec_sort deepest) s i.next) _ k p i.then in
      let l = bind_got (number 2 s i.next) _ j.value j.next j.first in
      let n = many_size Sorts.none Sorts.more sorts_number refl (λ a r. refl) (dec_sort deepest) s l.value l.next j.value j.next l.then in
      let z : ◌≡◌ {A = KVarDecl} (record { kvid = i.value; sorts = j.value }) k = same_value j.then in
      ap (λ (y : Res (List ℕ)). value_of (bind y (λ x q. number 2 s q))) i.first
      ∙ ap (λ (y : Res ℕ). value_of y) l.first
      ∙ ap (λ (m : ℕ). some m) (sym n ∙ ap (λ (y : KVarDecl). sorts_number y.sorts) z)

  -- it was pushed
  kvar_pushed : (t u v : List ℕ) (q : ℕ) → length s ≤ 65535 → name s at ≡ got v q → Pushed s t at 1 u
      → holding s u ≡ cond (room_for (length t) (length (entries s t))) (with_kvar (holding s t) k) (holding s t)
  unfolding adds add with_kvar
  kvar_pushed t u v q l h w =
      go (room_for (length t) (length (entries s t)))
      (name_added s t u at 1 l w k.kvid q (h ∙ ap (λ (y : List ℕ). got y q) (kvar_name v q h)))
    where
      go : (b : Bool) → entries s u ≡ cond b (entries s t ++ (symbol 1 k.kvid ∷ [])) (entries s t) → holding s u ≡ cond b (with_kvar (holding s t) k) (holding s t)
      go true g =
          let m = entries_length s t (count_of t) in
          let n = entries_length s u (count_of u) in
          let a = length-append (entries s t) (symbol 1 k.kvid ∷ []) in
          let c : length (entries s u) ≡ length (entries s t ++ (symbol 1 k.kvid ∷ [])) = ap length g in
          let z : size_at s (offset_of u (count_of t)) ≡ some (sorts_number k.sorts) = ap (size_at s) (w.place (omega arith)) ∙ kvar_size in
          λ i. record { symbols = g i; arity = λ x. arity_more s t u w.kept x k.kvid (sorts_number k.sorts) g z i }
      go false g = λ i. record { symbols = g i; arity = λ x. arity_kept s t u w.kept x g i }

module _ (s t : List ℕ) (at : ℕ) (r : Ready s t) where
  -- there is none
  pub kvar_none : (q k : ℕ) → refuse k ≡ item_walk KVars s at → AddsKVar (kvar s at) s t t q
  unfolding item_walk
  kvar_none q k e = record { chained = r.chained; words = refl; runs = λ a p g. got_refuse (sym g ∙ refused_is kvar_fault (kvar s at) k e) }

  -- there is one
  module _ (x : List ℕ) (p : ℕ) (e : name s at ≡ got x p) (q : ℕ) (f : Fault) (g : got f q ≡ item_walk KVars s at)
      (found : Found ℕ) (i : found ≡ last_of (fits x 1 1) (entries s t)) where
    -- it ends where the walker ended
    kvar_ends : (k : KVarDecl) (z : ℕ) → kvar s at ≡ got k z → q ≡ z
    unfolding item_walk
    kvar_ends k z u = let n = next_is kvar_fault (kvar s at) q f g in let m : got n.value q ≡ got k z = sym n.is ∙ u in cc

    -- what the search tells
    kvar_found : (k : KVarDecl) (z : ℕ) → kvar s at ≡ got k z → is_one k.kvid (names_of 1 1 (entries s t)) ≡ is_some found
    kvar_found k z u =
        sym (members k.kvid 1 1 (entries s t))
        ∙ ap (λ (n : List ℕ). is_found (last_of (fits n 1 1) (entries s t))) (sym (kvar_name s at k z u x p e))
        ∙ ap is_found (sym i)
        ∙ found_some found

    -- one with its name is there
    pub kvar_there : is_some found ≡ true → AddsKVar (kvar s at) s t t q
    unfolding add_kvar
    kvar_there h = record {
      chained = r.chained;
      words = refl;
      runs = λ k z u. (kvar_ends k z u, rw (kvar_found k z u ∙ h));
    }

    -- none is
    pub kvar_added : (u : List ℕ) → is_some found ≡ false → Pushed s t at 1 u → AddsKVar (kvar s at) s t u q
    unfolding add_kvar
    kvar_added u h w = record {
      chained = w.chained;
      words = w.words;
      runs = λ k z d. (kvar_ends k z d, rw (kvar_found k z d ∙ h) (kvar_pushed s at k z d t u x p r.short e w));
    }

-- KVARS IN A ROW

pub kvars_steps : (n : ℕ) → Steps [] ◌∷◌ (add_kvar n) (add_kvars n)
unfolding add_kvars
kvars_steps n = record { none = λ w. refl; step = λ w k ks. refl }

-- there are no more symbols than KVars
pub kvars_length : (seen : List (List ℕ)) (ks : List KVarDecl) → length (kvars_symbols seen ks) ≤ length ks
unfolding kvars_symbols
kvars_length seen [] = omega arith
kvars_length seen (k ∷ ks) = go (is_one k.kvid seen) (kvars_length seen ks) (kvars_length (seen ++ (k.kvid ∷ [])) ks)
  where
    go : (b : Bool) → length (kvars_symbols seen ks) ≤ length ks → length (kvars_symbols (seen ++ (k.kvid ∷ [])) ks) ≤ length ks
        → length (cond b (kvars_symbols seen ks) (symbol 1 k.kvid ∷ kvars_symbols (seen ++ (k.kvid ∷ [])) ks)) ≤ length (k ∷ ks)
    go true h g = omega arith
    go false h g = omega arith

-- the names of the KVars that are there
abbrev seen_in : Holding → List (List ℕ)
seen_in w = names_of 1 1 w.symbols

-- only those have a number of sorts
abbrev Counted : Holding → Type 0
Counted w = (x : List ℕ) → is_one x (seen_in w) ≡ false → w.arity x ≡ none

-- w became w' by KVars for which there was room
pub record Added (w : Holding) (ks : List KVarDecl) (w' : Holding) : Type 0 where
  pub symbols : w'.symbols ≡ w.symbols ++ kvars_symbols (seen_in w) ks
  pub arity : (x : List ℕ) → w'.arity x ≡ cond (is_one x (seen_in w)) (w.arity x) (arity_of ks x)

none_added : (w : Holding) → Counted w → Added w [] w
unfolding kvars_symbols arity_of
none_added w c = record { symbols = sym (append-nil w.symbols); arity = λ x. go (is_one x (seen_in w)) (w.arity x) (c x) }
  where
    go : (b : Bool) (a : Option ℕ) → (b ≡ false → a ≡ none) → a ≡ cond b a none
    go true a h = refl
    go false a h = h refl

module _ (w w' : Holding) (k : KVarDecl) (ks : List KVarDecl) where
  -- the name is that of the KVar
  named : (x : List ℕ) (b : Bool) → is_one k.kvid (seen_in w) ≡ b → same x k.kvid ≡ true → is_one x (seen_in w) ≡ b
  named x b s e = ap (λ (y : List ℕ). is_one y (seen_in w)) (same→eq x k.kvid (true_holds e)) ∙ s

  there_added : is_one k.kvid (seen_in w) ≡ true → Added w ks w' → Added w (k ∷ ks) w'
  unfolding kvars_symbols arity_of
  there_added s a =
      record {
        symbols = rw s a.symbols;
        arity = λ x. a.arity x ∙ go (is_one x (seen_in w)) (same x k.kvid) (w.arity x) (some (sorts_number k.sorts)) (arity_of ks x) (named x true s);
      }
    where
      go : (a b : Bool) (p q c : Option ℕ) → (b ≡ true → a ≡ true) → cond a p c ≡ cond a p (cond b q c)
      go true b p q c h = refl
      go false true p q c h = clash (let z = h refl in cc)
      go false false p q c h = refl

  -- one more name
  seen_more : seen_in (with_kvar w k) ≡ seen_in w ++ (k.kvid ∷ [])
  unfolding with_kvar names_of
  seen_more = names_append 1 1 w.symbols (symbol 1 k.kvid ∷ [])

  one_more : (x : List ℕ) → is_one x (seen_in (with_kvar w k)) ≡ (is_one x (seen_in w) || (same x k.kvid || false))
  one_more x = ap (is_one x) seen_more ∙ one_append x (seen_in w) (k.kvid ∷ [])

  new_added : is_one k.kvid (seen_in w) ≡ false → Added (with_kvar w k) ks w' → Added w (k ∷ ks) w'
  unfolding kvars_symbols arity_of with_kvar
  new_added s a =
      let e = symbol 1 k.kvid in
      record {
        symbols = rw s
            (a.symbols
            ∙ ap (λ (ws : List (List ℕ)). (w.symbols ++ (e ∷ [])) ++ kvars_symbols ws ks) seen_more
            ∙ append_assoc w.symbols (e ∷ []) (kvars_symbols (seen_in w ++ (k.kvid ∷ [])) ks));
        arity = λ x.
            let n = some (sorts_number k.sorts) in
            a.arity x
            ∙ ap (λ (b : Bool). cond b (cond (same x k.kvid) n (w.arity x)) (arity_of ks x)) (one_more x)
            ∙ go (is_one x (seen_in w)) (same x k.kvid) (w.arity x) n (arity_of ks x) (named x false s);
      }
    where
      go : (a b : Bool) (p q c : Option ℕ) → (b ≡ true → a ≡ false) → cond (a || (b || false)) (cond b q p) c ≡ cond a p (cond b q c)
      go true true p q c h = clash (let z = h refl in cc)
      go true false p q c h = refl
      go false true p q c h = refl
      go false false p q c h = refl

  new_counted : Counted w → Counted (with_kvar w k)
  unfolding with_kvar
  new_counted c x e =
      let z : (is_one x (seen_in w) || (same x k.kvid || false)) ≡ false = sym (one_more x) ∙ e in
      rw (none_first (same x k.kvid) false (none_second (is_one x (seen_in w)) (same x k.kvid || false) z))
      (c x (none_first (is_one x (seen_in w)) (same x k.kvid || false) z))

-- a table with room for all
pub all_added : (n : ℕ) (w : Holding) (ks : List KVarDecl) → Counted w → length w.symbols + length ks ≤ 65535 → 1026 + 3 * (length w.symbols + length ks) ≤ n
    → Added w ks (add_kvars n w ks)
unfolding add_kvars add_kvar with_kvar room_for
all_added n w [] c h g = none_added w c
all_added n w (k ∷ ks) c h g = go (is_one k.kvid (seen_in w)) refl (λ v c' h' g'. all_added n v ks c' h' g')
  where
    room : room_for n (length w.symbols) ≡ true
    room = simp (lt-ltb (length w.symbols) 65535 (omega arith), le-leb (1026 + 3 * length w.symbols + 3) n (omega arith))

    go : (b : Bool) → is_one k.kvid (seen_in w) ≡ b
        → ((v : Holding) → Counted v → length v.symbols + length ks ≤ 65535 → 1026 + 3 * (length v.symbols + length ks) ≤ n → Added v ks (add_kvars n v ks))
        → Added w (k ∷ ks) (add_kvars n (cond b w (cond (room_for n (length w.symbols)) (with_kvar w k) w)) ks)
    go true s rec = there_added w (add_kvars n w ks) k ks s (rec w c (omega arith) (omega arith))
    go false s rec =
        let l = length-append w.symbols (symbol 1 k.kvid ∷ []) in
        rw room (new_added w (add_kvars n (with_kvar w k) ks) k ks s (rec (with_kvar w k) (new_counted w (add_kvars n (with_kvar w k) ks) k ks c) (omega arith) (omega arith)))
