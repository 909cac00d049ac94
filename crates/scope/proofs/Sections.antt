-- What the walk over a section of functions adds up to.
use mathlib.Core.Path.{◌≡◌, refl, sym, ap, ◌∙◌}
use mathlib.Core.Bool.{Bool, true, false, cond}
use mathlib.Core.List.{List, [], ◌∷◌, ◌++◌, map, append-nil, append_assoc}
use mathlib.Core.Option.{Option, some}
use Prim.Native.Nat.{ℕ, zero, suc, ◌+◌, ◌*◌, ◌≤◌, ◌<◌}
use native.Mathlib.Omega.{arith}
use lib.Dec.{leb, eqb}
use lib.ListN.{length, take, length-append, length-take}
use borrow.Author.Tests.{lt-ltb, le-leb}
use Rattle.task.specs.declared.Fault.{Fault}
use Rattle.task.specs.declared.Fault.TheVariants.{Arity, Sound}
use Rattle.task.specs.Ast.{Sorts, FunBody, FunDef}
use Rattle.task.specs.Covers.{Covers, CoversSome}
use Rattle.task.specs.Decode.{got, refuse, bind, Decoder, give, refusal, ◌▹◌, number, many, counted, name, flag, dec_sort, dec_expr, body, function, items, deepest}
use Rattle.task.specs.Run.{Runs}
use Rattle.task.specs.Fault.{lower, each, refusal_of, unless, sorts_fault, sort_fault, sorts_number, name_fault, expr_fault, arity_fault, body_fault, function_fault}
use Rattle.task.specs.Scope.{body_scope, functions_scope}
use Rattle.task.proofs.Reading.{bind_got, got_refuse, same_value}
use Rattle.task.proofs.Judging.{lower_assoc, lower_sound, sound_lower, sound_parts}
use Rattle.task.proofs.Scoping.{fault_sound}
use Rattle.task.proofs.Running.{Steps}
use Rattle.task.proofs.Covering.{covers_refusal, covers_give, covers_cond, covers_bind, covers_number}
use Rattle.task.proofs.Pieces.{CoversAny, any, nothing, ◌⟫◌, any_number, any_many, any_counted, each_covers, wide_names, flags_cover}
use Rattle.task.proofs.Sections.{in_whole, Over, over_start, over_more, over_stuck, over_end}
use Rattle.task_check.specs.Walk.{walked}
use Rattle.task_check.proofs.Rows.{next_is, refused_is}
use Rattle.item_check.proofs.Walks.{many_size}
use Rattle.names.specs.Table.{Symbol, symbol, entries, names_of, room_for, add}
use Rattle.names.specs.Change.{Pushed, Restored}
use Rattle.names.proofs.Theorems.{names_append}
use Rattle.declared.specs.Symbols.{together, function_symbols}
use Rattle.declared.proofs.Collecting.{stands}
use Rattle.scope.specs.Known.{ctors_in, vars_in, Space}
use Rattle.scope.specs.Walk.{body_form, perhaps_body, signature_form, function_form, perhaps_in}
use Rattle.scope.specs.Judged.{FunctionsJudged}

-- A FUNCTION WITHOUT FAULT

arity_same : (n k : ℕ) → arity_fault n k ≡ Sound → eqb n k ≡ true
unfolding arity_fault
arity_same n k = go (eqb n k)
  where
    go : (b : Bool) → unless b Arity ≡ Sound → b ≡ true
    go true e = refl
    go false e = let z : ◌≡◌ {A = ℕ} 6 0 = ap refusal_of e in absurd (omega arith)

got_next : {A : Type 0} {a b : A} {p q : ℕ} → got a p ≡ got b q → p ≡ q
got_next e = cc

-- its body is what the walk reads
body_read : (s : List ℕ) (b : Bool) (p : ℕ) (ins : ℕ) (o : Option FunBody) (q : ℕ) → body b s p ≡ got o q → body_fault ins o ≡ Sound → perhaps_body b ins s p ≡ got o q
unfolding body_fault
body_read s false p ins o q e f = e
body_read s true p ins o q e f =
    let i = bind_got (counted [] ◌∷◌ name s p) (λ xs r. bind (dec_expr deepest s r) (λ d t. got (some (record { args = xs; expr = d })) t)) o q e in
    let j = bind_got (number 2 s p) (λ n r. many [] ◌∷◌ name n s r) i.value i.next i.first in
    let k = bind_got (dec_expr deepest s i.next) (λ d t. got (some (record { args = i.value; expr = d })) t) o q i.then in
    let m = many_size [] ◌∷◌ length refl (λ a r. refl) name s j.value j.next i.value i.next j.then in
    let z : some (record { args = i.value; expr = k.value }) ≡ o = same_value k.then in
    let w : k.next ≡ q = cc in
    let g : body_fault ins (some (record { args = i.value; expr = k.value })) ≡ Sound = ap (body_fault ins) z ∙ f in
    let a : eqb (length i.value) ins ≡ true = arity_same (length i.value) ins (sound_parts.none_left (arity_fault (length i.value) ins) (lower (each name_fault i.value) (expr_fault false k.value)) g) in
    rw (j.first, ap (λ (n : ℕ). eqb n ins) (sym m) ∙ a, j.then, k.first, w, z)

function_read : (s : List ℕ) (at : ℕ) (f : FunDef) (q : ℕ) → function s at ≡ got f q → function_fault f ≡ Sound → function_form s at ≡ got f.body q
unfolding function_fault
function_read s at f q e h =
    let i = bind_got (name s at) _ f q e in
    let j = bind_got (number 2 s i.next) _ f q i.then in
    let k = bind_got (counted Sorts.none Sorts.more (dec_sort deepest) s j.next) _ f q j.then in
    let l = bind_got (dec_sort deepest s k.next) _ f q k.then in
    let m = bind_got (flag s l.next) _ f q l.then in
    let n = bind_got (body m.value s m.next) _ f q m.then in
    let z : ◌≡◌ {A = FunDef} (record { name = i.value; params = j.value; inputs = k.value; output = l.value; body = n.value }) f = same_value n.then in
    let w : n.next ≡ q = got_next n.then in
    let g : function_fault (record { name = i.value; params = j.value; inputs = k.value; output = l.value; body = n.value }) ≡ Sound = ap function_fault z ∙ h in
    let b : body_fault (sorts_number k.value) n.value ≡ Sound = sound_parts.none_right (sort_fault false l.value) (body_fault (sorts_number k.value) n.value)
    (sound_parts.none_right (sorts_fault k.value) (lower (sort_fault false l.value) (body_fault (sorts_number k.value) n.value))
    (sound_parts.none_right (name_fault i.value) (lower (sorts_fault k.value) (lower (sort_fault false l.value) (body_fault (sorts_number k.value) n.value))) g)) in
    let r = body_read s m.value m.next (sorts_number k.value) n.value n.next n.first b in
    rw (i.first, j.first, k.first, l.first, m.first, r, w) (ap (λ (y : FunDef). got y.body q) z)

-- it begins with its name
record Begins (s : List ℕ) (at : ℕ) (x : List ℕ) : Type 0 where
  next : ℕ
  is : name s at ≡ got x next

function_begins : (s : List ℕ) (at : ℕ) (f : FunDef) (q : ℕ) → function s at ≡ got f q → Begins s at f.name
function_begins s at f q e =
    let i = bind_got (name s at) _ f q e in
    let j = bind_got (number 2 s i.next) _ f q i.then in
    let k = bind_got (counted Sorts.none Sorts.more (dec_sort deepest) s j.next) _ f q j.then in
    let l = bind_got (dec_sort deepest s k.next) _ f q k.then in
    let m = bind_got (flag s l.next) _ f q l.then in
    let n = bind_got (body m.value s m.next) _ f q m.then in
    let z : ◌≡◌ {A = FunDef} (record { name = i.value; params = j.value; inputs = k.value; output = l.value; body = n.value }) f = same_value n.then in
    record { next = i.next; is = i.first ∙ ap (λ (y : FunDef). got y.name i.next) z }

-- functions without fault
pub sound_function : Decoder FunDef
sound_function = function ▹ λ f. cond (eqb (refusal_of (function_fault f)) 0) (give f) (refusal 6)

pub sound_covers : CoversSome sound_function
unfolding sound_function
sound_covers =
    covers_bind (λ f. 1) (λ f. 1) function (λ f. cond (eqb (refusal_of (function_fault f)) 0) (give f) (refusal 6)) each_covers.functions
    (λ f. covers_cond (λ a. 0) (eqb (refusal_of (function_fault f)) 0) (give f) (refusal 6) (covers_give (λ a. 0) f (omega arith)) (covers_refusal (λ a. 0) 6))

record IsSound (s : List ℕ) (at : ℕ) (f : FunDef) (q : ℕ) : Type 0 where
  is : function s at ≡ got f q
  zero : eqb (refusal_of (function_fault f)) 0 ≡ true

sound_is : (s : List ℕ) (at : ℕ) (f : FunDef) (q : ℕ) → sound_function s at ≡ got f q → IsSound s at f q
unfolding sound_function
sound_is s at f q e =
    let i = bind_got (function s at) (λ g p. cond (eqb (refusal_of (function_fault g)) 0) (give g) (refusal 6) s p) f q e in
    go i.value i.next i.first (eqb (refusal_of (function_fault i.value)) 0) refl i.then
  where
    go : (g : FunDef) (p : ℕ) → function s at ≡ got g p → (b : Bool) → eqb (refusal_of (function_fault g)) 0 ≡ b → cond b (give g) (refusal 6) s p ≡ got f q → IsSound s at f q
    go g p h true y w = let z : g ≡ f = same_value w in let v : p ≡ q = cc in record { is = h ∙ w; zero = ap (λ (x : FunDef). eqb (refusal_of (function_fault x)) 0) (sym z) ∙ y }
    go g p h false y w = got_refuse (sym w)

is_sound : (s : List ℕ) (at : ℕ) (f : FunDef) (q : ℕ) → function s at ≡ got f q → function_fault f ≡ Sound → sound_function s at ≡ got f q
unfolding sound_function
is_sound s at f q e h = rw (e, h)

-- a section of them
items_sound : (s : List ℕ) (n at : ℕ) (fs : List FunDef) (q : ℕ) → items n function s at ≡ got fs q → each function_fault fs ≡ Sound → items n sound_function s at ≡ got fs q
unfolding items
items_sound s zero at fs q e h = e
items_sound s (suc n) at fs q e h = go (leb (length s) at) e (λ p gs r g k. items_sound s n p gs r g k)
  where
    go : (b : Bool) → cond b (got [] at) (bind (function s at) (λ a p. bind (items n function s p) (λ gs r. got (a ∷ gs) r))) ≡ got fs q
        → ((p : ℕ) (gs : List FunDef) (r : ℕ) → items n function s p ≡ got gs r → each function_fault gs ≡ Sound → items n sound_function s p ≡ got gs r)
        → cond b (got [] at) (bind (sound_function s at) (λ a p. bind (items n sound_function s p) (λ gs r. got (a ∷ gs) r))) ≡ got fs q
    go true e rec = e
    go false e rec =
        let i = bind_got (function s at) (λ a p. bind (items n function s p) (λ gs r. got (a ∷ gs) r)) fs q e in
        let j = bind_got (items n function s i.next) (λ gs r. got (i.value ∷ gs) r) fs q i.then in
        let z : i.value ∷ j.value ≡ fs = same_value j.then in
        let g : each function_fault (i.value ∷ j.value) ≡ Sound = ap (each function_fault) z ∙ h in
        let a = is_sound s at i.value i.next i.first (sound_parts.none_left (function_fault i.value) (each function_fault j.value) g) in
        let b = rec i.next j.value j.next j.first (sound_parts.none_right (function_fault i.value) (each function_fault j.value) g) in
        rw (a, b) j.then

-- THE WALK

-- what was seen of the functions so far
pub record Seen : Type 0 where
  pub fault : Fault
  pub symbols : List Symbol

pub seen : Fault → List Symbol → Seen
seen f es = record { fault = f; symbols = es }

pub see : Seen → FunDef → Seen
see w f = seen (lower w.fault (body_scope (names_of 2 2 w.symbols) (names_of 2 6 w.symbols) f.body)) (w.symbols ++ (symbol 5 f.name ∷ []))

pub sees : Seen → List FunDef → Seen
sees w [] = w
sees w (f ∷ fs) = sees (see w f) fs

pub seeing : Steps [] ◌∷◌ see sees
unfolding sees
seeing = record { none = λ w. refl; step = λ w f fs. refl }

pair : {f g : Fault} {es fs : List Symbol} → f ≡ g → es ≡ fs → seen f es ≡ seen g fs
unfolding seen
pair p q = λ i. record { fault = p i; symbols = q i }

all_seen : (f : Fault) (es : List Symbol) (fs : List FunDef)
    → sees (seen f es) fs ≡ seen (lower f (functions_scope (names_of 2 2 es) (names_of 2 6 es) fs)) (es ++ together (map function_symbols fs))
unfolding sees see seen functions_scope names_of
all_seen f es [] = pair (sym (lower_sound f)) (sym (append-nil es))
all_seen f es (g ∷ fs) =
    let cs : names_of 2 2 (es ++ (symbol 5 g.name ∷ [])) ≡ names_of 2 2 es = names_append 2 2 es (symbol 5 g.name ∷ []) ∙ append-nil (names_of 2 2 es) in
    let vs : names_of 2 6 (es ++ (symbol 5 g.name ∷ [])) ≡ names_of 2 6 es ++ (g.name ∷ []) = names_append 2 6 es (symbol 5 g.name ∷ []) in
    all_seen (lower f (body_scope (names_of 2 2 es) (names_of 2 6 es) g.body)) (es ++ (symbol 5 g.name ∷ [])) fs
    ∙ pair
    (ap (λ (x : List (List ℕ)). lower (lower f (body_scope (names_of 2 2 es) (names_of 2 6 es) g.body)) (functions_scope x (names_of 2 6 (es ++ (symbol 5 g.name ∷ []))) fs)) cs
    ∙ ap (λ (x : List (List ℕ)). lower (lower f (body_scope (names_of 2 2 es) (names_of 2 6 es) g.body)) (functions_scope (names_of 2 2 es) x fs)) vs
    ∙ lower_assoc f (body_scope (names_of 2 2 es) (names_of 2 6 es) g.body) (functions_scope (names_of 2 2 es) (names_of 2 6 es ++ (g.name ∷ [])) fs))
    (append_assoc es (symbol 5 g.name ∷ []) (together (map function_symbols fs)))

body_any : (inputs : ℕ) → CoversAny (body_form inputs)
body_any inputs =
    any_number 2 ⟫ λ n.
    covers_cond (λ a. 0) (eqb n inputs) (many [] ◌∷◌ name n ▹ λ xs. dec_expr deepest ▹ λ e. give (record { args = xs; expr = e })) (refusal 6)
    (any_many [] ◌∷◌ (any each_covers.names) n ⟫ λ xs. any (each_covers.exprs deepest) ⟫ λ e. nothing) (covers_refusal (λ a. 0) 6)

perhaps_any : (b : Bool) (inputs : ℕ) → CoversAny (perhaps_body b inputs)
perhaps_any false inputs = nothing
perhaps_any true inputs = body_any inputs ⟫ λ b. nothing

signature_any : CoversAny signature_form
signature_any =
    any_counted Sorts.none Sorts.more (any (each_covers.sorts deepest)) ⟫ λ ins. any (each_covers.sorts deepest) ⟫ λ out. flags_cover ⟫ λ b. perhaps_any b (sorts_number ins)

form_wide : Covers (λ o. 3) function_form
form_wide =
    covers_bind (λ o. 3) (λ x. 2) name (λ x. number 2 ▹ λ params. signature_form) wide_names (λ x.
    covers_bind (λ o. 1) (λ p. 2) (number 2) (λ params. signature_form) (covers_number 2) (λ p. signature_any))

-- a function was read, and its name pushed
module _ (file u u1 u2 : List ℕ) (p : ℕ) (c : Space file u p) (r : Restored file u u1) (w : Pushed file u1 p 5 u2) (o : Option FunBody) (q : ℕ) (e : function_form file p ≡ got o q) where
  after_it : p + 3 ≤ q
  after_it = let y = form_wide.covered file p o q e in let a = y.room in let b = y.end in omega arith

  inside_it : q ≤ length file
  inside_it = let y = form_wide.covered file p o q e in let a = y.room in y.inside (omega arith)

  added : (x : List ℕ) (p1 : ℕ) → name file p ≡ got x p1 → entries file u2 ≡ entries file u ++ (symbol 5 x ∷ [])
  unfolding add room_for
  added x p1 g =
      let k = c.short in
      let m = c.words in
      let n = c.room in
      let v = r.words in
      let a = after_it in
      let b = inside_it in
      let y = stands file p x p1 (omega arith) g in
      let z : length (entries file u1) ≡ length (entries file u) = ap length r.are in
      w.are ∙ rw (y.has, y.is) (simp (lt-ltb (length (entries file u1)) 65535 (omega arith), le-leb (1026 + 3 * length (entries file u1) + 3) (length u1) (omega arith)))
      ∙ ap (λ (es : List Symbol). es ++ (symbol 5 x ∷ [])) r.are

  next_space : Space file u2 q
  next_space =
      let i = bind_got (name file p) (λ x r1. (number 2 ▹ λ params. signature_form) file r1) o q e in
      let z = added i.value i.next i.first in
      let n = length-append (entries file u) (symbol 5 i.value ∷ []) in
      let k = c.room in
      let m = c.words in
      let v = r.words in
      let v2 = w.words in
      let a = after_it in
      let b = inside_it in
      record { chained = w.chained; short = c.short; words = omega arith; few = rw z (omega arith); room = rw z (omega arith) }

module _ (file : List ℕ) (at end : ℕ) (t : List ℕ) where
  -- the loop: the functions from p on are left, f is the fault so far, and t has become u
  pub record Judging (u : List ℕ) (p : ℕ) (f : Fault) : Type 0 where
    pub space : Space file u p
    pub words : length u ≡ length t
    pub over : Over seeing sound_function sound_covers (take end file) at (seen Sound (entries file t)) p (seen f (entries file u))

  -- what was seen of all of them
  told : (u : List ℕ) (f : Fault) (fs : List FunDef) → seen f (entries file u) ≡ sees (seen Sound (entries file t)) fs
      → (f ≡ functions_scope (ctors_in file t) (vars_in file t) fs) × (entries file u ≡ entries file t ++ together (map function_symbols fs))
  unfolding seen ctors_in vars_in
  told u f fs e =
      let z = e ∙ all_seen Sound (entries file t) fs in
      (ap (λ (w : Seen). w.fault) z ∙ sound_lower (functions_scope (names_of 2 2 (entries file t)) (names_of 2 6 (entries file t)) fs), ap (λ (w : Seen). w.symbols) z)

  pub judging_start : Space file t at → Judging t at Sound
  judging_start c = record { space = c; words = refl; over = over_start seeing sound_function sound_covers (take end file) at (seen Sound (entries file t)) }

  module _ (l : end ≤ length file) (u : List ℕ) (p : ℕ) (f : Fault) (j : Judging u p f) (h : p < end) (u1 : List ℕ) where
    short_end : length (take end file) ≡ end
    short_end = let m = length-take end file in omega arith

    module _ (g : Fault) (q : ℕ) (k : (got g q ≡ walked (perhaps_in file u) (function_form file p)) × Restored file u u1) (f' : Fault) (u2 : List ℕ) (w : Pushed file u1 p 5 u2) (m : f' ≡ lower f g) where
      ran : Runs see (sound_function (take end file) p) (seen f (entries file u)) (seen f' (entries file u2)) q
      unfolding see seen ctors_in vars_in
      ran a p1 e =
          let s = sound_is (take end file) p a p1 e in
          let d = in_whole function each_covers.functions file end p a p1 s.is in
          let y = next_is (perhaps_in file u) (function_form file p) q g k.0 in
          let z : got y.value q ≡ got a.body p1 = sym y.is ∙ function_read file p a p1 d (fault_sound (function_fault a) (got a 0) a 0 (rw s.zero)) in
          let b : y.value ≡ a.body = same_value z in
          let x = function_begins file p a p1 d in
          (got_next z, pair (m ∙ ap (lower f) (sym y.fault ∙ ap (perhaps_in file u) b)) (added file u u1 u2 p j.space k.1 w y.value q y.is a.name x.next x.is))

      pub judging_less : p < q
      judging_less = let y = next_is (perhaps_in file u) (function_form file p) q g k.0 in let z = after_it file u u1 u2 p j.space k.1 w y.value q y.is in omega arith

      pub judging_more : Judging u2 q f'
      judging_more =
          let y = next_is (perhaps_in file u) (function_form file p) q g k.0 in
          let n = short_end in
          record {
            space = next_space file u u1 u2 p j.space k.1 w y.value q y.is;
            words = w.words ∙ k.1.words ∙ j.words;
            over = over_more seeing sound_function sound_covers (take end file) at (seen Sound (entries file t)) p (seen f (entries file u)) (seen f' (entries file u2)) q (omega arith) j.over ran judging_less;
          }

    -- no function is there
    pub judging_stuck : (n : ℕ) → (refuse n ≡ walked (perhaps_in file u) (function_form file p)) × Restored file u u1 → FunctionsJudged file at end t f u1
    judging_stuck n k =
        let m = short_end in
        record {
          chained = k.1.chained;
          words = k.1.words ∙ j.words;
          are = λ fs q e s.
              let z = over_stuck seeing sound_function sound_covers (take end file) at (seen Sound (entries file t)) p (seen f (entries file u)) (seen f (entries file u)) (seen f (entries file u1)) p q (omega arith) j.over
              (λ a p1 d. let y = sound_is (take end file) p a p1 d in
              let x = in_whole function each_covers.functions file end p a p1 y.is in
              got_refuse (sym (function_read file p a p1 x (fault_sound (function_fault a) (got a 0) a 0 (rw y.zero))) ∙ refused_is (perhaps_in file u) (function_form file p) n k.0))
              (omega arith) fs q (items_sound (take end file) (length (take end file)) at fs q e s) in
              told u1 f fs z.1;
        }

  pub judging_ends : end ≤ length file → (u : List ℕ) (p : ℕ) (f : Fault) → Judging u p f → end ≤ p → FunctionsJudged file at end t f u
  judging_ends l u p f j h =
      let m = length-take end file in
      record {
        chained = j.space.chained;
        words = j.words;
        are = λ fs q e s.
            told u f fs (over_end seeing sound_function sound_covers (take end file) at (seen Sound (entries file t)) p (seen f (entries file u)) (omega arith) j.over fs q
            (items_sound (take end file) (length (take end file)) at fs q e s)).1;
      }
