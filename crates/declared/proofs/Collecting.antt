-- What the steps of the walk over the declarations add up to.
use Rattle.std.specs.Prelude.{◌^◌}
use Rattle.std.specs.Borrow.{MutBor}
use mathlib.Core.Path.{◌≡◌, refl, sym, ap, ◌∙◌}
use mathlib.Core.Bool.{Bool, true, false, cond}
use mathlib.Core.List.{List, [], ◌∷◌, ◌++◌, map}
use Prim.Native.Nat.{ℕ, zero, suc, ◌+◌, ◌-◌, ◌≤◌, ◌<◌}
use native.Mathlib.Omega.{arith}
use lib.Dec.{eqb}
use lib.ListN.{length, get_or}
use borrow.Author.Tests.{lt-ltb}
use Rattle.task.specs.declared.Fault.{Fault}
use Rattle.task.specs.Decode.{Res, got, bind, Decoder, refusal, raw, number, many, name, binder, dec_sort, data_ctor, datatype, deepest}
use Rattle.task.specs.Fault.{sort_fault}
use Rattle.task.proofs.Reading.{bind_got, got_refuse, number_got, raw_got, byte_fits}
use Rattle.task.proofs.Running.{Steps}
use Rattle.task_check.specs.Walk.{walked}
use Rattle.task_check.proofs.Rows.{next_is}
use Rattle.names.specs.declared.Kind.{Kind}
use Rattle.names.specs.declared.Kind.TheVariants.{Datatype, Constructor}
use Rattle.names.specs.Table.{number_of as kind_number, name_at, has_name, Symbol, symbol, entries, Chained, add}
use Rattle.names.specs.Change.{Pushed}
use Rattle.names.proofs.Chains.{kept_all}
use Rattle.names.proofs.Theorems.{kept_both}
use Rattle.declared.specs.Symbols.{alone, together, named, row_symbols, field_symbols, ctor_symbols, ctors_symbols, datatype_symbols}
use Rattle.names.specs.declared.table.Table.{Table}
use Rattle.names.proofs.Sames.{same_table, same_both}
use Rattle.declared.specs.Gather.{adds, Collects, Collected}
use Rattle.declared.specs.Row.{Tells, Called, Row}

-- t can be searched, and a word has room for every place of s
pub record Ready (s t : List ℕ) : Type 0 where
  pub chained : Chained s t
  pub short : length s ≤ 65535

-- a table is that over its file
pub ready : (t : Table) → Ready t.file.now t.words.now
ready t = record { chained = t.chained; short = t.short }

-- ADDING

pub adds_append : (n : ℕ) (es fs gs : List Symbol) → adds n es (fs ++ gs) ≡ adds n (adds n es fs) gs
unfolding adds
adds_append n es [] gs = refl
adds_append n es (f ∷ fs) gs = adds_append n (add n es f) fs gs

-- pieces in a row, by the symbols of each
pub row_steps : {A : Type 0} (n : ℕ) (symbols : A → List Symbol) → Steps [] ◌∷◌ (λ es a. adds n es (symbols a)) (λ es xs. adds n es (together (map symbols xs)))
unfolding adds
row_steps n symbols = record { none = λ es. refl; step = λ es a xs. adds_append n es (symbols a) (together (map symbols xs)) }

-- A NAME

-- a name that is decoded stands at its place
pub record Stands (s : List ℕ) (at : ℕ) (x : List ℕ) : Type 0 where
  pub has : has_name s at ≡ true
  pub is : name_at s at ≡ x

pub stands : (s : List ℕ) (at : ℕ) (x : List ℕ) (p : ℕ) → length s ≤ 65535 → name s at ≡ got x p → Stands s at x
unfolding has_name name_at
stands s at x p l e =
    let i = bind_got (number 1 s at) (λ n q. cond (eqb n 0) (refusal 2) (raw n) s q) x p e in
    let r = number_got 1 s at i.value i.next i.first in
    let f = r.fits in
    let w = byte_fits s at (omega arith) in
    let y : got i.value i.next ≡ got (get_or s at 0) (at + 1) = sym i.first ∙ w in
    let v : i.value ≡ get_or s at 0 = cc in
    let q : i.next ≡ at + 1 = cc in
    let g = raw_there (eqb i.value 0) i.value s i.next i.then in
    let j = raw_got i.value s i.next x p g in
    let k = j.fits in
    record {
      has = simp (lt-ltb at 65536 (omega arith)) (lt-ltb (at + get_or s at 0) (length s) (omega arith));
      is = sym (j.are ∙ rw (v, q) refl);
    }
  where
    raw_there : (b : Bool) (n : ℕ) (s : List ℕ) (q : ℕ) → cond b (refusal 2) (raw n) s q ≡ got x p → raw n s q ≡ got x p
    raw_there true n s q g = got_refuse (sym g)
    raw_there false n s q g = g

module _ (s t u : List ℕ) (at k : ℕ) (l : length s ≤ 65535) (w : Pushed s t at k u) where
  -- it was added
  pub name_added : (x : List ℕ) (p : ℕ) → name s at ≡ got x p → entries s u ≡ adds (length t) (entries s t) (symbol k x ∷ [])
  unfolding adds
  name_added x p e =
      let y = stands s at x p l e in
      w.are ∙ rw (y.has, y.is)

-- PIECES

-- a piece without names is walked over
pub skip_collects : {A : Type 0} (fault : A → Fault) (d : Res A) (s u : List ℕ) (q : ℕ) (f : Fault) → Chained s u → got f q ≡ walked fault d
    → Collects (λ (a : A). []) d s u u q
unfolding adds
skip_collects fault d s u q f c e =
    let y = next_is fault d q f e in
    record { chained = c; kept = kept_all u; words = refl; runs = λ a p h. let z : got y.value q ≡ got a p = sym y.is ∙ h in (cc, refl) }

-- a piece that begins with its name
module _ {A B : Type 0} (symbols : A → List Symbol) (parts : B → List Symbol) (make : B → A) (s t u v : List ℕ) (at k : ℕ) (x : List ℕ) (p r : ℕ) where
  pub made_collects : (d : Res A) (rest : Res B) → d ≡ bind rest (λ b q. got (make b) q) → length s ≤ 65535 → Pushed s t at k u → name s at ≡ got x p
      → ((b : B) → symbols (make b) ≡ (symbol k x ∷ []) ++ parts b) → Collects parts rest s u v r → Collects symbols d s t v r
  made_collects d rest e l w h m c =
      record {
        chained = c.chained;
        kept = kept_both t u v w.kept c.kept;
        words = c.words ∙ w.words;
        runs = λ a q g.
            let i = bind_got rest (λ b q. got (make b) q) a q (sym e ∙ g) in
            let y = c.runs i.value i.next i.first in
            let z : i.next ≡ q = cc in
            let za : make i.value ≡ a = cc in (
              y.0 ∙ z,
              y.1
                  ∙ ap (λ (n : ℕ). adds n (entries s u) (parts i.value)) w.words
                  ∙ ap (λ (es : List Symbol). adds (length t) es (parts i.value)) (name_added s t u at k l w x p h)
                  ∙ sym (adds_append (length t) (entries s t) (symbol k x ∷ []) (parts i.value))
                  ∙ ap (adds (length t) (entries s t)) (sym (m i.value) ∙ ap symbols za),
            );
      }

-- a name that is pushed, with what follows it
module _ (s t : List ℕ) (at : ℕ) (l : Ready s t) (x : List ℕ) (p : ℕ) (e : name s at ≡ got x p) where
  -- a name
  pub name_collected : (kind : Kind) (u : List ℕ) → Pushed s t at (kind_number kind) u → Collects (alone kind) (name s at) s t u p
  name_collected kind u w =
      record {
        chained = w.chained;
        kept = w.kept;
        words = w.words;
        runs = λ y q g.
            let i : got x p ≡ got y q = sym e ∙ g in
            (cc, name_added s t u at (kind_number kind) l.short w y q g);
      }

  -- a name with its sort
  pub sorted : (levels : ℕ) (kind : Kind) (u : List ℕ) → Pushed s t at (kind_number kind) u → (q : ℕ) (f : Fault)
      → got f q ≡ walked (sort_fault false) (dec_sort levels s p) → Collects (named kind) (binder levels s at) s t u q
  sorted levels kind u w q f g =
      made_collects (named kind) (λ b. []) (λ b. record { name = x; sort = b }) s t u u at (kind_number kind) x p q (binder levels s at) (dec_sort levels s p)
      (rw e) l.short w e (λ b. refl) (skip_collects (sort_fault false) (dec_sort levels s p) s u q f w.chained g)

  -- a constructor
  pub ctor_collected : (n q : ℕ) (u v : List ℕ) (r : ℕ) → number 2 s p ≡ got n q → Pushed s t at (kind_number Constructor) u
      → Collects field_symbols (many [] ◌∷◌ (binder deepest) n s q) s u v r → Collects ctor_symbols (data_ctor s at) s t v r
  ctor_collected n q u v r g w c =
      made_collects ctor_symbols field_symbols (λ fs. record { name = x; fields = fs }) s t u v at (kind_number Constructor) x p r (data_ctor s at)
      (many [] ◌∷◌ (binder deepest) n s q) (rw (e, g)) l.short w e (λ fs. refl) c

  -- a datatype
  pub data_collected : (vars q : ℕ) → number 2 s p ≡ got vars q → (n q' : ℕ) (u v : List ℕ) (r : ℕ) → number 2 s q ≡ got n q' → Pushed s t at (kind_number Datatype) u
      → Collects ctors_symbols (many [] ◌∷◌ data_ctor n s q') s u v r → Collects datatype_symbols (datatype s at) s t v r
  data_collected vars q g n q' u v r h w c =
      made_collects datatype_symbols ctors_symbols (λ cs. record { name = x; vars = vars; ctors = cs }) s t u v at (kind_number Datatype) x p r (datatype s at)
      (many [] ◌∷◌ data_ctor n s q') (rw (e, g, h)) l.short w e (λ cs. refl) c

-- PIECES IN A ROW

-- the loop of calls in a row: i of m were made, the others are from p on, and t has become u
pub record Pushing (tells : Tells) (t : Table) (m at : ℕ) (u : Table) (i p : ℕ) : Type 0 where
  pub low : p < 2 ^ 64
  pub rest : (q : ℕ) (v : Table) → Row tells (m - i) p u q v → Row tells m at t q v

module _ (tells : Tells) (t : Table) (m at : ℕ) where
  pub pushing_starts : at < 2 ^ 64 → Pushing tells t m at t 0 at
  pushing_starts l = let z : m - 0 ≡ m = omega arith in record { low = l; rest = λ q v x. rw z at x }

  pub pushing_goes : (i p : ℕ) (k : MutBor Table) → Pushing tells t m at k.now i p → i < m → (q : ℕ) (w : MutBor Table) → tells k p q w → q < 2 ^ 64 → Pushing tells t m at w.now (i + 1) q
  pushing_goes i p k x h q w y l =
      let z : m - i ≡ suc (m - (i + 1)) = omega arith in
      record { low = l; rest = λ r v n. x.rest r v (rw z (q, w.now, record { low = x.low; table = k; shows = refl; left = w; leaves = refl; met = y }, n)) }

  pub pushing_ends : (u : Table) (i p : ℕ) → Pushing tells t m at u i p → m ≤ i → Row tells m at t p u
  pushing_ends u i p x h = let z : m - i ≡ 0 = omega arith in x.rest p u (rw z (refl, refl))

-- a piece, and those behind it
module _ {A : Type 0} (symbols : A → List Symbol) (d : Decoder A) (s t v u : List ℕ) (n p r q : ℕ) where
  one_more : Collects symbols (d s p) s t v r → Collects (row_symbols symbols) (many [] ◌∷◌ d n s r) s v u q → Collects (row_symbols symbols) (many [] ◌∷◌ d (suc n) s p) s t u q
  unfolding adds
  one_more x y =
      record {
        chained = y.chained;
        kept = kept_both t v u x.kept y.kept;
        words = y.words ∙ x.words;
        runs = λ xs z e.
            let i = bind_got (d s p) (λ a l. bind (many [] ◌∷◌ d n s l) (λ b l1. got (a ∷ b) l1)) xs z e in
            let j = bind_got (many [] ◌∷◌ d n s i.next) (λ b l1. got (i.value ∷ b) l1) xs z i.then in
            let a = x.runs i.value i.next i.first in
            let b = y.runs j.value j.next (rw a.0 j.first) in
            let k : i.value ∷ j.value ≡ xs = cc in
            let l : j.next ≡ z = cc in (
              b.0 ∙ l,
              b.1
                  ∙ ap (λ (w : ℕ). adds w (entries s v) (row_symbols symbols j.value)) x.words
                  ∙ ap (λ (es : List Symbol). adds (length t) es (row_symbols symbols j.value)) a.1
                  ∙ sym (adds_append (length t) (entries s t) (symbols i.value) (row_symbols symbols j.value))
                  ∙ ap (λ (ys : List A). adds (length t) (entries s t) (row_symbols symbols ys)) k,
            );
      }

-- each call collects a piece
module _ {A : Type 0} (symbols : A → List Symbol) (d : Decoder A) (tells : Tells) (h : (k : MutBor Table) (p q : ℕ) (w : MutBor Table) → p < 2 ^ 64 → tells k p q w → Collected symbols d p k.now w.now q) where
  one_collected : (p : ℕ) (t : Table) (q : ℕ) (u : Table) → Called tells p t q u → Collected symbols d p t u q
  one_collected p t q u c = rw (c.shows, c.leaves) at (h c.table p q c.left c.low c.met)

  none_collected : (p : ℕ) (t : Table) → Collected (row_symbols symbols) (many [] ◌∷◌ d zero) p t t p
  unfolding adds
  none_collected p t = (
    record { chained = t.chained; kept = kept_all t.words.now; words = refl; runs = λ xs z e. let k : ◌≡◌ {A = List A} [] xs = cc in (cc, rw (← k)) },
    same_table t,
  )

  pub row_collected : (n p : ℕ) (t : Table) (q : ℕ) (u : Table) → Row tells n p t q u → Collected (row_symbols symbols) (many [] ◌∷◌ d n) p t u q
  row_collected zero p t q u c = rw (c.0, c.1) (none_collected p t)
  row_collected (suc n) p t q u c =
      let x = one_collected p t c.0 c.1 c.2 in
      let y = row_collected n c.0 c.1 q u c.3 in
      (one_more symbols d t.file.now t.words.now c.1.words.now u.words.now n p c.0 q x.0 (rw x.1.file at y.0), same_both t c.1 u x.1 y.1)
