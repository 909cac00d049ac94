-- What the walk over a section adds up to.
use mathlib.Core.Path.{◌≡◌, refl, ap, ◌∙◌}
use mathlib.Core.List.{List, [], ◌∷◌}
use Prim.Native.Nat.{ℕ, ◌≤◌, ◌<◌}
use native.Mathlib.Omega.{arith}
use lib.ListN.{length, take, length-take}
use Rattle.task.specs.Covers.{CoversSome}
use Rattle.task.specs.Decode.{Res, got, bind, Decoder, datatype, constant}
use Rattle.task.specs.Run.{Runs}
use Rattle.task.proofs.Reading.{bind_got}
use Rattle.task.proofs.Running.{Steps}
use Rattle.task.proofs.Covering.{covers_refusal}
use Rattle.task.proofs.Pieces.{each_covers}
use Rattle.task.proofs.Sections.{covers_map, runs_whole, Over, over_start, over_more, over_stuck, over_end}
use Rattle.item_check.specs.declared.Section.{Section}
use Rattle.item_check.specs.declared.Section.TheVariants.{Comments, Datatypes, Constants, Functions, KVars}
use Rattle.trailer.specs.declared.Bounds.{Bounds}
use Rattle.trailer.specs.Bounds.{Inside, end_of}
use Rattle.names.specs.declared.Kind.TheVariants.{Constant}
use Rattle.names.specs.Table.{Symbol, entries, Chained}
use Rattle.declared.specs.Symbols.{together, named, datatype_symbols}
use Rattle.declared.specs.Gather.{adds, Collects, item_symbols, themselves, Sweeps, adds_all}
use Rattle.declared.proofs.Collecting.{adds_append, Ready}

-- AN ITEM

-- symbols taken of a piece
of_piece : {A : Type 0} (symbols : A → List Symbol) (d : Res A) (s t u : List ℕ) (r : ℕ) → Collects symbols d s t u r → Collects themselves (bind d (λ a q. got (symbols a) q)) s t u r
of_piece symbols d s t u r c =
    record {
      chained = c.chained;
      kept = c.kept;
      words = c.words;
      runs = λ es p e.
          let i = bind_got d (λ a q. got (symbols a) q) es p e in
          let y = c.runs i.value i.next i.first in
          let z : i.next ≡ p = cc in
          let w : symbols i.value ≡ es = cc in
          (y.0 ∙ z, y.1 ∙ ap (adds (length t) (entries s t)) w);
    }

module _ (i : Section) (s t : List ℕ) (at : ℕ) where
  pub datatypes_item : (u : List ℕ) (r : ℕ) → i ≡ Datatypes → Collects datatype_symbols (datatype s at) s t u r → Collects themselves (item_symbols i s at) s t u r
  unfolding item_symbols
  datatypes_item u r e c = rw e (of_piece datatype_symbols (datatype s at) s t u r c)

  pub constants_item : (u : List ℕ) (r : ℕ) → i ≡ Constants → Collects (named Constant) (constant s at) s t u r → Collects themselves (item_symbols i s at) s t u r
  unfolding item_symbols
  constants_item u r e c = rw e (of_piece (named Constant) (constant s at) s t u r c)

-- A SECTION

pub item_covers : (i : Section) → CoversSome (item_symbols i)
unfolding item_symbols
item_covers Comments = covers_refusal (λ a. 1) 2
item_covers Datatypes = covers_map datatype datatype_symbols each_covers.datatypes
item_covers Constants = covers_map constant (named Constant) each_covers.constants
item_covers Functions = covers_refusal (λ a. 1) 2
item_covers KVars = covers_refusal (λ a. 1) 2

pub section_steps : (n : ℕ) → Steps [] ◌∷◌ (adds n) (adds_all n)
unfolding adds
section_steps n = record { none = λ es. refl; step = λ es fs xs. adds_append n es fs (together xs) }

-- any items, by what a table holds and what each adds to it
module _ {A W : Type 0} (held : List ℕ → W) {one : ℕ → W → A → W} {all : ℕ → W → List A → W} (steps : (n : ℕ) → Steps [] ◌∷◌ (one n) (all n)) (d : Decoder A) (covers : CoversSome d)
    (file : List ℕ) (at end : ℕ) (t : List ℕ) where
  -- the loop: the items from p on are left, and t has become u
  pub record Sweeping (u : List ℕ) (p : ℕ) : Type 0 where
    pub ready : Ready file u
    pub words : length u ≡ length t
    pub over : Over (steps (length t)) d covers (take end file) at (held t) p (held u)

  pub sweep_start : Ready file t → Sweeping t at
  sweep_start r = record { ready = r; words = refl; over = over_start (steps (length t)) d covers (take end file) at (held t) }

  module _ (l : end ≤ length file) (u v : List ℕ) (p q : ℕ) (w : Sweeping u p) (h : p < end) (c : Chained file v) (e : length v ≡ length u) (r : Runs (one (length u)) (d file p) (held u) (held v) q) where
    -- what the item added, by the words that the table had at first
    ran : Runs (one (length t)) (d (take end file) p) (held u) (held v) q
    ran = runs_whole (one (length t)) d covers file end p (held u) (held v) q (λ a z g. let y = r a z g in (y.0, y.1 ∙ ap (λ (n : ℕ). one n (held u) a) w.words))

    pub sweep_more : p < q → Sweeping v q
    sweep_more g =
        let k = length-take end file in
        record {
          ready = record { chained = c; short = w.ready.short };
          words = e ∙ w.words;
          over = over_more (steps (length t)) d covers (take end file) at (held t) p (held u) (held v) q (omega arith) w.over ran g;
        }

    pub sweep_stuck : q ≤ p → Sweeps held all d file at end t v
    sweep_stuck g =
        let k = length-take end file in
        record {
          chained = c;
          words = e ∙ w.words;
          are = λ xs z g'. (over_stuck (steps (length t)) d covers (take end file) at (held t) p (held u) (held v) (held v) q z (omega arith) w.over ran g xs z g').1;
        }

  pub sweep_end : end ≤ length file → (u : List ℕ) (p : ℕ) → Sweeping u p → end ≤ p → Sweeps held all d file at end t u
  sweep_end l u p w h =
      let k = length-take end file in
      record {
        chained = w.ready.chained;
        words = w.words;
        are = λ xs z g. (over_end (steps (length t)) d covers (take end file) at (held t) p (held u) (omega arith) w.over xs z g).1;
      }

-- it ends inside the file
pub ends_inside : (file : List ℕ) (b : Bounds) (i : Section) (end : ℕ) → Inside file b → end ≡ end_of b i → end ≤ length file
ends_inside file b i end h e = rw e (go i)
  where
    go : (i : Section) → end_of b i ≤ length file
    go Comments = h.datatypes
    go Datatypes = h.constants
    go Constants = h.functions
    go Functions = h.kvars
    go KVars = h.constraint
