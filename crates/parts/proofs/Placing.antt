-- What the steps of putting parts add up to: fixed texts, the opening, the items of a section.
use mathlib.Core.Path.{◌≡◌, refl, sym}
use mathlib.Core.Bool.{false}
use mathlib.Core.List.{List, [], ◌∷◌, ◌++◌, map, nil≢cons}
use Prim.Native.Nat.{ℕ, zero, suc, ◌<◌, ◌≤◌}
use native.Mathlib.Omega.{arith}
use lib.ListN.{length, take, length-take}
use borrow.Author.Tests.{le-leb, lt-leb}
use Rattle.smtlib.specs.Lexicon.{bytes}
use Rattle.task.specs.declared.Fault.{Fault}
use Rattle.task.specs.Covers.{CoversSome}
use Rattle.task.specs.Decode.{Res, got, refuse, bind, comment, datatype, constant, function, kvar, items, section}
use Rattle.task.specs.Fault.{text_fault, datatype_fault, binder_fault, function_fault, kvar_fault}
use Rattle.task.proofs.Reading.{bind_got}
use Rattle.task.proofs.Pieces.{each_covers}
use Rattle.task_check.proofs.Rows.{made_ends, made_none}
use Rattle.item_check.specs.declared.Section.{Section}
use Rattle.item_check.specs.declared.Section.TheVariants.{Comments, Datatypes, Constants, Functions, KVars}
use Rattle.item_check.specs.Items.{item_walk}
use Rattle.smt_text.specs.Encoder.{Encoder}
use Rattle.smt_text.specs.Text.{write_datatype_decl, write_const_decl, write_fun_def, write_kvar_decl}
use Rattle.horn_text.specs.Script.{join, write_comment, opening}
use Rattle.output.specs.Emit.{Output, emit, emits, Sends}
use Rattle.output.proofs.Sent.{emits_append}
use Rattle.task.specs.Run.{Runs}
use Rattle.task.proofs.Running.{Steps}
use Rattle.output.proofs.Sending.{sends_refused, sends_end, sends_map}
use Rattle.flatten.specs.declared.Progress.{Progress}
use Rattle.flatten.specs.Parts.{Writing, writing, has, passed, puts, Puts}
use Rattle.flatten.proofs.Lending.{put_out}
use Rattle.task.proofs.Sections.{covers_map, runs_whole, Over, over_start, over_more, over_stuck, over_end}
use Rattle.parts.specs.Whole.{item_text, itself, alone, comment_lines, PutsAll, each}

-- A PART

module _ {A : Type 0} (text : A → List ℕ) (p p' : Progress) (xs ls : List ℕ) (d : Res A) where
  -- not in the range
  pub part_out : has p.range p.seen ≡ false → p' ≡ passed p → PutsAll (λ a. text a ∷ []) d (writing p xs ls) (writing p' xs ls)
  unfolding PutsAll puts
  part_out h e a q g = put_out p p' xs (text a) ls h e

-- where it ends is left out
pub all_of_lem : {A : Type 0} (parts : A → List (List ℕ)) (d : Res A) (w w' : Writing) (at : ℕ) → Puts parts d w w' at → PutsAll parts d w w'
unfolding Puts PutsAll
all_of_lem parts d w w' at u a q g = (u a q g).1

-- COMMENTS

module _ (s : List ℕ) (at : ℕ) (o : Output) where
  pub comment_refused : (k : ℕ) (o' : Output) (r : ℕ) → comment s at ≡ refuse k → Sends write_comment (comment s at) o o' r
  comment_refused k o' r e = rw e (sends_refused write_comment o o' r k)

  pub comment_sent : (x : List ℕ) (p : ℕ) (o1 o2 o3 : Output) → comment s at ≡ got x p → o1 ≡ emits o (bytes ";; ") → o2 ≡ emits o1 x
      → o3 ≡ emit o2 10 → Sends write_comment (comment s at) o o3 p
  unfolding emits
  comment_sent x p o1 o2 o3 e e1 e2 e3 = rw e (sends_end write_comment o o3 p x p refl (rw (e3, e2, e1) (simp emits_append)))

pub comment_steps : Steps [] ◌∷◌ (λ (o : Output) (c : List ℕ). emits o (write_comment c)) (λ o cs. emits o (comment_lines cs))
unfolding emits comment_lines
comment_steps = record { none = λ o. refl; step = λ o c cs. emits_append o (write_comment c) (join (map write_comment cs)) }

-- a section that begins behind its end has no items
no_items : (n : ℕ) (s : List ℕ) (at : ℕ) → length s ≤ at → items n comment s at ≡ got [] at
unfolding items
no_items zero s at h = refl
no_items (suc n) s at h = rw (le-leb (length s) at h)

-- one that begins before it has some
some_items : (n : ℕ) (s : List ℕ) (at : ℕ) (cs : List (List ℕ)) (q : ℕ) → at < length s → 0 < n → items n comment s at ≡ got cs q → cs ≡ [] → ⊥
unfolding items
some_items zero s at cs q h z e f = absurd (omega arith)
some_items (suc n) s at cs q h z e f =
    let g : bind (comment s at) (λ a p. bind (items n comment s p) (λ b r. got (a ∷ b) r)) ≡ got cs q = rw (lt-leb (length s) at h) at e in
    let i = bind_got (comment s at) (λ a p. bind (items n comment s p) (λ b r. got (a ∷ b) r)) cs q g in
    let j = bind_got (items n comment s i.next) (λ b r. got (i.value ∷ b) r) cs q i.then in
    let y : i.value ∷ j.value ≡ [] = cc in
    nil≢cons (sym y)

-- with comments there is a blank line behind them
opening_some : (cs : List (List ℕ)) → (cs ≡ [] → ⊥) → opening cs ≡ bytes "(set-logic HORN)\n\n" ++ (comment_lines cs ++ bytes "\n")
unfolding opening comment_lines
opening_some [] z = absurd (z refl)
opening_some (c ∷ cs) z = refl

module _ (s : List ℕ) (at : ℕ) (o o1 : Output) (e1 : o1 ≡ emits o (bytes "(set-logic HORN)\n\n")) where
  pub opening_bare : length s ≤ at → Sends opening (section comment s at) o o1 at
  unfolding opening
  opening_bare h = rw (no_items (length s) s at h) (sends_end opening o o1 at [] at refl e1)

  pub opening_told : (o2 o3 : Output) (q : ℕ) → at < length s → Sends comment_lines (section comment s at) o1 o2 q → o3 ≡ emit o2 10
      → Sends opening (section comment s at) o o3 q
  unfolding Sends emits
  opening_told o2 o3 q h w e3 cs t g =
      let v = w cs t g in
      let y = some_items (length s) s at cs t h (omega arith) g in
      (v.0, rw (e3, v.1, e1, opening_some cs y) (simp emits_append))

-- ITEMS

module _ (enc : Encoder) where
  pub item_covers : (i : Section) → CoversSome (item_text enc i)
  unfolding item_text
  item_covers Comments = covers_map comment write_comment each_covers.comments
  item_covers Datatypes = covers_map datatype (write_datatype_decl enc) each_covers.datatypes
  item_covers Constants = covers_map constant (write_const_decl enc) each_covers.constants
  item_covers Functions = covers_map function (write_fun_def enc) each_covers.functions
  item_covers KVars = covers_map kvar (write_kvar_decl enc) each_covers.kvars

-- a piece of which the text is kept
pub text_of : {A : Type 0} (text : A → List ℕ) (x : Res A) (o o' : Output) (r : ℕ) → Sends text x o o' r → Sends itself (bind x (λ a p. got (text a) p)) o o' r
text_of text x o o' r w = sends_map itself text x o o' r w

module _ (enc : Encoder) (s : List ℕ) (at : ℕ) (t : List ℕ) (z : ℕ) where
  item_ends : (i : Section) (q : ℕ) (f : Fault) → got f q ≡ item_walk i s at → item_text enc i s at ≡ got t z → q ≡ z
  unfolding item_walk item_text
  item_ends Comments q f e g = made_ends text_fault write_comment (comment s at) (got f q) e t z g q f refl
  item_ends Datatypes q f e g = made_ends datatype_fault (write_datatype_decl enc) (datatype s at) (got f q) e t z g q f refl
  item_ends Constants q f e g = made_ends binder_fault (write_const_decl enc) (constant s at) (got f q) e t z g q f refl
  item_ends Functions q f e g = made_ends function_fault (write_fun_def enc) (function s at) (got f q) e t z g q f refl
  item_ends KVars q f e g = made_ends kvar_fault (write_kvar_decl enc) (kvar s at) (got f q) e t z g q f refl

  no_item : {B : Type 0} (i : Section) (k : ℕ) → refuse k ≡ item_walk i s at → item_text enc i s at ≡ got t z → B
  unfolding item_walk item_text
  no_item Comments k e g = made_none text_fault write_comment (comment s at) (refuse k) e t z g k refl
  no_item Datatypes k e g = made_none datatype_fault (write_datatype_decl enc) (datatype s at) (refuse k) e t z g k refl
  no_item Constants k e g = made_none binder_fault (write_const_decl enc) (constant s at) (refuse k) e t z g k refl
  no_item Functions k e g = made_none function_fault (write_fun_def enc) (function s at) (refuse k) e t z g k refl
  no_item KVars k e g = made_none kvar_fault (write_kvar_decl enc) (kvar s at) (refuse k) e t z g k refl

module _ (enc : Encoder) (i : Section) (s : List ℕ) (at : ℕ) where
  pub item_out : (p p' : Progress) (xs ls : List ℕ) (q : ℕ) (f : Fault) → has p.range p.seen ≡ false → got f q ≡ item_walk i s at → p' ≡ passed p
      → Puts alone (item_text enc i s at) (writing p xs ls) (writing p' xs ls) q
  unfolding Puts puts
  item_out p p' xs ls q f h e u t z g = (item_ends enc s at t z i q f e g, put_out p p' xs t ls h u)

  pub item_refused : (w w' : Writing) (q k : ℕ) → refuse k ≡ item_walk i s at → Puts alone (item_text enc i s at) w w' q
  unfolding Puts
  item_refused w w' q k e t z g = no_item enc s at t z i k e g

-- the items of a section one by one
pub section_steps : Steps [] ◌∷◌ (λ (w : Writing) (t : List ℕ). puts w (t ∷ [])) (λ w ts. puts w ts)
unfolding puts
section_steps = record { none = λ w. refl; step = λ w t ts. refl }

-- the loop over a section, which is read in the whole file
module _ (enc : Encoder) (i : Section) (file : List ℕ) (at end : ℕ) (l : end ≤ length file) (first : Writing) where
  -- the items from q on are left, and what there was at first has become w
  pub Left : ℕ → Writing → Type 0
  Left q w = Over section_steps (item_text enc i) (item_covers enc i) (take end file) at first q w

  pub left_start : Left at first
  unfolding Left
  left_start = over_start section_steps (item_text enc i) (item_covers enc i) (take end file) at first

  module _ (q : ℕ) (w w' : Writing) (p : ℕ) (h : q < end) (o : Left q w) (u : Puts alone (item_text enc i file q) w w' p) where
    whole : Runs (λ (v : Writing) (t : List ℕ). puts v (t ∷ [])) (item_text enc i (take end file) q) w w' p
    unfolding Puts
    whole = runs_whole (λ (v : Writing) (t : List ℕ). puts v (t ∷ [])) (item_text enc i) (item_covers enc i) file end q w w' p u

    pub left_more : q < p → Left p w'
    unfolding Left
    left_more g =
        let k = length-take end file in
        over_more section_steps (item_text enc i) (item_covers enc i) (take end file) at first q w w' p (omega arith) o whole g

    pub left_stuck : (w'' : Writing) → p ≤ q → PutsAll each (section (item_text enc i) (take end file) at) first w''
    unfolding Left PutsAll
    left_stuck w'' g a z e =
        let k = length-take end file in
        (over_stuck section_steps (item_text enc i) (item_covers enc i) (take end file) at first q w w' w'' p 0 (omega arith) o whole g a z e).1

  pub left_end : (q : ℕ) (w : Writing) → end ≤ q → Left q w → PutsAll each (section (item_text enc i) (take end file) at) first w
  unfolding Left PutsAll
  left_end q w h o a z e =
      let k = length-take end file in
      (over_end section_steps (item_text enc i) (item_covers enc i) (take end file) at first q w (omega arith) o a z e).1
