-- What the parts of a file add up to: its declarations, its assertions, its script.
use mathlib.Core.Path.{◌≡◌, sym, ap, ◌∙◌, subst}
use mathlib.Core.List.{List, [], ◌∷◌, ◌++◌}
use Prim.Native.Nat.{ℕ, ◌≤◌}
use native.Mathlib.Omega.{arith}
use lib.ListN.{length, take}
use Rattle.smtlib.specs.Lexicon.{bytes}
use Rattle.task.specs.Ast.{Task}
use Rattle.task.specs.Decode.{got, comment, datatype, constant, function, kvar, section, dec_constraint, deepest}
use Rattle.task.specs.Task.{bound}
use Rattle.task.proofs.Reading.{bind_got}
use Rattle.task.proofs.Pieces.{each_covers}
use Rattle.item_check.specs.declared.Section.{Section}
use Rattle.item_check.specs.declared.Section.TheVariants.{Datatypes, Constants, Functions, KVars}
use Rattle.trailer.specs.declared.Bounds.{Bounds}
use Rattle.trailer.specs.Bounds.{bounds_of, start_of, end_of}
use Rattle.path.specs.declared.Path.{Path}
use Rattle.path.specs.Offsets.{entries as offsets_on}
use Rattle.path.proofs.Entries.{leaves_empty}
use Rattle.names.specs.Table.{entries}
use Rattle.declared.specs.Symbols.{symbols_of}
use Rattle.smt_text.specs.Encoder.{Encoder}
use Rattle.smt_text.specs.Text.{write_datatype_decl, write_const_decl, write_fun_def, write_kvar_decl}
use Rattle.smt_sort.specs.Section.{encoder_in}
use Rattle.horn_text.specs.Clauses.{clauses_of}
use Rattle.horn_text.specs.Script.{write_asserts, opening, declaration_parts, closing, encoder_of, parts_of}
use Rattle.task.proofs.Opened.{Opened, opened}
use Rattle.assertion.specs.declared.Kept.{Kept}
use Rattle.assertion.specs.Under.{on_path}
use Rattle.assertion.proofs.Keeping.{keeps_start}
use Rattle.flatten.specs.declared.Range.{Range}
use Rattle.flatten.specs.declared.Progress.{Progress}
use Rattle.flatten.specs.Parts.{Writing, writing, put, puts, PutsUnder, Puts, clause_parts}
use Rattle.flatten.specs.Walk.{Ready}
use Rattle.flatten.proofs.Lending.{puts_append}
use Rattle.task.proofs.Sections.{in_whole, section_made}
use Rattle.parts.proofs.Encoders.{encoder_is}
use Rattle.parts.specs.Whole.{item_text, opening_part, each, PutsAll, section_texts, declaration_texts, constraint_in, assertion_parts, fresh, names_in, PutsScript, Measured}

-- DECLARATIONS

-- where a section begins and ends, as the code has it
pub section_put : (file : List ℕ) (enc : Encoder) (b : Bounds) (i : Section) (at end : ℕ) (w w' : Writing) → at ≡ start_of b i → end ≡ end_of b i
    → PutsAll each (section (item_text enc i) (take end file) at) w w' → PutsAll each (section_texts file enc b i) w w'
section_put file enc b i at end w w' e e' u = rw (e, e') at u

pub declarations_put : (file : List ℕ) (enc : Encoder) (b : Bounds) (w w1 w2 w3 w4 : Writing)
    → PutsAll each (section_texts file enc b Datatypes) w w1
    → PutsAll each (section_texts file enc b Constants) w1 w2
    → PutsAll each (section_texts file enc b Functions) w2 w3
    → PutsAll each (section_texts file enc b KVars) w3 w4 → PutsAll each (declaration_texts file enc b) w w4
unfolding PutsAll declaration_texts
declarations_put file enc b w w1 w2 w3 w4 u1 u2 u3 u4 us q e =
    let i = bind_got (section_texts file enc b Datatypes) _ us q e in
    let j = bind_got (section_texts file enc b Constants) _ us q i.then in
    let k = bind_got (section_texts file enc b Functions) _ us q j.then in
    let l = bind_got (section_texts file enc b KVars) _ us q k.then in
    let all : i.value ++ (j.value ++ (k.value ++ l.value)) ≡ us = cc in
    u4 l.value l.next l.first
    ∙ ap (λ (v : Writing). puts v l.value) (u3 k.value k.next k.first)
    ∙ ap (λ (v : Writing). puts (puts v k.value) l.value) (u2 j.value j.next j.first)
    ∙ ap (λ (v : Writing). puts (puts (puts v j.value) k.value) l.value) (u1 i.value i.next i.first)
    ∙ sym (chain w i.value j.value k.value l.value) ∙ ap (puts w) all
  where
    chain : (w : Writing) (a b c d : List (List ℕ)) → puts w (a ++ (b ++ (c ++ d))) ≡ puts (puts (puts (puts w a) b) c) d
    chain w a b c d =
        puts_append w a (b ++ (c ++ d)) ∙ puts_append (puts w a) b (c ++ d) ∙ puts_append (puts (puts w a) b) c d

-- ASSERTIONS

-- the walk may begin without ForAlls around it
pub ready_start : (file : List ℕ) (enc : Encoder) (text : List ℕ) (p : Path) (k : Kept) → length file ≤ 60000 → (offsets_on p ≡ []) × (p.depth ≡ 0) × (length p.offsets ≡ 256)
    → (k.vars ≡ 0) × (k.guards ≡ 0) × (k.count ≡ 0) → Ready file enc text p k deepest
unfolding on_path
ready_start file enc text p k f e g = record {
  short = omega arith;
  leaves = leaves_empty p e;
  around = [];
  stands = rw e.0;
  keeps = keeps_start enc text k g;
}

pub assertions_put : (file : List ℕ) (enc : Encoder) (b : Bounds) (os : List ℕ) (w w' : Writing) (q : ℕ) → os ≡ []
    → PutsUnder (clause_parts enc) (on_path file os) (dec_constraint deepest file b.constraint) w w' q
    → PutsAll (assertion_parts enc) (constraint_in file b) w w'
unfolding PutsAll PutsUnder Puts assertion_parts on_path
assertions_put file enc b os w w' q e u c p g =
    (u [] 0 (rw e) c p (in_whole (dec_constraint deepest) (each_covers.constraints deepest) file b.end b.constraint c p g)).1

-- THE SCRIPT

module _ (file enc : List ℕ) (t : Task) (o : Opened file t) (names : entries file enc ≡ symbols_of t) where
  is_encoder : encoder_in file enc ≡ encoder_of (names_in enc) t
  is_encoder = encoder_is file enc t names

  declared : declaration_texts file (encoder_in file enc) (bounds_of file) ≡ got (declaration_parts (encoder_of (names_in enc) t) t) o.kvars_end
  unfolding declaration_texts item_text
  declared =
      let ts = encoder_of (names_in enc) t in
      rw (
        is_encoder,
        section_made datatype (write_datatype_decl ts) (take (bound file 2) file) (bound file 1) t.datatypes o.datatypes_end o.datatypes,
        section_made constant (write_const_decl ts) (take (bound file 3) file) (bound file 2) t.constants o.constants_end o.constants,
        section_made function (write_fun_def ts) (take (bound file 4) file) (bound file 3) t.functions o.functions_end o.functions,
        section_made kvar (write_kvar_decl ts) (take (bound file 5) file) (bound file 4) t.kvars o.kvars_end o.kvars,
      )

  asserted : assertion_parts (encoder_in file enc) t.constraint ≡ write_asserts (encoder_of (names_in enc) t) (clauses_of t)
  unfolding assertion_parts clause_parts
  asserted = ap (λ (ts : Encoder). write_asserts ts (clauses_of t)) is_encoder

  module _ (w0 w1 w2 w3 w4 w5 : Writing) where
    put_all : PutsAll opening_part (section comment (take (bound file 1) file) (bound file 0)) w0 w1 → PutsAll each (declaration_texts file (encoder_in file enc) (bounds_of file)) w1 w2
        → w3 ≡ put w2 (bytes "\n") → PutsAll (assertion_parts (encoder_in file enc)) (constraint_in file (bounds_of file)) w3 w4 → w5 ≡ put w4 (bytes "\n(check-sat)\n")
        → w5 ≡ puts w0 (parts_of (names_in enc) t)
    unfolding PutsAll closing puts
    put_all u1 u2 e3 u4 e5 =
        let ts = encoder_of (names_in enc) t in
        let ds = declaration_parts ts t in
        let cs = write_asserts ts (clauses_of t) in
        let e1 : w1 ≡ put w0 (opening t.comments) = u1 t.comments o.comments_end o.comments in
        let e2 : w2 ≡ puts w1 ds = u2 ds o.kvars_end declared in
        let e4 : w4 ≡ puts w3 cs = u4 t.constraint (bound file 6) o.constraint ∙ ap (puts w3) asserted in
        rw (e5, e4, e3, e2, e1)
        (sym (puts_append (put w0 (opening t.comments)) ds (bytes "\n" ∷ (cs ++ closing ∷ []))
        ∙ puts_append (put (puts (put w0 (opening t.comments)) ds) (bytes "\n")) cs (closing ∷ [])))

script_put : (file enc : List ℕ) (b : Bounds) (w0 w1 w2 w3 w4 w5 : Writing) → PutsAll opening_part (section comment (take b.datatypes file) b.comments) w0 w1
    → PutsAll each (declaration_texts file (encoder_in file enc) b) w1 w2 → w3 ≡ put w2 (bytes "\n") → PutsAll (assertion_parts (encoder_in file enc)) (constraint_in file b) w3 w4 → w5 ≡ put w4 (bytes "\n(check-sat)\n")
    → PutsScript file enc b w0 w5
unfolding PutsScript
script_put file enc b w0 w1 w2 w3 w4 w5 u1 u2 e3 u4 e5 t end e eb en =
    subst
    (λ (x : Bounds). PutsAll opening_part (section comment (take x.datatypes file) x.comments) w0 w1 → PutsAll each (declaration_texts file (encoder_in file enc) x) w1 w2
    → PutsAll (assertion_parts (encoder_in file enc)) (constraint_in file x) w3 w4 → w5 ≡ puts w0 (parts_of (names_in enc) t))
    (sym eb) (λ v1 v2 v4. put_all file enc t (opened file t end e) en w0 w1 w2 w3 w4 w5 v1 v2 e3 v4 e5) u1 u2 u4

-- at first nothing was written
abbrev Started : Progress → Range → Type 0
Started p r = (p.range ≡ r) × (p.seen ≡ 0) × (p.len ≡ 0) × (p.longest ≡ 0)

started : (p : Progress) (r : Range) (buf ls : List ℕ) → Started p r → writing p buf ls ≡ fresh r buf ls
started p r buf ls e = λ i. record { range = e.0 i; seen = e.1 i; len = e.2 i; longest = e.3 i; buf = buf; lengths = ls }

pub script_from_start : (file enc : List ℕ) (b : Bounds) (r : Range) (p : Progress) (buf ls : List ℕ) (w1 w2 w3 w4 w5 : Writing) → Started p r
    → PutsAll opening_part (section comment (take b.datatypes file) b.comments) (writing p buf ls) w1 → PutsAll each (declaration_texts file (encoder_in file enc) b) w1 w2 → w3 ≡ put w2 (bytes "\n")
    → PutsAll (assertion_parts (encoder_in file enc)) (constraint_in file b) w3 w4 → w5 ≡ put w4 (bytes "\n(check-sat)\n") → PutsScript file enc b (fresh r buf ls) w5
script_from_start file enc b r p buf ls w1 w2 w3 w4 w5 e u1 u2 e3 u4 e5 =
    subst (λ (w : Writing). PutsScript file enc b w w5) (started p r buf ls e) (script_put file enc b (writing p buf ls) w1 w2 w3 w4 w5 u1 u2 e3 u4 e5)

-- measuring is writing into no buffer
pub measured : (file enc : List ℕ) (b : Bounds) (r : Range) (p : Progress) (buf after ls ls' : List ℕ) → buf ≡ [] → PutsScript file enc b (fresh r buf ls) (writing p after ls')
    → Measured file enc b r ls p ls'
unfolding PutsScript Measured
measured file enc b r p buf after ls ls' e0 u t end e eb en =
    let v : writing p after ls' ≡ puts (fresh r [] ls) (parts_of (names_in enc) t) = u t end e eb en ∙ ap (λ (x : List ℕ). puts (fresh r x ls) (parts_of (names_in enc) t)) e0 in
    (ap (λ (w : Writing). w.seen) v, ap (λ (w : Writing). w.len) v, ap (λ (w : Writing). w.longest) v, ap (λ (w : Writing). w.lengths) v)
