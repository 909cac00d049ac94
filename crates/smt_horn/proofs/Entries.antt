-- What the steps of the calls add up to.
use Rattle.std.specs.Prelude.{Result, Ok, Err}
use Rattle.task.specs.declared.Refusal.{Refusal}
use Rattle.task.specs.Refusals.{number_of}
use mathlib.Core.Path.{◌≡◌, refl, sym, ap, ◌∙◌}
use mathlib.Core.Bool.{Bool, true, false, cond}
use mathlib.Core.List.{List, [], ◌∷◌, ◌++◌, map}
use Prim.Native.Nat.{ℕ, zero, suc, ◌+◌, ◌-◌, ◌≤◌, ◌<◌, min}
use native.Mathlib.Nat.{zero-add}
use native.Mathlib.Omega.{arith}
use lib.Dec.{leb}
use lib.ListN.{length, take, drop, set, length-append, length-take, length-drop, length-map}
use lib.Seq.{sets, sets-eq, take_all, get_or-set_same}
use borrow.Author.Tests.{le-leb, lt-leb}
use mathlib.Core.Logic.{◌⊎◌, inl, inr}
use Rattle.smtlib.proofs.Bools.{clash}
use Rattle.task.specs.Ast.{Task}
use Rattle.task.specs.Decode.{Res, got, refuse}
use Rattle.task.specs.Task.{task_of, declarations, heads_of}
use Rattle.task.proofs.Reading.{le_or_lt}
use Rattle.trailer.specs.declared.Bounds.{Bounds}
use Rattle.trailer.specs.Bounds.{bounds_of, Inside}
use Rattle.inspect.specs.declared.Inspected.{Inspected}
use Rattle.inspect.specs.Inspect.{sizes_of, inspected_of, Names}
use Rattle.smt_text.specs.declared.Edition.{Edition}
use Rattle.smt_text.specs.Editions.{names_of}
use Rattle.smt_text.proofs.Texts.{tables}
use Rattle.names.proofs.Theorems.{changes}
use Rattle.smt_sort.specs.Section.{edition_in, number_of as number_of_edition}
use Rattle.smt_sort.proofs.Editions.{numbered}
use Rattle.horn_text.specs.Clauses.{clauses_of}
use Rattle.horn_text.specs.Script.{join, parts_of, longest}
use Rattle.horn_text.specs.Answers.{Answer, values, refused, survey_answer, part_answer, part_buffer, script_answer, script_buffer, run_of, run_answer, run_buffer, run_table}
use Rattle.horn_text.specs.Demand.{Bytes, Promised}
use Rattle.horn_text.proofs.Places.{clauses_number}
use Rattle.horn_text.proofs.Lengths.{script_short}
use Rattle.horn_text.proofs.Lines.{parts_few}
use Rattle.task.proofs.Opened.{Opened, opened}
use Rattle.horn_text.proofs.Demands.{demand3}
use Rattle.horn_text.proofs.RunLaws.{run_laws, longest_take, longest_drop}
use Rattle.output.specs.Emit.{most}
use Rattle.flatten.specs.declared.Range.{Range}
use Rattle.flatten.specs.declared.Progress.{Progress}
use Rattle.flatten.specs.Parts.{Writing, writing, up, has, most32, place, pass, put, puts}
use Rattle.flatten.proofs.Totals.{ranged, finished, totals}
use Rattle.parts.specs.Whole.{fresh, PutsScript, Measured, Accepted}
use Rattle.smt_horn.specs.declared.Asked.{Asked}
use Rattle.smt_horn.specs.declared.Asked.TheVariants as asked_is
use Rattle.smt_horn.specs.Calls.{surveyed, written}
use Rattle.smt_horn.specs.Putting.{range_of, sized, answer_to, Put, PutsTask, Given, Puts, Answers}

-- a text that fits the buffer stands at its start, before what stood behind
pub sets_laid : (t b : List ℕ) → length t ≤ length b → sets b 0 t ≡ t ++ drop (length t) b
sets_laid t b h = sets-eq t b 0 (omega arith) ∙ ap (λ (k : ℕ). t ++ drop k b) (zero-add (length t))

-- WHAT INSPECT FOUND

inside : (file : List ℕ) (t : Task) → Opened file t → Inside file (bounds_of file)
inside file t o =
    let r1 = o.rise1 in
    let r2 = o.rise2 in
    let r3 = o.rise3 in
    let r4 = o.rise4 in
    let r5 = o.rise5 in
    let l = o.last in
    record {
      most = o.most;
      datatypes = omega arith;
      constants = omega arith;
      functions = omega arith;
      kvars = omega arith;
      constraint = omega arith;
      end = l;
    }

-- a task
pub accepted : (file : List ℕ) (i : Inspected) → Ok i ≡ inspected_of file (task_of file) → Accepted file i.bounds
accepted file i e = go (task_of file) refl
  where
    go : (x : Res Task) → task_of file ≡ x → Accepted file i.bounds
    go (got t end) u =
        let y : Ok i ≡ Ok (sizes_of (bounds_of file) (declarations t) (heads_of t.constraint)) = e ∙ ap (inspected_of file) u in
        let z : i ≡ sizes_of (bounds_of file) (declarations t) (heads_of t.constraint) = cc in
        let b : i.bounds ≡ bounds_of file = ap (λ (j : Inspected). j.bounds) z in
        record { inside = rw b (inside file t (opened file t end u)); task = t; end = end; held = u; bounds = b }
    go (refuse n) u = let y : Ok i ≡ Err n = e ∙ ap (inspected_of file) u in clash (cc)

-- WHAT IS ANSWERED

module _ (p : Progress) (room : ℕ) where
  pub sized_long : room < p.len → refused 9 ≡ sized p room
  sized_long h = rw (lt-leb p.len room h)

  pub sized_fits : p.len ≤ room → values (p.len ∷ []) ≡ sized p room
  sized_fits h = rw (le-leb p.len room h)

  module _ (asked : Asked) (places first count to : ℕ) (e : asked ≡ asked_is.Run first count) (i : to ≡ up first count) where
    pub answer_none : p.seen < to → refused 8 ≡ answer_to asked p room places
    answer_none h = rw (e, lt-leb (up first count) p.seen (rw i at h))

    module _ (h : to ≤ p.seen) where
      there_are : leb (up first count) p.seen ≡ true
      there_are = le-leb (up first count) p.seen (rw i at h)

      pub answer_unplaced : places < count → refused 9 ≡ answer_to asked p room places
      answer_unplaced g = rw (e, there_are, lt-leb count places g)

      pub answer_sized : (x : Answer) → count ≤ places → x ≡ sized p room → x ≡ answer_to asked p room places
      answer_sized x g k = k ∙ rw (e, there_are, le-leb count places g)

-- PUTTING PARTS

-- with a table of the declared names the parts are measured, and written unless the answer is a refusal
module _ (file table : List ℕ) (b : Bounds) (a : Accepted file b) (d : Names file table) (asked : Asked) (r : Range) (e : r ≡ range_of asked) (p : Progress) (none none' : List ℕ) (z : none ≡ [])
    (m : Measured file table b r none p none') (buf ls : List ℕ) (x : Result ℕ Refusal) (y : written x ≡ answer_to asked p (length buf) (length ls)) where
  pub put_none : (r : Refusal) → x ≡ Err r → PutsTask file (edition_in table) asked buf buf ls ls p
  unfolding PutsTask Measured
  put_none r e' t end h =
      let v = rw (e, z) at (m t end h a.bounds (d.are t end h)) in
      let w : answer_to asked p (length buf) (length ls) ≡ refused (number_of r) = sym y ∙ ap written e' in
      record { seen = v.0; len = v.1; longest = v.2; done = λ ns g. clash (let k = sym g ∙ w in cc); kept = λ k g. (refl, refl) }

  pub put_done : (k : ℕ) (after ls' : List ℕ) (q : Progress) → x ≡ Ok k → PutsScript file table b (fresh r buf ls) (writing q after ls') → PutsTask file (edition_in table) asked buf after ls ls' p
  unfolding PutsTask Measured PutsScript
  put_done k after ls' q e' u t end h =
      let n = d.are t end h in
      let v = rw (e, z) at (m t end h a.bounds n) in
      let g = rw e at (u t end h a.bounds n) in
      let w : answer_to asked p (length buf) (length ls) ≡ values (k ∷ []) = sym y ∙ ap written e' in
      record {
        seen = v.0;
        len = v.1;
        longest = v.2;
        done = λ ns f. (ap (λ (o : Writing). o.buf) g, ap (λ (o : Writing). o.lengths) g);
        kept = λ i f. clash (let l = sym f ∙ w in cc);
      }

-- the table with an edition in it
module _ (file table : List ℕ) (d : Names file table) where
  pub table_words : 0 < length table
  table_words = let r = d.chained.room in omega arith

  module _ (ed : Edition) (table' : List ℕ) (e : table' ≡ set table 0 (number_of_edition ed)) where
    pub edition_names : Names file table'
    edition_names =
        rw e
        (record {
          chained = changes.options file table (number_of_edition ed) d.chained;
          are = λ t end h. changes.options_entries file table (number_of_edition ed) ∙ d.are t end h;
        })

    pub edition_is : edition_in table' ≡ ed
    edition_is = numbered table' ed (rw e (get_or-set_same table 0 (number_of_edition ed) 0 table_words))

-- a refusal
pub task_refused : (file : List ℕ) (n : ℕ) → Err n ≡ inspected_of file (task_of file) → task_of file ≡ refuse n
task_refused file n e = go (task_of file) refl
  where
    go : (x : Res Task) → task_of file ≡ x → task_of file ≡ refuse n
    go (got t end) u = let y : Err n ≡ Ok (sizes_of (bounds_of file) (declarations t) (heads_of t.constraint)) = e ∙ ap (inspected_of file) u in clash (cc)
    go (refuse m) u =
        let y : ◌≡◌ {A = Result Inspected ℕ} (Err n) (Err m) = e ∙ ap (inspected_of file) u in
        let z : m ≡ n = cc in
        u ∙ ap refuse z

-- by what inspect found
module _ (file : List ℕ) (ed : Edition) (asked : Asked) where
  pub put_refused : (r : Refusal) (buf ls : List ℕ) → Err (number_of r) ≡ inspected_of file (task_of file) → Puts file ed asked buf buf ls ls (Err r)
  unfolding Puts
  put_refused r buf ls e = (task_refused file (number_of r) e, refl, refl)

  pub put_given : (i : Inspected) → Ok i ≡ inspected_of file (task_of file) → (buf after ls ls' : List ℕ) (p : Progress) (ed' : Edition) → ed' ≡ ed → PutsTask file ed' asked buf after ls ls' p
      → Puts file ed asked buf after ls ls' (Ok (i.heads, p))
  unfolding Puts PutsTask
  put_given i e buf after ls ls' p ed' e' u =
      let a = accepted file i e in
      let y : Ok i ≡ Ok (sizes_of (bounds_of file) (declarations a.task) (heads_of a.task.constraint)) = e ∙ ap (inspected_of file) a.held in
      let z : i ≡ sizes_of (bounds_of file) (declarations a.task) (heads_of a.task.constraint) = cc in
      record { task = a.task; end = a.end; held = a.held; heads = sym (ap (λ (j : Inspected). j.heads) z); put = rw (← e') (u a.task a.end a.held) }

-- the two cases of an outcome
module _ (file : List ℕ) (ed : Edition) (asked : Asked) (buf after ls ls' : List ℕ) where
  pub was_given : (h : ℕ) (p : Progress) → Puts file ed asked buf after ls ls' (Ok (h, p)) → Given file ed asked buf after ls ls' h p
  unfolding Puts
  was_given h p u = u

  pub was_refused : (r : Refusal) → Puts file ed asked buf after ls ls' (Err r) → (task_of file ≡ refuse (number_of r)) × (after ≡ buf) × (ls' ≡ ls)
  unfolding Puts
  was_refused r u = u

-- WHAT WAS PUT

-- every part is counted
counted : (w : Writing) (ts : List (List ℕ)) → w.seen + length ts ≤ most → (puts w ts).seen ≡ w.seen + length ts
unfolding puts put place pass
counted w [] h = omega arith
counted w (t ∷ ts) h =
    let one : (put w t).seen ≡ w.seen + 1 = once (has w.range w.seen) in
    counted (put w t) ts (omega arith) ∙ omega arith
  where
    once : (x : Bool) → (cond x (place w t) (pass w)).seen ≡ w.seen + 1
    once true = omega arith
    once false = omega arith

-- some parts are no longer than all
pub join_take : (n : ℕ) (ts : List (List ℕ)) → length (join (take n ts)) ≤ length (join ts)
join_take zero ts = omega arith
join_take (suc n) [] = omega arith
join_take (suc n) (t ∷ ts) =
    let a : length (t ++ join ts) ≡ length t + length (join ts) = length-append t (join ts) in
    let b : length (t ++ join (take n ts)) ≡ length t + length (join (take n ts)) = length-append t (join (take n ts)) in
    let h = join_take n ts in
    omega arith

join_drop : (n : ℕ) (ts : List (List ℕ)) → length (join (drop n ts)) ≤ length (join ts)
join_drop zero ts = omega arith
join_drop (suc n) [] = omega arith
join_drop (suc n) (t ∷ ts) = let a : length (t ++ join ts) ≡ length t + length (join ts) = length-append t (join ts) in let h = join_drop n ts in omega arith

module _ (file : List ℕ) (by : Bytes file) (ed : Edition) (t : Task) (end : ℕ) (held : task_of file ≡ got t end) where
  abbrev ps : List (List ℕ)
  ps = parts_of (names_of ed) t

  -- the script, the number of its parts and their lengths are below the largest numbers
  pub short : length (join ps) < most
  short = let k = (script_short (names_of ed) (tables.editions ed) file t end by held).0 in omega arith

  pub few : length ps < most
  few = let n = parts_few (names_of ed) t in let k = short in omega arith

  narrow : longest ps ≤ most32
  narrow = let k = (script_short (names_of ed) (tables.editions ed) file t end by held).1 in omega arith

  -- what is put of a range that begins with a part or behind the last
  pub put_is : (r : Range) (b ls : List ℕ) → r.from ≤ r.to → r.from ≤ length ps → puts (fresh r b ls) ps ≡ finished r (length ps) (ranged r ps) b ls
  put_is r b ls h g =
      let f = few in
      let s = short in
      let j = join_take (r.to - r.from) (drop r.from ps) in
      let k = join_drop r.from ps in
      let l = longest_take (r.to - r.from) (drop r.from ps) in
      let m = longest_drop r.from ps in
      let n = narrow in
      totals r h ps b ls g (omega arith) (omega arith) (omega arith)

  pub all_put : (b l : List ℕ) → puts (fresh (range_of asked_is.All) b l) ps ≡ finished (range_of asked_is.All) (length ps) ps b l
  all_put b l =
      let f = few in
      put_is (range_of asked_is.All) b l (omega arith) (omega arith) ∙ ap (λ (ts : List (List ℕ)). finished (range_of asked_is.All) (length ps) ts b l) (take_all (most - 0) ps (omega arith))

  module _ (buf after ls ls' : List ℕ) (p : Progress) where
    -- ALL PARTS
    module _ (put : Put ed t asked_is.All buf after ls ls' p) where
      len_is : p.len ≡ length (join ps)
      len_is = put.len ∙ ap (λ (w : Writing). w.len) (all_put [] [])

      pub survey_found : (h : ℕ) → heads_of t.constraint ≡ h → surveyed (Ok (record { parts = p.seen; assertions = h; len = p.len; longest = p.longest })) ≡ survey_answer (names_of ed) file
      unfolding survey_answer
      survey_found h i =
          let e : length (clauses_of t) ≡ h = clauses_number t ∙ i in
          rw (held, put.seen ∙ ap (λ (w : Writing). w.seen) (all_put [] []), len_is, put.longest ∙ ap (λ (w : Writing). w.longest) (all_put [] []), ← e)

      all_done : Answers file ed asked_is.All buf after ls ls' (sized p (length buf))
      unfolding Answers script_answer script_buffer
      all_done = tests (le_or_lt (length (join ps)) (length buf))
        where
          tests : (length (join ps) ≤ length buf) ⊎ (length buf < length (join ps)) → (sized p (length buf) ≡ script_answer (names_of ed) file (length buf)) × (after ≡ script_buffer (names_of ed) file buf)
          tests (inl g) =
              let l = len_is in
              let w = (put.done (p.len ∷ []) (rw (le-leb p.len (length buf) (omega arith)))).0 ∙ ap (λ (x : Writing). x.buf) (all_put buf ls) in
              (rw (held, l, le-leb (length (join ps)) (length buf) g), rw (held, le-leb (length (join ps)) (length buf) g) (w ∙ sets_laid (join ps) buf g))
          tests (inr g) =
              let l = len_is in
              (rw (held, l, lt-leb (length (join ps)) (length buf) g), rw (held, lt-leb (length (join ps)) (length buf) g) (put.kept 9 (rw (lt-leb p.len (length buf) (omega arith)))).0)

    -- A RUN
    module _ (first count : ℕ) (put : Put ed t (asked_is.Run first count) buf after ls ls' p) where
      abbrev us : List (List ℕ)
      us = take count (drop first ps)

      seen_is : p.seen ≡ length ps
      seen_is = let f = few in put.seen ∙ counted (fresh (range_of (asked_is.Run first count)) [] []) ps (omega arith) ∙ omega arith

      -- what is answered is a refusal, and nothing was written
      run_kept : (n : ℕ) → answer_to (asked_is.Run first count) p (length buf) (length ls) ≡ refused n → run_answer (names_of ed) file first count (length buf) (length ls) ≡ refused n
          → Answers file ed (asked_is.Run first count) buf after ls ls' (answer_to (asked_is.Run first count) p (length buf) (length ls))
      unfolding Answers run_buffer run_table
      run_kept n e e' = let k = put.kept n e in (e ∙ sym e', rw e' k.0, rw e' k.1)

      -- the parts are there
      module _ (h : first + count ≤ length ps) where
        run_put : (b l : List ℕ) → puts (fresh (range_of (asked_is.Run first count)) b l) ps ≡ finished (range_of (asked_is.Run first count)) (length ps) us b l
        run_put b l =
            let f = few in
            let k : min (first + count) most - first ≡ count = omega arith in
            put_is (range_of (asked_is.Run first count)) b l (omega arith) (omega arith) ∙ rw k

        run_len : p.len ≡ length (join us)
        run_len = put.len ∙ ap (λ (w : Writing). w.len) (run_put [] [])

        there : leb (up first count) p.seen ≡ true
        there = let s = seen_is in let f = few in le-leb (up first count) p.seen (omega arith)

        run_written : count ≤ length ls → length (join us) ≤ length buf
            → Answers file ed (asked_is.Run first count) buf after ls ls' (answer_to (asked_is.Run first count) p (length buf) (length ls))
        unfolding Answers run_answer run_buffer run_table
        run_written c g =
            let l = run_len in
            let e : answer_to (asked_is.Run first count) p (length buf) (length ls) ≡ values (p.len ∷ []) = rw (there, le-leb count (length ls) c, le-leb p.len (length buf) (omega arith)) in
            let w = put.done (p.len ∷ []) e in
            let a : run_of (names_of ed) (got t end) first count (length buf) (length ls) ≡ values (length (join us) ∷ []) = rw (le-leb (first + count) (length ps) h, le-leb count (length ls) c, le-leb (length (join us)) (length buf) g) in
            let n1 = length-take count (drop first ps) in
            let n2 = length-drop first ps in
            let n : length (map length us) ≤ length ls = let m = length-map us length in omega arith in (
              e ∙ rw (held, a, l),
              rw (held, a) (w.0 ∙ ap (λ (x : Writing). x.buf) (run_put buf ls) ∙ sets_laid (join us) buf g),
              rw (held, a) (w.1 ∙ ap (λ (x : Writing). x.lengths) (run_put buf ls) ∙ sets_laid (map length us) ls n),
            )

        run_unfit : (count ≤ length ls) ⊎ (length ls < count) → (length (join us) ≤ length buf) ⊎ (length buf < length (join us))
            → Answers file ed (asked_is.Run first count) buf after ls ls' (answer_to (asked_is.Run first count) p (length buf) (length ls))
        unfolding run_answer
        run_unfit (inl c) (inl g) = run_written c g
        run_unfit (inl c) (inr g) =
            let l = run_len in
            run_kept 9 (rw (there, le-leb count (length ls) c, lt-leb p.len (length buf) (omega arith)))
            (rw (held, le-leb (first + count) (length ps) h, le-leb count (length ls) c, lt-leb (length (join us)) (length buf) g))
        run_unfit (inr c) g = run_kept 9 (rw (there, lt-leb count (length ls) c)) (rw (held, le-leb (first + count) (length ps) h, lt-leb count (length ls) c))

      run_done : (first + count ≤ length ps) ⊎ (length ps < first + count) → Answers file ed (asked_is.Run first count) buf after ls ls' (answer_to (asked_is.Run first count) p (length buf) (length ls))
      unfolding run_answer
      run_done (inl h) = run_unfit h (le_or_lt count (length ls)) (le_or_lt (length (join us)) (length buf))
      run_done (inr h) =
          let s = seen_is in
          let f = few in
          run_kept 8 (rw (lt-leb (up first count) p.seen (omega arith))) (rw (held, lt-leb (first + count) (length ps) h))

-- what a call for parts answers: of a file that holds a task
module _ (file : List ℕ) (by : Bytes file) (ed : Edition) (buf after ls ls' : List ℕ) (h : ℕ) (p : Progress) where
  answered : (asked : Asked) → Given file ed asked buf after ls ls' h p → Answers file ed asked buf after ls ls' (answer_to asked p (length buf) (length ls))
  answered asked_is.All a = all_done file by ed a.task a.end a.held buf after ls ls' p a.put
  answered (asked_is.Run first count) a =
      run_done file by ed a.task a.end a.held buf after ls ls' p first count a.put (le_or_lt (first + count) (length (parts_of (names_of ed) a.task)))

  pub answer_given : (asked : Asked) (x : Answer) → x ≡ answer_to asked p (length buf) (length ls) → Given file ed asked buf after ls ls' h p → Answers file ed asked buf after ls ls' x
  answer_given asked x e a = rw e (answered asked a)

-- and of one that is refused
pub answer_refused : (file : List ℕ) (ed : Edition) (asked : Asked) (buf after ls ls' : List ℕ) (n : ℕ) → (task_of file ≡ refuse n) × (after ≡ buf) × (ls' ≡ ls) → Answers file ed asked buf after ls ls' (refused n)
unfolding Answers script_answer script_buffer run_answer run_buffer run_table
answer_refused file ed asked_is.All buf after ls ls' n e = (rw e.0, rw e.0 e.1)
answer_refused file ed (asked_is.Run first count) buf after ls ls' n e = (rw e.0, rw e.0 e.1, rw e.0 e.2)

-- THE CALLS

pub survey_given : (file : List ℕ) (by : Bytes file) (ed : Edition) (buf after ls ls' : List ℕ) (h : ℕ) (p : Progress) → Given file ed asked_is.All buf after ls ls' h p
    → surveyed (Ok (record { parts = p.seen; assertions = h; len = p.len; longest = p.longest })) ≡ survey_answer (names_of ed) file
survey_given file by ed buf after ls ls' h p a = survey_found file by ed a.task a.end a.held buf after ls ls' p a.put h a.heads

pub survey_refused : (file : List ℕ) (ed : Edition) (r : Refusal) → task_of file ≡ refuse (number_of r) → surveyed (Err r) ≡ survey_answer (names_of ed) file
unfolding survey_answer
survey_refused file ed r e = rw e

module _ (file : List ℕ) (ed : Edition) (buf after ls ls' : List ℕ) (x : Answer) where
  pub run_answers : (first count : ℕ) → Answers file ed (asked_is.Run first count) buf after ls ls' x
      → (x ≡ run_answer (names_of ed) file first count (length buf) (length ls)) × (after ≡ run_buffer (names_of ed) file first count buf ls) × (ls' ≡ run_table (names_of ed) file first count buf ls)
  unfolding Answers
  run_answers first count u = u

  -- what the buffer of script then holds carries demand 3
  pub script_answers : Answers file ed asked_is.All buf after ls ls' x
      → ((x ≡ script_answer (names_of ed) file (length buf)) × (after ≡ script_buffer (names_of ed) file buf)) × Promised (names_of ed) file buf after
  unfolding Answers
  script_answers u = (u, rw u.1 (demand3 (names_of ed) (tables.editions ed) file buf))

-- a part is a run of one
pub part_answers : (file : List ℕ) (ed : Edition) (i : ℕ) (buf after ls : List ℕ) (x : Answer) → 0 < length ls → x ≡ run_answer (names_of ed) file i 1 (length buf) (length ls)
    → after ≡ run_buffer (names_of ed) file i 1 buf ls → (x ≡ part_answer (names_of ed) file i (length buf)) × (after ≡ part_buffer (names_of ed) file i buf)
part_answers file ed i buf after ls x h e e' =
    (e ∙ run_laws.one_answer (names_of ed) file i (length buf) (length ls) h, e' ∙ run_laws.one_buffer (names_of ed) file i buf ls h)
