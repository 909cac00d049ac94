-- W-204, what is proved of a run of parts: `run_laws`.
use Prim.Native.Nat.{ℕ, zero, suc, ◌+◌, ◌^◌, ◌≤◌, ◌<◌}
use mathlib.Core.Path.{◌≡◌, refl, sym, ap, ◌∙◌}
use mathlib.Core.Bool.{Bool, true, false, cond}
use mathlib.Core.Logic.{◌↔◌, ◌⊎◌, inl, inr, ⊎_elim}
use mathlib.Core.List.{List, [], ◌∷◌, ◌++◌, map, append_assoc, append-nil}
use native.Mathlib.Omega.{arith}
use lib.Dec.{leb, leb→le, nleb→lt}
use lib.ListN.{length, take, drop, get_or, length-append, length-take, length-drop, length-map}
use lib.Seq.{take-append_seam, drop-append_seam, drop-cons, drop-drop, take-length}
use borrow.Author.Tests.{le-leb, lt-leb, lt-ltb, le-ltb}
use Rattle.smtlib.proofs.Bools.{clash}
use Rattle.task.specs.Ast.{Task}
use Rattle.task.specs.Decode.{Res, got, refuse}
use Rattle.task.specs.Task.{task_of}
use Rattle.task.proofs.Reading.{le_or_lt}
use Rattle.smt_text.specs.Editions.{NameTable, Valid}
use Rattle.horn_text.specs.Script.{join, parts_of, longest}
use Rattle.horn_text.specs.Answers.{Answer, values, refused, survey_answer, fitted, laid, part_of, part_answer, part_laid, part_buffer, script_answer, script_buffer, run_parts, run_of, run_answer, leaves, run_buffer, run_table}
use Rattle.horn_text.specs.Demand.{Bytes, nth}
use Rattle.horn_text.specs.Runs.{Singles, singles, AsSingles, RunLaws}
use Rattle.horn_text.proofs.Demands.{survey_refused, by_test, fitted_refused, part_laid_lem}
use Rattle.horn_text.proofs.Lengths.{script_short}

-- REFUSALS

-- of a file that is accepted
run_refused : (names : NameTable) (t : Task) (end first count room places n : ℕ) → (run_of names (got t end) first count room places ≡ refused n)
    ↔ (((n ≡ 8) × (length (parts_of names t) < first + count))
    ⊎ ((n ≡ 9) × (first + count ≤ length (parts_of names t)) × ((room < length (join (take count (drop first (parts_of names t))))) ⊎ (places < count))))
run_refused names t end first count room places n =
    let ps = parts_of names t in
    let text = join (take count (drop first ps)) in (
      λ e. ⊎_elim
          (λ h. let f = leb→le (first + count) (length ps) h.0 in
          ⊎_elim
          (λ g. let w = (fitted_refused text room n).0 g.1 in inr (w.0, f, inl w.1))
          (λ g. inr (g.1, f, inr (nleb→lt count places g.0)))
          (by_test 9 (leb count places) h.1))
          (λ h. inl (h.1, nleb→lt (first + count) (length ps) h.0))
          (by_test 8 (leb (first + count) (length ps)) e),
      λ h. ⊎_elim
          (λ w. rw (lt-leb (first + count) (length ps) w.1, w.0))
          (λ w. rw (le-leb (first + count) (length ps) w.1) (⊎_elim
          (λ g. either g (le_or_lt count places) w.0)
          (λ g. rw (lt-leb count places g, w.0))
          w.2))
          h,
    )
  where
    either : room < length (join (take count (drop first (parts_of names t)))) → (count ≤ places) ⊎ (places < count) → n ≡ 9
        → cond (leb count places) (fitted (join (take count (drop first (parts_of names t)))) room) (refused 9) ≡ refused n
    either g (inl h) z = rw (le-leb count places h) ((fitted_refused (join (take count (drop first (parts_of names t)))) room n).1 (z, g))
    either g (inr h) z = rw (lt-leb count places h, z)

-- what is left at a refusal is what was there
left : (a : Answer) (n : ℕ) (written before : List ℕ) → a ≡ refused n → leaves a written before ≡ before
left a n written before e = rw e

-- SINGLE CALLS

module _ (names : NameTable) (file : List ℕ) (t : Task) (end : ℕ) (e : task_of file ≡ got t end) where
  -- a call of part into a buffer with room for it
  part_answered : (i room : ℕ) → i < length (parts_of names t) → length (nth names t i) ≤ room → part_answer names file i room ≡ values (length (nth names t i) ∷ [])
  unfolding part_answer
  part_answered i room h g = rw (e, lt-ltb _ _ h, le-leb _ _ g)

  -- a first part and further ones, as calls leave them
  record After (ws : List (List ℕ)) (n : ℕ) (buf table : List ℕ) (s : Singles) : Type 0 where
    answers : s.answers ≡ map (λ (w : List ℕ). values (length w ∷ [])) ws
    buffer : s.buf ≡ join ws ++ drop (length (join ws)) buf
    places : s.table ≡ map length ws ++ drop n table

  singles_are : (i n : ℕ) (buf table : List ℕ) → i + n ≤ length (parts_of names t) → length (join (take n (drop i (parts_of names t)))) ≤ length buf → n ≤ length table
      → After (take n (drop i (parts_of names t))) n buf table (singles names file i n buf table)
  singles_are i zero buf table h g l = record { answers = refl; buffer = refl; places = refl }
  singles_are i (suc n) buf [] h g l = absurd (omega arith)
  singles_are i (suc n) buf (x ∷ table) h g l =
      let ps = parts_of names t in
      let p = nth names t i in
      let ws = take n (drop (suc i) ps) in
      let c : drop i ps ≡ p ∷ drop (suc i) ps = drop-cons ps i [] (omega arith) in
      let g' : length (p ++ join ws) ≤ length buf = rw c at g in
      let k = length-append p (join ws) in
      let d = length-drop (length p) buf in
      let r = singles_are (suc i) n (drop (length p) buf) table (omega arith) (omega arith) (omega arith) in
      rw (
        c,
        part_answered i (length buf) (omega arith) (omega arith),
        part_laid_lem names file t end e i buf (omega arith) (omega arith),
        take-append_seam p (drop (length p) buf),
        drop-append_seam p (drop (length p) buf),
      )
      (record {
        answers = ap (λ (us : List Answer). values (length p ∷ []) ∷ us) r.answers;
        buffer = ap (λ (b : List ℕ). p ++ b) r.buffer ∙ joined p ws buf;
        places = ap (λ (ls : List ℕ). length p ∷ ls) r.places;
      })
    where
      joined : (p : List ℕ) (ws : List (List ℕ)) (buf : List ℕ) → p ++ (join ws ++ drop (length (join ws)) (drop (length p) buf)) ≡ (p ++ join ws) ++ drop (length (p ++ join ws)) buf
      joined p ws buf = rw (length-append p (join ws), ← drop-drop (length (join ws)) (length p) buf) (sym (append_assoc p (join ws) (drop (length (join ws)) (drop (length p) buf))))

-- a run that is not refused passes every test
record Passed (names : NameTable) (t : Task) (first count room places : ℕ) : Type 0 where
  there : first + count ≤ length (parts_of names t)
  placed : count ≤ places
  fits : length (join (take count (drop first (parts_of names t)))) ≤ room

passed : (names : NameTable) (t : Task) (end first count room places : ℕ) (ns : List ℕ) → run_of names (got t end) first count room places ≡ values ns → Passed names t first count room places
passed names t end first count room places ns e = tests (le_or_lt (first + count) (length (parts_of names t))) (le_or_lt count places) (le_or_lt (length (join (take count (drop first (parts_of names t))))) room)
  where
    -- a refusal is no value
    no : (n : ℕ) → run_of names (got t end) first count room places ≡ refused n → Passed names t first count room places
    no n h = let y : values ns ≡ refused n = sym e ∙ h in clash (cc)

    tests : (first + count ≤ length (parts_of names t)) ⊎ (length (parts_of names t) < first + count) → (count ≤ places) ⊎ (places < count)
        → (length (join (take count (drop first (parts_of names t)))) ≤ room) ⊎ (room < length (join (take count (drop first (parts_of names t)))))
        → Passed names t first count room places
    tests (inl a) (inl b) (inl c) = record { there = a; placed = b; fits = c }
    tests (inl a) (inl b) (inr c) = no 9 ((run_refused names t end first count room places 9).1 (inr (refl, a, inl c)))
    tests (inl a) (inr b) c = no 9 ((run_refused names t end first count room places 9).1 (inr (refl, a, inr b)))
    tests (inr a) b c = no 8 ((run_refused names t end first count room places 8).1 (inl (refl, a)))

module _ (names : NameTable) (file : List ℕ) (first count n : ℕ) (buf table : List ℕ) (h : run_answer names file first count (length buf) (length table) ≡ values (n ∷ [])) where
  singly : (x : Res Task) → task_of file ≡ x → AsSingles names file first count buf table
  unfolding run_answer run_buffer run_table
  singly (refuse m) e = let y : refused m ≡ values (n ∷ []) = rw e at h in clash (cc)
  singly (got t end) e =
      let y : run_of names (got t end) first count (length buf) (length table) ≡ values (n ∷ []) = rw e at h in
      let p = passed names t end first count (length buf) (length table) (n ∷ []) y in
      let ws = take count (drop first (parts_of names t)) in
      let a = singles_are names file t end e first count buf table p.there p.fits p.placed in
      let l1 = length-take count (drop first (parts_of names t)) in
      let l2 = length-drop first (parts_of names t) in
      let w = p.there in
      let l : length (map length ws) ≡ count = length-map ws length ∙ (omega arith) in
      record {
        answers = a.answers ∙ rw e;
        buffer = a.buffer ∙ rw (e, y);
        places = a.places ∙ rw (e, y, l);
      }

-- LENGTHS

-- a length is at most that of the longest
length_most : (ws : List (List ℕ)) (i : ℕ) → get_or (map length ws) i 0 ≤ longest ws
length_most [] i = omega arith
length_most (w ∷ ws) zero = omega arith
length_most (w ∷ ws) (suc i) = let h = length_most ws i in omega arith

-- the longest of some parts is at most the longest of all
pub longest_take : (n : ℕ) (ws : List (List ℕ)) → longest (take n ws) ≤ longest ws
longest_take zero ws = omega arith
longest_take (suc n) [] = omega arith
longest_take (suc n) (w ∷ ws) = let h = longest_take n ws in omega arith

pub longest_drop : (n : ℕ) (ws : List (List ℕ)) → longest (drop n ws) ≤ longest ws
longest_drop zero ws = omega arith
longest_drop (suc n) [] = omega arith
longest_drop (suc n) (w ∷ ws) = let h = longest_drop n ws in omega arith

short_in : (names : NameTable) → Valid names → (file : List ℕ) → Bytes file → (first count i : ℕ) (x : Res Task) → task_of file ≡ x → get_or (map length (run_parts names x first count)) i 0 < 2 ^ 32
short_in names v file b first count i (refuse n) e = omega arith
short_in names v file b first count i (got t end) e =
    let ps = parts_of names t in
    let h = (script_short names v file t end b e).1 in
    let g = length_most (take count (drop first ps)) i in
    let l = longest_take count (drop first ps) in
    let k = longest_drop first ps in
    omega arith

-- ONE PART, AND ALL

-- what a text leaves where it fits or not
fitted_left : (text buf : List ℕ) → leaves (fitted text (length buf)) text buf ≡ laid text buf
fitted_left text buf = by (leb (length text) (length buf))
  where
    by : (b : Bool) → leaves (cond b (values (length text ∷ [])) (refused 9)) text buf ≡ cond b (text ++ drop (length text) buf) buf
    by true = refl
    by false = refl

module _ (names : NameTable) where
  -- a run of one part
  one_text : (ps : List (List ℕ)) (i : ℕ) → i < length ps → join (take 1 (drop i ps)) ≡ get_or ps i []
  one_text ps i h = rw (drop-cons ps i [] h) (append-nil (get_or ps i []))

  one_of : (x : Res Task) (i room places : ℕ) → 0 < places → run_of names x i 1 room places ≡ part_of names x i room
  one_of (refuse n) i room places h = refl
  one_of (got t end) i room places h =
      ⊎_elim
      (λ (g : length (parts_of names t) ≤ i). rw (lt-leb (i + 1) (length (parts_of names t)) (omega arith), le-ltb i (length (parts_of names t)) g))
      (λ (g : i < length (parts_of names t)). rw (le-leb (i + 1) (length (parts_of names t)) (omega arith), lt-ltb i (length (parts_of names t)) g, le-leb 1 places h, one_text (parts_of names t) i g))
      (le_or_lt (length (parts_of names t)) i)

  one_laid : (x : Res Task) (i places : ℕ) (buf : List ℕ) → 0 < places → leaves (run_of names x i 1 (length buf) places) (join (run_parts names x i 1)) buf ≡ part_laid names x i buf
  one_laid (refuse n) i places buf h = refl
  one_laid (got t end) i places buf h =
      ⊎_elim
      (λ (g : length (parts_of names t) ≤ i). rw (lt-leb (i + 1) (length (parts_of names t)) (omega arith), le-ltb i (length (parts_of names t)) g))
      (λ (g : i < length (parts_of names t)). rw (
        le-leb (i + 1) (length (parts_of names t)) (omega arith),
        lt-ltb i (length (parts_of names t)) g,
        le-leb 1 places h,
        one_text (parts_of names t) i g,
      ) (fitted_left (nth names t i) buf))
      (le_or_lt (length (parts_of names t)) i)

-- a run of all
module _ (ps : List (List ℕ)) (places : ℕ) (h : length ps ≤ places) where
  -- what it answers, of any parts
  abbrev all_of : ℕ → Answer
  all_of room = cond (leb (0 + length ps) (length ps)) (cond (leb (length ps) places) (fitted (join (take (length ps) ps)) room) (refused 9)) (refused 8)

  all_of_lem : (room : ℕ) → all_of room ≡ fitted (join ps) room
  all_of_lem room = rw (le-leb (0 + length ps) (length ps) (omega arith), le-leb (length ps) places h, take-length ps)

  all_laid : (buf : List ℕ) → leaves (all_of (length buf)) (join (take (length ps) ps)) buf ≡ laid (join ps) buf
  all_laid buf = rw (all_of_lem (length buf), take-length ps) (fitted_left (join ps) buf)

pub run_laws : RunLaws
unfolding survey_answer part_answer part_buffer script_answer script_buffer run_answer run_buffer run_table
run_laws = record {
  survey = λ names names' file n first count room places e. rw (survey_refused names (task_of file) n e);
  refuses = λ names file t end e first count room places n. rw e (run_refused names t end first count room places n);
  unchanged = λ names file first count n buf table e. (left _ n _ buf e, left _ n _ table e);
  zero_parts = λ names file t end e first room places h. rw (e, le-leb (first + 0) (length (parts_of names t)) (omega arith), le-leb 0 places (omega arith), le-leb 0 room (omega arith));
  as_singles = λ names file first count n buf table h. singly names file first count n buf table h (task_of file) refl;
  short = λ names v file b first count i. short_in names v file b first count i (task_of file) refl;
  one_answer = λ names file i room places h. one_of names (task_of file) i room places h;
  one_buffer = λ names file i buf table h. one_laid names (task_of file) i (length table) buf h;
  all_answer = λ names file t end e room places h. rw e (all_of_lem (parts_of names t) places h room);
  all_buffer = λ names file t end e buf table h. rw e (all_laid (parts_of names t) (length table) h buf);
}
