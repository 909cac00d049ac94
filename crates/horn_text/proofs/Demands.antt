-- The customer's three demands: `demand1`, `demand2` and `demand3`.
use Prim.Native.Nat.{ℕ, zero, suc, ◌+◌, ◌≤◌, ◌<◌}
use mathlib.Core.Path.{◌≡◌, refl, sym, ap, ◌∙◌}
use mathlib.Core.Bool.{Bool, true, false, cond, not}
use mathlib.Core.Logic.{◌↔◌, ◌⊎◌, inl, inr, ⊎_elim}
use mathlib.Core.List.{List, [], ◌++◌}
use native.Mathlib.Nat.{le_refl}
use native.Mathlib.Omega.{arith}
use lib.Dec.{T, leb, ltb, ltb→lt, nltb→le, nleb→lt}
use lib.ListN.{length, take, drop, get_or, drop_of_length-le}
use lib.Seq.{take-append-le, take-append_seam, drop-append_seam, drop-cons}
use borrow.Author.Tests.{le-leb, lt-leb, lt-ltb, le-ltb}
use Rattle.smtlib.specs.Theorems.{ReadAtCuts}
use Rattle.smtlib.proofs.Bools.{clash}
use Rattle.smtlib.proofs.Cut.{unique}
use Rattle.task.specs.Ast.{Task}
use Rattle.task.specs.Decode.{Res, got, refuse}
use Rattle.task.specs.Task.{task_of}
use Rattle.task.proofs.Reading.{got_refuse}
use Rattle.smt_text.specs.Editions.{NameTable, Valid}
use Rattle.smt_text.proofs.Texts.{thy_func_texts}
use Rattle.horn_text.specs.Script.{join, parts_of, script_of}
use Rattle.horn_text.specs.Commands.{commands_of}
use Rattle.horn_text.specs.Answers.{Answer, refused, fitted, survey_of, survey_answer, part_of, part_answer, part_laid, part_buffer, script_fitted, script_answer, script_laid, script_buffer}
use Rattle.horn_text.specs.Demand.{Bytes, Accepted, Refused, Demand1, nth, parts_written, Script, Demand2, Carries, Promised, Demand3}
use Rattle.horn_text.proofs.Readings.{script_reading, script_read, script_filled, first_assertions, assertions_number}
use Rattle.horn_text.proofs.Places.{clauses_placed, clauses_number, parts_number}
use Rattle.horn_text.proofs.Lines.{parts_lined}
use Rattle.task.proofs.Scoping.{task_sound}
use Rattle.horn_text.proofs.Lengths.{script_short}
use Rattle.horn_text.proofs.Refusals.{refusals}
use Rattle.horn_text.proofs.Returned.{script_returns}

-- DEMAND 1

-- survey refuses what is no task
pub survey_refused : (names : NameTable) (x : Res Task) (n : ℕ) → survey_of names x ≡ refused n → x ≡ refuse n
survey_refused names (got t end) n e = clash (cc)
survey_refused names (refuse m) n e = let z : m ≡ n = cc in ap refuse z

-- a buffer that is left where the answer is a refusal
unchanged : (k : ℕ) (t : Bool) {a : Answer} {n : ℕ} {new buf : List ℕ}
    → (a ≡ refused n → new ≡ buf) → cond t a (refused k) ≡ refused n → cond t new buf ≡ buf
unchanged k true h e = h e
unchanged k false h e = refl

-- part leaves it
part_left : (names : NameTable) (x : Res Task) (i n : ℕ) (buf : List ℕ) → part_of names x i (length buf) ≡ refused n → part_laid names x i buf ≡ buf
part_left names (got t end) i n buf e =
    unchanged 8 (ltb i (length (parts_of names t))) (unchanged 9 (leb (length (nth names t i)) (length buf)) (λ u. clash (cc))) e
part_left names (refuse m) i n buf e = refl

-- so does script
script_left : (names : NameTable) (x : Res Task) (n : ℕ) (buf : List ℕ) → script_fitted names x (length buf) ≡ refused n → script_laid names x buf ≡ buf
script_left names (got t end) n buf e = unchanged 9 (leb (length (script_of names t)) (length buf)) (λ u. clash (cc)) e
script_left names (refuse m) n buf e = refl

-- what is behind a test that was passed, or the number if it was not
pub by_test : (k : ℕ) (t : Bool) {a : Answer} {n : ℕ} → cond t a (refused k) ≡ refused n → (T t × (a ≡ refused n)) ⊎ (T (not t) × (n ≡ k))
by_test k true e = inl (tt, e)
by_test k false e = inr (tt, cc)

-- a text in a buffer is refused exactly if it is longer, and with 9
pub fitted_refused : (text : List ℕ) (room n : ℕ) → (fitted text room ≡ refused n) ↔ ((n ≡ 9) × (room < length text))
fitted_refused text room n = (
  λ e. ⊎_elim (λ h. clash (let z = h.1 in cc)) (λ h. (h.1, nleb→lt (length text) room h.0)) (by_test 9 (leb (length text) room) e),
  λ h. rw (lt-leb _ _ h.1, h.0),
)

-- so is a part, and with 8 exactly if there is none
part_refused : (names : NameTable) (t : Task) (end i room n : ℕ) → (part_of names (got t end) i room ≡ refused n)
    ↔ (((n ≡ 8) × (length (parts_of names t) ≤ i)) ⊎ ((n ≡ 9) × (i < length (parts_of names t)) × (room < length (nth names t i))))
part_refused names t end i room n = (
  λ e. ⊎_elim
      (λ h. let w = (fitted_refused (nth names t i) room n).0 h.1 in inr (w.0, ltb→lt i (length (parts_of names t)) h.0, w.1))
      (λ h. inl (h.1, nltb→le i (length (parts_of names t)) h.0))
      (by_test 8 (ltb i (length (parts_of names t))) e),
  λ h. ⊎_elim (λ w. rw (le-ltb _ _ w.1, w.0)) (λ w. rw (lt-ltb _ _ w.1) ((fitted_refused (nth names t i) room n).1 (w.0, w.2))) h,
)

-- a file by its task or its refusal
settled : (file : List ℕ) (x : Res Task) → task_of file ≡ x → Accepted file ⊎ Refused file
unfolding survey_answer
settled file (got t end) e = inl (record { task = t; end = end; holds = e })
settled file (refuse n) e = inr (record { number = n; answers = λ names. rw e })

pub demand1 : Demand1
unfolding survey_answer part_answer part_buffer script_answer script_buffer
demand1 = record {
  any_bytes = λ file. settled file (task_of file) refl;
  survey = λ names file n e. refusals file n (survey_refused names (task_of file) n e);
  returns = λ file t end e. script_returns t (task_sound file t end e);
  part = λ names names' file n i room e. rw (survey_refused names (task_of file) n e);
  script = λ names names' file n room e. rw (survey_refused names (task_of file) n e);
  survey_refuses = λ names file t end e n h. got_refuse (sym e ∙ survey_refused names (task_of file) n h);
  part_refuses = λ names file t end e i room n. rw e (part_refused names t end i room n);
  script_refuses = λ names file t end e room n. rw e (fitted_refused (script_of names t) room n);
  part_unchanged = λ names file i n buf e. part_left names (task_of file) i n buf e;
  script_unchanged = λ names file n buf e. script_left names (task_of file) n buf e;
}

-- DEMAND 2

-- the parts that are written from number i on, if each is the i-th of some texts
parts_written_lem : (names : NameTable) (file : List ℕ) (bufs : ℕ → List ℕ) (ws : List (List ℕ))
    → ((i : ℕ) → i < length ws → take (length (get_or ws i [])) (part_buffer names file i (bufs i)) ≡ get_or ws i [])
    → (i n : ℕ) → i + n ≡ length ws → parts_written names file bufs (λ j. length (get_or ws j [])) i n ≡ drop i ws
parts_written_lem names file bufs ws h i zero e = let l : length ws ≤ i = omega arith in sym (drop_of_length-le ws l)
parts_written_lem names file bufs ws h i (suc n) e =
    let l : i < length ws = omega arith in
    rw (h i l, parts_written_lem names file bufs ws h (suc i) n (omega arith)) (sym (drop-cons ws i [] l))

module _ (names : NameTable) (file : List ℕ) (t : Task) (end : ℕ) (e : task_of file ≡ got t end) where
  -- a buffer with room for part i, as part leaves it
  pub part_laid_lem : (i : ℕ) (buf : List ℕ) → i < length (parts_of names t) → length (nth names t i) ≤ length buf
      → part_buffer names file i buf ≡ nth names t i ++ drop (length (nth names t i)) buf
  unfolding part_buffer
  part_laid_lem i buf h g = rw (e, lt-ltb _ _ h, le-leb _ _ g)

  -- a buffer with room for the script, as script leaves it
  pub script_laid_lem : (buf : List ℕ) → length (script_of names t) ≤ length buf → script_buffer names file buf ≡ script_of names t ++ drop (length (script_of names t)) buf
  unfolding script_buffer
  script_laid_lem buf h = rw (e, le-leb _ _ h)

  -- part i is at the start
  part_there : (i : ℕ) (buf : List ℕ) → i < length (parts_of names t) → length (nth names t i) ≤ length buf
      → take (length (nth names t i)) (part_buffer names file i buf) ≡ nth names t i
  part_there i buf h g = rw (part_laid_lem i buf h g) (take-append_seam (nth names t i) _)

  -- so is the script
  script_there : (buf : List ℕ) → length (script_of names t) ≤ length buf → take (length (script_of names t)) (script_buffer names file buf) ≡ script_of names t
  script_there buf h = rw (script_laid_lem buf h) (take-append_seam (script_of names t) _)

-- of a file that is accepted
script_of_lem : (names : NameTable) → Valid names → (file : List ℕ) (t : Task) (end : ℕ) → Bytes file → task_of file ≡ got t end → Script names file t
unfolding survey_answer part_answer script_answer
script_of_lem names v file t end b e = let l = script_short names v file t end b e in record {
  reported = rw (e, clauses_number t);
  parts = parts_number names t;
  short = l.0;
  short_parts = l.1;
  assertions = assertions_number names t;
  assertions_read = λ cs r. rw (unique _ _ _ r (script_reading names v t (task_sound file t end e))) (assertions_number names t);
  lined = parts_lined names t;
  part_length = λ i room h g. rw (e, lt-ltb _ _ h, le-leb _ _ g);
  part_text = part_there names file t end e;
  part_rest = λ i buf h g. rw (part_laid_lem names file t end e i buf h g) (drop-append_seam (nth names t i) _);
  script_length = λ room h. rw (e, le-leb _ _ h);
  script_text = script_there names file t end e;
  script_rest = λ buf h. rw (script_laid_lem names file t end e buf h) (drop-append_seam (script_of names t) _);
  joined = λ bufs buf h g.
      let w = parts_written_lem names file bufs (parts_of names t) (λ i l. part_there names file t end e i (bufs i) l (h i l)) 0 (length (parts_of names t)) (omega arith) in
      ap join w ∙ sym (script_there names file t end e buf g);
}

pub demand2 : Demand2
demand2 = record {
  scripts = script_of_lem;
  source = thy_func_texts;
  tables = λ file t end e. script_filled t (task_sound file t end e);
}

-- DEMAND 3

-- what is read of a text is read of it with bytes behind it
carries : (names : NameTable) (t : Task) (rest : List ℕ) → ReadAtCuts (script_of names t) (commands_of names t) → Carries names t (script_of names t ++ rest)
carries names t rest r =
    let e = take-append-le (length (script_of names t)) (script_of names t) rest (le_refl _) in
    record {
      cut = λ k h. rw (take-append-le k (script_of names t) rest h) (r.cut k h);
      first = r.first;
      last = rw e r.last;
      complete = rw e r.complete;
      assertions = first_assertions names t;
      clauses = clauses_placed t;
    }

pub demand3 : Demand3
unfolding Promised
demand3 names v file buf t end e h = rw (script_laid_lem names file t end e buf h) (carries names t _ (script_read names v t (task_sound file t end e)))
