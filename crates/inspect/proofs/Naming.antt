-- The names of a task whose pieces are without fault: what `inspect` adds up to.
use Rattle.std.specs.Prelude.{Result, Ok, Err}
use mathlib.Core.Path.{◌≡◌, refl, sym, ap, ◌∙◌, subst⁻¹}
use mathlib.Core.Bool.{Bool, true, false, cond}
use mathlib.Core.List.{List}
use Prim.Native.Nat.{ℕ, ◌+◌, ◌≤◌}
use lib.Dec.{eqb}
use lib.ListN.{length}
use Rattle.smtlib.proofs.Bools.{clash}
use Rattle.task.specs.declared.Fault.{Fault}
use Rattle.task.specs.Ast.{Task}
use Rattle.task.specs.Decode.{Res, got, refuse, bind}
use Rattle.task.specs.Fault.{refusal_of, task_fault}
use Rattle.task.specs.Scope.{names_fault}
use Rattle.task.specs.Task.{framed, decoded, judged_by, judged, task_of, declarations, heads_of}
use Rattle.task.proofs.Reading.{got_refuse, same_value}
use Rattle.task.proofs.Scoping.{judged_last, fault_sound}
use Rattle.trailer.specs.declared.Bounds.{Bounds}
use Rattle.trailer.specs.Bounds.{bounds_of, Inside}
use Rattle.trailer.proofs.Trailers.{framed_is}
use Rattle.names.proofs.Theorems.{blank_chained}
use Rattle.declared.specs.Symbols.{symbols_of}
use Rattle.scope.specs.Judged.{Sectioned, NamesJudged}
use Rattle.inspect.specs.declared.Inspected.{Inspected}
use Rattle.inspect.specs.Inspect.{sizes_of, inspected_of, Room, Names}
use Rattle.inspect.specs.Walk.{judge, sound_of}

-- names are judged last
names_last : (file : List ℕ) → task_of file ≡ bind (sound_of file) (judged_by names_fault)
unfolding task_of sound_of
names_last file = by_frame (framed file)
  where
    by_task : (x : Res Task) → bind x judged ≡ bind (bind x (judged_by task_fault)) (judged_by names_fault)
    by_task (got t end) = judged_last t end
    by_task (refuse n) = refl

    by_frame : (b : Bool) → cond b (bind (decoded file) judged) (refuse 1) ≡ bind (cond b (bind (decoded file) (judged_by task_fault)) (refuse 1)) (judged_by names_fault)
    by_frame true = by_task (decoded file)
    by_frame false = refl

-- what a task has whose pieces are without fault
record Sound (file : List ℕ) (t : Task) (end : ℕ) : Type 0 where
  framed : framed file ≡ true
  decoded : decoded file ≡ got t end
  judged : judged_by task_fault t end ≡ got t end

sound_has : (file : List ℕ) (t : Task) (end : ℕ) → sound_of file ≡ got t end → Sound file t end
unfolding sound_of
sound_has file t end = by_frame (framed file) refl
  where
    by_number : (n : ℕ) (b : Bool) (u : Task) (p : ℕ) → cond b (got u p) (refuse n) ≡ got t end → got u p ≡ got t end
    by_number n true u p e = e
    by_number n false u p e = got_refuse (sym e)

    by_task : (x : Res Task) → bind x (judged_by task_fault) ≡ got t end → (x ≡ got t end) × (judged_by task_fault t end ≡ got t end)
    by_task (got u p) e =
        let z = by_number (refusal_of (task_fault u)) (eqb (refusal_of (task_fault u)) 0) u p e in
        let y : u ≡ t = same_value z in
        let q : p ≡ end = cc in
        (z, ap (λ (w : Task). judged_by task_fault w end) (sym y) ∙ ap (judged_by task_fault u) (sym q) ∙ e)
    by_task (refuse n) e = got_refuse (sym e)

    by_frame : (b : Bool) → framed file ≡ b → cond b (bind (decoded file) (judged_by task_fault)) (refuse 1) ≡ got t end → Sound file t end
    by_frame true f e = let z = by_task (decoded file) e in record { framed = f; decoded = z.0; judged = z.1 }
    by_frame false f e = got_refuse (sym e)

-- a task whose pieces are without fault, and what was found of it
pub record Checked (file : List ℕ) (b : Bounds) (d h : ℕ) : Type 0 where
  pub task : Task
  pub end : ℕ
  pub held : sound_of file ≡ got task end
  pub bounds : b ≡ bounds_of file
  pub number : d ≡ declarations task
  pub heads : h ≡ heads_of task.constraint

pub checked : (file : List ℕ) (i : Inspected) → Ok i ≡ inspected_of file (sound_of file) → Checked file i.bounds i.declarations i.heads
checked file i e = go (sound_of file) refl
  where
    go : (x : Res Task) → sound_of file ≡ x → Checked file i.bounds i.declarations i.heads
    go (got t end) u =
        let y : Ok i ≡ Ok (sizes_of (bounds_of file) (declarations t) (heads_of t.constraint)) = e ∙ ap (inspected_of file) u in
        let z : i ≡ sizes_of (bounds_of file) (declarations t) (heads_of t.constraint) = cc in
        record {
          task = t;
          end = end;
          held = u;
          bounds = ap (λ (j : Inspected). j.bounds) z;
          number = ap (λ (j : Inspected). j.declarations) z;
          heads = ap (λ (j : Inspected). j.heads) z;
        }
    go (refuse m) u = let y : Ok i ≡ Err m = e ∙ ap (inspected_of file) u in clash (cc)

-- a file that is refused before, with a table that nothing was put into
pub refused_before : (file table : List ℕ) → Room file table → (n : ℕ) → Err n ≡ inspected_of file (sound_of file) → (Err n ≡ inspected_of file (task_of file)) × Names file table
refused_before file table r n e = go (sound_of file) refl
  where
    go : (x : Res Task) → sound_of file ≡ x → (Err n ≡ inspected_of file (task_of file)) × Names file table
    go (got t end) u =
        let y : Err n ≡ Ok (sizes_of (bounds_of file) (declarations t) (heads_of t.constraint)) = e ∙ ap (inspected_of file) u in
        clash (cc)
    go (refuse m) u =
        let h : task_of file ≡ refuse m = names_last file ∙ ap (λ (x : Res Task). bind x (judged_by names_fault)) u in
        (e ∙ ap (inspected_of file) (u ∙ sym h), record { chained = blank_chained file table r.blank; are = λ t end g. got_refuse (sym g ∙ h) })

module _ (file : List ℕ) (b : Bounds) (d h : ℕ) (k : Checked file b d h) where
  pub checked_inside : Inside file b
  checked_inside = subst⁻¹ (Inside file) k.bounds (framed_is file (sound_has file k.task k.end k.held).framed)

  pub checked_words : (table : List ℕ) → Room file table → 1026 + length file ≤ length table
  checked_words table r = r.words checked_inside.most

  -- so names can be judged
  pub checked_sections : Sectioned file b
  checked_sections =
      let s = sound_has file k.task k.end k.held in
      record {
        task = k.task;
        end = k.end;
        framed = s.framed;
        decoded = s.decoded;
        bounds = k.bounds;
        sound = fault_sound (task_fault k.task) (got k.task k.end) k.task k.end s.judged;
      }

  answered : task_of file ≡ judged_by names_fault k.task k.end
  answered = names_last file ∙ ap (λ (x : Res Task). bind x (judged_by names_fault)) k.held

  -- the task of the file, if it holds one, is the one that was checked
  same_task : (t' : Task) (end' : ℕ) → task_of file ≡ got t' end' → k.task ≡ t'
  same_task t' end' q = go (refusal_of (names_fault k.task)) (eqb (refusal_of (names_fault k.task)) 0) (sym answered ∙ q)
    where
      go : (n : ℕ) (c : Bool) → cond c (got k.task k.end) (refuse n) ≡ got t' end' → k.task ≡ t'
      go n true z = same_value z
      go n false z = got_refuse (sym z)

  pub names_answer : (f : Fault) (u : List ℕ) (v : Result Inspected ℕ) → NamesJudged file f u → v ≡ judge b d h f → (v ≡ inspected_of file (task_of file)) × Names file u
  names_answer f u v g e =
      let j = g.are k.task k.end (sound_has file k.task k.end k.held).decoded in
      (e ∙ ap (judge b d h) j.0 ∙ answers, record { chained = g.chained; are = λ t' end' q. j.1 ∙ ap symbols_of (same_task t' end' q) })
    where
      answers : judge b d h (names_fault k.task) ≡ inspected_of file (task_of file)
      answers = rw (k.bounds, k.number, k.heads, answered) (go (refusal_of (names_fault k.task)) (eqb (refusal_of (names_fault k.task)) 0))
        where
          go : (n : ℕ) (c : Bool)
              → cond c (Ok (sizes_of (bounds_of file) (declarations k.task) (heads_of k.task.constraint))) (Err n) ≡ inspected_of file (cond c (got k.task k.end) (refuse n))
          go n true = refl
          go n false = refl
