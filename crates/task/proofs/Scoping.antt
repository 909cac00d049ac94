-- The names of a task are judged behind its pieces, and what so holds of every task of a file.
use Prim.Native.Nat.{ℕ}
use mathlib.Core.Path.{◌≡◌, refl, sym, ap, ◌∙◌}
use mathlib.Core.Bool.{Bool, true, false, cond}
use lib.Dec.{eqb}
use mathlib.Core.List.{List}
use Rattle.smtlib.proofs.Bools.{clash}
use Rattle.task.specs.declared.Fault.{Fault}
use Rattle.task.specs.declared.Fault.TheVariants.{Text, NoConstructors, BitVecWidth, Unqualified, WKVar, Arity, Shadowed, Clash, Unknown, Arguments, Sound}
use Rattle.task.specs.Ast.{Task}
use Rattle.task.specs.Decode.{Res, got, refuse, bind}
use Rattle.task.specs.Fault.{refusal_of, task_fault}
use Rattle.task.specs.Scope.{names_fault}
use Rattle.task.specs.Task.{judged_by, first_fault, judged, task_of}
use Rattle.task.specs.Names.{JudgedLast, HeldNames}
use Rattle.task.proofs.Reading.{got_refuse}
use Rattle.task.proofs.Opened.{held}
use Rattle.task.proofs.Naming.{names_hold}

pub judged_last : JudgedLast
unfolding judged first_fault
judged_last t end = go (eqb (refusal_of (task_fault t)) 0) refl
  where
    go : (b : Bool) → eqb (refusal_of (task_fault t)) 0 ≡ b
        → judged_by (λ u. cond b (names_fault t) (task_fault t)) t end ≡ bind (cond b (got t end) (refuse (refusal_of (task_fault t)))) (judged_by names_fault)
    go true e = refl
    go false e = rw e

-- only what is sound is not refused
pub fault_sound : {A : Type 0} (f : Fault) (x : Res A) (a : A) (p : ℕ) → cond (eqb (refusal_of f) 0) x (refuse (refusal_of f)) ≡ got a p → f ≡ Sound
fault_sound Text x a p e = got_refuse (sym e)
fault_sound NoConstructors x a p e = got_refuse (sym e)
fault_sound BitVecWidth x a p e = got_refuse (sym e)
fault_sound Unqualified x a p e = got_refuse (sym e)
fault_sound WKVar x a p e = got_refuse (sym e)
fault_sound Arity x a p e = got_refuse (sym e)
fault_sound Shadowed x a p e = got_refuse (sym e)
fault_sound Clash x a p e = got_refuse (sym e)
fault_sound Unknown x a p e = got_refuse (sym e)
fault_sound Arguments x a p e = got_refuse (sym e)
fault_sound Sound x a p e = refl

-- the task of a file is without fault
first_sound : (file : List ℕ) (t : Task) (end : ℕ) → task_of file ≡ got t end → first_fault t ≡ Sound
unfolding judged
first_sound file t end e = fault_sound (first_fault t) (got t end) t end (held file t end e).judged

both_sound : (t : Task) → first_fault t ≡ Sound → (task_fault t ≡ Sound) × (names_fault t ≡ Sound)
unfolding first_fault
both_sound t = go (eqb (refusal_of (task_fault t)) 0) refl
  where
    go : (b : Bool) → eqb (refusal_of (task_fault t)) 0 ≡ b → cond b (names_fault t) (task_fault t) ≡ Sound → (task_fault t ≡ Sound) × (names_fault t ≡ Sound)
    go true e h = (fault_sound (task_fault t) (got t 0) t 0 (rw e), h)
    go false e h = let z : true ≡ false = sym (ap (λ (f : Fault). eqb (refusal_of f) 0) h) ∙ e in clash (cc)

pub task_sound : (file : List ℕ) (t : Task) (end : ℕ) → task_of file ≡ got t end → task_fault t ≡ Sound
task_sound file t end e = (both_sound t (first_sound file t end e)).0

pub held_names : HeldNames
held_names file t end e = names_hold t (both_sound t (first_sound file t end e)).1
