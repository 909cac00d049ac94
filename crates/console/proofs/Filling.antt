-- What the steps of the program add up to.
use Prim.Native.Nat.{ℕ, suc, ◌+◌, ◌-◌, ◌≤◌, ◌<◌, min}
use mathlib.Core.Path.{◌≡◌, refl, sym, ap, ◌∙◌}
use mathlib.Core.Logic.{⊎_elim}
use mathlib.Core.List.{List, [], ◌∷◌, ◌++◌, map}
use native.Mathlib.Omega.{arith}
use lib.ListN.{length, take, drop, get_or, length-append, length-take, length-drop, length-map}
use lib.Seq.{take_all, take-append_seam, take-add, drop-cons}
use borrow.Author.Tests.{le-leb, lt-leb}
use Rattle.task.specs.Ast.{Task}
use Rattle.task.specs.Decode.{got, refuse}
use Rattle.task.specs.Task.{task_of}
use Rattle.task.proofs.Reading.{le_or_lt}
use Rattle.trailer.specs.declared.Bounds.{Bounds}
use Rattle.inspect.specs.Inspect.{Names}
use Rattle.smt_text.specs.declared.Edition.{Edition}
use Rattle.smt_text.specs.declared.Edition.TheVariants.{Z3}
use Rattle.smt_text.specs.Editions.{names_of}
use Rattle.smt_sort.specs.Section.{edition_in}
use Rattle.horn_text.specs.Script.{join, parts_of, longest}
use Rattle.horn_text.specs.Answers.{Answer, values, refused}
use Rattle.horn_text.specs.Demand.{Bytes}
use Rattle.horn_text.proofs.Readings.{join_append}
use Rattle.horn_text.proofs.RunLaws.{longest_drop}
use Rattle.output.specs.Emit.{most}
use Rattle.flatten.specs.declared.Range.{Range}
use Rattle.flatten.specs.declared.Progress.{Progress}
use Rattle.flatten.specs.Parts.{Writing, writing, up, puts}
use Rattle.flatten.proofs.Totals.{ranged, finished}
use Rattle.parts.specs.Whole.{fresh, PutsScript, Measured, Accepted}
use Rattle.smt_horn.proofs.Entries.{sets_laid, join_take, short, few, put_is, all_put}
use Rattle.console.specs.declared.Turn.{Turn}
use Rattle.console.specs.Turns.{fitting, turn_of, Filled, Fills, Begun, Short, Whole, print_of, print_answer}
use Rattle.console.proofs.TurnLaws.{fitting_most, taken_all, turn_laws}

-- LENGTHS THAT FIT

-- the loop over lengths: the first i fit, and so many bytes are left for the others
pub record Fitting (room : ℕ) (ns : List ℕ) (left i : ℕ) : Type 0 where
  pub some : i ≤ length ns
  pub rest : fitting room ns ≡ i + fitting left (drop i ns)

module _ (room : ℕ) (ns : List ℕ) where
  pub fitting_start : Fitting room ns room 0
  fitting_start = record { some = omega arith; rest = omega arith }

  module _ (left i : ℕ) (h : Fitting room ns left i) where
    module _ (l : i < length ns) (n : ℕ) (e : n ≡ get_or ns i 0) where
      next_length : drop i ns ≡ n ∷ drop (suc i) ns
      next_length = rw e (drop-cons ns i 0 l)

      pub fitting_full : left < n → i ≡ fitting room ns
      fitting_full g =
          let z : fitting left (drop i ns) ≡ 0 = rw (next_length, lt-leb n left g) in
          let r = h.rest in
          omega arith

      pub fitting_more : n ≤ left → Fitting room ns (left - n) (i + 1)
      fitting_more g =
          let k : i + 1 ≡ suc i = omega arith in
          let z : fitting left (drop i ns) ≡ suc (fitting (left - n) (drop (suc i) ns)) = rw (next_length, le-leb n left g) in
          let r = h.rest in
          rw k (record { some = l; rest = omega arith })

    pub fitting_end : length ns ≤ i → i ≡ fitting room ns
    fitting_end l =
        let d = length-drop i ns in
        let m = fitting_most left (drop i ns) in
        let r = h.rest in
        omega arith

-- A TURN

-- as many lengths as there are parts or places
module _ (file : List ℕ) (by : Bytes file) (enc : List ℕ) (b : Bounds) (a : Accepted file b) (d : Names file enc) (from : ℕ) (begun : Begun file (edition_in enc) from)
    (ls ls' : List ℕ) (to : ℕ) (i : to ≡ up from (length ls)) (sizes : Progress) (m : Measured file enc b (record { from = from; to = to }) ls sizes ls') where
  module _ (t : Task) (end : ℕ) (held : task_of file ≡ got t end) where
    abbrev ps : List (List ℕ)
    ps = parts_of (names_of (edition_in enc)) t

    abbrev us : List (List ℕ)
    us = take (length ls) (drop from ps)

    there : from ≤ length ps
    unfolding Begun
    there = begun t end held

    fewer : length ps < most
    fewer = few file by (edition_in enc) t end held

    -- the parts that were measured
    measured_are : ranged (record { from = from; to = to }) ps ≡ us
    measured_are =
        let g = there in
        let f = fewer in
        let n = length-drop from ps in
        ⊎_elim
        (λ (h : from + length ls ≤ most). let k : to - from ≡ length ls = omega arith in rw k)
        (λ (h : most < from + length ls). take_all (to - from) (drop from ps) (omega arith) ∙ sym (take_all (length ls) (drop from ps) (omega arith)))
        (le_or_lt (from + length ls) most)

    measured_put : puts (fresh (record { from = from; to = to }) [] ls) ps ≡ finished (record { from = from; to = to }) (length ps) us [] ls
    measured_put =
        let g = there in
        let f = fewer in
        put_is file by (edition_in enc) t end held (record { from = from; to = to }) [] ls (omega arith) g
        ∙ ap (λ (vs : List (List ℕ)). finished (record { from = from; to = to }) (length ps) vs [] ls) measured_are

    seen_is : sizes.seen ≡ length ps
    unfolding Measured
    seen_is = (m t end held a.bounds (d.are t end held)).0 ∙ ap (λ (w : Writing). w.seen) measured_put

    us_length : length us ≡ min (length ls) (length ps - from)
    us_length = length-take (length ls) (drop from ps) ∙ ap (min (length ls)) (length-drop from ps)

    lengths_are : ls' ≡ map length us ++ drop (length (map length us)) ls
    unfolding Measured
    lengths_are =
        let n = us_length in
        let k = length-map us length in
        (m t end held a.bounds (d.are t end held)).3 ∙ ap (λ (w : Writing). w.lengths) measured_put ∙ sets_laid (map length us) ls (omega arith)

    module _ (known : ℕ) (j : known ≡ min (length ls) (sizes.seen - from)) where
      known_is : known ≡ length (map length us)
      known_is = let n = us_length in let k = length-map us length in let s = seen_is in omega arith

      known_are : take known ls' ≡ map length us
      known_are = rw (known_is, lengths_are) (take-append_seam (map length us) (drop (length (map length us)) ls))

      -- the turn
      module _ (buf : List ℕ) (k : ℕ) (e : k ≡ fitting (length buf) (take known ls')) where
        k_is : k ≡ fitting (length buf) (map length us)
        k_is = e ∙ ap (fitting (length buf)) known_are

        k_most : from + k ≤ length ps
        k_most =
            let f = fitting_most (length buf) (map length us) in
            let l = length-map us length in
            let n = us_length in
            let g = there in
            let h = k_is in
            omega arith

        turn_is : take k (drop from ps) ≡ turn_of (length buf) (length ls) (drop from ps)
        turn_is = ap (λ (n : ℕ). take n (drop from ps)) k_is

        turn_length : k ≡ length (turn_of (length buf) (length ls) (drop from ps))
        turn_length =
            let n = length-take k (drop from ps) in
            let l = length-drop from ps in
            let g = k_most in
            let h : k ≡ length (take k (drop from ps)) = omega arith in
            h ∙ ap (λ (vs : List (List ℕ)). length vs) turn_is

        filled : (none none' after : List ℕ) (q : Progress) → PutsScript file enc b (fresh (record { from = from; to = from + k }) buf none) (writing q after none')
            → Filled (names_of (edition_in enc)) t from (length ls) buf after (record { next = from + k; len = q.len })
        unfolding PutsScript
        filled none none' after q u =
            let r : Range = record { from = from; to = from + k } in
            let vs = turn_of (length buf) (length ls) (drop from ps) in
            let z : from + k - from ≡ k = omega arith in
            let w : writing q after none' ≡ finished r (length ps) vs buf none =
            u t end held a.bounds (d.are t end held)
            ∙ put_is file by (edition_in enc) t end held r buf none (omega arith) there
            ∙ ap (λ (us : List (List ℕ)). finished r (length ps) us buf none) (ap (λ (n : ℕ). take n (drop from ps)) z ∙ turn_is) in
            let l : q.len ≡ length (join vs) = ap (λ (x : Writing). x.len) w in
            record {
              next = ap (λ (n : ℕ). from + n) turn_length;
              len = l;
              buffer = ap (λ (x : Writing). x.buf) w ∙ sets_laid (join vs) buf (turn_laws.fits (length buf) (length ls) (drop from ps)) ∙ ap (λ (n : ℕ). join vs ++ drop n buf) (sym l);
            }

  -- for the task that the file holds
  pub from_seen : from ≤ sizes.seen
  from_seen = let s = seen_is a.task a.end a.held in let g = there a.task a.end a.held in omega arith

  module _ (known : ℕ) (j : known ≡ min (length ls) (sizes.seen - from)) (buf : List ℕ) (k : ℕ) (e : k ≡ fitting (length buf) (take known ls')) where
    pub next_most : from + k ≤ most
    next_most = let g = k_most a.task a.end a.held known j buf k e in let f = fewer a.task a.end a.held in omega arith

    pub fill_done : (none none' after : List ℕ) (q : Progress) → PutsScript file enc b (fresh (record { from = from; to = from + k }) buf none) (writing q after none')
        → Fills file (edition_in enc) from (length ls) buf after (record { next = from + k; len = q.len })
    unfolding Fills
    fill_done none none' after q u t end held = filled t end held known j buf k e none none' after q u

-- ALL TURNS

-- the loop: the parts up to a number were written out, so many bytes
pub Going : List ℕ → Edition → ℕ → ℕ → Type 0
Going file ed next done =
    (t : Task) (end : ℕ) → task_of file ≡ got t end → (next ≤ length (parts_of (names_of ed) t)) × (done ≡ length (join (take next (parts_of (names_of ed) t))))

module _ (file : List ℕ) (ed : Edition) where
  pub going_start : Going file ed 0 0
  unfolding Going
  going_start t end held = (omega arith, refl)

  module _ (next done : ℕ) (g : Going file ed next done) where
    pub going_begun : Begun file ed next
    unfolding Going Begun
    going_begun t end held = (g t end held).0

    module _ (by : Bytes file) (places : ℕ) (before after : List ℕ) (r : Turn) (f : Fills file ed next places before after r) where
      -- a turn is in the buffer
      pub turn_inside : (b : Bounds) → Accepted file b → r.len ≤ length after
      unfolding Fills
      turn_inside b a =
          let w = f a.task a.end a.held in
          let us = turn_of (length before) places (drop next (parts_of (names_of ed) a.task)) in
          let h = w.len in
          let k : length after ≡ length (join us) + length (drop r.len before) = ap (λ (x : List ℕ). length x) w.buffer ∙ length-append (join us) (drop r.len before) in
          omega arith

      -- and it was written out
      pub going_more : (b : Bounds) → Accepted file b → (done' : ℕ) → done' ≡ up done (length (take r.len after)) → Going file ed r.next done'
      unfolding Going Fills
      going_more b a done' e t end held =
          let i = turn_inside b a in
          let j = length-take r.len after in
          let ps = parts_of (names_of ed) t in
          let us = turn_of (length before) places (drop next ps) in
          let w = f t end held in
          let n = w.next in
          let l = w.len in
          let h = g t end held in
          let h0 = h.0 in
          let h1 = h.1 in
          let s = short file by ed t end held in
          let c : us ++ drop (length us) (drop next ps) ≡ drop next ps = taken_all (fitting (length before) (map length (take places (drop next ps)))) (drop next ps) in
          let k : take (length us) (drop next ps) ≡ us = ap (take (length us)) (sym c) ∙ take-append_seam us (drop (length us) (drop next ps)) in
          let x : take (next + length us) ps ≡ take next ps ++ us = take-add next (length us) ps ∙ ap (λ (vs : List (List ℕ)). take next ps ++ vs) k in
          let y : length (join (take (next + length us) ps)) ≡ length (join (take next ps)) + length (join us) = ap (λ (vs : List (List ℕ)). length (join vs)) x ∙ ap (λ (v : List ℕ). length v) (join_append (take next ps) us) ∙ length-append (join (take next ps)) (join us) in
          let o : length us + length (drop (length us) (drop next ps)) ≡ length (drop next ps) = sym (length-append us (drop (length us) (drop next ps))) ∙ ap (λ (vs : List (List ℕ)). length vs) c in
          let p = length-drop next ps in
          let q : length (join (take (next + length us) ps)) ≤ length (join ps) = join_take (next + length us) ps in
          let z : up done (length (take r.len after)) ≡ length (join (take (next + length us) ps)) = omega arith in
          (omega arith, e ∙ z ∙ ap (λ (i : ℕ). length (join (take i ps))) (sym n))

      -- there are fewer parts left
      pub going_less : (b : Bounds) → Accepted file b → (n : ℕ) → Short file ed n → next < n → 0 < places → 65536 ≤ length before → n - r.next < n - next
      unfolding Going Fills Short
      going_less b a n s l p z =
          let ps = parts_of (names_of ed) a.task in
          let h = s a.task a.end a.held in
          let h0 = h.0 in
          let h1 = h.1 in
          let w = (f a.task a.end a.held).next in
          let m = longest_drop next ps in
          let d = length-drop next ps in
          let k = turn_laws.some (length before) places (drop next ps) (omega arith) p (omega arith) in
          omega arith

    -- all were written out
    pub going_end : (n : ℕ) → Short file ed n → n ≤ next → Whole file ed done
    unfolding Going Short Whole
    going_end n s l t end held =
        let h = g t end held in
        let k = (s t end held).0 in
        h.1 ∙ ap (λ (vs : List (List ℕ)). length (join vs)) (take_all next (parts_of (names_of ed) t) (omega arith))

-- THE ANSWER

module _ (file : List ℕ) (by : Bytes file) (enc : List ℕ) (b : Bounds) (a : Accepted file b) (d : Names file enc) (none none' : List ℕ) (sizes : Progress)
    (m : Measured file enc b (record { from = 0; to = most }) none sizes none') where
  abbrev ed : Edition
  ed = edition_in enc

  measured_all : (t : Task) (end : ℕ) → task_of file ≡ got t end → (sizes.seen ≡ length (parts_of (names_of ed) t)) × (sizes.longest ≡ longest (parts_of (names_of ed) t))
  unfolding Measured
  measured_all t end held =
      let v = m t end held a.bounds (d.are t end held) in
      let w = all_put file by ed t end held [] none in
      (v.0 ∙ ap (λ (x : Writing). x.seen) w, v.2 ∙ ap (λ (x : Writing). x.longest) w)

  -- a part is too long
  pub print_long : 65536 < sizes.longest → refused 9 ≡ print_of (names_of ed) (task_of file)
  print_long h =
      let k = (measured_all a.task a.end a.held).1 in
      rw (a.held, lt-leb (longest (parts_of (names_of ed) a.task)) 65536 (omega arith))

  -- none is
  module _ (h : sizes.longest ≤ 65536) where
    pub print_short : Short file ed sizes.seen
    unfolding Short
    print_short t end held = let k = measured_all t end held in let k1 = k.1 in (k.0, omega arith)

    pub print_done : (n : ℕ) → Whole file ed n → values (n ∷ []) ≡ print_of (names_of ed) (task_of file)
    unfolding Whole
    print_done n w =
        let k = (measured_all a.task a.end a.held).1 in
        rw (a.held, le-leb (longest (parts_of (names_of ed) a.task)) 65536 (omega arith), w a.task a.end a.held)

-- the program's edition is that of Z3
module _ (file : List ℕ) (x : Answer) where
  pub print_task : (ed' : Edition) → ed' ≡ Z3 → x ≡ print_of (names_of ed') (task_of file) → x ≡ print_answer file
  unfolding print_answer
  print_task ed' e h = rw (← e) h

  -- a file that is refused
  pub print_none : (n : ℕ) → task_of file ≡ refuse n → x ≡ refused n → x ≡ print_answer file
  unfolding print_answer
  print_none n e h = h ∙ rw e
