-- What the walk over the parts of a file puts. Only contracts of inner functions speak of it.
use Rattle.std.specs.Prelude.{ℕ, List, [], ◌∷◌, ◌++◌, map, ◌≡◌, take}
use Rattle.task.specs.Ast.{Constraint, Task}
use Rattle.task.specs.Decode.{Res, got, bind, Decoder, give, ◌▹◌, comment, datatype, constant, function, kvar, section, dec_constraint, deepest}
use Rattle.task.specs.Task.{task_of}
use Rattle.item_check.specs.declared.Section.{Section}
use Rattle.item_check.specs.declared.Section.TheVariants.{Comments, Datatypes, Constants, Functions, KVars}
use Rattle.trailer.specs.declared.Bounds.{Bounds}
use Rattle.trailer.specs.Bounds.{bounds_of, Inside, start_of, end_of}
use Rattle.names.specs.Table.{entries}
use Rattle.declared.specs.Symbols.{symbols_of}
use Rattle.smt_text.specs.Editions.{NameTable, names_of}
use Rattle.smt_text.specs.Encoder.{Encoder}
use Rattle.smt_text.specs.Text.{write_datatype_decl, write_const_decl, write_fun_def, write_kvar_decl}
use Rattle.smt_sort.specs.Section.{edition_in, encoder_in}
use Rattle.horn_text.specs.Script.{join, write_comment, opening, encoder_of, parts_of}
use Rattle.flatten.specs.declared.Range.{Range}
use Rattle.flatten.specs.declared.Progress.{Progress}
use Rattle.flatten.specs.Parts.{Writing, puts, clause_parts}

-- the text of an item, by the section that it stands in
unfoldable pub item_text : Encoder → Section → Decoder (List ℕ)
item_text enc Comments = comment ▹ λ c. give (write_comment c)
item_text enc Datatypes = datatype ▹ λ d. give (write_datatype_decl enc d)
item_text enc Constants = constant ▹ λ b. give (write_const_decl enc b)
item_text enc Functions = function ▹ λ f. give (write_fun_def enc f)
item_text enc KVars = kvar ▹ λ k. give (write_kvar_decl enc k)

-- a text as it is
abbrev pub itself : List ℕ → List ℕ
itself t = t

-- a text as one part
abbrev pub alone : List ℕ → List (List ℕ)
alone t = t ∷ []

-- the lines of comments
unfoldable pub comment_lines : List (List ℕ) → List ℕ
comment_lines cs = join (map write_comment cs)

-- Where a piece was decoded, its parts were put: where it ends does not matter.
unfoldable pub PutsAll : {A : Type 0} → (A → List (List ℕ)) → Res A → Writing → Writing → Type 0
PutsAll {A} parts d w w' = (a : A) (p : ℕ) → d ≡ got a p → w' ≡ puts w (parts a)

-- the opening as one part
abbrev pub opening_part : List (List ℕ) → List (List ℕ)
opening_part cs = opening cs ∷ []

-- texts as parts
abbrev pub each : List (List ℕ) → List (List ℕ)
each ts = ts

-- the texts of a section of the file
abbrev pub section_texts : List ℕ → Encoder → Bounds → Section → Res (List (List ℕ))
section_texts file enc b i = section (item_text enc i) (take (end_of b i) file) (start_of b i)

-- the texts of the declarations, in section order
unfoldable pub declaration_texts : List ℕ → Encoder → Bounds → Res (List (List ℕ))
declaration_texts file enc b =
    bind (section_texts file enc b Datatypes) (λ ds p.
    bind (section_texts file enc b Constants) (λ cs q.
    bind (section_texts file enc b Functions) (λ fs r.
    bind (section_texts file enc b KVars) (λ ks t.
    got (ds ++ (cs ++ (fs ++ ks))) t))))

-- the constraint
abbrev pub constraint_in : List ℕ → Bounds → Res Constraint
constraint_in file b = dec_constraint deepest (take b.end file) b.constraint

-- its assertions
unfoldable pub assertion_parts : Encoder → Constraint → List (List ℕ)
assertion_parts enc c = clause_parts enc [] c

-- nothing was written of the parts in a range, into this buffer and this table
abbrev pub fresh : Range → List ℕ → List ℕ → Writing
fresh r buf lengths = record { range = r; seen = 0; len = 0; longest = 0; buf = buf; lengths = lengths }

-- the names that the set functions have in the edition of a table
abbrev pub names_in : List ℕ → NameTable
names_in enc = names_of (edition_in enc)

-- A table of the names that a task declares is the encoder of the task. (proofs/Encoders.antt: encoder_is)
abbrev pub EncoderIs : Type 0
EncoderIs = (file enc : List ℕ) (t : Task) → entries file enc ≡ symbols_of t → encoder_in file enc ≡ encoder_of (names_in enc) t

-- Where the file holds a task, b is where its sections are and the table has the names that it declares, the task's parts in the range were
-- put.
unfoldable pub PutsScript : List ℕ → List ℕ → Bounds → Writing → Writing → Type 0
PutsScript file enc b w w' = (t : Task) (end : ℕ) → task_of file ≡ got t end → b ≡ bounds_of file → entries file enc ≡ symbols_of t → w' ≡ puts w (parts_of (names_in enc) t)

-- what is counted of it: how many parts there are, how long those in the range are together and how long the longest, and the lengths of those in
-- the range, in a table
unfoldable pub Measured : List ℕ → List ℕ → Bounds → Range → List ℕ → Progress → List ℕ → Type 0
Measured file enc b r lengths p lengths' =
    (t : Task) (end : ℕ) → task_of file ≡ got t end → b ≡ bounds_of file → entries file enc ≡ symbols_of t
    → (p.seen ≡ (puts (fresh r [] lengths) (parts_of (names_in enc) t)).seen) × (p.len ≡ (puts (fresh r [] lengths) (parts_of (names_in enc) t)).len)
    × (p.longest ≡ (puts (fresh r [] lengths) (parts_of (names_in enc) t)).longest) × (lengths' ≡ (puts (fresh r [] lengths) (parts_of (names_in enc) t)).lengths)

-- The file holds a task, and b is where its sections are.
pub record Accepted (file : List ℕ) (b : Bounds) : Type 0 where
  pub inside : Inside file b
  pub task : Task
  pub end : ℕ
  pub held : task_of file ≡ got task end
  pub bounds : b ≡ bounds_of file
