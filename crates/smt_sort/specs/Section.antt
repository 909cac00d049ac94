-- What the code's values stand for in what is written.
use Rattle.std.specs.Prelude.{ℕ, List, get_or}
use Rattle.task.specs.Ast.{SortCtor, Sorts, Binder}
use Rattle.names.specs.declared.Kind.{Kind}
use Rattle.names.specs.declared.Kind.TheVariants.{Datatype, Constructor}
use Rattle.names.specs.Table.{entries}
use Rattle.names.specs.Table as table
use Rattle.smt_text.specs.declared.Edition.{Edition}
use Rattle.smt_text.specs.declared.Edition.TheVariants.{Z3, Cvc5}
use Rattle.smt_text.specs.Editions.{names_of, edition_of}
use Rattle.smt_text.specs.Encoder.{Encoder, encoder}
use Rattle.smt_text.specs.Text.{spaced, sexp_list, applied, write_sort_ctor, write_sorts, write_binders}
use Rattle.smt_sort.specs.declared.encoder.Encoder as lent
use Rattle.smt_sort.specs.declared.SortCtor as code
use Rattle.smt_sort.specs.declared.SortCtor.TheVariants as ctor

-- the declared names of a kind, in the order of the table
unfoldable pub declared_in : List ℕ → List ℕ → Kind → List (List ℕ)
declared_in s enc kind = table.names_of (table.number_of kind) (table.number_of kind) (entries s enc)

-- the edition that a table is for: word 0 of the table, its options, is the edition's number
unfoldable pub edition_in : List ℕ → Edition
edition_in enc = edition_of (get_or enc 0 0)

-- the number of an edition
abbrev pub number_of : Edition → ℕ
number_of Z3 = 0
number_of Cvc5 = 1

-- the encoder that a table is
unfoldable pub encoder_in : List ℕ → List ℕ → Encoder
encoder_in s enc = encoder (names_of (edition_in enc)) (record { constructors = declared_in s enc Constructor; datatypes = declared_in s enc Datatype })

-- the encoder that the writers are given
abbrev pub encoder_by : lent.Encoder → Encoder
encoder_by enc = encoder_in enc.file.now enc.words.now

-- what an applied sort is made by
abbrev pub ctor_of : code.SortCtor → SortCtor
ctor_of ctor.Set = SortCtor.set
ctor_of ctor.Map = SortCtor.map
ctor_of (ctor.Data x) = SortCtor.named x.now

-- sorts, a space before each
unfoldable pub sorts_text : Encoder → Sorts → List ℕ
sorts_text enc bs = spaced (write_sorts enc bs)

-- sorts in parentheses
unfoldable pub sort_list : Encoder → Sorts → List ℕ
sort_list enc bs = sexp_list (write_sorts enc bs)

-- a sort that is made by c of others
unfoldable pub applied_text : Encoder → SortCtor → Sorts → List ℕ
applied_text enc c bs = applied (write_sort_ctor c) (write_sorts enc bs)

-- names with their sorts, a space before each
unfoldable pub binders_text : Encoder → List Binder → List ℕ
binders_text enc bs = spaced (write_binders enc bs)

-- names with their sorts, in parentheses
unfoldable pub binder_list : Encoder → List Binder → List ℕ
binder_list enc bs = sexp_list (write_binders enc bs)
