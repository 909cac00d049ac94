-- Where the sections of a file are: what the trailer says.
use Rattle.std.specs.Prelude.{ℕ, ◌≤◌, Bool, cond, ◌&&◌, List, leb, eqb, length, Result, Ok, Err}
use Rattle.task.specs.declared.Refusal.{Refusal}
use Rattle.task.specs.declared.Refusal.TheVariants.{Trailer}
use Rattle.task.specs.Task.{bound, framed}
use Rattle.item_check.specs.declared.Section.{Section}
use Rattle.item_check.specs.declared.Section.TheVariants.{Comments, Datatypes, Constants, Functions, KVars}
use Rattle.trailer.specs.declared.Bounds.{Bounds}

-- where the sections begin and where the last one ends
abbrev pub bounds_of : List ℕ → Bounds
bounds_of file = record {
  comments = bound file 0;
  datatypes = bound file 1;
  constants = bound file 2;
  functions = bound file 3;
  kvars = bound file 4;
  constraint = bound file 5;
  end = bound file 6;
}

-- the first is 0 and none is below the one before
abbrev pub ordered : Bounds → Bool
ordered b =
    eqb b.comments 0 && leb b.comments b.datatypes && leb b.datatypes b.constants && leb b.constants b.functions
    && leb b.functions b.kvars && leb b.kvars b.constraint && leb b.constraint b.end

-- where the sections begin, if the file is framed, or the refusal
abbrev pub trailer_of : List ℕ → Result Bounds Refusal
trailer_of file = cond (framed file) (Ok (bounds_of file)) (Err Trailer)

-- the sections stand inside the file, and it is not too long
pub record Inside (file : List ℕ) (b : Bounds) : Type 0 where
  pub most : length file ≤ 60000
  pub datatypes : b.datatypes ≤ length file
  pub constants : b.constants ≤ length file
  pub functions : b.functions ≤ length file
  pub kvars : b.kvars ≤ length file
  pub constraint : b.constraint ≤ length file
  pub end : b.end ≤ length file

-- where a section begins
abbrev pub start_of : Bounds → Section → ℕ
start_of b Comments = b.comments
start_of b Datatypes = b.datatypes
start_of b Constants = b.constants
start_of b Functions = b.functions
start_of b KVars = b.kvars

-- where it ends
abbrev pub end_of : Bounds → Section → ℕ
end_of b Comments = b.datatypes
end_of b Datatypes = b.constants
end_of b Constants = b.functions
end_of b Functions = b.kvars
end_of b KVars = b.constraint
