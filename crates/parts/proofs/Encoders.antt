-- A table of the names that a task declares is the encoder of the task: `encoder_is`.
use mathlib.Core.Path.{◌≡◌, ap, ◌∙◌}
use mathlib.Core.Bool.{true, false}
use Rattle.task.specs.Scope.{declared_by}
use Rattle.names.specs.Table.{entries, names_of}
use Rattle.declared.proofs.Ranges.{ranges}
use Rattle.smt_sort.specs.Section.{declared_in, encoder_in}
use Rattle.parts.specs.Whole.{names_in, EncoderIs}

pub encoder_is : EncoderIs
unfolding encoder_in declared_in
encoder_is file enc t e =
    let a : names_of 2 2 (entries file enc) ≡ declared_by true t.datatypes = ap (names_of 2 2) e ∙ ranges.ctors t in
    let b : names_of 0 0 (entries file enc) ≡ declared_by false t.datatypes = ap (names_of 0 0) e ∙ ranges.datatypes t in
    λ i. record { names = names_in enc; declares = record { constructors = a i; datatypes = b i } }
