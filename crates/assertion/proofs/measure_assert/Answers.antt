-- `measure_assert`: nothing is stored, and the lengths of binders and guards are counted.
use native.Mathlib.Omega.{arith}
use Rattle.assertion.proofs.Asserts.{measured_asserts}
use Rattle.assertion.proofs.measure_assert.Goals as goal

pub returns : goal.returns
returns c = measured_asserts _ _ _ _ _ _ _ c.form_of-form.ensures _ _ _ _ _ _ _ _ _ _ _ _ _ _ c.new.ensures (omega arith) (omega arith) (omega arith) (omega arith) (omega arith) c.open_assert-opened.ensures c.counted-listed.ensures c.open_implication-implied.ensures c.open_guards-grouped.ensures c.counted-guarded.ensures c.close_guards-closed.ensures c.write_head.ensures
