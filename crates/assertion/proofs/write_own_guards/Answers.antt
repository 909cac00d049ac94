-- `write_own_guards`: behind the binder stands the number of the predicates.
use Rattle.smt_sort.specs.Section.{encoder_by}
use Rattle.assertion.specs.Under.{lists}
use Rattle.assertion.proofs.Guards.{own_unbound, own_uncounted, own_runs}
use Rattle.assertion.proofs.write_own_guards.Goals as goal

pub returns-in_default : goal.returns-in_default
returns-in_default c = own_unbound (lists (encoder_by c.args.enc)) _ _ _ _ _ (rw c.in_default.is at c.check_binder.ensures)

pub returns-in_default-number_at : goal.returns-in_default-number_at
returns-in_default-number_at c = own_uncounted (lists (encoder_by c.args.enc)) _ _ _ _ _ _ c.in-Ok.ensures _ (rw c.in_default-number_at.is at c.number_at.ensures)

pub returns : goal.returns
returns c = own_runs (lists (encoder_by c.args.enc)) _ _ _ _ _ _ c.in-Ok.ensures _ _ c.in-Ok-number_at.ensures (λ ps r e. (c.write_kept.ensures ps r e).1)
