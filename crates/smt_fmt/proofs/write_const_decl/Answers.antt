-- `write_const_decl` sends a name and a sort.
use Rattle.smt_fmt.proofs.Decls.{constant_sends}
use Rattle.smt_fmt.proofs.write_const_decl.Goals as goal

pub returns : goal.returns
returns c = constant_sends _ _ _ _ c.in-Ok.x _ _ _ _ _ _ _ c.in-Ok.ensures c.bytes-opened.ensures c.bytes-named.ensures c.byte-spaced.ensures c.write_sort-sort.ensures c.bytes-closed.ensures
