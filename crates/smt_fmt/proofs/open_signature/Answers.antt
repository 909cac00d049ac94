-- `open_signature` sends a name and sorts.
use Rattle.smt_fmt.proofs.Decls.{opening_sends}
use Rattle.smt_fmt.proofs.open_signature.Goals as goal

pub returns : goal.returns
returns c = opening_sends _ c.args.enc.file.now _ c.args.n c.args.at _ _ _ _ _ _ _ c.bytes-opened.ensures c.bytes-named.ensures c.byte-spaced.ensures c.write_sort_list-sorts.ensures c.byte-sent.ensures
