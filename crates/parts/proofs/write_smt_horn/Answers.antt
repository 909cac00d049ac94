-- `write_smt_horn`: opening, declarations, blank line, assertions, closing.
use Rattle.parts.proofs.Scripts.{script_from_start}
use Rattle.parts.proofs.write_smt_horn.Goals as goal

pub returns : goal.returns
returns c = script_from_start c.args.enc.file.now c.args.enc.words.now c.args.b _ _ _ _ _ _ _ _ _ c.start-p0.ensures c.put_opening-p1.ensures c.put_declarations-p2.ensures c.put_text-p3.ensures c.put_assertions-p4.ensures c.put_text.ensures
