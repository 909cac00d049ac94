-- `write_piece`: the section ends inside the piece's bytes, the table is empty, and its words are lent back as the section left them.
use mathlib.Core.Path.{◌≡◌}
use Rattle.std.proofs.Common.{arith, rules}
use Rattle.names.proofs.Theorems.{zeros_blank, blank_chained, changes}
use Rattle.writings.proofs.write_piece.Goals as goal

pub invariant_of-names : goal.invariant_of-names
invariant_of-names c = record { chained = blank_chained _ _ (zeros_blank 66562 (omega arith)); short = c.args.piece.short }

pub push_section-requires : goal.push_section-requires
push_section-requires c = c.if-piece.false

pub encoder-requires : goal.encoder-requires
encoder-requires c =
    let w = c.push_section.ensures.1.words in
    let left : c.table-2-1.given.0 ≡ c.push_section.new.table.words.now = search rules in
    rw (c.set_edition.ensures, left) (changes.options _ _ _ c.push_section.ensures.0.chained)
