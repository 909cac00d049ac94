-- `is_reserved` meets its contract: the row of the words of its length is searched whole.
use native.Mathlib.Omega.{arith}
use Rattle.smtlib.specs.Lexicon.{reserved_words}
use Rattle.smtlib.proofs.Words.{reserved_row, reserved_other}
use Rattle.smtlib.proofs.is_reserved.Goals as goal

pub returns-in-1 : goal.returns-in-1
unfolding reserved_words
returns-in-1 c = reserved_row 1 c.args.word.now _ c.in-1.is c.in_row.ensures

pub returns-in-2 : goal.returns-in-2
unfolding reserved_words
returns-in-2 c = reserved_row 2 c.args.word.now _ c.in-2.is c.in_row-in-2.ensures

pub returns-in-3 : goal.returns-in-3
unfolding reserved_words
returns-in-3 c = reserved_row 3 c.args.word.now _ c.in-3.is c.in_row-in-3.ensures

pub returns-in-4 : goal.returns-in-4
unfolding reserved_words
returns-in-4 c = reserved_row 4 c.args.word.now _ c.in-4.is c.in_row-in-4.ensures

pub returns-in-5 : goal.returns-in-5
unfolding reserved_words
returns-in-5 c = reserved_row 5 c.args.word.now _ c.in-5.is c.in_row-in-5.ensures

pub returns-in-6 : goal.returns-in-6
unfolding reserved_words
returns-in-6 c = reserved_row 6 c.args.word.now _ c.in-6.is c.in_row-in-6.ensures

pub returns-in-7 : goal.returns-in-7
unfolding reserved_words
returns-in-7 c = reserved_row 7 c.args.word.now _ c.in-7.is c.in_row-in-7.ensures

pub returns-in-8 : goal.returns-in-8
unfolding reserved_words
returns-in-8 c = reserved_row 8 c.args.word.now _ c.in-8.is c.in_row-in-8.ensures

pub returns-in-9 : goal.returns-in-9
unfolding reserved_words
returns-in-9 c = reserved_row 9 c.args.word.now _ c.in-9.is c.in_row-in-9.ensures

pub returns-in-10 : goal.returns-in-10
unfolding reserved_words
returns-in-10 c = reserved_row 10 c.args.word.now _ c.in-10.is c.in_row-in-10.ensures

pub returns-in-11 : goal.returns-in-11
unfolding reserved_words
returns-in-11 c = reserved_row 11 c.args.word.now _ c.in-11.is c.in_row-in-11.ensures

pub returns-in-12 : goal.returns-in-12
unfolding reserved_words
returns-in-12 c = reserved_row 12 c.args.word.now _ c.in-12.is c.in_row-in-12.ensures

pub returns-in-13 : goal.returns-in-13
unfolding reserved_words
returns-in-13 c = reserved_row 13 c.args.word.now _ c.in-13.is c.in_row-in-13.ensures

pub returns-in-14 : goal.returns-in-14
unfolding reserved_words
returns-in-14 c = reserved_row 14 c.args.word.now _ c.in-14.is c.in_row-in-14.ensures

pub returns-in-15 : goal.returns-in-15
unfolding reserved_words
returns-in-15 c = reserved_row 15 c.args.word.now _ c.in-15.is c.in_row-in-15.ensures

pub returns-in-16 : goal.returns-in-16
unfolding reserved_words
returns-in-16 c = reserved_row 16 c.args.word.now _ c.in-16.is c.in_row-in-16.ensures

pub returns-in-17 : goal.returns-in-17
unfolding reserved_words
returns-in-17 c = reserved_row 17 c.args.word.now _ c.in-17.is c.in_row-in-17.ensures

pub returns-in-18 : goal.returns-in-18
unfolding reserved_words
returns-in-18 c = reserved_row 18 c.args.word.now _ c.in-18.is c.in_row-in-18.ensures

pub returns-in-21 : goal.returns-in-21
unfolding reserved_words
returns-in-21 c = reserved_row 21 c.args.word.now _ c.in-21.is c.in_row-in-21.ensures

pub returns-in_default : goal.returns-in_default
returns-in_default c = reserved_other c.args.word.now (λ a b. omega arith) (λ e. omega arith)
