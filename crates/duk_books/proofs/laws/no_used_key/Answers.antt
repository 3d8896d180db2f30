use Rattle.duk_books.proofs.numbers.AllSafe.{SafeLaws}
use Rattle.duk_books.proofs.numbers.NoUsedKey.{are_above_used, find_last, find_version_2, have_no_used_key}
use Rattle.duk_books.proofs.laws.no_used_key.Goals as goal
use Rattle.duk_books.proofs.laws.no_used_key.Goals.{After-uniqueness}

laws_of : (g : _) → After-uniqueness g → SafeLaws g.C.Cell.meaning
laws_of g c = let known = c.known.ensures in record { registers = known.calls.registers; reading = known.frames; request = known.request; reversal = known.reversal; own_key = c.own_initial_key.ensures }

pub returns-clause-above_used : goal.returns-clause-above_used
returns-clause-above_used g c books reached = are_above_used _ books (laws_of g c) reached

pub returns-clause-no_used_key : goal.returns-clause-no_used_key
returns-clause-no_used_key g c books reached = have_no_used_key _ books (laws_of g c) reached c.frontier.ensures.none_used c.uniqueness.ensures.register

pub returns-clause-version_2 : goal.returns-clause-version_2
returns-clause-version_2 g c books reached = find_version_2 _ books (laws_of g c) reached

pub returns-clause-books_have_no_key : goal.returns-clause-books_have_no_key
returns-clause-books_have_no_key g c books reached = find_last _ books (laws_of g c) reached
