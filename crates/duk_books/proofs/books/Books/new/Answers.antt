use Rattle.duk_books.specs.First.{first_books}
use Rattle.duk_books.proofs.books.Books.new.Goals as goal
use Rattle.duk_books.proofs.moves.ReachedByMoves.{starts}

pub returns-clause-agree : goal.returns-clause-agree
returns-clause-agree g c =
    rw (c.new.ensures.items, c.new-2.ensures.items, c.new-3.ensures.items, c.new-4.ensures.items)
    (c.agreement.ensures.agree (first_books c.args.host c.args.loading c.args.tills.items) (starts _ c.args.host c.args.loading c.args.tills.items c.requires.host c.requires.tills))

pub returns-clause-used_once : goal.returns-clause-used_once
returns-clause-used_once g c =
    rw c.new.ensures.items (c.numbers.ensures.used_once (first_books c.args.host c.args.loading c.args.tills.items) (starts _ c.args.host c.args.loading c.args.tills.items c.requires.host c.requires.tills))

pub returns-clause-above_used : goal.returns-clause-above_used
returns-clause-above_used g c =
    rw (c.new.ensures.items, c.new-3.ensures.items)
    (c.no_used_key.ensures.above_used (first_books c.args.host c.args.loading c.args.tills.items) (starts _ c.args.host c.args.loading c.args.tills.items c.requires.host c.requires.tills))

pub returns-clause-no_used_key : goal.returns-clause-no_used_key
returns-clause-no_used_key g c =
    rw c.new.ensures.items (c.no_used_key.ensures.no_used_key (first_books c.args.host c.args.loading c.args.tills.items) (starts _ c.args.host c.args.loading c.args.tills.items c.requires.host c.requires.tills))

pub returns-clause-version_2 : goal.returns-clause-version_2
returns-clause-version_2 g c =
    c.no_used_key.ensures.version_2 (first_books c.args.host c.args.loading c.args.tills.items) (starts _ c.args.host c.args.loading c.args.tills.items c.requires.host c.requires.tills)

pub returns-clause-books_have_no_key : goal.returns-clause-books_have_no_key
returns-clause-books_have_no_key g c =
    c.no_used_key.ensures.books_have_no_key (first_books c.args.host c.args.loading c.args.tills.items) (starts _ c.args.host c.args.loading c.args.tills.items c.requires.host c.requires.tills)

pub returns-clause-one_reply : goal.returns-clause-one_reply
returns-clause-one_reply g c =
    rw c.new-2.ensures.items (c.accepted_once.ensures.one_reply (first_books c.args.host c.args.loading c.args.tills.items) (starts _ c.args.host c.args.loading c.args.tills.items c.requires.host c.requires.tills))

pub returns-clause-accepted_is_kept : goal.returns-clause-accepted_is_kept
returns-clause-accepted_is_kept g c =
    rw (c.new.ensures.items, c.new-2.ensures.items, c.new-3.ensures.items, c.new-4.ensures.items)
    (c.accepted_once.ensures.accepted_is_kept (first_books c.args.host c.args.loading c.args.tills.items) (starts _ c.args.host c.args.loading c.args.tills.items c.requires.host c.requires.tills))

pub returns-clause-own_key_of_replies : goal.returns-clause-own_key_of_replies
returns-clause-own_key_of_replies g c =
    rw c.new-2.ensures.items (c.own_key_of_replies.ensures (first_books c.args.host c.args.loading c.args.tills.items) (starts _ c.args.host c.args.loading c.args.tills.items c.requires.host c.requires.tills))

pub returns-clause-known_from_host : goal.returns-clause-known_from_host
returns-clause-known_from_host g c =
    rw (c.new.ensures.items, c.new-2.ensures.items, c.new-3.ensures.items, c.new-4.ensures.items)
    (c.completed_by_host.ensures.known_from_host (first_books c.args.host c.args.loading c.args.tills.items) (starts _ c.args.host c.args.loading c.args.tills.items c.requires.host c.requires.tills))
