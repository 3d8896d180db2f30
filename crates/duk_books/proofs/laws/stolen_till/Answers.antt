use Rattle.duk_books.specs.Books.{meanings_of}
use Rattle.duk_books.proofs.numbers.OpenedTills.{OpenedLaws, same_images, same_memory, same_registers, waits_with}
use Rattle.duk_books.proofs.laws.stolen_till.Goals as goal
use Rattle.duk_books.proofs.laws.stolen_till.Goals.{After-bits}

laws_of : (g : _) → After-bits g → OpenedLaws (meanings_of g.C.Cell.meaning g.B.Cell.meaning g.J.Journal.meaning g.I.Issuer.decides)
laws_of g c = record {
  reply_keys = record {
    above_used = c.no_used_key.ensures.above_used;
    fits = λ counter usable. (c.bits.ensures.usable counter usable).0;
    taken = c.transactions.ensures.key;
  };
  version_2 = c.no_used_key.ensures.version_2;
  fits = c.bits.ensures.usable;
  same = c.uniqueness.ensures.same;
}

pub returns-clause-registers : goal.returns-clause-registers
returns-clause-registers g c = same_registers _ (laws_of g c)

pub returns-clause-images : goal.returns-clause-images
returns-clause-images g c = same_images _ (laws_of g c)

pub returns-clause-memory : goal.returns-clause-memory
returns-clause-memory g c = same_memory _ (laws_of g c)

pub returns-clause-reply_key : goal.returns-clause-reply_key
returns-clause-reply_key g c = waits_with _ (laws_of g c)

pub returns-clause-book : goal.returns-clause-book
returns-clause-book g c = c.no_used_key.ensures.books_have_no_key
