use Rattle.duk_journal_copy.proofs.Begun.{begun_closed, header_first}
use Rattle.duk_journal_copy.proofs.laws.begun.Goals as goal

pub returns : goal.returns
returns c = record {
  header = λ kind identity size room. header_first kind identity (c.headers.ensures.length kind identity) size room;
  closed = λ kind identity size later room past. begun_closed kind identity (c.headers.ensures.length kind identity) size room later past;
}
