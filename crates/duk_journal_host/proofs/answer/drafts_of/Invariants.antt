use Rattle.std.proofs.Common.{◌≡◌, length, take}
use Rattle.duk_journal_host.specs.Candidate.{ArePaired}
use Rattle.duk_journal_host.specs.inner.Draft.{IsDraftOf}
use Rattle.duk_journal_host.proofs.answer.drafts_of.Given as goal

abbrev pub invariant-loop-one : goal.invariant-loop-one
invariant-loop-one l = record {
  counted : length l.drafts.items ≡ l.one-index;
  are : ArePaired IsDraftOf (take l.one-index l.settled) l.drafts.items;
}
