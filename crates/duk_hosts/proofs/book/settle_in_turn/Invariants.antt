use Rattle.std.proofs.Common.{◌≡◌, ◌++◌, flat_map, take}
use Rattle.duk_journal.specs.Groups.{Entries}
use Rattle.duk_journal_host.specs.Steps.{added_by}
use Rattle.duk_journal_host.specs.declared.candidate.Candidate.{Candidate}
use Rattle.duk_journal_host.specs.declared.settlement.Settled.{Settled}
use Rattle.duk_hosts.specs.Book.{AreSettledInTurn, NoBound}
use Rattle.duk_hosts.proofs.book.settle_in_turn.Given as goal
use Rattle.std.proofs.Common.{List}

-- the candidates so far are settled in turn, and what is kept of them is added
pub record AreSettledSoFar (before : Entries) (candidates : List Candidate) (done : List Settled) (now : Entries) : Type 0 where
  pub settled : AreSettledInTurn NoBound before candidates done
  pub kept : now ≡ before ++ flat_map added_by done

abbrev pub invariant-loop-candidate : goal.invariant-loop-candidate
invariant-loop-candidate l = AreSettledSoFar l.fn.entries.items (take l.candidate-index l.group) l.settled.items l.entries.items
