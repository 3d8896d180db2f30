use Rattle.std.proofs.Common.{◌≡◌, take}
use Rattle.duk_journal.specs.declared.entry.Entry.{Entry}
use Rattle.duk_reversal.specs.declared.state.ReversalState.{ReversalState}
use Rattle.duk_journal_host.specs.Judgement.{reversal_entry}
use Rattle.duk_hosts.proofs.Kept.{NoneIs}
use Rattle.duk_hosts.proofs.settle.state_kept.Given as goal

abbrev pub invariant-loop-entry : goal.invariant-loop-entry
invariant-loop-entry l = NoneIs (λ (entry : Entry). (state : ReversalState) × (entry ≡ reversal_entry l.reversal state)) (take l.entry-index l.entries)
