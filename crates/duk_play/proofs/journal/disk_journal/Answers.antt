use Rattle.std.proofs.Common.{◌≡◌, ◌∙◌, ◌+◌, ◌*◌, List, ℕ, [], ap, arith, length, subst, sym}
use Rattle.duk_journal.specs.DiskJournal.{new_disk_journal}
use Rattle.duk_journal.specs.Header.{header_of, journal_kind}
use Rattle.duk_store.specs.MemoryDisk.{new_disk_with}
use Rattle.duk_store.specs.StoreState.{IsNew}
use Rattle.duk_play.specs.Opening.{journal_meaning}
use Rattle.duk_play.proofs.journal.disk_journal.Goals as goal

pub with_front-requires : goal.with_front-requires
with_front-requires c = omega (arith, ap length c.as_slice.ensures.value, c.journal_header-header.ensures.length)

pub returns-clause-made : goal.returns-clause-made
returns-clause-made c =
    let front : c.as_slice.result.now ≡ header_of journal_kind 0 = c.as_slice.ensures.value ∙ c.journal_header-header.ensures.bytes in
    c.in-Ok-new.ensures.journal
    ∙ ap new_disk_journal (c.in-Ok.ensures.disk ∙ ap (λ (bytes : List ℕ). new_disk_with bytes (32 * (1 + c.args.room))) front)

pub returns-clause-new : goal.returns-clause-new
returns-clause-new c =
    subst (λ journal. IsNew (journal_meaning.state_of journal) []) (sym (returns-clause-made c))
    (c.new_disk_journal.ensures 0 (1 + c.args.room) (omega arith) (omega arith))
