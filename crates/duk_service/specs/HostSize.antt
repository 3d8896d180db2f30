-- That a host fits in memory (this project's own, over the layout of its type).
use Rattle.std.specs.Prelude.{◌^◌, ◌<◌}
use Rattle.std.specs.Mem.{FitsInMemory}
use Rattle.duk_host.specs.contracts.host.Host as host
use Rattle.duk_host.specs.contracts.table.TableIssuer as issuer
use Rattle.duk_host.specs.contracts.table.TableIssuerIssuer.TheImpl as deciding
use Rattle.duk_journal.specs.declared.journal.Journal.{Ghosts as JournalGhosts}
use Rattle.duk_journal_host.specs.contracts.host.JournalHost as journal_host
use Rattle.duk_store.specs.declared.log.UsedLog.{Ghosts}
use denote.Param.{layout, number}
use denote.RattleType.{RattleType}
use prog.Memory.{align, size}

-- a host over a log of this type takes fewer than 2 ^ 63 bytes, where its local master key has so
-- many
abbrev pub HostFits : RattleType → (Log : RattleType) → Ghosts Log.Denot → Type 0
HostFits key_length Log log =
    FitsInMemory (host.the_row key_length Log issuer.the_row log deciding.ghosts)

-- where it has 16 or 24
abbrev pub HostsFit : (Log : RattleType) → Ghosts Log.Denot → Type 0
HostsFit Log log = HostFits (number 16) Log log × HostFits (number 24) Log log

-- so does a host over a journal of this type
abbrev pub JournalHostFits : RattleType → (Journal : RattleType) → JournalGhosts Journal.Denot
    → Type 0
JournalHostFits key_length Journal journal =
    FitsInMemory (journal_host.the_row key_length Journal issuer.the_row journal deciding.ghosts)

-- where it has 16 or 24
abbrev pub JournalHostsFit : (Journal : RattleType) → JournalGhosts Journal.Denot → Type 0
JournalHostsFit Journal journal =
    JournalHostFits (number 16) Journal journal × JournalHostFits (number 24) Journal journal

-- a value of this type takes fewer than 2 ^ 32 bytes, and is aligned to fewer
abbrev pub IsSmall : RattleType → Type 0
IsSmall R = (size (layout R) < 2 ^ 32) × (align (layout R) < 2 ^ 32)
