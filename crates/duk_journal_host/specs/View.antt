-- What contracts see of the fields of a host over a journal, and of its index: this project's own.
use Rattle.std.specs.Prelude.{◌≡◌, ℕ}
use Rattle.duk_journal_host.specs.Host.{HostOf}
use Rattle.duk_journal_host.specs.declared.host.JournalHost.TheInside.{Inside}
use Rattle.duk_journal_host.specs.declared.index.Index.TheInside as index

-- all but its allocator
abbrev pub host_view : {N : ℕ} {J I : Type 0} → Inside N J I → HostOf J I
host_view host =
    record { keys = host.hsm; issuer = host.issuer; journal = host.journal; state = host.state }

-- two indexes have one map of the entries that can be answered again, and the oldest in one place
pub record HaveOneRing (one other : index.Inside) : Type 0 where
  pub map : one.map ≡ other.map
  pub oldest : one.oldest ≡ other.oldest
