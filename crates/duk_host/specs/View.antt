-- What contracts see of a host's fields: this project's own.
use Rattle.std.specs.Prelude.{◌≡◌, ℕ}
use Rattle.duk_host.specs.Host.{HostOf}
use Rattle.duk_host.specs.declared.host.Host.TheInside.{Inside}

-- all but its allocator, and whether it has spare room for exchanges
abbrev pub host_view : {N : ℕ} {L I : Type 0} → Inside N L I → HostOf L I
host_view host =
    record { keys = host.hsm; issuer = host.issuer; log = host.log; state = host.state }

-- two hosts have one allocator, and both or neither have spare room for exchanges, which is empty
pub record HaveOneRoom {N : ℕ} {L I : Type 0} (one other : Inside N L I) : Type 0 where
  pub alloc : one.alloc ≡ other.alloc
  pub spare : one.spare ≡ other.spare
