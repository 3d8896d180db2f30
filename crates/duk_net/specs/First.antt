-- A world in which nothing happened yet: this project's own.
use Rattle.std.specs.Prelude.{◌≡◌, ℕ, List, [], None, All}
use Rattle.duk_host.specs.Host.{HostOf}
use Rattle.duk_store.specs.StoreState.{StoreState, FindsOnly}
use Rattle.duk_term.specs.Terminal.{TerminalOf}
use Rattle.duk_term.specs.declared.state.State.TheVariants.{Stopped}
use Rattle.duk_net.specs.World.{Meanings, WorldOf}

-- the world of a host and terminals: nothing was sent, and nobody owns anything
abbrev pub first_world : {C L I : Type 0} → HostOf L I → List ℕ → List (TerminalOf C)
    → WorldOf C L I
first_world host loading terminals = record {
  host = host;
  loading = loading;
  terminals = terminals;
  requests = [];
  answers = [];
  owners = [];
}

-- an honest store in which nothing was ever kept: a restart finds `nothing` alone
pub record IsUnused {V : Type 0} (store : StoreState V) (nothing : V) : Type 0 where
  pub honest : store.honest
  pub finds : FindsOnly store nothing

-- a terminal, newly made over an unused cell
pub record IsNewTerminal
    {C L I : Type 0} (m : Meanings C L I) (terminal : TerminalOf C) : Type 0 where
  pub stopped : terminal.state ≡ Stopped
  pub cell : IsUnused (m.cell.state_of terminal.cell) None

-- a host, newly made over an unused log
pub record IsNewHost {C L I : Type 0} (m : Meanings C L I) (host : HostOf L I) : Type 0 where
  pub stopped : host.state ≡ None
  pub log : IsUnused (m.host.log.state_of host.log) []

-- all ends are newly made, and nothing was sent
pub record IsFirstWorld {C L I : Type 0} (m : Meanings C L I) (world : WorldOf C L I) : Type 0 where
  pub host : IsNewHost m world.host
  pub terminals : All (IsNewTerminal m) world.terminals
  pub no_requests : world.requests ≡ []
  pub no_answers : world.answers ≡ []
  pub no_owners : world.owners ≡ []
