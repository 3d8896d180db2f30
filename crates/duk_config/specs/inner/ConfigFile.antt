-- What only private functions and proofs say beside `ConfigFile.antt`: this project's own.
use Rattle.std.specs.Prelude.{ℕ, List}
use Rattle.toml.specs.Data.{Members}
use Rattle.duk_config.specs.declared.fault.ScriptFault.{ScriptFault}
use Rattle.duk_config.specs.declared.fault.ScriptFault.TheVariants as fault
use Rattle.duk_config.specs.ConfigFile.{IsToml}

-- why the bytes give no table, as a private function of `read_config` answers
abbrev pub NoTable : List ℕ → ScriptFault → Type 0
NoTable bytes fault.NotToml = (document : Members) → ¬ IsToml bytes document
NoTable bytes fault.NoMemory = Unit {0}
NoTable bytes _ = ⊥
