-- The host of a configuration: this project's own.
use Rattle.std.specs.Prelude.{None}
use Rattle.duk_config.specs.Opened.{keys_for}
use Rattle.duk_config.specs.Settings.{Settings}
use Rattle.duk_host.specs.Host.{HostOf}
use Rattle.duk_host.specs.Table.{CardTable}
use Rattle.duk_tdes.specs.KeyBytes.{bytes_of}

-- the host of a configuration over this log, as it is made: stopped
abbrev pub new_host_of : {L : Type 0} → Settings → L → HostOf L CardTable
new_host_of config log = record {
  keys = keys_for (bytes_of config.lmk) config;
  issuer = record { zone = bytes_of config.zone; cards = config.cards };
  log = log;
  state = None;
}
