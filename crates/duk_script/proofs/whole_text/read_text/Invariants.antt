use Rattle.std.proofs.Common.{◌≤◌, ◌-◌, length}
use Rattle.duk_config.specs.ConfigFile.{longest_file}
use Rattle.duk_io.specs.Source.{AreBytesRead}
use Rattle.duk_script.proofs.whole_text.read_text.Given as goal

abbrev pub invariant-loop-text : goal.invariant-loop-text
invariant-loop-text g l = record {
  read : AreBytesRead (g.R.Source.known l.fn.reader) (g.R.Source.known l.reader) l.text.items;
  fits : length l.text.items ≤ longest_file;
}

abbrev pub decreases-loop-text : goal.decreases-loop-text
decreases-loop-text g l = longest_file - length l.text.items
