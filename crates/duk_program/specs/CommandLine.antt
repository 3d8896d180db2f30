-- The program's command line: this project's own, as a command of the crate `clap`.
use Rattle.std.specs.Prelude.{◌∷◌, [], Bool, List, Some, codes, false, map, true}
use Rattle.clap.specs.Words.{App, Rule, Shape, Text, new_rule}
use Rattle.clap.specs.Simple.{new_shape}
use Rattle.clap.specs.declared.builder.action.ArgAction.TheVariants.{SetTrue}
use Rattle.duk_arguments.specs.declared.name.CommandName.{CommandName}
use Rattle.duk_arguments.specs.declared.name.CommandName.TheVariants as name
use Rattle.duk_program.specs.declared.command_line.arguments.Way.{Way}
use Rattle.duk_program.specs.declared.command_line.arguments.Way.TheVariants as way

-- how an argument is written: NAME, [NAME], NAME.. from once to 16 times, [--name VALUE],
-- --name VALUE, and [--name]
pub data Kind : Type 0 where
  needed : Kind
  optional : Kind
  several : Kind
  valued : Kind
  named : Kind
  flag : Kind

-- what may stand after a command: under which name, how it is written, whether its text may be a
-- reference, as `@FILE` is one, and what the help calls that text
pub record Parameter : Type 0 where
  pub name : Text
  pub kind : Kind
  pub may_refer : Bool
  pub shown : Text

abbrev pub plain : Kind → Text → Parameter
plain kind name = record { name = name; kind = kind; may_refer = false; shown = name }

abbrev pub reference : Kind → Text → Parameter
reference kind name = record { name = name; kind = kind; may_refer = true; shown = name }

-- an option whose text the help calls so
abbrev pub called : Text → Parameter → Parameter
called shown parameter = record parameter { shown = shown }

-- a command, how it is done, and what may stand after it
pub record CommandRow : Type 0 where
  pub name : Text
  pub way : Way
  pub parameters : List Parameter

abbrev pub row : Text → Way → List Parameter → CommandRow
row name way parameters = record { name = name; way = way; parameters = parameters }

-- the row of each command
abbrev pub row_of : CommandName → CommandRow
row_of name.Derive = row (codes "derive") way.Lines
    (reference needed (codes "BDK") ∷ reference needed (codes "KSN") ∷ plain flag (codes "initial")
    ∷ plain flag (codes "trace") ∷ plain flag (codes "all") ∷ [])
row_of name.Walk = row (codes "walk") way.LineByLine
    (reference needed (codes "BDK") ∷ reference needed (codes "IKSN")
    ∷ reference needed (codes "COUNT") ∷ called (codes "K") (reference valued (codes "skip"))
    ∷ plain flag (codes "ksn") ∷ plain flag (codes "initial") ∷ [])
row_of name.Initial = row (codes "initial") way.Lines
    (reference needed (codes "BDK") ∷ reference needed (codes "IKSN") ∷ [])
row_of name.Issue = row (codes "issue") way.Told
    (reference needed (codes "BDK") ∷ reference needed (codes "LOADING")
    ∷ reference needed (codes "IKSN") ∷ reference needed (codes "COUNT")
    ∷ called (codes "FILE") (plain named (codes "ledger"))
    ∷ called (codes "KCV") (reference valued (codes "bdk-kcv"))
    ∷ called (codes "FILE") (plain valued (codes "out")) ∷ plain flag (codes "skip-issued")
    ∷ plain flag (codes "again") ∷ [])
row_of name.Registers = row (codes "registers") way.Lines
    (reference needed (codes "BDK") ∷ reference needed (codes "KSN") ∷ plain flag (codes "initial")
    ∷ [])
row_of name.Kcv = row (codes "kcv") way.Lines
    (reference several (codes "KEY") ∷ plain flag (codes "components") ∷ plain flag (codes "show")
    ∷ [])
row_of name.Lmk = row (codes "lmk") way.Files
    (reference several (codes "COMPONENT") ∷ plain flag (codes "new")
    ∷ called (codes "KEY") (reference valued (codes "key"))
    ∷ called (codes "FIELDS") (reference valued (codes "fields"))
    ∷ called (codes "PAD") (reference valued (codes "pad")) ∷ [])
row_of name.Mac = row (codes "mac") way.Message
    (reference needed (codes "KEY") ∷ plain needed (codes "TEXT") ∷ plain flag (codes "cmac")
    ∷ plain flag (codes "hex") ∷ [])
row_of name.Data = row (codes "data") way.Message
    (reference needed (codes "KEY") ∷ plain needed (codes "TEXT")
    ∷ called (codes "BLOCK") (reference valued (codes "iv")) ∷ plain flag (codes "decipher")
    ∷ plain flag (codes "hex") ∷ [])
row_of name.Pin = row (codes "pin") way.Lines
    (reference needed (codes "PIN") ∷ reference needed (codes "PAN")
    ∷ called (codes "KEY") (reference valued (codes "key")) ∷ [])
row_of name.Unpin = row (codes "unpin") way.Lines
    (reference needed (codes "BLOCK") ∷ reference needed (codes "PAN")
    ∷ called (codes "KEY") (reference valued (codes "key")) ∷ plain flag (codes "show") ∷ [])
row_of name.Translate = row (codes "translate") way.Lines
    (reference needed (codes "BLOCK") ∷ reference needed (codes "PAN")
    ∷ reference needed (codes "BDK") ∷ reference needed (codes "KSN")
    ∷ reference needed (codes "ZONE") ∷ plain flag (codes "initial") ∷ [])
row_of name.Wrap = row (codes "wrap") way.Lines
    (reference needed (codes "KBPK") ∷ reference needed (codes "FIELDS")
    ∷ reference needed (codes "KEY") ∷ reference needed (codes "PAD") ∷ [])
row_of name.Unwrap = row (codes "unwrap") way.Lines
    (reference needed (codes "KBPK") ∷ reference needed (codes "BLOCK") ∷ [])
row_of name.Show = row (codes "show") way.Files
    (plain needed (codes "KIND") ∷ reference needed (codes "WHAT") ∷ plain flag (codes "show")
    ∷ called (codes "BDK") (reference valued (codes "key")) ∷ plain flag (codes "initial") ∷ [])
row_of name.Request = row (codes "request") way.Lines
    (reference needed (codes "BDK") ∷ reference needed (codes "KSN")
    ∷ reference optional (codes "PAN") ∷ reference optional (codes "PIN")
    ∷ reference optional (codes "AMOUNT")
    ∷ called (codes "NUMBER") (reference valued (codes "reverse")) ∷ plain flag (codes "initial")
    ∷ [])
row_of name.Reply = row (codes "reply") way.Lines
    (reference needed (codes "BDK") ∷ reference needed (codes "REQUEST")
    ∷ reference needed (codes "ANSWER") ∷ plain flag (codes "initial") ∷ [])
row_of name.Find = row (codes "find") way.Told
    (reference needed (codes "BDK") ∷ reference needed (codes "WHAT")
    ∷ called (codes "KSN") (reference valued (codes "from"))
    ∷ called (codes "N") (reference valued (codes "window"))
    ∷ called (codes "TEXT") (plain valued (codes "text")) ∷ plain flag (codes "hex")
    ∷ called (codes "PAN") (reference valued (codes "pan"))
    ∷ called (codes "BLOCK") (reference valued (codes "clear")) ∷ plain flag (codes "initial") ∷ [])
row_of name.Run = row (codes "run") way.Files
    (plain needed (codes "CONFIG") ∷ plain needed (codes "SCRIPT") ∷ plain flag (codes "journal")
    ∷ [])
row_of name.Serve = row (codes "serve") way.Files
    (plain needed (codes "CONFIG") ∷ called (codes "FILE") (plain valued (codes "log"))
    ∷ called (codes "FILE") (plain valued (codes "journal")) ∷ [])
row_of name.NewLog = row (codes "new-log") way.Files
    (plain needed (codes "FILE") ∷ reference needed (codes "RECORDS") ∷ [])
row_of name.NewJournal = row (codes "new-journal") way.Files
    (plain needed (codes "FILE") ∷ reference needed (codes "RECORDS") ∷ [])
row_of name.NewLedger = row (codes "new-ledger") way.Files
    (plain needed (codes "FILE") ∷ reference needed (codes "RECORDS") ∷ [])
row_of name.GrowJournal = row (codes "grow-journal") way.Files
    (plain needed (codes "FILE") ∷ reference needed (codes "RECORDS") ∷ [])
row_of name.CopyJournal = row (codes "copy-journal") way.Files
    (plain needed (codes "OLD") ∷ plain needed (codes "NEW") ∷ [])
row_of name.CopyLedger = row (codes "copy-ledger") way.Files
    (plain needed (codes "OLD") ∷ plain needed (codes "NEW") ∷ [])

-- the commands, in the order in which help lists them
abbrev pub all_commands : List CommandName
all_commands = name.Derive ∷ name.Walk ∷ name.Initial ∷ name.Issue ∷ name.Registers ∷ name.Kcv
    ∷ name.Lmk ∷ name.Mac ∷ name.Data ∷ name.Pin ∷ name.Unpin ∷ name.Translate ∷ name.Wrap ∷ name.Unwrap
    ∷ name.Show ∷ name.Request ∷ name.Reply ∷ name.Find ∷ name.Run ∷ name.Serve ∷ name.NewLog
    ∷ name.NewJournal ∷ name.NewLedger ∷ name.GrowJournal ∷ name.CopyJournal ∷ name.CopyLedger ∷ []

-- what `clap` knows of an argument
abbrev pub rule_by : Kind → Text → Rule
rule_by needed name = record (new_rule name) { required = true }
rule_by optional name = new_rule name
rule_by several name = record (new_rule name) {
  range = Some (record { start_inclusive = 1; end_inclusive = 16 });
  required = true;
}
rule_by valued name = record (new_rule name) { long = Some name; value_names = 1 }
rule_by named name = record (new_rule name) { long = Some name; value_names = 1; required = true }
rule_by flag name = record (new_rule name) { long = Some name; action = Some SetTrue }

abbrev pub rule_of_parameter : Parameter → Rule
rule_of_parameter parameter = rule_by parameter.kind parameter.name

-- what `clap` knows of a command
abbrev pub shape_of_row : CommandRow → Shape
shape_of_row row = record (new_shape row.name) { rules = map rule_of_parameter row.parameters }

-- dukpt: it has a version, wants a command, and answers with its help where no arguments are given
abbrev pub program_shape : Shape
program_shape = record (new_shape (codes "dukpt")) {
  has_version = true;
  arg_required_else_help = true;
  subcommand_required = true;
}

-- dukpt, and one of its commands
abbrev pub command_line : App
command_line = record {
  top = record program_shape { is_leaf = false };
  subs = map (λ command. shape_of_row (row_of command)) all_commands;
}
