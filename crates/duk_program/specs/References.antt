-- Which texts of a request may be references: this project's own.
use Rattle.std.specs.Prelude.{◌&&◌, [], Bool, List, bytes_eq, filter, if◌then◌else◌, map, slice_get, unwrap_or}
use Rattle.std.specs.List.{list_any}
use Rattle.clap.specs.Words.{Text}
use Rattle.duk_arguments.specs.Request.{Written}
use Rattle.duk_program.specs.CommandLine.{CommandRow, row_of}

-- whether the text under a name may be a reference
abbrev pub may_refer : Text → CommandRow → Bool
may_refer name row = list_any (λ parameter. parameter.may_refer && bytes_eq parameter.name name)
    row.parameters

-- what the help calls an argument: an option by its text
abbrev pub help_name : Text → CommandRow → Text
help_name name row = unwrap_or (slice_get (map (λ parameter. parameter.shown)
    (filter (λ parameter. bytes_eq parameter.name name) row.parameters)) 0) name

-- the entries that may be references
abbrev pub references_in : Written → List (Text × Text)
references_in request = filter (λ entry. may_refer entry.0 (row_of request.command)) request.entries

-- the entries, with no text where that may be a reference
abbrev pub without_text : CommandRow → Text × Text → Text × Text
without_text row entry = (entry.0, if may_refer entry.0 row then [] else entry.1)

abbrev pub without_references : Written → List (Text × Text)
without_references request = map (without_text (row_of request.command)) request.entries
