-- The command that is entered, and its own words.
use Rattle.std.proofs.Common.{Bool, List, Option, Some, [], ap, false, fold, is_some, option_map, refl, sym, true, ◌∙◌, ◌∷◌, ◌≡◌}
use Rattle.clap.specs.Faults.{check_fault, defaults_fault, entered_fault, fault_of, level_fault, settle_fault, walk_fault}
use Rattle.clap.specs.Kinds.{Kinds, or_else}
use Rattle.clap.specs.Simple.{Shape, entered, names_of, rows_at, subcommand_of}
use Rattle.clap.specs.Walk.{Held, Names, Row, Text, Walk, finished, nothing_held, rows_after, settled, walk, walked}
use Rattle.clap.proofs.FaultLemmas.{stopped_fault}
use Rattle.clap.proofs.WalkLemmas.{walk_stopped}
use Rattle.duk_program.specs.CommandLine.{command_line, row_of}
use Rattle.duk_arguments.specs.declared.name.CommandName.{CommandName}
use Rattle.duk_program.proofs.Known.{Facts, facts, known, leaf_of, start, top, wanted_facts}
use Rattle.std.specs.Option.{option_map_or}

-- the faults after those of the walk
abbrev pub end_fault : Shape → Bool → Held → Kinds
end_fault s used end = or_else (settle_fault s.rules s.args_override_self end)
    (or_else (defaults_fault (settled s.rules end).rows s.rules) (check_fault s (finished s.rules end) used))

-- a level with no fault
pub level_is_quiet : (s : Shape) (names : Names) (words : List Text) (used : Bool) (below : Kinds) (w : Walk)
    → walk_fault s names start words ≡ [] → walk s.rules names nothing_held words ≡ w → below ≡ []
    → end_fault s used w.held ≡ [] → level_fault s names nothing_held words used below ≡ []
level_is_quiet s names words used below w quiet walk_is below_quiet end_quiet =
    rw (quiet, below_quiet) (ap (λ (v : Walk). end_fault s used v.held) walk_is ∙ end_quiet)

-- after the command its words are read without a fault, as these rows
pub record IsRead (leaf : Shape) (words : List Text) (found : List Row) : Type 0 where
  pub quiet : level_fault leaf [] nothing_held words false [] ≡ []
  pub rows : rows_after leaf.rules [] words ≡ found

top_end : end_fault top.top true nothing_held ≡ []
unfolding defaults_fault
top_end = refl

module _ (command : CommandName) (words : List Text) where
  abbrev name : Text
  name = (row_of command).name

  abbrev leaf : Shape
  leaf = leaf_of (row_of command)

  known_facts : facts (λ text. []) command ≡ wanted_facts (λ text. []) command
  known_facts = known (λ text. []) command

  top_walk : walk top.top.rules (names_of top) nothing_held (name ∷ words) ≡ record start { stopped = Some (name, words) }
  top_walk =
      ap (λ (facts : Facts). fold (walked top.top.rules (names_of top)) facts.entered words) known_facts
      ∙ sym (walk_stopped top.top.rules (names_of top) start name [] words)

  top_faults : walk_fault top.top (names_of top) start (name ∷ words) ≡ []
  unfolding walk_fault
  top_faults =
      ap (λ (facts : Facts). or_else facts.fault (walk_fault top.top (names_of top) facts.entered words)) known_facts
      ∙ stopped_fault top.top (names_of top) start (name, []) words

  entered_is : entered top (Some (name, words)) ≡ Some (rows_at leaf words)
  entered_is = ap (λ (facts : Facts). option_map (λ (s : Shape). rows_at s words) facts.leaf) known_facts

  below_is : entered_fault top (Some (name, words)) ≡ level_fault leaf [] nothing_held words false []
  below_is = ap (λ (facts : Facts).
      option_map_or (λ (s : Shape). level_fault s [] nothing_held words false []) facts.leaf []) known_facts

  pub is_taken : (program : Text) (found : List Row) → IsRead leaf words found
      → fault_of command_line (program ∷ name ∷ words) ≡ []
  is_taken program found read =
      ap (λ (w : Walk). level_fault top.top (names_of top) nothing_held (name ∷ words)
      (is_some (entered top w.stopped)) (entered_fault top w.stopped)) top_walk
      ∙ ap (λ (o : Option (Text × List Row)). level_fault top.top (names_of top) nothing_held (name ∷ words)
      (is_some o) (entered_fault top (Some (name, words)))) entered_is
      ∙ level_is_quiet top.top (names_of top) (name ∷ words) true (entered_fault top (Some (name, words)))
      (record start { stopped = Some (name, words) }) top_faults top_walk (below_is ∙ read.quiet) top_end

  pub is_used : (program : Text) (found : List Row) → IsRead leaf words found
      → subcommand_of command_line (program ∷ name ∷ words) ≡ Some (name, found)
  is_used program found read =
      ap (λ (w : Walk). entered top w.stopped) top_walk ∙ entered_is
      ∙ ap (λ (rows : List Row). Some (name, rows)) read.rows
