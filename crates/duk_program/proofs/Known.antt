-- Facts of each command that compute: its name is its own and enters it, `clap` knows its arguments
-- apart, and a default is as good as none.
use Rattle.std.proofs.Common.{◌≡◌, ◌∷◌, ◌++◌, [], Bool, List, None, Option, Some, bytes_eq, codes, false, find, map, refl, true}
use Rattle.clap.specs.Faults.{turn_fault}
use Rattle.clap.specs.Kinds.{Kinds}
use Rattle.clap.specs.Simple.{App, Shape, built, built_leaf, inherited, label_of, marked_built, names_of, with_leaf_noted}
use Rattle.clap.specs.Walk.{Row, Rule, Text, Walk, answers_to, nothing_held, walk_from, walked}
use Rattle.clap.proofs.OnLiterals.{clap_on_literals}
use Rattle.duk_program.specs.CommandLine.{CommandRow, all_commands, command_line, row_of, shape_of_row}
use Rattle.duk_arguments.specs.declared.name.CommandName.{CommandName}
use Rattle.duk_arguments.specs.declared.name.CommandName.TheVariants as name
use Rattle.duk_program.proofs.Leavings.{default_of, has_to_be_there, is_written, own_fault, texts_in_row}
use Rattle.duk_program.proofs.Parameters.{Met, after, all_met, all_wanted, known_of, row_left}
use Rattle.duk_program.proofs.CommandRows.{row_at}

abbrev pub top : App
top = built command_line

abbrev pub start : Walk
start = walk_from nothing_held

-- a command, as it is built
abbrev pub leaf_of : CommandRow → Shape
leaf_of row = built_leaf (inherited (with_leaf_noted (marked_built command_line.top)) (shape_of_row row))

pub record Facts : Type 0 where
  pub named : Option CommandName
  pub entered : Walk
  pub fault : Kinds
  pub leaf : Option Shape
  pub met : List Met
  pub met_without : List Met
  pub known : List (Option Row)
  pub found : List (List (List Text))
  pub written : List (List Bool)
  pub needed : List (Bool × Text)
  pub default_faults : List Kinds

module _ (texts : Text → List Text) (command : CommandName) where
  abbrev row : CommandRow
  row = row_of command

  abbrev rules : List Rule
  rules = (leaf_of row).rules

  abbrev pub facts : Facts
  facts = record {
    named = find (λ other. bytes_eq (row_of other).name row.name) all_commands;
    entered = walked top.top.rules (names_of top) start row.name;
    fault = turn_fault top.top (names_of top) start row.name;
    leaf = find (λ s. answers_to row.name (label_of s)) top.subs;
    met = all_met texts true rules 1 [] row.parameters;
    met_without = all_met texts false rules 1 [] row.parameters;
    known = map (λ p. known_of texts (after [] row.parameters) p.name) row.parameters;
    found = map (λ p. map (λ a. texts_in_row p.kind (row_at p.name (default_of a))) rules) row.parameters;
    written = map (λ p. map (λ a. is_written (row_at p.name (default_of a))) rules) row.parameters;
    needed = map (λ a. (a.required, a.id)) rules;
    default_faults = map own_fault rules;
  }

  abbrev pub wanted_facts : Facts
  wanted_facts = record {
    named = Some command;
    entered = record start { stopped = Some (row.name, []) };
    fault = [];
    leaf = Some (leaf_of row);
    met = all_wanted texts true rules 1 [] row.parameters;
    met_without = all_wanted texts false rules 1 [] row.parameters;
    known = map (λ p. row_left p.name (texts p.name)) row.parameters;
    found = map (λ p. map (λ a. texts_in_row p.kind None) rules) row.parameters;
    written = map (λ p. map (λ a. false) rules) row.parameters;
    needed = map (λ p. (has_to_be_there p.kind, p.name)) row.parameters ++ (false, codes "help") ∷ [];
    default_faults = map (λ a. []) rules;
  }

pub known : (texts : Text → List Text) (command : CommandName) → facts texts command ≡ wanted_facts texts command
unfolding clap_on_literals
known texts name.Derive = refl
known texts name.Walk = refl
known texts name.Initial = refl
known texts name.Issue = refl
known texts name.Registers = refl
known texts name.Kcv = refl
known texts name.Lmk = refl
known texts name.Mac = refl
known texts name.Data = refl
known texts name.Pin = refl
known texts name.Unpin = refl
known texts name.Translate = refl
known texts name.Wrap = refl
known texts name.Unwrap = refl
known texts name.Show = refl
known texts name.Request = refl
known texts name.Reply = refl
known texts name.Find = refl
known texts name.Run = refl
known texts name.Serve = refl
known texts name.NewLog = refl
known texts name.NewJournal = refl
known texts name.NewLedger = refl
known texts name.GrowJournal = refl
known texts name.CopyJournal = refl
known texts name.CopyLedger = refl
