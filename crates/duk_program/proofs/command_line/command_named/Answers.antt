use Rattle.std.proofs.Common.{◌≡◌, ◌∷◌, ◌∙◌, ◌+◌, ◌<◌, [], ℕ, List, None, Option, ap, bytes_eq, false, find, get_or, length, refl, subst, sym, take}
use Rattle.std.proofs.lemmas.List.{take_more}
use Rattle.std.proofs.lemmas.List.Folds.{find-append}
use Rattle.std.specs.Option.{option_or}
use Rattle.clap.specs.Words.{Text}
use Rattle.duk_arguments.specs.declared.name.CommandName.{CommandName}
use Rattle.duk_program.specs.CommandLine.{CommandRow, row_of}
use Rattle.duk_program.proofs.command_line.command_named.Goals as goal

-- one command more is not written so
none_more : (name : Text) (commands : List CommandName) (i : ℕ) (d : CommandName) → i < length commands
    → find (λ (command : CommandName). bytes_eq (row_of command).name name) (take i commands) ≡ None
    → bytes_eq (row_of (get_or commands i d)).name name ≡ false
    → find (λ (command : CommandName). bytes_eq (row_of command).name name) (take (i + 1) commands) ≡ None
none_more name commands i d within none other =
    let test = λ (command : CommandName). bytes_eq (row_of command).name name in
    ap (find test) (take_more commands i d within)
    ∙ find-append test (take i commands) (get_or commands i d ∷ [])
    ∙ ap (λ (found : Option CommandName). option_or found (find test (get_or commands i d ∷ []))) none
    ∙ rw other refl

pub loop-command-preserved : goal.loop-command-preserved
loop-command-preserved c =
    let count = ap (λ (commands : List CommandName). length commands) c.all_commands.ensures in
    none_more c.args.name.now c.all_commands.result c.loop-command.command-index _
    (subst (λ (n : ℕ). c.loop-command.command-index < n) (sym count) c.loop-command-test.true) c.loop-command.invariant
    (ap (λ (row : CommandRow). bytes_eq row.name c.args.name.now) (sym c.usage_of.ensures) ∙ sym c.eq.ensures ∙ c.if-eq.false)
