use Rattle.std.proofs.Common.{◌≡◌, ◌∷◌, ◌∙◌, ◌+◌, ◌<◌, [], ℕ, List, ap, ap₂, arith, fold, get_or, length, map, sym, take}
use Rattle.std.proofs.lemmas.List.{map-append, take_more}
use Rattle.std.proofs.lemmas.Grind.{fold-append}
use Rattle.clap.specs.Words.{App, Shape, with_subcommand}
use Rattle.duk_program.specs.CommandLine.{all_commands, command_line, program_shape, row_of, shape_of_row}
use Rattle.duk_arguments.specs.declared.name.CommandName.{CommandName}
use Rattle.duk_program.proofs.command_line.program.Goals as goal

abbrev shape_named : CommandName → Shape
shape_named command = shape_of_row (row_of command)

-- the program, given these commands
abbrev given : List Shape → App
given = fold with_subcommand (record { top = program_shape; subs = [] })

one_more : (commands : List CommandName) (i : ℕ) (d : CommandName) → i < length commands
    → given (map shape_named (take (i + 1) commands))
    ≡ with_subcommand (given (map shape_named (take i commands))) (shape_named (get_or commands i d))
one_more commands i d within =
    ap (λ (xs : List CommandName). given (map shape_named xs)) (take_more commands i d within)
    ∙ ap given (map-append shape_named (take i commands) (get_or commands i d ∷ []))
    ∙ fold-append with_subcommand _ (map shape_named (take i commands)) _

are_all : (commands : List CommandName) (i : ℕ) → commands ≡ all_commands → i ≡ 26
    → given (map shape_named (take i commands)) ≡ command_line
are_all commands i are all =
    ap₂ (λ (n : ℕ) (xs : List CommandName). given (map shape_named (take n xs))) all are

pub loop-command-preserved : goal.loop-command-preserved
loop-command-preserved c =
    let count : length c.all_commands.result ≡ 26 = ap length c.all_commands.ensures in
    let more = one_more c.all_commands.result c.loop-command.command-index _ (omega (arith, count, c.loop-command-test.true)) in
    let made = c.in_ok-command_of.ensures in
    c.in_ok-program.ensures.shape made.1
    ∙ ap₂ (λ (app : App) (shape : Shape). with_subcommand app shape) c.loop-command.invariant
    (made.0 ∙ ap shape_of_row c.usage_of.ensures)
    ∙ sym more

pub returns : goal.returns
returns c = c.loop-command.invariant
    ∙ are_all c.all_commands.result c.loop-command.command-index c.all_commands.ensures
    (omega (arith, c.loop-command-test.false, c.loop-command.auto.command-index-end))
