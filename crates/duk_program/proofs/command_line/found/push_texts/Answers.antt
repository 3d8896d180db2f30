use Rattle.std.proofs.Common.{◌≡◌, ◌∷◌, ◌∙◌, ◌++◌, [], ℕ, List, Option, Some, ap, arith, option_map, length, map, refl, sym, take}
use Rattle.std.proofs.Math.Seq.{take-length}
use Rattle.std.specs.Borrow.{Bor}
use Rattle.std.specs.Prelude.{unwrap_or}
use Rattle.clap.specs.Words.{Text}
use Rattle.duk_arguments.specs.Request.{pair_of}
use Rattle.duk_program.proofs.command_line.found.push_texts.Goals as goal

named : (name : Text) (texts : List (Bor Text)) → map {B = Text × Text} (λ text. (name, text.now)) texts
    ≡ map {B = Text × Text} (λ text. (name, text)) (map (λ (text : Bor Text). text.now) texts)
named name [] = refl
named name (text ∷ rest) = ap (λ (entries : List (Text × Text)). (name, text.now) ∷ entries) (named name rest)

all_named : (name : Text) (texts : List (Bor Text)) (i : ℕ) (found : Option (List Text)) → i ≡ length texts
    → found ≡ Some (map (λ (text : Bor Text). text.now) texts)
    → map {B = Text × Text} (λ text. (name, text.now)) (take i texts)
    ≡ map {B = Text × Text} (λ text. (name, text)) (unwrap_or found [])
all_named name texts i found all is =
    ap (λ (n : ℕ). map {B = Text × Text} (λ (text : Bor Text). (name, text.now)) (take n texts)) all
    ∙ ap (map {B = Text × Text} (λ (text : Bor Text). (name, text.now))) (take-length texts)
    ∙ named name texts ∙ ap (λ (o : Option (List Text)). map {B = Text × Text} (λ text. (name, text)) (unwrap_or o [])) (sym is)

pub returns : goal.returns
returns c = c.loop-text.invariant
    ∙ ap (λ (more : List (Text × Text)). map pair_of c.args.entries.now.items ++ more)
    (all_named c.args.name.now c.in-Some.texts.now c.loop-text.text-index _ (omega arith)
    (c.texts.ensures ∙ ap (option_map (λ (texts : Bor (List (Bor Text))). map (λ (text : Bor Text). text.now) texts.now))
    c.in-Some.is))
