use Rattle.std.proofs.Common.{rules, tests, ◌≡◌, ◌∙◌, find}
use Rattle.std.specs.Option.{option_map}
use Rattle.std.specs.Str.{bytes_eq}
use Rattle.std.proofs.lemmas.Iterator.{YieldsList-from_slice}
use Rattle.std.proofs.lemmas.Iterator.Search.{find_from_yields_List}
use Rattle.duk_embedding.proofs.limits.limited_card_of.Goals as goal

pub returns : goal.returns
returns c =
    let found : option_map (λ card. card.now) c.find.result ≡ find (λ card. bytes_eq card.pan c.args.pan.now) c.args.cards.now =
    find_from_yields_List (λ card. bytes_eq card.pan c.args.pan.now) _ _ c.find.result c.find.ensures.ran (YieldsList-from_slice c.args.cards.now cc) (λ x b q k. search (rules, tests)) in
    c.copied.ensures ∙ found
