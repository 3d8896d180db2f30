use Rattle.std.proofs.Common.{◌<◌, ℕ}
use Rattle.duk_calls.specs.Answer.{part_at}
use Rattle.duk_calls.specs.Hosts.{IsCard, card_in}
use Rattle.duk_calls.proofs.cards.are_cards.Given as goal

abbrev pub invariant-loop-place : goal.invariant-loop-place
invariant-loop-place l = record {
  below : (p : ℕ) → p < l.place → IsCard (card_in (part_at 37 l.cards p));
}
