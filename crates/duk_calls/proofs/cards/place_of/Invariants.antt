use Rattle.std.proofs.Common.{◌≡◌, ◌-◌, ◌/◌, length}
use Rattle.duk_host.specs.Table.{card_of}
use Rattle.duk_calls.specs.Hosts.{cards_from, cards_in}
use Rattle.duk_calls.proofs.cards.place_of.Given as goal

abbrev pub invariant-loop-place : goal.invariant-loop-place
invariant-loop-place l = record {
  left : card_of l.pan (cards_from l.cards l.place (length l.cards / 37 - l.place)) ≡ card_of l.pan (cards_in l.cards);
}
