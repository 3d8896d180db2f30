-- Who owned the number of a request when it was sent: this project's own.
use Rattle.std.specs.Prelude.{◌≡◌, ◌++◌, ◌∷◌, ℕ, List}
use Rattle.duk_tree.specs.Serial.{Serial}
use Rattle.duk_stations.specs.Owner.{IsOwner}
use Rattle.duk_net.specs.Run.{Run}
use Rattle.duk_net.specs.Step.{Step}
use Rattle.duk_net.specs.World.{Meanings, WorldOf}
use Rattle.duk_net.specs.declared.event.Event.{Event}
use Rattle.duk_net.specs.declared.outcome.Outcome.{Outcome}
use Rattle.duk_net.specs.declared.outcome.Outcome.TheVariants as outcome

-- a terminal's request was sent: in the world just before, that terminal owned the initial key
-- serial number
abbrev pub IsOwnedBefore : {C L I : Type 0} → Meanings C L I → WorldOf C L I → List Outcome → ℕ → ℕ
    → Serial → Type 0
IsOwnedBefore {C} {L} {I} m old earlier t k ksn =
    (events : List Event) (event : Event) (before after : WorldOf C L I)
    → Run m old events earlier before → Step m before event (outcome.Sent t k ksn) after
    → IsOwner before.owners ksn.iksn t

-- so it is of each request that was sent in a call
abbrev pub SentByOwners : {C L I : Type 0} → Meanings C L I → WorldOf C L I → List Outcome → Type 0
SentByOwners m old outcomes =
    (earlier later : List Outcome) (t k : ℕ) (ksn : Serial)
    → outcomes ≡ earlier ++ outcome.Sent t k ksn ∷ later
    → IsOwnedBefore m old earlier t k ksn
