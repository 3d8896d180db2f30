-- What only private functions and proofs say beside `Run.antt`: this project's own.
use Rattle.std.specs.Prelude.{◌≡◌, ◌++◌, ◌∷◌, [], List}
use Rattle.duk_net.specs.Step.{Step}
use Rattle.duk_net.specs.World.{Meanings, WorldOf}
use Rattle.duk_net.specs.declared.event.Event.{Event}
use Rattle.duk_net.specs.declared.outcome.Outcome.{Outcome}

-- one event is done
pub record IsStepInto
    {C L I : Type 0} (m : Meanings C L I) (old : WorldOf C L I) (event : Event)
    (before after : List Outcome) (new : WorldOf C L I) : Type 0 where
  pub outcome : Outcome
  pub gained : after ≡ before ++ outcome ∷ []
  pub step : Step m old event outcome new
