use Rattle.std.proofs.Common.{inl, refl}
use Rattle.duk_net.proofs.calm_stores.CalmRestarts.{all_up}
use Rattle.duk_net.proofs.used_once.WorldSafe.{WorldLaws}
use Rattle.duk_net.proofs.laws.calm_restarts.Goals as goal
use Rattle.duk_net.proofs.laws.calm_restarts.Goals.{After-replies}

laws_of : (g : _) → After-replies g → WorldLaws g.C.Cell.meaning
laws_of g c = record { registers = c.registers.ensures; reading = c.one_reading.ensures.request; request = c.requests.ensures.request; own_key = c.own_initial_key.ensures }

pub returns-clause-brought_up : goal.returns-clause-brought_up
returns-clause-brought_up g c old new events outcomes reached sound calm there run =
    (all_up _ (laws_of g c) (record { reading = c.one_reading.ensures.answer; replies = c.replies.ensures; exchanges = record { given = c.exchanges.ensures.given; others = c.exchanges.ensures.others } }) old new events outcomes reached sound calm there run).0

pub returns-clause-calm : goal.returns-clause-calm
returns-clause-calm g c old new events outcomes reached sound calm there run =
    (all_up _ (laws_of g c) (record { reading = c.one_reading.ensures.answer; replies = c.replies.ensures; exchanges = record { given = c.exchanges.ensures.given; others = c.exchanges.ensures.others } }) old new events outcomes reached sound calm there run).1

pub returns-clause-sound : goal.returns-clause-sound
returns-clause-sound g c old new events outcomes reached sound run =
    c.calm_stores.ensures.sound old new outcomes reached sound (record { events = events; mid = new; run = run; left = inl refl })
