use Rattle.duk_net.proofs.calm_stores.CalmStores.{leads_calm, leads_sound}
use Rattle.duk_net.proofs.used_once.WorldSafe.{WorldLaws}
use Rattle.duk_net.proofs.laws.calm_stores.Goals as goal
use Rattle.duk_net.proofs.laws.calm_stores.Goals.{After-replies}

laws_of : (g : _) → After-replies g → WorldLaws g.C.Cell.meaning
laws_of g c = record { registers = c.registers.ensures; reading = c.one_reading.ensures.request; request = c.requests.ensures.request; own_key = c.own_initial_key.ensures }

pub returns-clause-sound : goal.returns-clause-sound
returns-clause-sound g c old new outcomes reached sound leads =
    (leads_sound _ (laws_of g c) (record { reading = c.one_reading.ensures.answer; replies = c.replies.ensures; exchanges = record { given = c.exchanges.ensures.given; others = c.exchanges.ensures.others } }) old new outcomes reached sound leads).0

pub returns-clause-no_damage : goal.returns-clause-no_damage
returns-clause-no_damage g c old new outcomes reached sound leads =
    (leads_sound _ (laws_of g c) (record { reading = c.one_reading.ensures.answer; replies = c.replies.ensures; exchanges = record { given = c.exchanges.ensures.given; others = c.exchanges.ensures.others } }) old new outcomes reached sound leads).1

pub returns-clause-calm : goal.returns-clause-calm
returns-clause-calm g c end old new outcomes reached calm leads =
    (leads_calm _ (laws_of g c) (record { reading = c.one_reading.ensures.answer; replies = c.replies.ensures; exchanges = record { given = c.exchanges.ensures.given; others = c.exchanges.ensures.others } }) end old new outcomes reached calm leads).0

pub returns-clause-once_armed : goal.returns-clause-once_armed
returns-clause-once_armed g c end old new outcomes reached calm leads =
    (leads_calm _ (laws_of g c) (record { reading = c.one_reading.ensures.answer; replies = c.replies.ensures; exchanges = record { given = c.exchanges.ensures.given; others = c.exchanges.ensures.others } }) end old new outcomes reached calm leads).1
