-- The reply MACs of a group, place by place.
use Rattle.std.proofs.Common.{◌<◌, sym, subst, arith}
use Rattle.duk_group.specs.Numbers.{bytes_at, message_at, number_at}
use Rattle.duk_group.specs.declared.transposed.TheConstants.{WIDTH}
use Rattle.duk_hsm.specs.Group.{AreOpened, OpenedPlaces, place_at}
use Rattle.duk_hsm.proofs.RepliesOfGroups.{reply_made}
use Rattle.duk_hsm.proofs.group.OpenedGroup.reply_macs.Goals as goal

pub returns : goal.returns
returns c = record {
  made = λ keys numbers place are within here has some.
      let lane : place < WIDTH = omega (arith, here, c.requires.few) in
      let text = message_at c.args.texts.now place in
      let opened : AreOpened keys numbers (record { places = c.self.inside.places }) = subst (λ (group : OpenedPlaces). AreOpened keys numbers group) (sym c.self.view_is) are in
      reply_made keys (number_at numbers place) (place_at c.self.inside.places place) (bytes_at c.opened_keys.result place) text _
      (opened.places_are place within) has
      (λ one is. c.opened_keys.ensures place one lane is)
      (c.response_macs.ensures place here some);
}
