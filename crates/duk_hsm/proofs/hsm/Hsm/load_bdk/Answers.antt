-- The keys are lawful with the new key set, and as they were where there is no free slot.
use Rattle.std.proofs.Common.{◌≡◌, ◌<◌, None, length, arith}
use Rattle.duk_hsm.specs.Keys.{key_set_of}
use Rattle.duk_hsm.specs.inner.Keys.{held_keys}
use Rattle.duk_hsm.proofs.KeySets.{one_more, sixteen_bytes}
use Rattle.duk_hsm.proofs.hsm.Hsm.load_bdk.Goals as goal
use Rattle.duk_hsm.proofs.hsm.Hsm.load_bdk.Goals.{in-Ok, in-Err}

pub invariant_of-self : goal.invariant_of-self
invariant_of-self g c =
    let keys = held_keys c.self.inside.lmk c.self.inside.zone c.self.inside.key_sets.items in
    let free : key_set_of keys c.args.prefix ≡ None = grind (arith, c.if-has_key_set.ensures.held, c.if-has_key_set.false, c.self.view_is) in
    elim c.match-try_push.branch [
      | in-Ok w ↦
          let room : length c.self.inside.key_sets.items < 8 = grind (arith, c.try_push.ensures.variant, w.result-is) in
          let after = one_more keys c.args.prefix c.in_ok-bdk.bdk c.self.invariant room free (sixteen_bytes _ _ _ c.in_ok-bdk.ensures.found) in
          grind (arith, c.try_push.ensures.ok, w.result-is, after)
      | in-Err w ↦ grind (arith, c.try_push.ensures.err, w.result-is, c.self.invariant)
    ]
