use Rattle.std.proofs.Common.{refl, ◌∙◌, rules}
use Rattle.duk_config.proofs.KeysAreLoaded.{key_sets_more, prefix_free, slots_left}
use Rattle.duk_config.proofs.hsm.open_hsm.Goals as goal

pub load_base_key-requires : goal.load_base_key-requires
load_base_key-requires g c =
    let distinct = rw (← c.deref-bdk-items.ensures.value) at c.config.invariant.distinct_prefixes in
    let most = rw (← c.deref-bdk-items.ensures.value) at c.config.invariant.eight_base_keys_at_most in (
      search rules,
      (
        search rules,
        (
          c.requires,
          (
            search rules,
            (
              rw c.loop-bdk.invariant (prefix_free c.deref-bdk-items.result.now c.loop-bdk.bdk-index c.bdk-item.result distinct c.loop-bdk-test.true c.bdk-item.is),
              rw c.loop-bdk.invariant (slots_left c.deref-bdk-items.result.now c.loop-bdk.bdk-index c.loop-bdk-test.true most),
            ),
          ),
        ),
      ),
    )

pub loop-bdk-preserved : goal.loop-bdk-preserved
loop-bdk-preserved g c =
    c.load_base_key.ensures.keys ∙ (rw c.loop-bdk.invariant (rw (key_sets_more c.deref-bdk-items.result.now c.loop-bdk.bdk-index c.bdk-item.result c.loop-bdk-test.true c.bdk-item.is) refl))
