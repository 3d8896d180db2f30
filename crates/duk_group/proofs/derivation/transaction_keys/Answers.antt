use Rattle.std.proofs.Common.{◌≡◌, ◌<◌, ◌≤◌, ◌+◌, get_or, refl, sym, ap, subst, ◌∙◌, arith}
use Rattle.std.proofs.lemmas.List.{get_or-replicate}
use Rattle.duk_lanes.specs.Words.{wide_lane}
use Rattle.duk_tree.specs.Derivation.{step_of}
use Rattle.duk_tree.specs.Serial.{serial_bytes}
use Rattle.duk_group.specs.Blocks.{key_of}
use Rattle.duk_group.specs.Numbers.{number_at}
use Rattle.duk_group.specs.inner.Turns.{turn_at}
use Rattle.duk_group.proofs.LanesDown.{HasKey, key_after, place_after, key_at_end, key_at_zero, key_at_root}
use Rattle.duk_group.proofs.SerialBlocks.{eight_of_ten}
use Rattle.duk_group.proofs.derivation.transaction_keys.Goals as goal

pub loop-init : goal.loop-init
loop-init c = record {
  places = λ i h. subst (λ place. place + 0 ≤ 21) (sym (get_or-replicate 128 i 21 0 (omega arith))) (omega arith);
  keys = λ i h.
      let initial = key_of wide_lane i c.args.initial.now.left c.args.initial.now.right in
      let number = number_at c.args.numbers.now i in
      subst (λ place. HasKey initial number place initial) (sym (get_or-replicate 128 i 21 0 (omega arith))) (key_at_root initial number);
}

pub loop-preserved : goal.loop-preserved
loop-preserved c =
    let keys = c.loop.keys in
    let children = c.step-children.result in
    let new = c.replaced-keys.result in
    record {
      places = λ i h.
          let initial = key_of wide_lane i c.args.initial.now.left c.args.initial.now.right in
          let turn = turn_at c.advance.new.turns i in
          place_after initial (number_at c.args.numbers.now i) (get_or c.loop.places i 0) (get_or c.advance.new.places i 0) turn turn.goes c.loop.counter refl
          (c.advance.ensures.next i h) (omega arith) (c.loop.invariant.places i h);
      keys = λ i h.
          let lane : i < 128 = omega arith in
          let initial = key_of wide_lane i c.args.initial.now.left c.args.initial.now.right in
          let key = key_of wide_lane i keys.left keys.right in
          let turn = turn_at c.advance.new.turns i in
          key_after initial (number_at c.args.numbers.now i) (get_or c.loop.places i 0) (get_or c.advance.new.places i 0) turn turn.goes
          key (key_of wide_lane i children.left children.right) (key_of wide_lane i new.left new.right) refl
          (c.advance.ensures.next i h) (c.loop.invariant.keys i h)
          (λ serial. eight_of_ten 2 (serial_bytes serial) (omega arith) (c.serials.ensures.ten serial) (c.serials.ensures.are_bytes serial))
          (λ is_block. c.step-children.ensures i lane ∙ ap (step_of key) (c.blocks_of_turns.ensures i lane is_block))
          (λ is. c.replaced-keys.ensures.one i lane (c.going.ensures i lane ∙ is))
          (λ is. c.replaced-keys.ensures.zero i lane (c.going.ensures i lane ∙ is));
    }

pub returns-then-not-advance : goal.returns-then-not-advance
returns-then-not-advance c = λ i h.
    let initial = key_of wide_lane i c.args.initial.now.left c.args.initial.now.right in
    key_at_end initial (number_at c.args.numbers.now i) (get_or c.loop.places i 0) (get_or c.advance.new.places i 0) (turn_at c.advance.new.turns i)
    (key_of wide_lane i c.loop.keys.left c.loop.keys.right)
    ((c.advance.ensures.next i h).stays (c.if-not-advance.ensures.any refl i h)) (c.loop.invariant.keys i h)

pub returns : goal.returns
returns c = λ i h.
    let initial = key_of wide_lane i c.args.initial.now.left c.args.initial.now.right in
    let place = get_or c.loop.places i 0 in
    let zero : place ≡ 0 = omega (arith, c.loop.invariant.places i h) in
    key_at_zero initial (number_at c.args.numbers.now i) place (key_of wide_lane i c.loop.keys.left c.loop.keys.right) zero (c.loop.invariant.keys i h)
