use Rattle.std.proofs.Common.{[], refl, sym, ap, ◌∙◌, length-set, arith}
use Rattle.duk_lanes.specs.Words.{wide_lane}
use Rattle.duk_tdes.specs.KeyBytes.{bytes_of}
use Rattle.duk_tdes.specs.Tdes.{tdes_encrypted}
use Rattle.duk_group.specs.Blocks.{block_of}
use Rattle.duk_group.proofs.LaneMessages.{ciphers_at_start, ciphers_one_on, ciphers_at_end}
use Rattle.duk_group.proofs.modes.cbc_under.Goals as goal

pub loop-place-init : goal.loop-place-init
loop-place-init c = record {
  kept = refl;
  same = λ i h. ciphers_at_start wide_lane i (bytes_of c.args.key.now) (block_of wide_lane i c.args.initial_vector.now) c.args.blocks.now;
}

pub loop-place-preserved : goal.loop-place-preserved
loop-place-preserved c =
    let key = bytes_of c.args.key.now in
    let blocks = c.loop-place.blocks in
    let place = c.loop-place.place in
    let words = c.encrypt_under-before.result in
    record {
      kept = length-set blocks place words ∙ c.loop-place.invariant.kept;
      same = λ i h.
          ciphers_one_on wide_lane i key blocks place (block_of wide_lane i c.loop-place.before) words [] (omega arith)
          (c.encrypt_under-before.ensures i h ∙ ap (tdes_encrypted key) (c.xor.ensures i h))
          ∙ c.loop-place.invariant.same i h;
    }

pub returns : goal.returns
returns c = λ i h.
    sym (ciphers_at_end wide_lane i (bytes_of c.args.key.now) c.loop-place.blocks c.loop-place.place (block_of wide_lane i c.loop-place.before) (omega arith))
    ∙ c.loop-place.invariant.same i h
