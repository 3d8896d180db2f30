use Rattle.std.proofs.Common.{◌≡◌, ◌+◌, ◌-◌, ◌*◌, ◌++◌, ◌∷◌, ◌∙◌, List, ℕ, suc, [], ap, arith, drop, length, map, take}
use Rattle.std.proofs.lemmas.List.{length_push, map_push}
use Rattle.arrayvec.specs.ArrayVec.{ArrayVec}
use Rattle.duk_calls.specs.Requests.{front_frame}
use Rattle.duk_calls.specs.inner.Hosts.{frames_at}
use Rattle.duk_calls.proofs.judging.frames_in.Goals as goal

pub loop-i-preserved : goal.loop-i-preserved
loop-i-preserved c =
    let bytes = c.args.bytes.now in
    let i = c.loop-i.i in
    let frames = c.loop-i.frames.items in
    let frame = c.frame_in.result in
    let items : ArrayVec ℕ → List ℕ = λ frame. frame.items in
    let width : 64 * i + 64 - 64 * i ≡ 64 = omega arith in
    let next : suc i ≡ i + 1 = omega arith in
    record {
      counted = omega (arith, ap length c.push.ensures.items, length_push frames frame, c.loop-i.invariant.counted);
      are =
          ap (map items) c.push.ensures.items
          ∙ map_push items frames frame
          ∙ ap (λ (front : List (List ℕ)). front ++ frame.items ∷ []) c.loop-i.invariant.are
          ∙ ap (λ (one : List ℕ). frames_at bytes i ++ one ∷ []) (c.frame_in.ensures ∙ ap (λ n. front_frame (take n (drop (64 * i) bytes))) width)
          ∙ ap (frames_at bytes) next;
    }
