use Rattle.std.proofs.Common.{◌≡◌, ◌*◌, ◌+◌, ◌-◌, take, drop, subst, ◌∙◌, length-set, arith}
use Rattle.duk_frame.specs.Request.{IsRequest}
use Rattle.duk_frame.specs.declared.request.Request.{Request}
use Rattle.duk_group.specs.Numbers.{bytes_at}
use Rattle.duk_tree.specs.Derivation.{derived_key_of}
use Rattle.duk_calls.specs.Answer.{Reports, part_at}
use Rattle.duk_calls.specs.Requests.{IsVerdict, front_frame, request_mac}
use Rattle.duk_calls.proofs.Places.{written_below}
use Rattle.duk_calls.proofs.many_requests.check_group.Goals as goal

pub loop-i-preserved : goal.loop-i-preserved
loop-i-preserved c =
    let frames = c.args.frames.now in
    let bdk = c.args.bdk.now in
    let i = c.loop-i.i in
    let result = c.verdict.result in
    let mac = bytes_at c.right_macs-macs.result i in
    let width : 64 * i + 64 - 64 * i ≡ 64 = omega arith in
    let told = subst (λ n. ((request : Request) → IsRequest (front_frame (take n (drop (64 * i) frames))) request → mac ≡ request_mac (derived_key_of bdk request.ksn) (front_frame (take n (drop (64 * i) frames)))) → Reports result (IsVerdict bdk (front_frame (take n (drop (64 * i) frames))))) width (c.verdict.ensures bdk) in
    record {
      kept = length-set c.loop-i.results i c.verdict.result ∙ c.loop-i.invariant.kept;
      below =
          written_below (λ p result. Reports result (IsVerdict bdk (front_frame (part_at 64 frames p)))) c.loop-i.results i c.verdict.result 0 (omega arith) c.loop-i.invariant.below
          (told (c.right_macs-macs.ensures i (omega arith)));
    }
