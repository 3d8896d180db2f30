use Rattle.std.proofs.Common.{◌≡◌, ◌<◌, ◌≤◌, ℕ, length}
use Rattle.duk_frame.specs.Frame.{mac_text_of}
use Rattle.duk_frame.specs.Request.{IsRequest}
use Rattle.duk_frame.specs.declared.request.Request.{Request}
use Rattle.duk_group.specs.Numbers.{message_at, number_at}
use Rattle.duk_calls.specs.Answer.{part_at}
use Rattle.duk_calls.specs.Requests.{front_frame}
use Rattle.duk_calls.proofs.many_requests.right_macs.Given as goal

abbrev pub invariant-loop-i : goal.invariant-loop-i
invariant-loop-i l = record {
  number_room : l.count ≤ length l.numbers;
  text_room : l.count ≤ length l.texts;
  numbers : (p : ℕ) → p < l.i → (request : Request) → IsRequest (front_frame (part_at 64 l.frames p)) request → number_at l.numbers p ≡ request.ksn;
  texts : (p : ℕ) → p < l.i → (request : Request) → IsRequest (front_frame (part_at 64 l.frames p)) request → message_at l.texts p ≡ mac_text_of (front_frame (part_at 64 l.frames p));
}
