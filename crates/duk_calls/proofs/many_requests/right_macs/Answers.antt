use Rattle.std.proofs.Common.{◌≡◌, ◌<◌, ◌*◌, ◌/◌, ◌+◌, ◌-◌, ℕ, List, [], length, take, drop, get_or, map, sym, ap, ap₂, subst, ◌∙◌, length-set, arith}
use Rattle.std.specs.Borrow.{Bor}
use Rattle.std.proofs.lemmas.List.{get_or-take, length-map, length-take-le, map-set, take-map}
use Rattle.duk_frame.specs.Frame.{mac_text_of}
use Rattle.duk_frame.specs.Request.{IsRequest}
use Rattle.duk_frame.specs.declared.request.Request.{Request}
use Rattle.duk_mac.specs.Retail.{retail_of}
use Rattle.duk_tree.specs.Derivation.{derived_key_of, request_key_of}
use Rattle.duk_tree.specs.Serial.{Serial}
use Rattle.duk_group.specs.Blocks.{block_of}
use Rattle.duk_group.specs.Numbers.{message_at, number_at}
use Rattle.duk_calls.specs.Answer.{part_at}
use Rattle.duk_calls.specs.Requests.{front_frame}
use Rattle.duk_calls.proofs.Places.{written_below}
use Rattle.duk_calls.proofs.many_requests.right_macs.Goals as goal

pub loop-i-preserved : goal.loop-i-preserved
loop-i-preserved c =
    let frames = c.args.frames.now in
    let numbers = c.loop-i.numbers in
    let texts = c.loop-i.texts in
    let i = c.loop-i.i in
    let number = c.number_and_text-number.result.0 in
    let text = c.number_and_text-number.result.1 in
    let width : 64 * i + 64 - 64 * i ≡ 64 = omega arith in
    let Number : ℕ → Serial → Type 0 = λ p number. (request : Request) → IsRequest (front_frame (part_at 64 frames p)) request → number ≡ request.ksn in
    let Text : ℕ → List ℕ → Type 0 = λ p text. (request : Request) → IsRequest (front_frame (part_at 64 frames p)) request → text ≡ mac_text_of (front_frame (part_at 64 frames p)) in
    record {
      number_room = omega (arith, length-set numbers i number);
      text_room = omega (arith, length-set texts i text);
      numbers = written_below Number numbers i number (record { iksn = 0; counter = 0 }) (omega arith) c.loop-i.invariant.numbers
          (subst (λ n. (request : Request) → IsRequest (front_frame (take n (drop (64 * i) frames))) request → number ≡ request.ksn) width c.number_and_text-number.ensures.number);
      texts = λ p h.
          subst (λ all. Text p (get_or all p [])) (sym (map-set (λ (message : Bor (List ℕ)). message.now) texts i text))
          (written_below Text (map (λ (message : Bor (List ℕ)). message.now) texts) i text.now [] (omega (arith, length-map texts (λ (message : Bor (List ℕ)). message.now))) c.loop-i.invariant.texts
          (subst (λ n. (request : Request) → IsRequest (front_frame (take n (drop (64 * i) frames))) request → text.now ≡ mac_text_of (front_frame (take n (drop (64 * i) frames)))) width c.number_and_text-number.ensures.text) p h);
    }

pub returns : goal.returns
unfolding block_of
returns c = λ i h request is.
    let frames = c.args.frames.now in
    let count = length frames / 64 in
    let numbers = c.loop-i.numbers in
    let texts = c.loop-i.texts in
    let below : i < count = h in
    let number : number_at (take count numbers) i ≡ request.ksn =
    get_or-take count numbers i (record { iksn = 0; counter = 0 }) below ∙ c.loop-i.invariant.numbers i (omega arith) request is in
    let text : message_at (take count texts) i ≡ mac_text_of (front_frame (part_at 64 frames i)) =
    ap (λ (all : List (List ℕ)). get_or all i []) (sym (take-map (λ (message : Bor (List ℕ)). message.now) count texts))
    ∙ get_or-take count (map (λ (message : Bor (List ℕ)). message.now) texts) i [] below
    ∙ c.loop-i.invariant.texts i (omega arith) request is in
    c.scatter_wide.ensures i (omega arith)
    ∙ c.retail_macs.ensures i (omega (arith, length-take-le count texts (omega arith)))
    ∙ ap (λ key. retail_of key (message_at (take count texts) i))
    (c.request_keys-keys.ensures i (omega arith) ∙ ap request_key_of (c.derived_keys.ensures i (omega (arith, length-take-le count numbers (omega arith))) ∙ ap₂ derived_key_of (c.spread_key.ensures i (omega arith)) number))
    ∙ ap (retail_of (request_key_of (derived_key_of c.args.bdk.now request.ksn))) text
