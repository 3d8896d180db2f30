use Rattle.std.proofs.Common.{◌≡◌, ◌≤◌, ◌*◌, ℕ, List, [], length, get_or, ap, arith}
use borrow.Author.Count.{below_more}
use Rattle.std.specs.Borrow.{Bor}
use Rattle.std.proofs.lemmas.List.{get_or-map}
use Rattle.duk_group.specs.Numbers.{message_at}
use Rattle.duk_group.proofs.retail.most_blocks.Goals as goal

pub loop-message-preserved : goal.loop-message-preserved
loop-message-preserved c =
    let messages = c.args.messages.now in
    let i = c.loop-message.message-index in
    let none : Bor (List ℕ) = record { ref_ptr = (0, 0); now = [] } in
    let same : length (message_at messages i) ≡ length (get_or messages i none).now =
    ap length (get_or-map (λ message. message.now) messages i none [] c.loop-message-test.true) in
    record {
      all =
          below_more (λ p. length (message_at messages p) ≤ 8 * c.max-most.result) i
          (λ p h. omega (arith, c.loop-message.invariant.all p h))
          (omega (arith, c.block_count.ensures.all));
      fits = omega arith;
    }
