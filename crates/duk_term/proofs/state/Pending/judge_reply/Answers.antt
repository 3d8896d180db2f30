use Rattle.std.proofs.Common.{◌≡◌, ◌≢◌, rules, subst}
use Rattle.duk_frame.specs.Answer.{IsReply}
use Rattle.duk_term.specs.Reply.{reply_to}
use Rattle.duk_term.proofs.state.Pending.judge_reply.Goals as goal

pub returns-then-is_payment_reply-clause-reported : goal.returns-then-is_payment_reply-clause-reported
returns-then-is_payment_reply-clause-reported c state is_pending =
    let same : c.args.ksn ≡ c.args.self.now.ksn = search rules in
    let reply = subst (λ ksn. IsReply c.args.bytes.now ksn c.args.code c.args.mac) same c.requires in
    let bytes_are : c.args.bytes.now ≡ reply_to c.args.self.now c.args.code =
    (c.is_payment_reply.ensures c.args.self.now.ksn c.args.code reply).0 c.if-is_payment_reply.true in
    (c.args.self.now, is_pending, record { mac = c.args.mac; reply = reply; bytes_are = bytes_are })

pub returns-else-is_payment_reply-clause-refused : goal.returns-else-is_payment_reply-clause-refused
returns-else-is_payment_reply-clause-refused c state is_pending =
    let same : c.args.ksn ≡ c.args.self.now.ksn = search rules in
    let reply = subst (λ ksn. IsReply c.args.bytes.now ksn c.args.code c.args.mac) same c.requires in
    let other : c.args.bytes.now ≢ reply_to c.args.self.now c.args.code = λ is.
    let yes = (c.is_payment_reply.ensures c.args.self.now.ksn c.args.code reply).1 is in
    cc in
    (c.args.self.now, is_pending, record { code = c.args.code; mac = c.args.mac; reply = reply; other = other })
