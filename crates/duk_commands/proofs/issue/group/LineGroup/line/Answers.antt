use Rattle.std.proofs.Common.{◌+◌, ◌-◌, ◌*◌, ◌/◌, ◌≡◌, ap, subst, ◌∙◌, arith}
use Rattle.std.specs.Prelude.{IfSome}
use Rattle.duk_group.specs.Numbers.{bytes_at}
use Rattle.duk_commands.specs.IssuedLines.{issued_line}
use Rattle.duk_commands.specs.inner.IssueGroup.{AreFrom, AreOfPlace, initial_key_at}
use Rattle.duk_commands.proofs.issue.group.LineGroup.line.Goals as goal

pub returns-clause-line : goal.returns-clause-line
returns-clause-line c =
    let order = c.args.order.now in
    let place = c.args.place in
    let base = place / 128 * 128 in
    let lane = place - base in
    let group = c.hold_from.new.self in
    let there : AreFrom order c.args.padding.now base group.blocks group.values =
    subst (λ first. IfSome first (λ base. AreFrom order c.args.padding.now base group.blocks group.values)) c.hold_from.ensures.base c.hold_from.ensures.group in
    let at : base + lane ≡ place = omega arith in
    let is = subst (λ p. AreOfPlace order c.args.padding.now p (bytes_at group.blocks lane) (bytes_at group.values lane)) at
    (there lane (omega arith) (omega (arith, at, c.requires.place))) in
    record {
      block = bytes_at group.blocks lane;
      is_block = is.is_block;
      line_is = c.line_of-line.ensures (initial_key_at order place) is.is_value
          ∙ ap (λ iksn. issued_line iksn (bytes_at group.blocks lane) (initial_key_at order place)) c.iksn_at.ensures;
    }

pub returns-clause-value : goal.returns-clause-value
returns-clause-value c =
    let order = c.args.order.now in
    let place = c.args.place in
    let base = place / 128 * 128 in
    let lane = place - base in
    let group = c.hold_from.new.self in
    let there : AreFrom order c.args.padding.now base group.blocks group.values =
    subst (λ first. IfSome first (λ base. AreFrom order c.args.padding.now base group.blocks group.values)) c.hold_from.ensures.base c.hold_from.ensures.group in
    let at : base + lane ≡ place = omega arith in
    (subst (λ p. AreOfPlace order c.args.padding.now p (bytes_at group.blocks lane) (bytes_at group.values lane)) at
    (there lane (omega arith) (omega (arith, at, c.requires.place)))).is_value
