use Rattle.std.proofs.Common.{◌≡◌, ◌+◌, ◌-◌, [], ◌++◌, suc, inl, inr, refl, ap, subst, ◌∙◌, append-nil, rules, arith}
use Rattle.duk_tree.specs.Next.{spent_counter}
use Rattle.duk_commands.specs.Walk.{IsPrinted, spent_line}
use Rattle.duk_commands.specs.inner.Walk.{HasPrinted, HasPrintedInPart, line_of}
use Rattle.duk_commands.proofs.WalkedText.{text_more, text_last, line_of_number, on_done, on_failed, on_err}
use Rattle.duk_commands.proofs.walk.write_numbers.Goals as goal

pub returns-in_err-make_room-clause-cut : goal.returns-in_err-make_room-clause-cut
returns-in_err-make_room-clause-cut g c =
    let old = c.args.keys.now in
    let loop = c.loop-printed.invariant in
    let line = line_of old c.args.alone in
    let text = loop.written ++ c.loop-printed.lines.items in
    let printed = subst (λ t. IsPrinted line old.counter (c.loop-printed._printed + 0) t) (append-nil text) (loop.lines 0 [] refl) in
    let part : HasPrintedInPart old c.args.alone c.args.count (g.W.Sink.known c.args.output.now) (g.W.Sink.known c.make_room.new.sink) =
    (c.loop-printed._printed + 0, text, omega arith, printed, c.writes.ensures.cut_later _ _ _ loop.written c.loop-printed.lines.items loop.was_written c.in_err-make_room.ensures.cut) in
    on_err _ _ part

pub loop-printed-init : goal.loop-printed-init
loop-printed-init g c = record {
  same_initial = refl;
  same_iksn = refl;
  written = [];
  was_written = c.writes.ensures.none (g.W.Sink.known c.args.output.now);
  lines = λ more rest printed. let all : 0 + more ≡ more = omega arith in rw (all, c.new-lines.ensures) printed;
}

pub loop-printed-preserved : goal.loop-printed-preserved
loop-printed-preserved g c =
    let old = c.args.keys.now in
    let now = c.loop-printed.keys in
    let loop = c.loop-printed.invariant in
    let drains = c.in_ok-make_room.ensures.written in
    let used = c.in-Some.ensures in
    record {
      same_initial = used.goes_on.same_initial ∙ loop.same_initial;
      same_iksn = used.goes_on.same_iksn ∙ loop.same_iksn;
      written = loop.written ++ drains.front;
      was_written = c.writes.ensures.then _ _ _ loop.written drains.front loop.was_written drains.written;
      lines = λ more rest printed.
          let line = line_of old c.args.alone in
          let is_line = line_of_number old now c.args.alone c.in-Some.used.1 c.in-Some.used.0 loop.same_initial loop.same_iksn used.serial used.key in
          let pushed = c.push_number.ensures.line ∙ ap (λ l. c.make_room.new.buffer.items ++ l) is_line in
          let next : c.loop-printed._printed + suc more ≡ c.loop-printed._printed + 1 + more = omega arith in
          let here = loop.lines (suc more) (line now.counter ++ rest) (inr (c.use_next.new.self.counter, rest, used.usable, used.goes_on.next_counter, printed, refl)) in
          subst (λ t. IsPrinted line old.counter (c.loop-printed._printed + 1 + more) t)
          (text_more loop.written c.loop-printed.lines.items drains.front c.make_room.new.buffer.items (line now.counter) rest c.push_number.new.lines.items drains.split pushed)
          (subst (λ n. IsPrinted line old.counter n (loop.written ++ c.loop-printed.lines.items ++ (line now.counter ++ rest))) next here);
    }

pub returns-in_default-clause-written : goal.returns-in_default-clause-written
returns-in_default-clause-written g c =
    let old = c.args.keys.now in
    let loop = c.loop-printed.invariant in
    let drains = c.in_ok-make_room.ensures.written in
    let line = line_of old c.args.alone in
    let left = c.args.count - c.loop-printed._printed - 1 in
    let spent : c.loop-printed.keys.counter ≡ spent_counter = search rules in
    let all : c.loop-printed._printed + suc left ≡ c.args.count = omega arith in
    let printed = subst (λ n. IsPrinted line old.counter n (loop.written ++ c.loop-printed.lines.items ++ spent_line)) all (loop.lines (suc left) spent_line (inl (spent, refl))) in
    let same = text_last loop.written c.loop-printed.lines.items drains.front c.make_room.new.buffer.items spent_line c.push_spent.new.lines.items drains.split c.push_spent.ensures in
    let text = (loop.written ++ drains.front) ++ c.push_spent.new.lines.items in
    let whole = subst (λ t. IsPrinted line old.counter c.args.count t) same printed in
    let before = c.writes.ensures.then _ _ _ loop.written drains.front loop.was_written drains.written in
    on_done _ _ (HasPrinted old c.args.alone c.args.count (g.W.Sink.known c.args.output.now) (g.W.Sink.known c.write_out.new.sink))
    c.write_out.ensures.written
    (λ written. (text, whole, c.writes.ensures.then _ _ _ (loop.written ++ drains.front) c.push_spent.new.lines.items before written))

pub returns-in_default-clause-cut : goal.returns-in_default-clause-cut
returns-in_default-clause-cut g c =
    let old = c.args.keys.now in
    let loop = c.loop-printed.invariant in
    let drains = c.in_ok-make_room.ensures.written in
    let line = line_of old c.args.alone in
    let left = c.args.count - c.loop-printed._printed - 1 in
    let spent : c.loop-printed.keys.counter ≡ spent_counter = search rules in
    let all : c.loop-printed._printed + suc left ≡ c.args.count = omega arith in
    let printed = subst (λ n. IsPrinted line old.counter n (loop.written ++ c.loop-printed.lines.items ++ spent_line)) all (loop.lines (suc left) spent_line (inl (spent, refl))) in
    let same = text_last loop.written c.loop-printed.lines.items drains.front c.make_room.new.buffer.items spent_line c.push_spent.new.lines.items drains.split c.push_spent.ensures in
    let text = (loop.written ++ drains.front) ++ c.push_spent.new.lines.items in
    let whole = subst (λ t. IsPrinted line old.counter c.args.count t) same printed in
    let before = c.writes.ensures.then _ _ _ loop.written drains.front loop.was_written drains.written in
    on_failed _ _ (HasPrintedInPart old c.args.alone c.args.count (g.W.Sink.known c.args.output.now) (g.W.Sink.known c.write_out.new.sink))
    c.write_out.ensures.cut
    (λ cut. (c.args.count, text, omega arith, whole, c.writes.ensures.cut_later _ _ _ (loop.written ++ drains.front) c.push_spent.new.lines.items before cut))

pub returns-clause-written : goal.returns-clause-written
returns-clause-written g c =
    let old = c.args.keys.now in
    let loop = c.loop-printed.invariant in
    let line = line_of old c.args.alone in
    let text = loop.written ++ c.loop-printed.lines.items in
    let all : c.loop-printed._printed + 0 ≡ c.args.count = omega arith in
    let printed = subst (λ t. IsPrinted line old.counter (c.loop-printed._printed + 0) t) (append-nil text) (loop.lines 0 [] refl) in
    let whole = subst (λ n. IsPrinted line old.counter n text) all printed in
    on_done _ _ (HasPrinted old c.args.alone c.args.count (g.W.Sink.known c.args.output.now) (g.W.Sink.known c.write_out-2.new.sink))
    c.write_out-2.ensures.written
    (λ written. (text, whole, c.writes.ensures.then _ _ _ loop.written c.loop-printed.lines.items loop.was_written written))

pub returns-clause-cut : goal.returns-clause-cut
returns-clause-cut g c =
    let old = c.args.keys.now in
    let loop = c.loop-printed.invariant in
    let line = line_of old c.args.alone in
    let text = loop.written ++ c.loop-printed.lines.items in
    let printed = subst (λ t. IsPrinted line old.counter (c.loop-printed._printed + 0) t) (append-nil text) (loop.lines 0 [] refl) in
    on_failed _ _ (HasPrintedInPart old c.args.alone c.args.count (g.W.Sink.known c.args.output.now) (g.W.Sink.known c.write_out-2.new.sink))
    c.write_out-2.ensures.cut
    (λ cut. (c.loop-printed._printed + 0, text, omega arith, printed, c.writes.ensures.cut_later _ _ _ loop.written c.loop-printed.lines.items loop.was_written cut))
