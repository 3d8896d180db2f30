use Rattle.std.proofs.Common.{rules, refl, subst}
use Rattle.duk_host.specs.inner.Reading.{IsTakenIn}
use Rattle.duk_host.specs.inner.Host.{LogHolds, LogAgrees}
use Rattle.duk_host.specs.Used.{IsOneMore, IsUsed}
use Rattle.duk_host.proofs.OneNumberMore.{holds_more}
use Rattle.duk_host.proofs.host.Host.keep.Goals as goal

pub invariant_of-self-in_default-append : goal.invariant_of-self-in_default-append
invariant_of-self-in_default-append g c =
    let meaning = g.L.UsedLog.meaning in
    let holds : LogHolds (meaning.state_of c.self.inside.log) c.in-Some.field-0.used = subst (λ state. LogAgrees (meaning.state_of c.self.inside.log) state) c.in-Some.is c.self.invariant.holds in
    let fresh : ¬ IsUsed c.in-Some.field-0.used c.args.ksn = search rules in
    let one_more : IsOneMore c.in-Some.field-0.used c.args.ksn c.insert.new.self = c.in_ok-insert.ensures.added in
    let taken : IsTakenIn c.in-Some.field-0.used c.args.ksn c.insert.new.self = record { usable = c.requires.usable; fresh = fresh; one_more = one_more } in
    record {
      zone = c.self.invariant.zone;
      holds = holds_more meaning c.self.inside.log c.append.new.self c.in-Some.field-0.used c.args.ksn c.insert.new.self holds c.in_default-append.ensures.appended taken;
    }

pub returns-clause-kept : goal.returns-clause-kept
returns-clause-kept g c =
    let one_more : IsOneMore c.in-Some.field-0.used c.args.ksn c.insert.new.self = c.in_ok-insert.ensures.added in
    rw (← c.self.view_is) (record {
      recent = refl;
      kept = record {
        before = c.in-Some.field-0;
        after = record { used = c.insert.new.self; recent = c.in-Some.field-0.recent };
        was_running = c.in-Some.is;
        ends = record { keys = refl; issuer = refl };
        appended = c.in_default-append.ensures.appended;
        counted = c.in_default-append.ensures.counted;
        capacity = c.in_default-append.ensures.capacity;
        runs = refl;
        one_more = one_more;
      };
    })
