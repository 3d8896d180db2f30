use Rattle.std.proofs.Common.{subst}
use Rattle.duk_service.specs.declared.left_records.Layout.{Layout}
use Rattle.duk_service.specs.declared.left_records.Seen.{Seen}
use Rattle.duk_service.specs.declared.left_records.Seen.TheVariants as seen
use Rattle.duk_service.specs.inner.LeftRecords.{IsSeen}
use Rattle.duk_service.proofs.Results.{if_err, if_ok}
use Rattle.duk_service.proofs.SeenDisks.{fails_then, seen_first, seen_second}
use Rattle.duk_service.proofs.own_files.look_at_either.Goals as goal

pub returns-in-OtherFront-clause-seen : goal.returns-in-OtherFront-clause-seen
returns-in-OtherFront-clause-seen g c =
    let mid = g.D.Disk.meaning.state_of c.look_at.new.disk in
    let new = g.D.Disk.meaning.state_of c.look_at-in-OtherFront.new.disk in
    let first = subst (λ (l : Layout). IsSeen l mid seen.OtherFront) c.layout_in.ensures
    (subst (λ (what : Seen). IsSeen c.layout_in.result mid what) c.in-OtherFront.is c.in_ok-seen.ensures.seen) in
    if_ok _ _ c.look_at-in-OtherFront.result
    (λ what second. seen_second c.args.format mid new what c.look_at-in-OtherFront.ensures.nature c.look_at-in-OtherFront.ensures.bytes first
    (subst (λ (l : Layout). IsSeen l new what) c.layout_in-in-OtherFront.ensures second))
    c.look_at-in-OtherFront.ensures.seen

pub returns-in-OtherFront-clause-failed : goal.returns-in-OtherFront-clause-failed
returns-in-OtherFront-clause-failed g c =
    if_err _ _ c.look_at-in-OtherFront.result
    (λ why failed. fails_then (g.D.Disk.meaning.state_of c.args.disk.now) (g.D.Disk.meaning.state_of c.look_at.new.disk) (g.D.Disk.meaning.state_of c.look_at-in-OtherFront.new.disk) why
    c.look_at.ensures.nature c.in_ok-seen.ensures.no_failure failed)
    c.look_at-in-OtherFront.ensures.failed

pub returns-in_default : goal.returns-in_default
returns-in_default g c =
    let new = g.D.Disk.meaning.state_of c.look_at.new.disk in
    record {
      seen = seen_first c.args.format new c.in_ok-seen.seen c.in_default.not-OtherFront
          (subst (λ (l : Layout). IsSeen l new c.in_ok-seen.seen) c.layout_in.ensures c.in_ok-seen.ensures.seen);
      only_read = record { nature = c.look_at.ensures.nature; arming = c.look_at.ensures.arming; bytes = c.look_at.ensures.bytes };
      failed = tt;
    }
