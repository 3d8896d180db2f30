use Rattle.std.proofs.Common.{◌∙◌, ap, arith, length, refl, subst, sym}
use Rattle.std.proofs.lemmas.List.{take_all}
use Rattle.duk_journal.specs.Groups.{Entries}
use Rattle.duk_journal_host.specs.inner.Latest.{HasNoNumber, IsRing, entries_in, with_latest}
use Rattle.duk_journal_host.proofs.Gathering.{next_of, none_before}
use Rattle.duk_journal_host.proofs.latest.fill.Goals as goal

pub loop-entry-init : goal.loop-entry-init
loop-entry-init c = record {
  unique = c.requires.unique;
  ring = subst (λ places. IsRing 0 (length places)) (sym c.requires.empty) (record { most = omega arith; begins = λ few. refl; inside = omega arith });
  room = omega (arith, c.requires.room);
  all = ap (λ places. entries_in 0 places) c.requires.empty;
}

pub push-oldest-requires-clause-new : goal.push-oldest-requires-clause-new
push-oldest-requires-clause-new c =
    let latest = c.args.latest.now in
    let entry = c.entry-item.result in
    subst (λ (entries : Entries). HasNoNumber entries entry.number) (sym c.loop-entry.invariant.all)
    (none_before latest c.loop-entry.entry-index entry c.requires.own c.loop-entry-test.true c.entry-item.is)

pub loop-entry-preserved : goal.loop-entry-preserved
loop-entry-preserved c =
    let latest = c.args.latest.now in
    let entry = c.entry-item.result in
    record {
      unique = c.push-oldest.ensures.unique;
      ring = c.push-oldest.ensures.ring;
      room = omega (arith, c.loop-entry.invariant.room, c.push-oldest.ensures.spare);
      all = c.push-oldest.ensures.last ∙ ap (λ entries. with_latest entries entry) c.loop-entry.invariant.all ∙ next_of latest c.loop-entry.entry-index entry c.loop-entry-test.true c.requires.few c.entry-item.is;
    }

pub returns-clause-all : goal.returns-clause-all
returns-clause-all c =
    let latest = c.args.latest.now in
    c.loop-entry.invariant.all ∙ take_all c.loop-entry.entry-index latest (omega (arith, c.loop-entry-test.false))
