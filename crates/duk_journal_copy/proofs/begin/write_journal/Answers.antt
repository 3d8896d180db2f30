use Rattle.std.proofs.Common.{[]}
use Rattle.duk_journal.specs.Header.{journal_kind}
use Rattle.duk_journal_copy.specs.Blank.{begun_bytes}
use Rattle.duk_journal_copy.proofs.Begun.{begun_keeps, journal_begun}
use Rattle.duk_journal_copy.proofs.InPart.{journal_in_part}
use Rattle.duk_journal_copy.proofs.Results.{on_ok}
use Rattle.duk_journal_copy.proofs.begin.write_journal.Goals as goal

pub returns : goal.returns
returns g c =
    let old = g.D.Disk.meaning.state_of c.args.disk.now in
    let new = g.D.Disk.meaning.state_of c.begin_file.new.disk in
    let fits = c.begin_file.ensures.identity_fits in
    let long = c.headers.ensures.length journal_kind c.args.identity in
    record {
      begun = on_ok _ _ c.begin_file.result (λ begun. journal_begun c.args.identity old new long fits c.requires.room begun) c.begin_file.ensures.begun;
      failed = c.begin_file.ensures.failed;
      in_part = journal_in_part [] (begun_bytes journal_kind c.args.identity old.size) old new
          (λ h. begun_keeps c.args.identity old.size long c.requires.room fits) c.begin_file.ensures.in_part;
    }
