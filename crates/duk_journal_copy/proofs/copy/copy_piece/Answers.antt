use Rattle.std.proofs.Common.{◌≡◌, ◌∙◌, ◌+◌, ◌*◌, ◌<◌, ℕ, List, ap, length, subst, sym}
use Rattle.duk_journal.specs.RecordFormat.{record_at}
use Rattle.duk_journal_copy.specs.Version.{format_of}
use Rattle.duk_journal_copy.specs.inner.Convert.{IsConverted, spot_behind}
use Rattle.duk_store.specs.Disk.{DiskState, range_of}
use Rattle.duk_store.specs.Records.{HasContents}
use Rattle.duk_journal_copy.proofs.CopiedRecords.{record_in_range}
use Rattle.duk_journal_copy.proofs.Results.{where_err, where_ok}
use Rattle.duk_journal_copy.proofs.WrittenDisks.{keeps_none}
use Rattle.duk_journal_copy.proofs.copy.copy_piece.Goals as goal

-- the records that are read are those of the disk
read_there : (old : DiskState) (at count : ℕ) (records piece : List ℕ) → length records ≡ 32 * count → piece ≡ range_of (32 * at) (length records) old.reads
    → (place : ℕ) → place < count → record_at place piece ≡ record_at (at + place) old.reads
read_there old at count records piece whole is place less =
    ap (record_at place) (is ∙ ap (λ (n : ℕ). range_of (32 * at) n old.reads) whole) ∙ record_in_range at count place old.reads less

pub returns-then-is_err-2-clause-failed : goal.returns-then-is_err-2-clause-failed
returns-then-is_err-2-clause-failed g c =
    let old = g.D.Disk.meaning.state_of c.args.old.now in
    let from = c.args.from in
    let none = where_err _ c.convert_records.result (sym c.if-is_err-2.ensures.value) c.convert_records.ensures.not_all in
    record {
      nature = c.read_at.ensures.nature;
      bytes = c.read_at.ensures.bytes;
      new_nature = keeps_none (g.E.Disk.meaning.state_of c.args.new.now);
      cause = λ h. (
        none.0,
        none.1,
        λ followers entry has.
            none.2 followers entry
            (subst (λ (r : List ℕ). HasContents (format_of c.args.version) from.identity (from.place + none.0) followers entry r)
            (sym (read_there old from.place c.args.count c.args.records.now c.read_at.new.bytes c.requires.whole
            (where_ok _ c.read_at.result (sym c.if-is_err.ensures.value) c.read_at.ensures.read h) none.0 none.1)) has),
      );
    }

pub returns-in-Ok-clause-copied : goal.returns-in-Ok-clause-copied
returns-in-Ok-clause-copied g c =
    let old = g.D.Disk.meaning.state_of c.args.old.now in
    let from = c.args.from in
    let records = c.convert_records.new.records in
    let converted = where_ok _ c.convert_records.result (sym c.if-is_err-2.ensures.value) c.convert_records.ensures.converted in
    record {
      stays = record {
        nature = c.read_at.ensures.nature;
        no_failure = where_ok _ c.read_at.result (sym c.if-is_err.ensures.value) c.read_at.ensures.no_failure;
        bytes = c.read_at.ensures.bytes;
      };
      nature = c.write_at.ensures.nature;
      no_failure = c.in-Ok.ensures.no_failure;
      copied = λ k. (
        records,
        c.convert_records.ensures.length ∙ c.read_at.ensures.length ∙ c.requires.whole,
        λ h place less.
            subst (λ (r : List ℕ). IsConverted c.args.version (spot_behind from place) (spot_behind c.args.to place) r (record_at place records))
            (read_there old from.place c.args.count c.args.records.now c.read_at.new.bytes c.requires.whole
            (where_ok _ c.read_at.result (sym c.if-is_err.ensures.value) c.read_at.ensures.read h) place less)
            (converted.each place less),
        c.in-Ok.ensures.written k,
      );
    }
