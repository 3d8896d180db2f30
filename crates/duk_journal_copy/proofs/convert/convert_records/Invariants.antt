use Rattle.std.proofs.Common.{◌≡◌, ◌<◌, ◌≤◌, ℕ}
use Rattle.duk_journal.specs.RecordFormat.{record_at}
use Rattle.duk_journal_copy.specs.inner.Convert.{IsConverted, spot_behind}
use Rattle.duk_journal_copy.proofs.convert.convert_records.Given as goal

abbrev pub invariant-loop-index : goal.invariant-loop-index
invariant-loop-index l = record {
  below : (place : ℕ) → place < l.index → IsConverted l.version (spot_behind l.from place) (spot_behind l.to place) (record_at place l.fn.records) (record_at place l.records);
  behind : (place : ℕ) → l.index ≤ place → record_at place l.records ≡ record_at place l.fn.records;
}
