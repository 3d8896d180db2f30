use Rattle.std.proofs.Common.{◌≡◌, ◌∙◌, ◌+◌, ◌*◌, ◌-◌, ◌≤◌, ℕ, List, ap, arith, drop, length, length-drop, subst, sym, take}
use Rattle.std.proofs.lemmas.List.{length-take-le}
use borrow.Author.Count.{below_more}
use borrow.Rule.Slice.PartMut.{put_mid}
use Rattle.duk_journal.specs.RecordFormat.{record_at}
use Rattle.duk_journal.specs.declared.entry.Entry.{Entry}
use Rattle.duk_store.specs.Records.{HasContents}
use Rattle.duk_journal_copy.specs.Version.{format_of}
use Rattle.duk_journal_copy.specs.declared.convert.Spot.{Spot}
use Rattle.duk_journal_copy.specs.inner.Convert.{IsConverted, spot_behind}
use Rattle.duk_journal_copy.proofs.RecordPlaces.{record_after, record_before, record_put}
use Rattle.duk_journal_copy.proofs.Results.{always_err}
use Rattle.duk_journal_copy.proofs.convert.convert_records.Goals as goal

pub loop-index-preserved : goal.loop-index-preserved
loop-index-preserved c =
    let i = c.loop-index.index in
    let records : List ℕ = c.loop-index.records in
    let new : List ℕ = c.convert.new.record in
    let k = 32 * i + 32 - 32 * i in
    let same : k ≡ 32 = omega arith in
    let part : List ℕ = take k (drop (32 * i) records) in
    let put : List ℕ = put_mid (32 * i) k records new in
    let inside : 32 * i + 32 ≤ length records = omega (arith, c.loop-index-test.true, c.loop-index.auto.records, c.requires.whole) in
    let part_short : part ≡ record_at i records = ap (λ (n : ℕ). take n (drop (32 * i) records)) same in
    let part_is : part ≡ record_at i c.args.records.now = part_short ∙ c.loop-index.invariant.behind i (omega arith) in
    let long : length new ≡ 32 =
    c.convert.ensures.length ∙ ap length part_short
    ∙ length-take-le 32 (drop (32 * i) records) (omega (arith, length-drop (32 * i) records, inside)) in
    let from_here : Spot = spot_behind c.args.from i in
    let to_here : Spot = spot_behind c.args.to i in
    let one : IsConverted c.args.version from_here to_here (record_at i c.args.records.now) (record_at i put) =
    subst (λ (x : List ℕ). IsConverted c.args.version from_here to_here x (record_at i put)) part_is
    (subst (λ (y : List ℕ). IsConverted c.args.version from_here to_here part y) (sym (record_put i k records new inside same long))
    (subst (λ (s : Spot). IsConverted c.args.version from_here s part new) c.behind-in-loop-index.ensures
    (subst (λ (s : Spot). IsConverted c.args.version s c.behind-in-loop-index.result part new) c.behind.ensures c.in_ok-convert.ensures.converted))) in
    record {
      below =
          below_more (λ p. IsConverted c.args.version (spot_behind c.args.from p) (spot_behind c.args.to p) (record_at p c.args.records.now) (record_at p put)) i
          (λ p h. subst (λ (y : List ℕ). IsConverted c.args.version (spot_behind c.args.from p) (spot_behind c.args.to p) (record_at p c.args.records.now) y)
          (sym (record_before i k records new inside same long p h)) (c.loop-index.invariant.below p h))
          one;
      behind = λ place more.
          record_after i k records new inside same long place (omega (arith, more)) ∙ c.loop-index.invariant.behind place (omega (arith, more));
    }

pub returns-in_err-convert-clause-not_all : goal.returns-in_err-convert-clause-not_all
returns-in_err-convert-clause-not_all c =
    let i = c.loop-index.index in
    let records : List ℕ = c.loop-index.records in
    let k = 32 * i + 32 - 32 * i in
    let same : k ≡ 32 = omega arith in
    let part : List ℕ = take k (drop (32 * i) records) in
    let part_is : part ≡ record_at i c.args.records.now =
    ap (λ (n : ℕ). take n (drop (32 * i) records)) same ∙ c.loop-index.invariant.behind i (omega arith) in
    let none : (followers : ℕ) (entry : Entry) → ¬ HasContents (format_of c.args.version) c.args.from.identity (c.args.from.place + i) followers entry part =
    subst (λ (s : Spot). (followers : ℕ) (entry : Entry) → ¬ HasContents (format_of c.args.version) s.identity s.place followers entry part)
    c.behind.ensures c.in_err-convert.ensures.none in
    always_err _ c.from_residual.result (
      i,
      c.loop-index-test.true,
      λ followers entry has. none followers entry
          (subst (λ (x : List ℕ). HasContents (format_of c.args.version) c.args.from.identity (c.args.from.place + i) followers entry x) (sym part_is) has),
    )

pub returns-clause-converted : goal.returns-clause-converted
returns-clause-converted c = record {
  same_length = c.loop-index.auto.records;
  each = λ place less. c.loop-index.invariant.below place (omega (arith, less, c.loop-index-test.false));
}
