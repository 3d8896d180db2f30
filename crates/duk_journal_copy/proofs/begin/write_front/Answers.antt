use Rattle.std.proofs.Common.{◌≡◌, ◌∙◌, ◌-◌, ℕ, List, ap, arith, drop, inl, inr, length, length-drop, take, sym}
use Rattle.std.proofs.lemmas.Slice.{between_to_end}
use Rattle.duk_journal.specs.Header.{header_of}
use Rattle.duk_store.specs.Disk.{written}
use Rattle.duk_journal_copy.proofs.HeaderBytes.{length_in, low_length}
use Rattle.duk_journal_copy.proofs.Results.{on_both}
use Rattle.duk_journal_copy.proofs.WrittenDisks.{byte_outside, byte_then, byte_within, keeps_on, outside_then, outside_wider}
use Rattle.duk_journal_copy.proofs.WrittenLists.{header_written}
use Rattle.duk_journal_copy.proofs.begin.write_front.Goals as goal

pub returns-clause-written : goal.returns-clause-written
returns-clause-written g c =
    let old = g.D.Disk.meaning.state_of c.args.disk.now in
    let marked = g.D.Disk.meaning.state_of c.settle_byte.new.disk in
    let next = g.D.Disk.meaning.state_of c.write_at.new.self in
    let bytes : List ℕ = c.as_slice-bytes.result.now in
    let header : List ℕ = header_of c.args.kind c.args.identity in
    let is : bytes ≡ header = c.as_slice-bytes.ensures.value ∙ c.file_header-header.ensures.bytes in
    let settled = c.in_ok-settle_byte.ensures.settled in
    on_both _ _ _ c.write_at-2.result
    (λ wrote none. record {
      nature = keeps_on old next _ (keeps_on old marked next settled.nature c.write_at.ensures.nature) c.write_at-2.ensures.nature;
      no_failure = none ∙ c.in_ok-write_at.ensures.no_failure ∙ settled.no_failure;
      front = λ h.
          let h1 = settled.nature.honest.0 h in
          let h2 = c.write_at.ensures.nature.honest.0 h1 in
          let long : length old.reads ≡ old.size = g.D.Disk.leaves_its_size c.args.disk.now h old.reads (g.D.Disk.reads_may_stay c.args.disk.now h) in
          wrote h2
          ∙ ap (λ (l : List ℕ). written next.reads 16 l) (between_to_end bytes 16 (length bytes) (omega arith) ∙ ap (drop 16) is)
          ∙ ap (λ (l : List ℕ). written l 16 (drop 16 header)) (c.in_ok-write_at.ensures.written h1 ∙ ap (λ (l : List ℕ). written marked.reads 2 (take 13 (drop 2 l))) is)
          ∙ header_written old.reads marked.reads header (omega (arith, long, c.requires.room)) (c.headers.ensures.length c.args.kind c.args.identity)
          (settled.others h) (settled.is h ∙ sym (length_in c.args.kind c.args.identity));
    })
    c.write_at-2.ensures.written c.write_at-2.ensures.no_failure

pub returns-in_err-settle_byte-clause-outside : goal.returns-in_err-settle_byte-clause-outside
returns-in_err-settle_byte-clause-outside g c =
    let old = g.D.Disk.meaning.state_of c.args.disk.now in
    let marked = g.D.Disk.meaning.state_of c.settle_byte.new.disk in
    outside_wider 2 32 15 1 old marked (omega arith) (omega arith) c.settle_byte.ensures.torn

pub returns-in_err-settle_byte-clause-stays : goal.returns-in_err-settle_byte-clause-stays
returns-in_err-settle_byte-clause-stays g c right =
    let old = g.D.Disk.meaning.state_of c.args.disk.now in
    let marked = g.D.Disk.meaning.state_of c.settle_byte.new.disk in
    byte_within 15 old marked (c.settle_byte.ensures.stays right)

pub returns-in_err-write_at-clause-outside : goal.returns-in_err-write_at-clause-outside
returns-in_err-write_at-clause-outside g c =
    let old = g.D.Disk.meaning.state_of c.args.disk.now in
    let marked = g.D.Disk.meaning.state_of c.settle_byte.new.disk in
    let next = g.D.Disk.meaning.state_of c.write_at.new.self in
    let bytes : List ℕ = c.as_slice-bytes.result.now in
    let low : List ℕ = take 13 (drop 2 bytes) in
    let low_long : length low ≡ 13 = low_length bytes (ap length (c.as_slice-bytes.ensures.value ∙ c.file_header-header.ensures.bytes) ∙ c.headers.ensures.length c.args.kind c.args.identity) in
    outside_then 2 32 old marked next c.settle_byte.ensures.nature
    (outside_wider 2 32 15 1 old marked (omega arith) (omega arith) c.settle_byte.ensures.torn)
    (outside_wider 2 32 2 (length low) marked next (omega arith) (omega (arith, low_long)) c.write_at.ensures.torn)

pub returns-in_err-write_at-clause-stays : goal.returns-in_err-write_at-clause-stays
returns-in_err-write_at-clause-stays g c right =
    let old = g.D.Disk.meaning.state_of c.args.disk.now in
    let marked = g.D.Disk.meaning.state_of c.settle_byte.new.disk in
    let next = g.D.Disk.meaning.state_of c.write_at.new.self in
    let bytes : List ℕ = c.as_slice-bytes.result.now in
    let low : List ℕ = take 13 (drop 2 bytes) in
    let low_long : length low ≡ 13 = low_length bytes (ap length (c.as_slice-bytes.ensures.value ∙ c.file_header-header.ensures.bytes) ∙ c.headers.ensures.length c.args.kind c.args.identity) in
    byte_then 15 old marked next c.settle_byte.ensures.nature (byte_within 15 old marked (c.settle_byte.ensures.stays right))
    (byte_outside 15 2 (length low) marked next (inr (omega (arith, low_long))) c.write_at.ensures.torn)

pub returns-clause-outside : goal.returns-clause-outside
returns-clause-outside g c =
    let old = g.D.Disk.meaning.state_of c.args.disk.now in
    let marked = g.D.Disk.meaning.state_of c.settle_byte.new.disk in
    let next = g.D.Disk.meaning.state_of c.write_at.new.self in
    let new = g.D.Disk.meaning.state_of c.write_at-2.new.self in
    let bytes : List ℕ = c.as_slice-bytes.result.now in
    let low : List ℕ = take 13 (drop 2 bytes) in
    let high : List ℕ = take (length bytes - 16) (drop 16 bytes) in
    let is : bytes ≡ header_of c.args.kind c.args.identity = c.as_slice-bytes.ensures.value ∙ c.file_header-header.ensures.bytes in
    let low_long : length low ≡ 13 = low_length bytes (ap length is ∙ c.headers.ensures.length c.args.kind c.args.identity) in
    let high_long : length high ≡ 16 =
    ap length (between_to_end bytes 16 (length bytes) (omega arith)) ∙ length-drop 16 bytes ∙ omega (arith, ap length is, c.headers.ensures.length c.args.kind c.args.identity) in
    outside_then 2 32 old next new (keeps_on old marked next c.settle_byte.ensures.nature c.write_at.ensures.nature)
    (outside_then 2 32 old marked next c.settle_byte.ensures.nature
    (outside_wider 2 32 15 1 old marked (omega arith) (omega arith) c.settle_byte.ensures.torn)
    (outside_wider 2 32 2 (length low) marked next (omega arith) (omega (arith, low_long)) c.write_at.ensures.torn))
    (outside_wider 2 32 16 (length high) next new (omega arith) (omega (arith, high_long)) c.write_at-2.ensures.torn)

pub returns-clause-stays : goal.returns-clause-stays
returns-clause-stays g c right =
    let old = g.D.Disk.meaning.state_of c.args.disk.now in
    let marked = g.D.Disk.meaning.state_of c.settle_byte.new.disk in
    let next = g.D.Disk.meaning.state_of c.write_at.new.self in
    let new = g.D.Disk.meaning.state_of c.write_at-2.new.self in
    let bytes : List ℕ = c.as_slice-bytes.result.now in
    let low : List ℕ = take 13 (drop 2 bytes) in
    let high : List ℕ = take (length bytes - 16) (drop 16 bytes) in
    let low_long : length low ≡ 13 = low_length bytes (ap length (c.as_slice-bytes.ensures.value ∙ c.file_header-header.ensures.bytes) ∙ c.headers.ensures.length c.args.kind c.args.identity) in
    byte_then 15 old next new (keeps_on old marked next c.settle_byte.ensures.nature c.write_at.ensures.nature)
    (byte_then 15 old marked next c.settle_byte.ensures.nature (byte_within 15 old marked (c.settle_byte.ensures.stays right))
    (byte_outside 15 2 (length low) marked next (inr (omega (arith, low_long))) c.write_at.ensures.torn))
    (byte_outside 15 16 (length high) next new (inl (omega arith)) c.write_at-2.ensures.torn)
