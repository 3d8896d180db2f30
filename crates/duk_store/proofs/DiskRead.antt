-- The records of a disk, read by pieces.
use Rattle.std.proofs.Common.{◌≡◌, ◌⊎◌, inl, inr, ℕ, ◌+◌, ◌-◌, ◌*◌, ◌/◌, ◌≤◌, List, [], ◌++◌, length, refl, sym, ◌∙◌, ap, subst, arith}
use Rattle.duk_store.specs.Disk.{DiskState, HasFailed}
use Rattle.duk_store.specs.declared.fault.StoreFault.{StoreFault}
use Rattle.duk_store.specs.declared.fault.StoreFault.TheVariants.{Damaged}
use Rattle.duk_store.specs.Format.{FormatMeaning}
use Rattle.duk_store.specs.Records.{AreListed}
use Rattle.duk_store.specs.inner.Reading.{HasRead, IsUnreadable, ListsNone, ReadsOn, kept_in}
use Rattle.duk_store.specs.inner.RecordSteps.{AreAllRead, AreRecordsRead, IsReadFrom, RecordsUnread, StaysSame}
use Rattle.duk_store.specs.declared.reading.Reading.{Reading}
use Rattle.duk_store.specs.declared.reading.Reading.TheVariants.{Groups}
use Rattle.duk_store.proofs.Places.{inside_size}
use Rattle.duk_store.proofs.ReadInTurn.{reads_on, unread_on}
use Rattle.duk_store.proofs.RecordsRead.{nothing_read}
use Rattle.duk_store.proofs.StepsInTurn.{bytes_on, fails_later, keeps_on}

pub same_self : (disk : DiskState) → StaysSame disk disk
same_self disk = record {
  nature = record { honest = ((λ h. h), (λ h. h)); size = refl; calm = λ calm. calm; disarmed = λ disarmed. disarmed };
  no_failure = refl;
  bytes = record { reads = refl; may_leave = λ bytes. ((λ left. left), (λ left. left)) };
}

pub same_on : (old mid new : DiskState) → StaysSame old mid → StaysSame mid new → StaysSame old new
same_on old mid new one two = record {
  nature = keeps_on old mid new one.nature two.nature;
  no_failure = two.no_failure ∙ one.no_failure;
  bytes = bytes_on old mid new one.bytes two.bytes;
}

module _ {I V : Type 0} (format : FormatMeaning I) (takes : V → I → V → Type 0) (old mid : DiskState) (place : ℕ) (visitor seen : V) (reading : Reading) (above : format.headers ≤ place) (same : StaysSame old mid)
    (reads : ReadsOn format takes (Groups 0 0) (place - format.headers) (IsReadFrom old format.headers) visitor seen reading) where
  there : (at : ℕ) (bytes : List ℕ) → IsReadFrom old format.headers at bytes → IsReadFrom mid place (at + (place - format.headers)) bytes
  there at bytes stands = (same.nature.honest.0 stands.0, (omega (arith, stands.1.0, above), stands.1.1 ∙ sym same.bytes.reads))

  -- one more piece is read
  pub piece_read : (count : ℕ) (new : DiskState) (visited : V) (after : Reading) → AreRecordsRead format takes place count reading mid new seen visited after
      → ReadsOn format takes (Groups 0 0) (place + count - format.headers) (IsReadFrom old format.headers) visitor visited after
  piece_read count new visited after more =
      let sum : place - format.headers + count ≡ place + count - format.headers = omega (arith, above) in
      subst (λ (n : ℕ). ReadsOn format takes (Groups 0 0) n (IsReadFrom old format.headers) visitor visited after) sum
      (reads_on format takes (Groups 0 0) reading (place - format.headers) (IsReadFrom old format.headers) (IsReadFrom mid place) visitor seen reads there count visited after more.reads)

  pub piece_unread : (refuses : V → I → StoreFault → Type 0) (new : DiskState) (why : StoreFault) → RecordsUnread format takes refuses place reading mid new seen why → RecordsUnread format takes refuses format.headers (Groups 0 0) old new visitor why
  piece_unread refuses new why failed = record {
    nature = keeps_on old mid new same.nature failed.nature;
    bytes = bytes_on old mid new same.bytes failed.bytes;
    cause = cause failed.cause;
  }
    where
      cause : HasFailed mid new why ⊎ ((new.failures ≡ mid.failures) × IsUnreadable format takes refuses reading (IsReadFrom mid place) seen why)
          → HasFailed old new why ⊎ ((new.failures ≡ old.failures) × IsUnreadable format takes refuses (Groups 0 0) (IsReadFrom old format.headers) visitor why)
      cause (inl device) = inl (fails_later old mid new why same.nature same.no_failure device)
      cause (inr wrong) = inr (
        wrong.0 ∙ same.no_failure,
        unread_on format takes (Groups 0 0) reading (place - format.headers) (IsReadFrom old format.headers) (IsReadFrom mid place) visitor seen reads there refuses why wrong.1,
      )

  -- all records were read
  has_read : old.honest → HasRead format reading reads.items place old.reads
  has_read h =
      let end : format.headers + (place - format.headers) ≡ place = omega (arith, above) in
      subst (λ (at : ℕ). HasRead format reading reads.items at old.reads) end (reads.read [] format.headers old.reads (h, (refl, refl)) (nothing_read format old.reads))

  module _ (whole : old.honest → length old.reads ≡ format.record_length * place) where
    pub all_taken : (count : ℕ) → count ≡ kept_in reading → place ≤ old.size / format.record_length
        → ((items : List I) (records : ℕ) (bytes : List ℕ) → length bytes ≡ format.record_length * records → HasRead format reading items records bytes → AreListed format items bytes)
        → AreAllRead format takes old mid visitor seen count
    all_taken count is within listed = record {
      stays = same;
      items = reads.items;
      taken = reads.taken;
      counted = omega (arith, is, reads.kept);
      fits = inside_size format.record_length (format.headers + count) old.size (omega (arith, within, above, is, reads.kept, reads.most));
      listed = λ h. listed reads.items place old.reads (whole h) (has_read h);
    }

    pub none_listed : (refuses : V → I → StoreFault → Type 0) (why : StoreFault)
        → (why ≡ Damaged) × ((items : List I) (records : ℕ) (bytes : List ℕ) → length bytes ≡ format.record_length * records → HasRead format reading items records bytes → ListsNone format bytes)
        → RecordsUnread format takes refuses format.headers (Groups 0 0) old mid visitor why
    none_listed refuses why refused = record {
      nature = same.nature;
      bytes = same.bytes;
      cause = inr (
        same.no_failure,
        inl (
          refused.0,
          λ earlier at bytes stands was.
              let end : at + (place - format.headers) ≡ place = omega (arith, stands.1.0, above) in
              refused.1 (earlier ++ reads.items) place bytes (ap length stands.1.1 ∙ whole stands.0)
              (subst (λ (n : ℕ). HasRead format reading (earlier ++ reads.items) n bytes) end (reads.read earlier at bytes stands was)),
        ),
      );
    }
