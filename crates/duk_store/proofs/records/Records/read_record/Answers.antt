use Rattle.std.proofs.Common.{◌≡◌, ◌+◌, ◌<◌, ℕ, List, true, Some, length, ap, subst, sym}
use Rattle.duk_store.specs.DiskRecords.{RecordsOf, are_running, count_in, records_meaning}
use Rattle.duk_store.specs.Listed.{IsItemRead}
use Rattle.duk_store.specs.Records.{HasContents, identity_in, record_at}
use Rattle.duk_store.specs.inner.RecordSteps.{KnowsRecords}
use Rattle.duk_store.proofs.RecordsOnDisk.{item_read}
use Rattle.duk_store.proofs.records.Records.read_record.Goals as goal

-- the place is that of an item that is kept
kept_place : {D F : Type 0} (old now : RecordsOf D F) (count place : ℕ) → old ≡ now → old.kept ≡ Some count → (are_running now.kept ≡ true → place < count_in now.kept) → place < count
kept_place old now count place same is asked =
    let less = subst (λ records. are_running records.kept ≡ true → place < count_in records.kept) (sym same) asked in subst (λ kept. place < count_in kept) is (less (ap are_running is))

-- the record, by the length and the headers of the format
same_record : (given long told headers place : ℕ) (reads bytes : List ℕ) → given ≡ long → told ≡ headers → bytes ≡ record_at given (told + place) reads → bytes ≡ record_at long (headers + place) reads
same_record given long told headers place reads bytes length_is headers_is is =
    subst (λ (at : ℕ). bytes ≡ record_at long (at + place) reads) headers_is (subst (λ (l : ℕ). bytes ≡ record_at l (told + place) reads) length_is is)

pub returns-clause-read : goal.returns-clause-read
returns-clause-read g c =
    let m = g.D.Disk.meaning in
    let own = c.self.inside in
    let format = g.F.Format.meaning own.format in
    let reads = (m.state_of own.disk).reads in
    let count = c.in-Some.count in
    let place = c.args.place in
    let new = c.read_record.new in
    let knows = subst (λ kept. KnowsRecords format own.identity (m.state_of own.disk) kept) c.in-Some.is c.self.invariant.1 in
    let less = kept_place (record { disk = own.disk; format = own.format; kept = own.kept }) _ count place c.self.view_is c.in-Some.is c.requires.kept in
    let whole = subst (λ records. length c.args.bytes.now ≡ (g.F.Format.meaning records.format).record_length) (sym c.self.view_is) c.requires.whole in
    subst (λ records. IsItemRead (records_meaning m g.F.Format.meaning) (λ item. (followers : ℕ) × HasContents (g.F.Format.meaning records.format) (identity_in (g.F.Format.meaning records.format) (m.state_of records.disk).reads) ((g.F.Format.meaning records.format).headers + place) followers item new.bytes) records (record { disk = new.disk; format = own.format; kept = Some count }) place) c.self.view_is
    (item_read m g.F.Format.meaning own.format c.self.invariant.0 own.disk new.disk own.identity count place knows less own.kept c.in-Some.is new.bytes c.in_ok-read_record.ensures.same
    (λ h. same_record (length c.args.bytes.now) format.record_length c.headers.result format.headers place reads new.bytes whole c.headers.ensures (c.in_ok-read_record.ensures.read h)))
