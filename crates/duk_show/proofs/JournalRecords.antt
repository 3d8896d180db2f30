-- The records of a journal, one after another.
use Rattle.std.proofs.Common.{◌≡◌, ◌≢◌, ◌⊎◌, ◌+◌, ◌-◌, ◌*◌, ◌/◌, ◌%◌, ◌<◌, ◌≤◌, ◌∷◌, ◌++◌, [], inl, inr, ℕ, zero, suc, List, Contains, length, drop, take, refl, sym, subst, ap, ◌∙◌, length-append, arith}
use Rattle.std.proofs.lemmas.Bool.{cases_lt}
use Rattle.std.proofs.lemmas.List.{drop_all}
use Rattle.duk_journal.specs.Groups.{Entries}
use Rattle.duk_journal.specs.RecordFormat.{IsOpen, after_gate, record_at}
use Rattle.duk_journal.specs.Standing.{UseNewNumbers, used_by}
use Rattle.duk_journal.specs.declared.entry.Entry.{Entry}
use Rattle.duk_journal_copy.specs.Version.{format_of}
use Rattle.duk_store.specs.Format.{IsFormat}
use Rattle.duk_show.specs.Journal.{BeginsJournal, GoesOn, IsCutRecord, IsJournal, IsJournalRefused, StandFrom}
use Rattle.duk_show.specs.Stored.{HasContents, IsStored, stored_record}
use Rattle.duk_show.specs.declared.fault.ShowFault.{ShowFault}
use Rattle.duk_show.specs.declared.fault.ShowFault.TheVariants.{JournalRefused, OutOfMemory}
use Rattle.duk_show.specs.declared.stored.Stored.{Stored}
use Rattle.duk_show.specs.inner.Journal.{AreClosedBetween, AreCutAt, AreGroups, AreNoGroups, IsLeftAfter, IsNextIn, IsNoneNext, IsNotNew, IsOpenAt, IsRecordNotTaken, IsRecordTaken}
use Rattle.duk_show.proofs.JournalNumbers.{new_number}
use Rattle.duk_show.proofs.StoredRecords.{AreClosedIn, AreKeptIn, HeadedIsTwo, journal_cut, journal_kept, kept_by_journal}

-- a record as it is cut out of the bytes
pub same_record : (bytes : List ℕ) (place : ℕ) → take ((32 * place + 32) - 32 * place) (drop (32 * place) bytes) ≡ record_at place bytes
same_record bytes place =
    let width : (32 * place + 32) - 32 * place ≡ 32 = omega arith in
    ap (λ (n : ℕ). take n (drop (32 * place) bytes)) width

-- a record says one thing at most
abbrev pub OneContents : Stored → Type 0
OneContents stored =
    (place followers others : ℕ) (one two : Entry) (record_bytes : List ℕ) → HasContents stored place followers one record_bytes → HasContents stored place others two record_bytes → (followers ≡ others) × (one ≡ two)

pub one_contents : (stored : Stored) → IsFormat (format_of stored.version) → OneContents stored
one_contents stored is place followers others one two record_bytes has also =
    is.one_reading stored.identity ((format_of stored.version).headers + place) followers others one two (after_gate record_bytes) has also

module _ (stored : Stored) where
  -- ---- entries that stand

  -- one more, in the last record
  last_stands : (l place left followers more : ℕ) (p : Entry) → l ≡ left → (left ≡ 0 → IsOpen (stored_record place stored)) → IsNextIn stored place left followers p (stored_record place stored) → IsLeftAfter left followers more
      → StandFrom (p ∷ []) l place more stored
  last_stands zero place left followers more p same first next after = (followers, first (sym same), next.contents, sym (after.first (sym same)))
  last_stands (suc l) place left followers more p same first next after =
      let inside = next.inside (omega (arith, same)) in
      (inside.0, subst (λ (n : ℕ). HasContents stored place n p (stored_record place stored)) inside.1 next.contents, omega (arith, same, after.inside (omega (arith, same))))

  stand_more : (entries : Entries) (l place left followers more : ℕ) (p : Entry) → StandFrom entries l place left stored
      → (left ≡ 0 → IsOpen (stored_record (place + length entries) stored)) → IsNextIn stored (place + length entries) left followers p (stored_record (place + length entries) stored) → IsLeftAfter left followers more
      → StandFrom (entries ++ p ∷ []) l place more stored
  stand_more [] l place left followers more p same first next after =
      let here : place + 0 ≡ place = omega arith in
      last_stands l place left followers more p same (λ none. subst (λ (n : ℕ). IsOpen (stored_record n stored)) here (first none))
      (subst (λ (n : ℕ). IsNextIn stored n left followers p (stored_record n stored)) here next) after
  stand_more (q ∷ entries) zero place left followers more p stand first next after =
      let there : place + length (q ∷ entries) ≡ (place + 1) + length entries = omega arith in (
        stand.0,
        stand.1,
        stand.2,
        stand_more entries stand.0 (place + 1) left followers more p stand.3 (λ none. subst (λ (n : ℕ). IsOpen (stored_record n stored)) there (first none))
            (subst (λ (n : ℕ). IsNextIn stored n left followers p (stored_record n stored)) there next) after,
      )
  stand_more (q ∷ entries) (suc l) place left followers more p stand first next after =
      let there : place + length (q ∷ entries) ≡ (place + 1) + length entries = omega arith in (
        stand.0,
        stand.1,
        stand_more entries l (place + 1) left followers more p stand.2 (λ none. subst (λ (n : ℕ). IsOpen (stored_record n stored)) there (first none))
            (subst (λ (n : ℕ). IsNextIn stored n left followers p (stored_record n stored)) there next) after,
      )

  -- where all behind whole groups is closed, they are kept
  stand_kept : (entries : Entries) (l place : ℕ) → StandFrom entries l place 0 stored → AreClosedIn (place + length entries) stored → AreKeptIn entries l place stored
  stand_kept [] zero place same closed = λ later past. closed later (omega (arith, past))
  stand_kept [] (suc l) place same closed = absurd (omega (arith, same))
  stand_kept (q ∷ entries) zero place stand closed =
      (stand.0, stand.1, stand.2, stand_kept entries stand.0 (place + 1) stand.3 (λ later past. closed later (omega (arith, past))))
  stand_kept (q ∷ entries) (suc l) place stand closed =
      (stand.0, stand.1, stand_kept entries l (place + 1) stand.2 (λ later past. closed later (omega (arith, past))))

  -- ---- the next record of a journal

  next_goes : (place left : ℕ) (entries rest : Entries) → BeginsJournal place left entries stored → UseNewNumbers (entries ++ rest) → AreKeptIn rest left (length entries) stored
      → GoesOn stored place left entries (stored_record place stored)
  next_goes place zero entries [] begins usable closed = inl (closed place begins.within)
  next_goes place zero entries (p ∷ rest) begins usable keeps = elim (cases_lt (length entries) place) [
    | inl behind ↦ absurd (begins.closed (length entries) (omega arith) behind keeps.1)
    | inr here ↦
        let same : length entries ≡ place = omega (arith, here, begins.within) in
        inr (same, keeps.0, record { entry = p; contents = subst (λ (n : ℕ). HasContents stored n keeps.0 p (stored_record n stored)) same keeps.2; is_new = new_number entries rest p usable })
  ]
  next_goes place (suc left) entries [] begins usable keeps = absurd keeps
  next_goes place (suc left) entries (p ∷ rest) begins usable keeps = elim (cases_lt (length entries) place) [
    | inl behind ↦ absurd (omega (arith, begins.whole behind))
    | inr here ↦
        let same : length entries ≡ place = omega (arith, here, begins.within) in (
          subst (λ (n : ℕ). ¬ IsOpen (stored_record n stored)) same keeps.0,
          record { entry = p; contents = subst (λ (n : ℕ). HasContents stored n 0 p (stored_record n stored)) same keeps.1; is_new = new_number entries rest p usable },
        )
  ]

  -- ---- a record that is taken

  pub taken : (place left more : ℕ) (old new : Entries) → BeginsJournal place left old stored → length old ≡ place → (left ≡ 0 → IsOpen (stored_record place stored)) → IsRecordTaken stored left (stored_record place stored) old new more
      → UseNewNumbers new → BeginsJournal (place + 1) more new stored × (length new ≡ place + 1)
  taken place left more old new begins size first is usable =
      let here : 0 + length old ≡ place = omega (arith, size) in
      let next : IsNextIn stored place left is.followers is.entry (stored_record place stored) =
      subst (λ (n : ℕ). IsNextIn stored n left is.followers is.entry (stored_record place stored)) size is.next in
      let size_now : length new ≡ place + 1 = omega (arith, ap length is.taken.taken, length-append old (is.entry ∷ []), size) in
      let stand = stand_more old 0 0 left is.followers more is.entry begins.stand (λ none. subst (λ (n : ℕ). IsOpen (stored_record n stored)) (sym here) (first none))
      (subst (λ (n : ℕ). IsNextIn stored n left is.followers is.entry (stored_record n stored)) (sym here) next) is.left_after in (
        record {
          within = omega (arith, size_now);
          stand = subst (λ (entries : Entries). StandFrom entries 0 0 more stored) (sym is.taken.taken) stand;
          usable = usable;
          closed = λ other least below. absurd (omega (arith, size_now, least, below));
          whole = λ less. absurd (omega (arith, size_now, less));
        },
        size_now,
      )

  -- no record of a journal stands where none can
  pub none_next : (place left : ℕ) (entries : Entries) (r : List ℕ) → place ≡ length entries → (left ≡ 0 → IsOpen r) → IsNoneNext stored place left r
      → (place ≡ length entries) × (¬ GoesOn stored (length entries) left entries r)
  none_next place left entries r size first none = (size, never left first (subst (λ (n : ℕ). IsNoneNext stored n left r) size none))
    where
      never : (left : ℕ) → (left ≡ 0 → IsOpen r) → IsNoneNext stored (length entries) left r → ¬ GoesOn stored (length entries) left entries r
      never zero first none (inl closed) = closed (first refl)
      never zero first none (inr (same, followers, other)) = none followers other.entry (record { contents = other.contents; inside = λ some. absurd (omega (arith, some)) })
      never (suc left) first none (closed, other) = none 0 other.entry (record { contents = other.contents; inside = λ some. (closed, refl) })

  -- ---- the end of a journal

  -- behind the last record there is nothing
  past_end : (place : ℕ) → length stored.records.now ≤ 32 * place → stored_record place stored ≡ []
  past_end place short = ap (λ (l : List ℕ). take 32 l) (drop_all (32 * place) stored.records.now short)

  not_open : (r : List ℕ) → r ≡ [] → ¬ IsOpen r
  not_open r none is_open = absurd (omega (arith, subst (λ (l : List ℕ). IsOpen l) none is_open))

  -- behind whole groups
  pub begins_behind : (entries : Entries) (place : ℕ) → AreGroups stored entries → length entries ≤ place → AreClosedBetween (length entries) place stored.records.now → BeginsJournal place 0 entries stored
  begins_behind entries place groups behind closed = record {
    within = behind;
    stand = groups.begins.stand;
    usable = groups.begins.usable;
    closed = closed;
    whole = λ less. refl;
  }

  -- all of it is a journal
  pub all_kept : (bytes : List ℕ) → IsStored bytes stored → (entries : Entries) → AreGroups stored entries → AreClosedBetween (length entries) (length stored.records.now / 32) stored.records.now
      → bytes ≢ [] → length stored.records.now % 32 ≡ 0 → IsJournal bytes entries
  all_kept bytes are entries groups closed some whole =
      journal_kept bytes stored are entries some whole
      (stand_kept entries 0 0 groups.begins.stand (λ later past. elim (cases_lt later (length stored.records.now / 32)) [
        | inl inside ↦ closed later (omega (arith, past)) inside
        | inr behind ↦ not_open (stored_record later stored) (past_end later (omega (arith, whole, behind)))
      ]))
      groups.begins.usable

  module _ (is_format : IsFormat (format_of stored.version)) where
    one : OneContents stored
    one = one_contents stored is_format

    -- nothing stands behind the bytes
    whole_contents : (place followers : ℕ) (entry : Entry) (r : List ℕ) → r ≡ [] → ¬ HasContents stored place followers entry r
    whole_contents place followers entry r none has =
        let short : length (after_gate r) ≡ 0 = ap (λ (l : List ℕ). length (drop 1 l)) none in
        omega (arith, short, is_format.has_contents, is_format.whole stored.identity ((format_of stored.version).headers + place) followers entry (after_gate r) has)

    -- a list that is kept goes on with the entries that stand
    rest_kept : (entries all : Entries) (l place left : ℕ) → StandFrom entries l place left stored → AreKeptIn all l place stored
        → (rest : Entries) × (all ≡ entries ++ rest) × AreKeptIn rest left (place + length entries) stored
    rest_kept [] all l place left same keeps =
        let here : place ≡ place + 0 = omega arith in
        (all, refl, subst (λ (n : ℕ). AreKeptIn all left n stored) here (subst (λ (n : ℕ). AreKeptIn all n place stored) same keeps))
    rest_kept (p ∷ entries) [] zero place left stand keeps = absurd (keeps place (omega arith) stand.1)
    rest_kept (p ∷ entries) [] (suc l) place left stand keeps = absurd keeps
    rest_kept (p ∷ entries) (q ∷ all) zero place left stand keeps =
        let same = one place stand.0 keeps.0 p q (stored_record place stored) stand.2 keeps.2 in
        let there : (place + 1) + length entries ≡ place + length (p ∷ entries) = omega arith in
        let rest = rest_kept entries all stand.0 (place + 1) left stand.3 (subst (λ (n : ℕ). AreKeptIn all n (place + 1) stored) (sym same.0) keeps.3) in
        (rest.0, ap (λ (x : Entry). x ∷ all) (sym same.1) ∙ ap (λ (l : Entries). p ∷ l) rest.1, subst (λ (n : ℕ). AreKeptIn rest.0 left n stored) there rest.2)
    rest_kept (p ∷ entries) (q ∷ all) (suc l) place left stand keeps =
        let same = one place 0 0 p q (stored_record place stored) stand.1 keeps.1 in
        let there : (place + 1) + length entries ≡ place + length (p ∷ entries) = omega arith in
        let rest = rest_kept entries all l (place + 1) left stand.2 keeps.2 in
        (rest.0, ap (λ (x : Entry). x ∷ all) (sym same.1) ∙ ap (λ (l : Entries). p ∷ l) rest.1, subst (λ (n : ℕ). AreKeptIn rest.0 left n stored) there rest.2)

    -- ---- a record that is not taken

    pub not_new : (left followers : ℕ) (entries : Entries) (entry : Entry) (r : List ℕ) (fault : ShowFault) → IsNextIn stored (length entries) left followers entry r → (left ≡ 0 → IsOpen r) → IsNotNew entries entry fault
        → IsRecordNotTaken stored left r entries fault
    not_new left followers entries entry r (JournalRefused place) next first known = (known.0, never left next first)
      where
        never : (left : ℕ) → IsNextIn stored (length entries) left followers entry r → (left ≡ 0 → IsOpen r) → ¬ GoesOn stored (length entries) left entries r
        never zero next first (inl closed) = closed (first refl)
        never zero next first (inr (same, others, other)) =
            let is = one (length entries) others followers other.entry entry r other.contents next.contents in
            other.is_new (subst (λ (p : Entry). Contains (used_by entries) p.number) (sym is.1) known.1)
        never (suc left) next first (closed, other) =
            let is = one (length entries) 0 followers other.entry entry r other.contents next.contents in
            other.is_new (subst (λ (p : Entry). Contains (used_by entries) p.number) (sym is.1) known.1)
    not_new left followers entries entry r OutOfMemory next first known = tt
    not_new left followers entries entry r fault next first known = absurd known

    pub not_taken : (place left : ℕ) (entries : Entries) (fault : ShowFault) → BeginsJournal place left entries stored → length entries ≡ place → place < length stored.records.now / 32
        → IsRecordNotTaken stored left (stored_record place stored) entries fault → AreNoGroups stored fault
    not_taken place left entries (JournalRefused other) begins size inside wrong =
        subst (λ (n : ℕ). AreCutAt stored n) (sym (wrong.0 ∙ size))
        (record {
          left = left;
          entries = entries;
          begins = begins;
          wrong = inr (inside, subst (λ (n : ℕ). ¬ GoesOn stored n left entries (stored_record place stored)) size wrong.1);
        })
    not_taken place left entries OutOfMemory begins size inside wrong = tt
    not_taken place left entries fault begins size inside wrong = absurd wrong

    -- ---- bytes that are those of no journal

    module _ (headed : HeadedIsTwo) (bytes : List ℕ) (are : IsStored bytes stored) where
      goes_on : (place left : ℕ) (entries all : Entries) → BeginsJournal place left entries stored → IsJournal bytes all → GoesOn stored place left entries (stored_record place stored)
      goes_on place left entries all begins is =
          let rest = rest_kept entries all 0 0 left begins.stand (kept_by_journal bytes stored are headed all is) in
          let here : 0 + length entries ≡ length entries = omega arith in
          next_goes place left entries rest.0 begins (subst (λ (all : Entries). UseNewNumbers all) rest.1 is.usable)
          (subst (λ (n : ℕ). AreKeptIn rest.0 left n stored) here rest.2)

      -- no journal has a record that is wrong
      pub damaged : (place left : ℕ) (entries : Entries) → BeginsJournal place left entries stored → IsCutRecord place bytes stored ⊎ ¬ GoesOn stored place left entries (stored_record place stored)
          → IsJournalRefused bytes (JournalRefused place)
      damaged place left entries begins wrong = (
        record { stored = stored; stored_are = are; left = left; entries = entries; begins = begins; wrong = wrong },
        λ all is. elim wrong [
          | inl cut ↦ journal_cut bytes stored are place all cut is
          | inr never ↦ never (goes_on place left entries all begins is)
        ],
      )

      -- a group that goes past the end
      no_contents : (place left : ℕ) (entries : Entries) → 1 ≤ left → stored_record place stored ≡ [] → ¬ GoesOn stored place left entries (stored_record place stored)
      no_contents place zero entries some none goes = absurd (omega (arith, some))
      no_contents place (suc left) entries some none goes = whole_contents place 0 goes.1.entry (stored_record place stored) none goes.1.contents

      cut_group : (place left : ℕ) (entries : Entries) → BeginsJournal place left entries stored → 1 ≤ left → place ≡ length stored.records.now / 32 → IsJournalRefused bytes (JournalRefused place)
      cut_group place left entries begins some end = damaged place left entries begins (elim (cases_lt (32 * place) (length stored.records.now)) [
        | inl cut ↦ inl (record { begins = omega (arith, cut); ends = omega (arith, end); some = λ same. absurd (omega (arith, same, cut)) })
        | inr all ↦ inr (no_contents place left entries some (past_end place all))
      ])

      pub no_groups : (fault : ShowFault) → AreNoGroups stored fault → IsJournalRefused bytes fault
      no_groups (JournalRefused place) cut = elim cut.wrong [
        | inl ends ↦ cut_group place cut.left cut.entries cut.begins ends.1 ends.0
        | inr other ↦ damaged place cut.left cut.entries cut.begins (inr other.1)
      ]
      no_groups OutOfMemory cut = tt
      no_groups fault cut = absurd cut

      -- an open record behind the groups
      pub open_behind : (entries : Entries) (place : ℕ) → AreGroups stored entries → IsOpenAt (length entries) stored.records.now place → IsJournalRefused bytes (JournalRefused place)
      open_behind entries place groups found =
          damaged place 0 entries (begins_behind entries place groups found.behind found.closed) (inr never)
        where
          never : ¬ GoesOn stored place 0 entries (stored_record place stored)
          never (inl closed) = closed found.is_open
          never (inr (same, followers, other)) = groups.ends (omega (arith, same, found.inside)) (subst (λ (n : ℕ). IsOpen (stored_record n stored)) (sym same) found.is_open)

      -- a record in which the bytes end, behind closed ones
      pub cut_behind : (entries : Entries) → AreGroups stored entries → AreClosedBetween (length entries) (length stored.records.now / 32) stored.records.now
          → (length stored.records.now % 32 ≡ 0 → bytes ≡ []) → IsJournalRefused bytes (JournalRefused (length stored.records.now / 32))
      cut_behind entries groups closed none =
          let records : ℕ = length stored.records.now / 32 in
          damaged records 0 entries (begins_behind entries records groups groups.within closed)
          (inl (record { begins = omega arith; ends = omega arith; some = λ same. none (omega (arith, same)) }))
