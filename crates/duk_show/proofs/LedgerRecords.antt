-- The records of a ledger.
use Rattle.std.proofs.Common.{◌≡◌, ◌≢◌, ◌∙◌, inl, inr, ◌+◌, ◌-◌, ◌*◌, ◌/◌, ◌%◌, ◌<◌, ◌≤◌, ◌++◌, ℕ, suc, List, [], ◌∷◌, ap, arith, drop, get_or, length, refl, subst, sym, take}
use Rattle.std.proofs.lemmas.Bool.{cases_eq, cases_lt}
use Rattle.std.proofs.lemmas.List.{append-nil, drop-take, drop_all, length-take, length-take-le, take-take, take_all}
use Rattle.duk_journal.specs.Header.{IsHeader, identity_of}
use Rattle.std.proofs.lemmas.List.Elements.{All-cons, All-nil}
use Rattle.std.specs.List.{All}
use Rattle.duk_ledger.specs.Issued.{AreFields, Issues}
use Rattle.duk_ledger.specs.IssuedFormat.{SaysIssued, issued_format, ledger_kind}
use Rattle.duk_ledger.specs.declared.issued.Issued.{Issued}
use Rattle.duk_store.specs.Records.{AreClosedFrom, AreKeptFrom, IsOpen, after_gate, identity_in, record_at}
use Rattle.duk_show.specs.Ledger.{IsLedger, IsLedgerDamagedAt}
use Rattle.duk_show.specs.inner.Journal.{AreClosedBetween}
use Rattle.duk_show.specs.inner.Ledger.{AreOpenIssues, IsHeaded}

-- ---- what is kept

-- an open record has an issue
open_has : (items : Issues) (place : ℕ) (b : List ℕ) (k : ℕ) → AreKeptFrom issued_format items 0 place b → place ≤ k → IsOpen (record_at 32 k b)
    → (issue : Issued) × SaysIssued (identity_in issued_format b) k 0 issue (after_gate (record_at 32 k b))
open_has [] place b k closed behind open_now = absurd (closed k behind open_now)
open_has (item ∷ later) place b k kept behind open_now = elim (cases_eq k place) [
  | inl same ↦
      let has = subst (λ (n : ℕ). SaysIssued (identity_in issued_format b) place n item (after_gate (record_at 32 place b))) kept.2.alone kept.2 in
      (item, subst (λ (p : ℕ). SaysIssued (identity_in issued_format b) p 0 item (after_gate (record_at 32 p b))) (sym same) has)
  | inr other ↦
      open_has later (place + 1) b k (subst (λ (n : ℕ). AreKeptFrom issued_format later n (place + 1) b) kept.2.alone kept.3) (omega (arith, behind, other)) open_now
]

-- and so is each before it
open_before : (items : Issues) (place : ℕ) (b : List ℕ) (j k : ℕ) → AreKeptFrom issued_format items 0 place b → place ≤ j → j ≤ k → IsOpen (record_at 32 k b)
    → IsOpen (record_at 32 j b)
open_before [] place b j k closed behind order open_now = absurd (closed k (omega (arith, behind, order)) open_now)
open_before (item ∷ later) place b j k kept behind order open_now = elim (cases_eq j place) [
  | inl same ↦ subst (λ (p : ℕ). IsOpen (record_at 32 p b)) (sym same) kept.1
  | inr other ↦
      open_before later (place + 1) b j k (subst (λ (n : ℕ). AreKeptFrom issued_format later n (place + 1) b) kept.2.alone kept.3) (omega (arith, behind, other)) order open_now
]

-- each issue has its fields
pub kept_fields : (items : Issues) (place : ℕ) (b : List ℕ) → AreKeptFrom issued_format items 0 place b → All AreFields items
kept_fields [] place b kept = All-nil AreFields
kept_fields (item ∷ later) place b kept =
    All-cons AreFields item later kept.2.fields (kept_fields later (place + 1) b (subst (λ (n : ℕ). AreKeptFrom issued_format later n (place + 1) b) kept.2.alone kept.3))

-- there are no more of them than records
pub kept_inside : (items : Issues) (place n : ℕ) (b : List ℕ) → length b ≡ 32 * n → place ≤ n → AreKeptFrom issued_format items 0 place b → place + length items ≤ n
kept_inside [] place n b size before kept = omega (arith, before)
kept_inside (item ∷ later) place n b size before kept = elim (cases_lt place n) [
  | inl less ↦
      let more : place + 1 + length later ≤ n =
      kept_inside later (place + 1) n b size (omega (arith, less)) (subst (λ (m : ℕ). AreKeptFrom issued_format later m (place + 1) b) kept.2.alone kept.3) in
      omega (arith, more)
  | inr far ↦
      let none : record_at 32 place b ≡ [] = ap (take 32) (drop_all (32 * place) b (omega (arith, size, far))) in
      let closed : get_or (record_at 32 place b) 0 0 ≡ 0 = ap (λ (r : List ℕ). get_or r 0 0) none in
      let opened : get_or (record_at 32 place b) 0 0 ≡ 1 = kept.1 in
      absurd (let never : ⊥ = omega (arith, closed, opened) in never)
]

-- what is kept is kept where the same records stand, and more behind it
kept_on : (items last : Issues) (place : ℕ) (b c : List ℕ) → identity_in issued_format c ≡ identity_in issued_format b
    → ((k : ℕ) → k < place + length items → record_at 32 k c ≡ record_at 32 k b) → AreKeptFrom issued_format items 0 place b
    → AreKeptFrom issued_format last 0 (place + length items) c → AreKeptFrom issued_format (items ++ last) 0 place c
kept_on [] last place b c id same kept more = subst (λ (p : ℕ). AreKeptFrom issued_format last 0 p c) (let e : place + 0 ≡ place = omega arith in e) more
kept_on (item ∷ later) last place b c id same kept more =
    let here : record_at 32 place c ≡ record_at 32 place b = same place (omega arith) in
    let has = subst (λ (n : ℕ). SaysIssued (identity_in issued_format b) place n item (after_gate (record_at 32 place b))) kept.2.alone kept.2 in (
      0,
      subst (λ (r : List ℕ). IsOpen r) (sym here) kept.1,
      subst (λ (r : List ℕ). SaysIssued (identity_in issued_format c) place 0 item (after_gate r)) (sym here)
          (subst (λ (n : ℕ). SaysIssued n place 0 item (after_gate (record_at 32 place b))) (sym id) has),
      kept_on later last (place + 1) b c id (λ k less. same k (omega (arith, less)))
          (subst (λ (n : ℕ). AreKeptFrom issued_format later n (place + 1) b) kept.2.alone kept.3)
          (subst (λ (p : ℕ). AreKeptFrom issued_format last 0 p c) (let e : place + suc (length later) ≡ place + 1 + length later = omega arith in e) more),
    )

-- ---- bytes in front of others

-- so many records in front
abbrev prefix : ℕ → List ℕ → List ℕ
prefix p bytes = take (32 * p) bytes

-- a record of them is one of all
record_of : (p k : ℕ) (bytes : List ℕ) → k < p → record_at 32 k (prefix p bytes) ≡ record_at 32 k bytes
record_of p k bytes less =
    ap (λ (m : ℕ). take 32 (drop (32 * k) (take m bytes))) (let e : 32 * p ≡ 32 * k + (32 * p - 32 * k) = omega (arith, less) in e)
    ∙ ap (take 32) (drop-take (32 * k) (32 * p - 32 * k) bytes)
    ∙ take-take 32 (32 * p - 32 * k) (drop (32 * k) bytes) (omega (arith, less))

-- the other records are none
none_behind : (p k : ℕ) (bytes : List ℕ) → 32 * p ≤ length bytes → p ≤ k → ¬ IsOpen (record_at 32 k (prefix p bytes))
none_behind p k bytes within past open_now =
    let none : record_at 32 k (prefix p bytes) ≡ [] = ap (take 32) (drop_all (32 * k) (prefix p bytes) (omega (arith, length-take-le (32 * p) bytes within, past))) in
    let closed : get_or (record_at 32 k (prefix p bytes)) 0 0 ≡ 0 = ap (λ (r : List ℕ). get_or r 0 0) none in
    omega (arith, closed, open_now)

-- their header is that of all
front_of : (p : ℕ) (bytes : List ℕ) → 1 ≤ p → take 32 (prefix p bytes) ≡ take 32 bytes
front_of p bytes some = take-take 32 (32 * p) bytes (omega (arith, some))

size_of : (p : ℕ) (bytes : List ℕ) → 32 * p ≤ length bytes → length (prefix p bytes) ≡ 32 * p
size_of p bytes within = length-take-le (32 * p) bytes within

-- ---- reading

-- a header alone is a ledger that keeps nothing
pub begun : (bytes : List ℕ) → IsHeaded bytes → IsLedger (take (32 * 1) bytes) []
begun bytes headed = record {
  size = (1, omega arith, size_of 1 bytes (omega (arith, headed.whole)));
  keeps = record {
    header = λ has. subst (λ (r : List ℕ). IsHeader ledger_kind r) (sym (front_of 1 bytes (omega arith))) headed.header;
    listed = λ later past. none_behind 1 later bytes (omega (arith, headed.whole)) past;
  };
}

-- the next record is open, and has an issue
pub goes_on : (bytes : List ℕ) (p : ℕ) (issues : Issues) (issue : Issued) → IsLedger (take (32 * p) bytes) issues → 1 + length issues ≡ p → 32 * (p + 1) ≤ length bytes
    → IsOpen (record_at 32 p bytes) → SaysIssued (identity_of (take 32 bytes)) p 0 issue (after_gate (record_at 32 p bytes))
    → IsLedger (take (32 * (p + 1)) bytes) (issues ++ issue ∷ [])
goes_on bytes p issues issue ledger count within open_now has =
    let c : List ℕ = prefix (p + 1) bytes in
    let front : take 32 c ≡ take 32 bytes = front_of (p + 1) bytes (omega arith) in
    let here : record_at 32 p c ≡ record_at 32 p bytes = record_of (p + 1) p bytes (omega arith) in
    let same : take 32 c ≡ take 32 (prefix p bytes) = front ∙ sym (front_of p bytes (omega (arith, count))) in
    let last : AreKeptFrom issued_format (issue ∷ []) 0 p c = (
      0,
      subst (λ (r : List ℕ). IsOpen r) (sym here) open_now,
      subst (λ (r : List ℕ). SaysIssued (identity_in issued_format c) p 0 issue (after_gate r)) (sym here)
          (subst (λ (f : List ℕ). SaysIssued (identity_of f) p 0 issue (after_gate (record_at 32 p bytes))) (sym front) has),
      λ later past. none_behind (p + 1) later bytes within past,
    ) in
    record {
      size = (p + 1, omega arith, size_of (p + 1) bytes within);
      keeps = record {
        header = λ some. subst (λ (r : List ℕ). IsHeader ledger_kind r) (sym same) (ledger.keeps.header some);
        listed = kept_on issues (issue ∷ []) 1 (prefix p bytes) c (ap identity_of same)
            (λ k less. record_of (p + 1) k bytes (omega (arith, less, count)) ∙ sym (record_of p k bytes (omega (arith, less, count)))) ledger.keeps.listed
            (subst (λ (n : ℕ). AreKeptFrom issued_format (issue ∷ []) 0 n c) (sym count) last);
      };
    }

-- bytes with these records are those of no ledger: an open one has no issue
no_contents : (bytes c : List ℕ) (p : ℕ) (issues : Issues) → 1 ≤ p → take 32 c ≡ take 32 bytes → record_at 32 p c ≡ record_at 32 p bytes → IsOpen (record_at 32 p bytes)
    → ((issue : Issued) → ¬ SaysIssued (identity_of (take 32 bytes)) p 0 issue (after_gate (record_at 32 p bytes))) → ¬ IsLedger c issues
no_contents bytes c p issues some front here open_now none ledger =
    let has = open_has issues 1 c p ledger.keeps.listed some (subst (λ (r : List ℕ). IsOpen r) (sym here) open_now) in
    none has.0
    (subst (λ (r : List ℕ). SaysIssued (identity_of (take 32 bytes)) p 0 has.0 (after_gate r)) here
    (subst (λ (f : List ℕ). SaysIssued (identity_of f) p 0 has.0 (after_gate (record_at 32 p c))) front has.1))

-- or an open one stands behind a closed one
no_order : (bytes c : List ℕ) (j p : ℕ) (issues : Issues) → 1 ≤ j → j ≤ p → record_at 32 j c ≡ record_at 32 j bytes → record_at 32 p c ≡ record_at 32 p bytes
    → IsOpen (record_at 32 p bytes) → ¬ IsOpen (record_at 32 j bytes) → ¬ IsLedger c issues
no_order bytes c j p issues some order first here open_now closed ledger =
    closed (subst (λ (r : List ℕ). IsOpen r) first
    (open_before issues 1 c j p ledger.keeps.listed some order (subst (λ (r : List ℕ). IsOpen r) (sym here) open_now)))

-- where the reading stops at an open record with no issue
pub stops_at : (bytes : List ℕ) (p : ℕ) (issues : Issues) → IsLedger (take (32 * p) bytes) issues → 1 ≤ p → IsOpen (record_at 32 p bytes)
    → ((issue : Issued) → ¬ SaysIssued (identity_of (take 32 bytes)) p 0 issue (after_gate (record_at 32 p bytes)))
    → IsLedgerDamagedAt bytes p × ((others : Issues) → ¬ IsLedger bytes others)
stops_at bytes p issues ledger some open_now none = (
  record {
    before = λ has. (issues, ledger);
    wrong = λ others. no_contents bytes (prefix (p + 1) bytes) p others some (front_of (p + 1) bytes (omega arith)) (record_of (p + 1) p bytes (omega arith)) open_now none;
  },
  λ others. no_contents bytes bytes p others some refl refl open_now none,
)

-- whole records in front of which these are issues, and all others closed
closed_so_far : (bytes : List ℕ) (p : ℕ) (issues : Issues) → AreOpenIssues bytes issues → 1 + length issues ≤ p → 32 * p ≤ length bytes
    → AreClosedBetween (1 + length issues) p bytes → IsLedger (take (32 * p) bytes) issues
closed_so_far bytes p issues read order within closed =
    let first : ℕ = 1 + length issues in
    let c : List ℕ = prefix p bytes in
    let same : take 32 c ≡ take 32 (prefix first bytes) = front_of p bytes (omega (arith, order)) ∙ sym (front_of first bytes (omega arith)) in
    let behind : AreClosedFrom 32 first c = (λ later past open_now. elim (cases_lt later p) [
      | inl less ↦ closed later past less (subst (λ (r : List ℕ). IsOpen r) (record_of p later bytes less) open_now)
      | inr far ↦ none_behind p later bytes within far open_now
    ]) in
    record {
      size = (p, omega (arith, order), size_of p bytes within);
      keeps = record {
        header = λ some. subst (λ (r : List ℕ). IsHeader ledger_kind r) (sym same) (read.are.keeps.header some);
        listed = subst (λ (items : Issues). AreKeptFrom issued_format items 0 1 c) (append-nil issues)
            (kept_on issues [] 1 (prefix first bytes) c (ap identity_of same)
            (λ k less. record_of p k bytes (omega (arith, less, order)) ∙ sym (record_of first k bytes less)) read.are.keeps.listed behind);
      };
    }

-- where it stops at an open record behind a closed one
pub open_behind : (bytes : List ℕ) (issues : Issues) (p : ℕ) → AreOpenIssues bytes issues → 1 + length issues ≤ p → p < length bytes / 32
    → AreClosedBetween (1 + length issues) p bytes → IsOpen (record_at 32 p bytes)
    → IsLedgerDamagedAt bytes p × ((others : Issues) → ¬ IsLedger bytes others)
open_behind bytes issues p read order inside closed open_now =
    let first : ℕ = 1 + length issues in
    let next : ¬ IsOpen (record_at 32 first bytes) = elim read.next [
      | inl end ↦ absurd (let never : ⊥ = omega (arith, end, order, inside) in never)
      | inr closed_there ↦ closed_there
    ] in (
      record {
        before = λ has. (issues, closed_so_far bytes p issues read order (omega (arith, inside)) closed);
        wrong = λ others. no_order bytes (prefix (p + 1) bytes) first p others (omega arith) order (record_of (p + 1) first bytes (omega (arith, order)))
            (record_of (p + 1) p bytes (omega arith)) open_now next;
      },
      λ others. no_order bytes bytes first p others (omega arith) order refl refl open_now next,
    )

-- bytes that are no whole records are those of no ledger
not_whole : (bytes : List ℕ) (issues : Issues) → length bytes % 32 ≢ 0 → ¬ IsLedger bytes issues
not_whole bytes issues cut ledger = cut (omega (arith, ledger.size.2))

-- where it stops in a record in which the bytes end
pub ends_in : (bytes : List ℕ) (issues : Issues) → AreOpenIssues bytes issues → AreClosedBetween (1 + length issues) (length bytes / 32) bytes → length bytes % 32 ≢ 0
    → IsLedgerDamagedAt bytes (length bytes / 32) × ((others : Issues) → ¬ IsLedger bytes others)
ends_in bytes issues read closed cut =
    let p : ℕ = length bytes / 32 in
    let all : take (32 * (p + 1)) bytes ≡ bytes = take_all (32 * (p + 1)) bytes (omega arith) in (
      record {
        before = λ has. (issues, closed_so_far bytes p issues read (omega (arith, read.within)) (omega arith) closed);
        wrong = λ others. subst (λ (l : List ℕ). ¬ IsLedger l others) (sym all) (not_whole bytes others cut);
      },
      λ others. not_whole bytes others cut,
    )

-- all bytes are those of a ledger
pub all_kept : (bytes : List ℕ) (issues : Issues) → AreOpenIssues bytes issues → AreClosedBetween (1 + length issues) (length bytes / 32) bytes → length bytes % 32 ≡ 0
    → IsLedger bytes issues
all_kept bytes issues read closed whole =
    let p : ℕ = length bytes / 32 in
    subst (λ (l : List ℕ). IsLedger l issues) (take_all (32 * p) bytes (omega (arith, whole)))
    (closed_so_far bytes p issues read (omega (arith, read.within)) (omega arith) closed)

-- bytes that begin with no header
pub unheaded : (bytes : List ℕ) → ¬ IsHeaded bytes → IsLedgerDamagedAt bytes 0 × ((others : Issues) → ¬ IsLedger bytes others)
unheaded bytes other = (
  record {
    before = λ has. absurd (let never : ⊥ = omega (arith, has) in never);
    wrong = λ others ledger.
        let long : 32 ≤ length (take 32 bytes) = omega (arith, ledger.size.1, ledger.size.2) in
        other (record {
          whole = omega (arith, long, length-take 32 bytes);
          header = subst (λ (r : List ℕ). IsHeader ledger_kind r) (take-take 32 32 bytes (omega arith)) (ledger.keeps.header (omega arith));
        });
  },
  λ others ledger. other (record { whole = omega (arith, ledger.size.1, ledger.size.2); header = ledger.keeps.header (omega arith) }),
)
