use Rattle.std.proofs.Common.{◌≡◌, ◌+◌, ◌/◌, ℕ, arith, length, subst, true}
use Rattle.duk_show.specs.inner.Journal.{AreClosedBetween, IsOpenAt}
use Rattle.duk_show.proofs.LedgerRecords.{all_kept, ends_in, open_behind, unheaded}
use Rattle.duk_show.proofs.ledger.read_ledger.Goals.{then-bytes-lt-RECORD_LENGTH-via-then-bytes-lt-RECORD_LENGTH, then-bytes-lt-RECORD_LENGTH-via-else-bytes-lt-RECORD_LENGTH+then-not-is_ledger_header}
use Rattle.duk_show.proofs.ledger.read_ledger.Goals as goal

pub returns-then-bytes-lt-RECORD_LENGTH-clause-refused :
    goal.returns-then-bytes-lt-RECORD_LENGTH-clause-refused
returns-then-bytes-lt-RECORD_LENGTH-clause-refused c =
    unheaded c.args.bytes.now (λ headed. elim c.then-bytes-lt-RECORD_LENGTH.branch [
      | then-bytes-lt-RECORD_LENGTH-via-then-bytes-lt-RECORD_LENGTH w ↦ omega (arith, w.if-bytes-lt-RECORD_LENGTH.true, headed.whole)
      | then-bytes-lt-RECORD_LENGTH-via-else-bytes-lt-RECORD_LENGTH+then-not-is_ledger_header w ↦
          let is : w.is_ledger_header.result ≡ true = w.is_ledger_header.ensures.1 headed.header in
          let not = w.if-not-is_ledger_header.true in cc
    ])

pub returns-in-Some-clause-refused : goal.returns-in-Some-clause-refused
returns-in-Some-clause-refused c =
    let bytes = c.args.bytes.now in
    let issues = c.in_ok-issues.issues.items in
    let size : 1 + c.len.result ≡ 1 + length issues = omega (arith, c.len.ensures, c.in_ok-issues.issues.ok.0) in
    let at = subst (λ (n : ℕ). IsOpenAt n bytes c.in-Some.place) size c.in-Some.ensures in
    open_behind bytes issues c.in-Some.place c.in_ok-issues.ensures.issues at.behind at.inside at.closed at.is_open

pub returns-then-bytes-ne0-clause-refused : goal.returns-then-bytes-ne0-clause-refused
returns-then-bytes-ne0-clause-refused c =
    let bytes = c.args.bytes.now in
    let issues = c.in_ok-issues.issues.items in
    let size : 1 + c.len.result ≡ 1 + length issues = omega (arith, c.len.ensures, c.in_ok-issues.issues.ok.0) in
    ends_in bytes issues c.in_ok-issues.ensures.issues (subst (λ (n : ℕ). AreClosedBetween n (length bytes / 32) bytes) size c.in_default.ensures) c.if-bytes-ne0.true

pub returns-clause-ledger : goal.returns-clause-ledger
returns-clause-ledger c =
    let bytes = c.args.bytes.now in
    let issues = c.in_ok-issues.issues.items in
    let size : 1 + c.len.result ≡ 1 + length issues = omega (arith, c.len.ensures, c.in_ok-issues.issues.ok.0) in
    all_kept bytes issues c.in_ok-issues.ensures.issues (subst (λ (n : ℕ). AreClosedBetween n (length bytes / 32) bytes) size c.in_default.ensures) c.if-bytes-ne0.false
