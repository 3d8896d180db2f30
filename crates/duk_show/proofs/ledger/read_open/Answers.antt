use Rattle.std.proofs.Common.{◌≡◌, ◌∙◌, ◌+◌, ◌*◌, ◌≤◌, ◌++◌, ◌∷◌, [], ℕ, List, ap, arith, length, length-append, subst, sym, take}
use Rattle.duk_journal.specs.Header.{identity_of}
use Rattle.duk_ledger.specs.Issued.{Issues}
use Rattle.duk_ledger.specs.IssuedFormat.{SaysIssued}
use Rattle.duk_ledger.specs.declared.issued.Issued.{Issued}
use Rattle.duk_store.specs.Records.{IsOpen, after_gate, record_at}
use Rattle.duk_show.specs.Ledger.{IsLedger}
use Rattle.duk_show.proofs.JournalRecords.{same_record}
use Rattle.duk_show.proofs.LedgerRecords.{begun, goes_on, stops_at}
use Rattle.duk_show.proofs.ledger.read_open.Goals as goal

pub loop-place-init : goal.loop-place-init
loop-place-init c = record {
  within = c.requires.whole;
  count = ap (λ (l : Issues). 1 + length l) c.new-issues.ensures.items;
  are = subst (λ (l : Issues). IsLedger (take (32 * 1) c.args.bytes.now) l) (sym c.new-issues.ensures.items) (begun c.args.bytes.now c.requires);
}

pub returns-in_default-clause-refused : goal.returns-in_default-clause-refused
returns-in_default-clause-refused c =
    let bytes = c.args.bytes.now in
    let place = c.loop-place.place in
    let i = c.loop-place.invariant in
    let open_now = subst (λ (r : List ℕ). IsOpen r) (same_record bytes place) c.if-record-ne-OPEN.false in
    let none = subst (λ (r : List ℕ). (issue : Issued) → ¬ SaysIssued c.identity_in-identity.result place 0 issue (after_gate r)) (same_record bytes place) c.in_default.ensures.none in
    stops_at bytes place c.loop-place.issues.items i.are (omega (arith, i.count)) open_now
    (subst (λ (n : ℕ). (issue : Issued) → ¬ SaysIssued n place 0 issue (after_gate (record_at 32 place bytes))) c.identity_in-identity.ensures.identity none)

pub loop-place-preserved : goal.loop-place-preserved
loop-place-preserved c =
    let bytes = c.args.bytes.now in
    let place = c.loop-place.place in
    let issues = c.loop-place.issues.items in
    let issued = c.in-Some.issued in
    let i = c.loop-place.invariant in
    let within : 32 * (place + 1) ≤ length bytes = omega (arith, c.loop-place-test.true) in
    let open_now = subst (λ (r : List ℕ). IsOpen r) (same_record bytes place) c.if-record-ne-OPEN.false in
    let has = subst (λ (r : List ℕ). SaysIssued c.identity_in-identity.result place 0 issued (after_gate r)) (same_record bytes place) c.in-Some.ensures.found in
    let own = subst (λ (n : ℕ). SaysIssued n place 0 issued (after_gate (record_at 32 place bytes))) c.identity_in-identity.ensures.identity has in
    let items : c.push.new.self.items ≡ issues ++ issued ∷ [] = c.in-Ok.ensures.items in
    let long : length c.push.new.self.items ≡ length issues + 1 = ap length items ∙ length-append issues (issued ∷ []) in
    record {
      within = within;
      count = omega (arith, long, i.count);
      are = subst (λ (l : Issues). IsLedger (take (32 * (place + 1)) bytes) l) (sym items) (goes_on bytes place issues issued i.are i.count within open_now own);
    }
