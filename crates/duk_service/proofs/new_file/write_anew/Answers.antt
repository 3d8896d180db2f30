use Rattle.std.proofs.Common.{ℕ, List, [], arith, inl, inr, subst, sym}
use Rattle.duk_ledger.specs.IssuedFormat.{ledger_kind}
use Rattle.duk_ledger.specs.Ledger.{KeepsIssues}
use Rattle.std.specs.Prelude.{OnOk}
use Rattle.duk_service.specs.NewFile.{IsLeftInPart, IsWrittenAnew}
use Rattle.duk_service.specs.declared.new_file.NewFile.{NewFile}
use Rattle.duk_service.specs.inner.NewFile.{BeginsAs, IsSizeOf}
use Rattle.duk_service.proofs.NewFiles.{begins_no_ledger, begun_ledger}
use Rattle.duk_service.proofs.new_file.write_anew.Goals as goal

pub returns-in-Log-clause-written : goal.returns-in-Log-clause-written
returns-in-Log-clause-written g c =
    subst (λ (n : NewFile). OnOk c.write_blank.result (IsWrittenAnew n (g.D.Disk.meaning.state_of c.args.disk.now) (g.D.Disk.meaning.state_of c.write_blank.new.disk)))
    (sym c.in-Log.is) c.write_blank.ensures.blank

pub returns-in-Log-clause-left : goal.returns-in-Log-clause-left
returns-in-Log-clause-left g c =
    subst (λ (n : NewFile). IsLeftInPart n (g.D.Disk.meaning.state_of c.args.disk.now) (g.D.Disk.meaning.state_of c.write_blank.new.disk)) (sym c.in-Log.is) tt

pub write_journal-requires-clause-room : goal.write_journal-requires-clause-room
write_journal-requires-clause-room g c =
    let size = subst (λ (n : NewFile). IsSizeOf n (g.D.Disk.meaning.state_of c.args.disk.now).size) c.in-Journal.is c.requires.size in
    omega (arith, size.2)

pub returns-in-Journal-clause-written : goal.returns-in-Journal-clause-written
returns-in-Journal-clause-written g c =
    subst (λ (n : NewFile). OnOk c.write_journal.result (IsWrittenAnew n (g.D.Disk.meaning.state_of c.args.disk.now) (g.D.Disk.meaning.state_of c.write_journal.new.disk)))
    (sym c.in-Journal.is) c.write_journal.ensures.begun

pub returns-in-Journal-clause-left : goal.returns-in-Journal-clause-left
returns-in-Journal-clause-left g c =
    let old = g.D.Disk.meaning.state_of c.args.disk.now in
    let begins = subst (λ (n : NewFile). BeginsAs n old) c.in-Journal.is c.requires.begins in
    subst (λ (n : NewFile). IsLeftInPart n old (g.D.Disk.meaning.state_of c.write_journal.new.disk)) (sym c.in-Journal.is)
    (λ h size bytes left. c.write_journal.ensures.in_part h (begins h size).0 (begins h size).1 bytes left)

pub begin_file-requires-clause-room : goal.begin_file-requires-clause-room
begin_file-requires-clause-room g c =
    let size = subst (λ (n : NewFile). IsSizeOf n (g.D.Disk.meaning.state_of c.args.disk.now).size) c.in-Ledger.is c.requires.size in
    omega (arith, size.2)

pub returns-in-Ledger-clause-written : goal.returns-in-Ledger-clause-written
returns-in-Ledger-clause-written g c =
    subst (λ (n : NewFile). OnOk c.begin_file.result (IsWrittenAnew n (g.D.Disk.meaning.state_of c.args.disk.now) (g.D.Disk.meaning.state_of c.begin_file.new.disk)))
    (sym c.in-Ledger.is) c.begin_file.ensures.begun

pub returns-in-Ledger-clause-left : goal.returns-in-Ledger-clause-left
returns-in-Ledger-clause-left g c =
    let old = g.D.Disk.meaning.state_of c.args.disk.now in
    let begins = subst (λ (n : NewFile). BeginsAs n old) c.in-Ledger.is c.requires.begins in
    let size = subst (λ (n : NewFile). IsSizeOf n old.size) c.in-Ledger.is c.requires.size in
    subst (λ (n : NewFile). IsLeftInPart n old (g.D.Disk.meaning.state_of c.begin_file.new.disk)) (sym c.in-Ledger.is)
    (λ h whole bytes left. elim (c.begin_file.ensures.in_part h (begins h whole).0 (begins h whole).1 bytes left) [
      | inl none ↦ inl (begins_no_ledger c.unheaded.ensures c.unnumbered.ensures bytes none.gate none.mark none.behind_number)
      | inr same ↦ inr (subst (λ (l : List ℕ). KeepsIssues l []) (sym same)
          (begun_ledger (λ size identity room. c.begun.ensures.header ledger_kind identity size room) (λ size identity later room past. c.begun.ensures.closed ledger_kind identity size later room past)
          c.in-Ledger.identity old.size c.begin_file.ensures.identity_fits (omega (arith, size.2))))
    ])
