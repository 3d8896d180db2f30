use Rattle.std.proofs.Common.{◌∙◌, ℕ, subst}
use Rattle.std.proofs.lemmas.Result.{IfErr-weaker, on_ok_weaker}
use Rattle.duk_store.specs.inner.GroupSteps.{GateFailed, OpensGate}
use Rattle.duk_store.proofs.GroupWritten.{group_torn, group_written}
use Rattle.duk_store.proofs.StepsInTurn.{fails_later, keeps_on}
use Rattle.duk_store.proofs.group_steps.write_group.Goals as goal

pub returns-clause-written : goal.returns-clause-written
returns-clause-written g c =
    let format = g.F.Format.meaning c.args.format.now in
    let old = g.D.Disk.meaning.state_of c.args.disk.now in
    let mid = g.D.Disk.meaning.state_of c.sync_contents.new.disk in
    let new = g.D.Disk.meaning.state_of c.open_gate.new.disk in
    let synced = c.in_ok-sync_contents.ensures.synced in
    on_ok_weaker c.open_gate.result
    (λ opened.
    let opens = subst (λ (long : ℕ). OpensGate long c.args.place mid new) c.record_length.ensures opened in
    record {
      nature = keeps_on old mid new synced.nature opens.nature;
      no_failure = opens.no_failure ∙ synced.no_failure;
      leaves = λ h. opens.leaves (synced.nature.honest.0 h);
      written = λ h.
          let honest = synced.nature.honest.0 h in
          group_written format c.args.identity c.args.group.now c.args.place old.reads mid.reads new.reads c.requires.group.some (synced.written h) (opens.all_but honest) (opens.is_open honest);
    })
    c.open_gate.ensures.open_now

pub returns-clause-failed : goal.returns-clause-failed
returns-clause-failed g c =
    let format = g.F.Format.meaning c.args.format.now in
    let old = g.D.Disk.meaning.state_of c.args.disk.now in
    let mid = g.D.Disk.meaning.state_of c.sync_contents.new.disk in
    let new = g.D.Disk.meaning.state_of c.open_gate.new.disk in
    let synced = c.in_ok-sync_contents.ensures.synced in
    IfErr-weaker c.open_gate.result _ _
    (λ fault why.
    let failed = subst (λ (long : ℕ). GateFailed long c.args.place mid new fault) c.record_length.ensures why in
    record {
      nature = keeps_on old mid new synced.nature failed.nature;
      failed = fails_later old mid new fault synced.nature synced.no_failure failed.failed;
      torn = λ h bytes left. group_torn format c.args.identity c.args.group.now c.args.place old.reads mid.reads bytes c.requires.group.some (synced.written h) (failed.all_but (synced.nature.honest.0 h) bytes left);
    })
    c.open_gate.ensures.failed
