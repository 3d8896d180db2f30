use Rattle.std.proofs.Common.{◌≡◌, ◌*◌, ◌∙◌, ℕ, [], ◌∷◌, arith, subst}
use Rattle.std.proofs.lemmas.Result.{IfErr-weaker, err_from_is_err_and}
use Rattle.duk_store.specs.Disk.{DiffersWithin, LeavesChanged, written}
use Rattle.duk_store.specs.Records.{IsOpen, record_at}
use Rattle.duk_store.specs.inner.GroupSteps.{LeavesAllButGate}
use Rattle.duk_store.proofs.GroupWritten.{gate_may_be_torn, gate_opened}
use Rattle.duk_store.proofs.Places.{next}
use Rattle.duk_store.proofs.StepsInTurn.{both_ok, fails_later, keeps_on}
use Rattle.duk_store.proofs.group_steps.open_gate.Goals as goal

pub returns-in_err-write_at-clause-failed : goal.returns-in_err-write_at-clause-failed
returns-in_err-write_at-clause-failed g c =
    let p = err_from_is_err_and c.from_residual.result c.from_residual.ensures.1 in
    let old = g.D.Disk.meaning.state_of c.args.disk.now in
    let mid = g.D.Disk.meaning.state_of c.write_at.new.self in
    let at_gate : c.byte_of.result ≡ c.args.long * c.args.place = c.byte_of.ensures ∙ omega arith in
    rw (p.1, p.2) (record {
      nature = c.write_at.ensures.nature;
      failed = c.in_err-write_at.ensures.failed;
      all_but = gate_may_be_torn c.args.long c.args.place old mid c.requires.long c.requires.one (subst (λ (at : ℕ). LeavesChanged (DiffersWithin at 1) old mid) at_gate c.write_at.ensures.torn);
    })

pub returns-clause-open_now : goal.returns-clause-open_now
returns-clause-open_now g c =
    let old = g.D.Disk.meaning.state_of c.args.disk.now in
    let mid = g.D.Disk.meaning.state_of c.write_at.new.self in
    let new = g.D.Disk.meaning.state_of c.sync.new.self in
    let long = c.args.long in
    let place = c.args.place in
    let at_gate : c.byte_of.result ≡ long * place = c.byte_of.ensures ∙ omega arith in
    both_ok c.sync.result c.sync.ensures.synced c.sync.ensures.no_failure
    (λ synced none.
    let opened : old.honest → IsOpen (record_at long place new.reads) × LeavesAllButGate long place old.reads new.reads = λ h.
    let size = g.D.Disk.leaves_its_size c.args.disk.now h old.reads (g.D.Disk.reads_may_stay c.args.disk.now h) in
    let ends = next long place in
    let is : mid.reads ≡ written old.reads (long * place) (1 ∷ []) = subst (λ (at : ℕ). mid.reads ≡ written old.reads at (1 ∷ [])) at_gate (c.in_ok-write_at.ensures.written h) in
    gate_opened long place old.reads new.reads c.requires.long (omega (arith, size, ends, c.requires.room.inside, c.requires.long)) ((synced (c.write_at.ensures.nature.honest.0 h)).reads ∙ is) in
    record {
      nature = keeps_on old mid new c.write_at.ensures.nature c.sync.ensures.nature;
      no_failure = none ∙ c.in_ok-write_at.ensures.no_failure;
      leaves = λ h. (synced (c.write_at.ensures.nature.honest.0 h)).leaves;
      is_open = λ h. (opened h).0;
      all_but = λ h. (opened h).1;
    })

pub returns-clause-failed : goal.returns-clause-failed
returns-clause-failed g c =
    let old = g.D.Disk.meaning.state_of c.args.disk.now in
    let mid = g.D.Disk.meaning.state_of c.write_at.new.self in
    let new = g.D.Disk.meaning.state_of c.sync.new.self in
    let at_gate : c.byte_of.result ≡ c.args.long * c.args.place = c.byte_of.ensures ∙ omega arith in
    let torn = subst (λ (at : ℕ). LeavesChanged (DiffersWithin at 1) old mid) at_gate c.write_at.ensures.torn in
    IfErr-weaker c.sync.result _ _
    (λ fault failed. record {
      nature = keeps_on old mid new c.write_at.ensures.nature c.sync.ensures.nature;
      failed = fails_later old mid new fault c.write_at.ensures.nature c.in_ok-write_at.ensures.no_failure failed;
      all_but = λ h bytes left. gate_may_be_torn c.args.long c.args.place old mid c.requires.long c.requires.one torn h bytes (c.sync.ensures.within (c.write_at.ensures.nature.honest.0 h) bytes left);
    })
    c.sync.ensures.failed
