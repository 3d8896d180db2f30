use Rattle.std.proofs.Common.{◌≡◌, ℕ, List, subst}
use Rattle.std.proofs.lemmas.Result.{IfErr-weaker, on_ok_weaker}
use Rattle.duk_journal_copy.specs.declared.version.Version.TheVariants.{Two}
use Rattle.duk_service.specs.GrowJournal.{IsGrowable, IsGrowableOpened}
use Rattle.duk_service.specs.declared.left_records.Layout.TheVariants.{Journal}
use Rattle.duk_service.specs.inner.GrowJournal.{AreZerosKept, AreZerosNotKept, IsToGrow}
use Rattle.duk_service.proofs.GrownFiles.{has_grown, refused_to_grow}
use Rattle.duk_service.proofs.grow_journal.grow_journal.Goals as goal

pub returns-in-Some-zeros_to_append-clause-grown : goal.returns-in-Some-zeros_to_append-clause-grown
returns-in-Some-zeros_to_append-clause-grown g c =
    let meaning = g.S.Disk.Disk.meaning in
    let known = g.S.LogFiles.disks c.args.files.now c.args.file.now in
    let read = c.in-None.ensures.only_read in
    let opened : IsGrowableOpened meaning known c.in-Ok.disk = record {
      opened = c.in-Ok.ensures.opened;
      growable = λ honest. subst (λ (b : List ℕ). IsGrowable (Journal Two) b) read.bytes.reads (c.in-None.ensures.growable (read.nature.honest.0 honest));
    } in
    let end = g.S.End.FileEnd.state c.in-Ok.end in
    let zeros : ℕ = c.in-Some-zeros_to_append.zeros in
    on_ok_weaker c.grow_end.result (λ kept.
    has_grown c.grown.ensures.keeps meaning known c.args.records.now c.in-Ok.disk opened end c.in-Ok.ensures.end c.in-Some.records c.in-Some.ensures.found zeros
    (subst (λ (n : ℕ). IsToGrow n c.in-Some.records zeros) c.size-size.ensures c.in-Some-zeros_to_append.ensures.zeros)
    (subst (λ (n : ℕ). AreZerosKept meaning n zeros end) c.size-size.ensures kept))
    c.grow_end.ensures.grown

pub returns-in-Some-zeros_to_append-clause-refused : goal.returns-in-Some-zeros_to_append-clause-refused
returns-in-Some-zeros_to_append-clause-refused g c =
    let meaning = g.S.Disk.Disk.meaning in
    let known = g.S.LogFiles.disks c.args.files.now c.args.file.now in
    let read = c.in-None.ensures.only_read in
    let opened : IsGrowableOpened meaning known c.in-Ok.disk = record {
      opened = c.in-Ok.ensures.opened;
      growable = λ honest. subst (λ (b : List ℕ). IsGrowable (Journal Two) b) read.bytes.reads (c.in-None.ensures.growable (read.nature.honest.0 honest));
    } in
    let end = g.S.End.FileEnd.state c.in-Ok.end in
    let zeros : ℕ = c.in-Some-zeros_to_append.zeros in
    IfErr-weaker c.grow_end.result _ _ (λ why not_kept.
    refused_to_grow c.grown.ensures.keeps meaning known c.args.records.now c.in-Ok.disk opened end c.in-Ok.ensures.end c.in-Some.records c.in-Some.ensures.found
    (g.S.Disk.Disk.leaves_its_size c.in-Ok.disk) (g.S.Disk.Disk.reads_may_stay c.in-Ok.disk) zeros
    (subst (λ (n : ℕ). IsToGrow n c.in-Some.records zeros) c.size-size.ensures c.in-Some-zeros_to_append.ensures.zeros) why
    (subst (λ (n : ℕ). AreZerosNotKept meaning n zeros end why) c.size-size.ensures not_kept))
    c.grow_end.ensures.refused
