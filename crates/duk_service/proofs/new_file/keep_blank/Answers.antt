use Rattle.std.proofs.Common.{◌≡◌, ℕ, arith, subst, sym}
use Rattle.duk_service.specs.LogFiles.{IsFolderSynced}
use Rattle.duk_service.specs.inner.NewFile.{IsKeptBlank, IsSizeOf}
use Rattle.duk_service.proofs.NewFiles.{left_as_made, nothing_yet}
use Rattle.duk_service.proofs.Results.{on_ok}
use Rattle.duk_service.proofs.new_file.keep_blank.Goals as goal

pub write_anew-requires-clause-size : goal.write_anew-requires-clause-size
write_anew-requires-clause-size g c =
    let is : c.args.size ≡ (g.S.Disk.Disk.meaning.state_of c.args.disk.now).size = omega (arith, c.size.ensures) in
    subst (λ (n : ℕ). IsSizeOf c.args.new n) is c.requires.size

pub returns-then-size-clause-left : goal.returns-then-size-clause-left
returns-then-size-clause-left g c = left_as_made c.unfinished.ensures c.unheaded.ensures c.unnumbered.ensures c.args.new (g.S.Disk.Disk.meaning.state_of c.args.disk.now) c.requires.begins

pub returns-clause-kept : goal.returns-clause-kept
returns-clause-kept g c =
    let old = g.S.Disk.Disk.meaning.state_of c.args.disk.now in
    let last = g.S.Disk.Disk.meaning.state_of c.write_anew.new.disk in
    let folder = (g.S.LogFiles.making c.args.files.now c.args.file.now).folder in
    let is : c.args.size ≡ old.size = omega (arith, c.size.ensures) in
    on_ok (IsFolderSynced folder) (IsKeptBlank c.args.new folder c.args.size old last) c.sync_folder.result
    (λ synced. record {
      size_is = sym is;
      written = c.in_ok-write_anew.ensures.written;
      blank = nothing_yet c.headers.ensures.length c.args.new old last (subst (λ (n : ℕ). IsSizeOf c.args.new n) is c.requires.size) c.in_ok-write_anew.ensures.written;
      synced = synced;
    })
    c.sync_folder.ensures.synced
