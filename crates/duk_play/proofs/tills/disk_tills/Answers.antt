use Rattle.std.proofs.Common.{◌≡◌, ◌∙◌, ◌++◌, [], ◌∷◌, List, ap, sym, subst, replicate}
use Rattle.std.proofs.lemmas.List.{replicate-append-replicate}
use Rattle.std.proofs.lemmas.List.Elements.{All-push}
use Rattle.std.specs.List.{All}
use Rattle.duk_till.specs.Till.{TillOf}
use Rattle.duk_script.specs.OnDisk.{DiskCell, disk_cell_meaning, new_disk_cell}
use Rattle.duk_play.specs.Opening.{new_disk_till}
use Rattle.duk_play.specs.inner.Opening.{HasNewCells}
use Rattle.duk_play.proofs.NewTills.{has_new_cells, made_till}
use Rattle.duk_play.proofs.tills.disk_tills.Goals as goal

pub loop-preserved : goal.loop-preserved
loop-preserved c =
    let items = c.in_ok-push.ensures.items in
    let till : c.new.result ≡ new_disk_till = made_till c.new.result.terminal c.new.result.book c.new.result.state c.in_ok-disk_cell.field-0 new_disk_cell c.in_ok-disk_cell-2.field-0 new_disk_cell
    c.new.ensures.terminal c.new.ensures.book c.new.ensures.state c.in_ok-disk_cell.ensures.made c.in_ok-disk_cell-2.ensures.made in
    let new : HasNewCells disk_cell_meaning disk_cell_meaning c.new.result = has_new_cells disk_cell_meaning disk_cell_meaning c.new.result c.in_ok-disk_cell.field-0 c.in_ok-disk_cell-2.field-0
    c.new.ensures.terminal c.new.ensures.book c.new.ensures.state c.in_ok-disk_cell.ensures.new c.in_ok-disk_cell-2.ensures.new in (
      items ∙ ap (λ (all : List (TillOf DiskCell DiskCell)). all ++ c.new.result ∷ []) c.loop.invariant.0 ∙ ap (λ (one : TillOf DiskCell DiskCell). replicate c.loop.counter new_disk_till ++ one ∷ []) till
          ∙ replicate-append-replicate c.loop.counter 1 new_disk_till,
      subst (λ all. All (HasNewCells disk_cell_meaning disk_cell_meaning) all) (sym items) (All-push (HasNewCells disk_cell_meaning disk_cell_meaning) c.loop.tills.items c.new.result c.loop.invariant.1 new),
    )
