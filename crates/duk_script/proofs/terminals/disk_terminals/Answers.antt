use Rattle.std.proofs.Common.{◌≡◌, ◌∙◌, ◌++◌, [], ◌∷◌, List, ap, refl, sym, subst, replicate}
use Rattle.std.proofs.lemmas.List.{replicate-append-replicate}
use Rattle.std.proofs.lemmas.List.Elements.{All-push}
use Rattle.std.specs.List.{All}
use Rattle.duk_term.specs.Terminal.{TerminalOf}
use Rattle.duk_term.specs.declared.state.State.TheVariants.{Stopped}
use Rattle.duk_script.specs.OnDisk.{DiskCell, disk_cell_meaning, new_disk_terminal}
use Rattle.duk_script.specs.inner.Opening.{HasNewCell}
use Rattle.duk_script.proofs.terminals.disk_terminals.Goals as goal

pub loop-preserved : goal.loop-preserved
loop-preserved c =
    let items = c.in_ok-push.ensures.items in
    let terminal : c.new.result ≡ new_disk_terminal = c.new.ensures ∙ ap (λ (cell : DiskCell). record { cell = cell; state = Stopped }) c.in_ok-disk_cell.ensures.made in
    let new : HasNewCell disk_cell_meaning c.new.result = rw c.new.ensures (record { stopped = refl; cell = c.in_ok-disk_cell.ensures.new }) in (
      items ∙ ap (λ (all : List (TerminalOf DiskCell)). all ++ c.new.result ∷ []) c.loop.invariant.0 ∙ ap (λ (one : TerminalOf DiskCell). replicate c.loop.counter new_disk_terminal ++ one ∷ []) terminal
          ∙ replicate-append-replicate c.loop.counter 1 new_disk_terminal,
      subst (λ all. All (HasNewCell disk_cell_meaning) all) (sym items) (All-push (HasNewCell disk_cell_meaning) c.loop.terminals.items c.new.result c.loop.invariant.1 new),
    )
