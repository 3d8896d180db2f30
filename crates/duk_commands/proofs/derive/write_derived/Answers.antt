use Rattle.duk_commands.specs.Derive.{derive_of}
use Rattle.duk_commands.proofs.CommandsEnd.{done, not_done}
use Rattle.duk_commands.proofs.derive.write_derived.Goals as goal

pub returns-clause-done : goal.returns-clause-done
returns-clause-done g c =
    done (derive_of c.args.bdk.now c.args.ksn.now) c.in_ok-lines.lines.items c.write_lines.result _ _ c.in_ok-lines.ensures.lines c.write_lines.ensures.written

pub returns-clause-not_done : goal.returns-clause-not_done
returns-clause-not_done g c =
    not_done (derive_of c.args.bdk.now c.args.ksn.now) c.in_ok-lines.lines.items c.write_lines.result _ _ c.in_ok-lines.ensures.lines c.write_lines.ensures.cut
