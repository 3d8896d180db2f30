use Rattle.std.proofs.Common.{◌∙◌, inl, inr, subst, sym}
use Rattle.duk_program.proofs.CommandLines.{by_message}
use Rattle.duk_program.specs.inner.Commands.{IsOverMessage}
use Rattle.duk_program.proofs.commands.lines_of.Goals as goal

pub returns-in-Mac-clause-lines : goal.returns-in-Mac-clause-lines
returns-in-Mac-clause-lines c =
    let asked = c.args.request.now in
    let over : IsOverMessage asked.command = elim c.in-Mac.is [
      | inl mac ↦ subst IsOverMessage (sym mac ∙ c.command.ensures) tt
      | inr enciphering ↦ subst IsOverMessage (sym enciphering ∙ c.command.ensures) tt
    ] in
    rw (by_message asked.command asked over, ← c.text.ensures) (rw c.as_bytes.ensures.value at c.message_lines.ensures.lines)

pub returns-in-Mac-clause-refused : goal.returns-in-Mac-clause-refused
returns-in-Mac-clause-refused c =
    let asked = c.args.request.now in
    let over : IsOverMessage asked.command = elim c.in-Mac.is [
      | inl mac ↦ subst IsOverMessage (sym mac ∙ c.command.ensures) tt
      | inr enciphering ↦ subst IsOverMessage (sym enciphering ∙ c.command.ensures) tt
    ] in
    rw (by_message asked.command asked over, ← c.text.ensures) (rw c.as_bytes.ensures.value at c.message_lines.ensures.refused)

pub returns-in-Initial-clause-lines : goal.returns-in-Initial-clause-lines
returns-in-Initial-clause-lines c = rw (sym c.command.ensures ∙ c.in-Initial.is) c.lines-in-Initial.ensures.lines

pub returns-in-Pin-clause-lines : goal.returns-in-Pin-clause-lines
returns-in-Pin-clause-lines c = rw (sym c.command.ensures ∙ c.in-Pin.is) c.lines-in-Pin.ensures.lines

pub returns-in-Unpin-clause-lines : goal.returns-in-Unpin-clause-lines
returns-in-Unpin-clause-lines c = rw (sym c.command.ensures ∙ c.in-Unpin.is) c.lines-in-Unpin.ensures.lines

pub returns-in-Wrap-clause-lines : goal.returns-in-Wrap-clause-lines
returns-in-Wrap-clause-lines c = rw (sym c.command.ensures ∙ c.in-Wrap.is) c.lines-in-Wrap.ensures.lines

pub returns-in-Unwrap-clause-lines : goal.returns-in-Unwrap-clause-lines
returns-in-Unwrap-clause-lines c = rw (sym c.command.ensures ∙ c.in-Unwrap.is) c.lines-in-Unwrap.ensures.lines
