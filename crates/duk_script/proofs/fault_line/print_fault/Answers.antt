use Rattle.std.proofs.Common.{[], ◌∷◌, ◌++◌, ap, ◌∙◌, subst}
use Rattle.duk_script.specs.inner.FaultLine.{unknown_line}
use Rattle.duk_io.specs.Sink.{IsTried}
use Rattle.duk_script.proofs.fault_line.print_fault.Goals as goal

pub returns-in-ConfigTooLong : goal.returns-in-ConfigTooLong
returns-in-ConfigTooLong g c = record { line = rw c.in-ConfigTooLong.is c.report.ensures.line }

pub returns-in-NotToml : goal.returns-in-NotToml
returns-in-NotToml g c = record { line = rw c.in-NotToml.is c.report-in-NotToml.ensures.line }

pub returns-in-CannotRead : goal.returns-in-CannotRead
returns-in-CannotRead g c = record { line = rw c.in-CannotRead.is c.report-in-CannotRead.ensures.line }

pub returns-in-TooLong : goal.returns-in-TooLong
returns-in-TooLong g c = record { line = rw c.in-TooLong.is c.report-in-TooLong.ensures.line }

pub returns-in-WriteFailed : goal.returns-in-WriteFailed
returns-in-WriteFailed g c = record { line = rw c.in-WriteFailed.is c.report-in-WriteFailed.ensures.line }

pub returns-in-NoMemory : goal.returns-in-NoMemory
returns-in-NoMemory g c = record { line = rw c.in-NoMemory.is c.report-in-NoMemory.ensures.line }

pub returns-in-UnknownKey : goal.returns-in-UnknownKey
returns-in-UnknownKey g c =
    let known = g.F.Sink.known in
    record { line = rw c.in-UnknownKey.is (subst (λ text. IsTried (known c.args.fault.now) (known c.report_unknown.new.fault) (unknown_line text)) c.as_bytes.ensures.value c.report_unknown.ensures.line) }

pub returns-in-BadKey : goal.returns-in-BadKey
returns-in-BadKey g c =
    let known = g.F.Sink.known in
    record { line = rw c.in-BadKey.is (subst (λ text. IsTried (known c.args.fault.now) (known c.report-in-BadKey.new.fault) text) (c.as_slice.ensures.value ∙ c.end.ensures ∙ ap (λ line. line ++ 10 ∷ []) c.bad_key.ensures.text) c.report-in-BadKey.ensures.line) }

pub returns-in-BadEntry : goal.returns-in-BadEntry
returns-in-BadEntry g c =
    let known = g.F.Sink.known in
    record { line = rw c.in-BadEntry.is (subst (λ text. IsTried (known c.args.fault.now) (known c.report-in-BadEntry.new.fault) text) (c.as_slice-in-BadEntry.ensures.value ∙ c.bad_entry.ensures) c.report-in-BadEntry.ensures.line) }
