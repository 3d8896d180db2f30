-- What a task comes to over a ledger.
use Rattle.std.proofs.Common.{◌*◌, ℕ, List, Result, Ok, Err, IfErr, IfOk, OnOk, inl, inr, subst, sym}
use Rattle.std.specs.Prelude.{codes}
use Rattle.duk_arguments.specs.Request.{Written, value_in}
use Rattle.duk_commands.specs.Answer.{Streams}
use Rattle.duk_commands.specs.HandedOn.{IsEndOf}
use Rattle.duk_commands.specs.Issue.{ends}
use Rattle.duk_commands.specs.Order.{IsOrderOf}
use Rattle.duk_commands.specs.declared.issue.fault.IssueFault.{IssueFault}
use Rattle.duk_commands.specs.declared.issue.order.Order.{Order}
use Rattle.duk_io.specs.Known.{Known}
use Rattle.duk_program.specs.IssueFiles.{HasMadeAll, HasMadeLines, HasNotIssuedFiles, HasNotMadeLines, HasStopped, IsBegun, IsIssuedOver, IsLedgerOpened, IsNotIssuedTo, IsNoted, IssueFilesKnown, IssueTask, Issuing, if_issued_in, issue_task, issuing, order_in}
use Rattle.duk_service.specs.Files.{IsFrontRead}
use Rattle.duk_program.proofs.Ends.{ok_same}
use Rattle.duk_store.specs.Disk.{DiskMeaning}
use Rattle.duk_ledger.specs.Ledger.{ledger_meaning, new_ledger}
use Rattle.duk_ledger.specs.declared.issued.Issued.{Issued}
use Rattle.duk_store.specs.Listed.{ListMeaning}

pub made_all : {L : Type 0} (meaning : ListMeaning L Issued) (task : IssueTask) (i : Issuing L) (last : L) (written : Known) (made : Result ℕ IssueFault)
    → IfOk made (HasMadeLines meaning task (ends i.made i.streams.output_before) (ends last written)) → OnOk made (HasMadeAll meaning task i written)
made_all meaning task i last written (Ok passed_over) is = (last, passed_over, is)
made_all meaning task i last written (Err why) is = tt

pub stopped : {L : Type 0} (meaning : ListMeaning L Issued) (task : IssueTask) (i : Issuing L) (last : L) (written : Known) (made : Result ℕ IssueFault)
    → IfErr made (HasNotMadeLines meaning task (ends i.made i.streams.output_before) (ends last written)) → IfErr made (λ why. HasStopped meaning task i why written)
stopped meaning task i last written (Ok passed_over) is = tt
stopped meaning task i last written (Err why) is = (last, is)

-- all lines are made, and handed on
pub issued_over : {L : Type 0} (meaning : ListMeaning L Issued) (task : IssueTask) (i : Issuing L) (last : L) (written : Known) (passed_over : ℕ) (made : Result ℕ IssueFault)
    (lost : IssueFault) → IfOk made (HasMadeLines meaning task (ends i.made i.streams.output_before) (ends last written))
    → IsEndOf made lost (Ok passed_over) written i.streams.output_after → IsNoted passed_over i.streams.fault_before i.streams.fault_after → IsIssuedOver meaning task i
issued_over meaning task i last written passed_over (Ok other) lost is (inl end) noted = record {
  last = last;
  written = written;
  passed_over = passed_over;
  made = subst (λ (n : ℕ). HasMadeLines meaning task (ends i.made i.streams.output_before) (ends last written) n) (sym (ok_same {E = IssueFault} passed_over other end.0)) is;
  kept = end.1;
  noted = noted;
}
issued_over meaning task i last written passed_over (Err why) lost is (inl end) noted = absurd (cc end.0)
issued_over meaning task i last written passed_over made lost is (inr end) noted = absurd (cc end.0)

-- what comes of a task that is begun
pub begun : {D V E : Type 0} (meaning : DiskMeaning D) (known : IssueFilesKnown D) (asked : Written) (End : IssueTask → D → Type 0) (order : Order)
    (padding : List ℕ) (disk : D) (ended : Result V E) → IsOrderOf (order_in asked) order → IsFrontRead known.random (6 * order.count) padding
    → IsLedgerOpened meaning known.ledger disk → OnOk ended (End (issue_task order (if_issued_in asked) padding) disk)
    → OnOk ended (IsBegun meaning known asked End)
begun meaning known asked End order padding disk (Ok done) read padding_read opened is =
    record { order = order; read = read; padding = padding; padding_read = padding_read; disk = disk; opened = opened; end = is }
begun meaning known asked End order padding disk (Err why) read padding_read opened is = tt

pub not_ended : {D V : Type 0} (meaning : DiskMeaning D) (known : IssueFilesKnown D) (asked : Written) (s : Streams) (order : Order)
    (padding : List ℕ) (disk : D) (ended : Result V IssueFault) → IsOrderOf (order_in asked) order → IsFrontRead known.random (6 * order.count) padding
    → IsLedgerOpened meaning known.ledger disk
    → IfErr ended (IsNotIssuedTo (ledger_meaning meaning) known.making (value_in (codes "out") asked)
    (issue_task order (if_issued_in asked) padding) (issuing (new_ledger disk) s))
    → IfErr ended (HasNotIssuedFiles meaning known asked s)
not_ended meaning known asked s order padding disk (Ok done) read padding_read opened is = tt
not_ended meaning known asked s order padding disk (Err why) read padding_read opened is = inr (inr (inr (record {
  order = order;
  read = read;
  padding = padding;
  padding_read = padding_read;
  disk = disk;
  opened = opened;
  end = is;
})))
