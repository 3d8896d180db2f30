-- The faults of `issue`, their order, and the lines that report them (this project's own).
use Rattle.std.specs.Prelude.{ℕ, List, [], ◌++◌, codes}
use Rattle.hex.specs.Hex.{encode_upper}
use Rattle.duk_commands.specs.Fault.{line_end}
use Rattle.duk_tree.specs.Serial.{iksn_bytes}
use Rattle.duk_commands.specs.declared.issue.fault.IssueFault.{IssueFault}
use Rattle.duk_commands.specs.declared.issue.fault.IssueFault.TheVariants as fault

-- the order in which the faults of the arguments are reported; all others stand behind them
abbrev pub issue_rank : IssueFault → ℕ
issue_rank fault.BdkRefused = 0
issue_rank fault.LoadingRefused = 1
issue_rank fault.IksnRefused = 2
issue_rank fault.CountRefused = 3
issue_rank fault.KcvRefused = 4
issue_rank fault.KcvDiffers = 5
issue_rank fault = 6

-- the number that a fault names
abbrev pub issue_number : IssueFault → List ℕ
issue_number (fault.Issued iksn) = encode_upper (iksn_bytes iksn)
issue_number (fault.NotIssued iksn) = encode_upper (iksn_bytes iksn)
issue_number fault = []

-- what is reported of a fault
abbrev pub issue_text : IssueFault → List ℕ
issue_text fault.BdkRefused = codes "BDK refused"
issue_text fault.LoadingRefused = codes "loading refused"
issue_text fault.IksnRefused = codes "IKSN refused"
issue_text fault.CountRefused = codes "count refused"
issue_text fault.KcvRefused = codes "KCV refused"
issue_text fault.KcvDiffers = codes "KCV differs"
issue_text fault.PaddingUnread = codes "padding: cannot read"
issue_text fault.LedgerUnopened = codes "ledger: cannot open"
issue_text fault.OutUnmade = codes "out: cannot make"
issue_text fault.LedgerFailed = codes "ledger: failed"
issue_text fault.LedgerOldVersion = codes "ledger: version 1, use copy-ledger"
issue_text fault.LedgerDamaged = codes "ledger: damaged"
issue_text (fault.Issued iksn) = codes ": issued"
issue_text (fault.NotIssued iksn) = codes ": not issued"
issue_text fault.LedgerFull = codes "ledger: full"
issue_text fault.OutOfMemory = codes "out of memory"
issue_text fault.WriteFailed = codes "write failed"

-- the line of a fault
abbrev pub issue_line : IssueFault → List ℕ
issue_line fault = issue_number fault ++ issue_text fault ++ line_end
