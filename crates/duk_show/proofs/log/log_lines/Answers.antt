use Rattle.std.proofs.Common.{◌≡◌, ◌-◌, ◌/◌, ◌++◌, [], ℕ, List, codes, decimal, length, IfErr, ap, subst, ◌∙◌, arith, rules}
use Rattle.std.proofs.lemmas.Result.{IfOk-weaker}
use Rattle.duk_commands.specs.Lines.{text_line}
use Rattle.duk_tree.specs.Serial.{Serial}
use Rattle.duk_show.specs.Log.{AreOfOneLog, IsLogRefused, log_lines, terminal_lines}
use Rattle.duk_show.specs.inner.Log.{IsNumberRefused}
use Rattle.duk_show.proofs.LogRecords.{numbers_refused, whole}
use Rattle.duk_show.proofs.log.log_lines.Goals as goal

pub returns-clause-lines : goal.returns-clause-lines
returns-clause-lines c =
    let bytes = c.args.bytes.now in
    let numbers : List Serial = c.in_ok-numbers.numbers.items in
    let slice : List Serial = c.as_slice-2.result.now in
    let same : slice ≡ numbers = c.as_slice-2.ensures.value in
    let size : c.len.result ≡ length slice = omega (arith, c.len.ensures, c.as_slice-2.ensures.len) in
    let found = c.in_ok-numbers.ensures in
    IfOk-weaker c.lines_of_numbers.result _ _ (λ text is. record {
      numbers = numbers;
      size = found.size;
      keeps = whole bytes numbers found.size found.numbers;
      of_one_log = subst AreOfOneLog c.as_slice.ensures.value c.in_ok-test_numbers.ensures.of_one_log;
      text_is = is
          ∙ ap (λ (n : ℕ). text_line (codes "numbers") (decimal (length slice)) ++ text_line (codes "room") (decimal (length bytes / 16 - n)) ++ terminal_lines [] slice) size
          ∙ ap (log_lines (length bytes / 16)) same;
    }) c.lines_of_numbers.ensures.lines

pub returns-in_err-test_numbers-clause-refused : goal.returns-in_err-test_numbers-clause-refused
returns-in_err-test_numbers-clause-refused c =
    let bytes = c.args.bytes.now in
    let numbers : List Serial = c.in_ok-numbers.numbers.items in
    let found = c.in_ok-numbers.ensures in
    let why = subst (λ (some : List Serial). IfErr c.test_numbers.result (IsNumberRefused some)) c.as_slice.ensures.value c.test_numbers.ensures.refused in
    let all : IfErr c.test_numbers.result (IsLogRefused bytes) =
    numbers_refused bytes numbers c.test_numbers.result found.size (whole bytes numbers found.size found.numbers) why in
    search (rules, all)
