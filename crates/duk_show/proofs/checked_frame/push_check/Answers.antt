use Rattle.std.proofs.Common.{◌≡◌, ◌++◌, append_assoc, codes, ap, refl, subst, ◌∙◌}
use Rattle.duk_commands.specs.Lines.{named_line, text_line}
use Rattle.duk_frame.specs.Frame.{mac_text_of}
use Rattle.duk_mac.specs.Retail.{retail_of}
use Rattle.duk_show.specs.CheckedFrame.{IsVerdict}
use Rattle.duk_show.proofs.checked_frame.push_check.Goals as goal

pub returns-clause-check : goal.returns-clause-check
returns-clause-check c =
    let expected : c.retail-expected.result ≡ retail_of c.args.key.now (mac_text_of c.args.bytes.now) =
    c.retail-expected.ensures ∙ ap (retail_of c.args.key.now) c.mac_text.ensures in
    let verdict = c.verdict_on-verdict.result.now in
    let first = named_line (codes "mac-expected") (retail_of c.args.key.now (mac_text_of c.args.bytes.now)) in
    let second = text_line (codes "mac-check") verdict in (
      first ++ second,
      record {
        verdict = verdict;
        verdict_is = subst (λ mac. IsVerdict mac c.args.mac verdict) expected c.verdict_on-verdict.ensures.verdict;
        check_is = refl;
      },
      c.push_text_line.ensures.line ∙ ap (λ word. c.push_line.new.lines.items ++ text_line (codes "mac-check") word) c.as_bytes.ensures.value
          ∙ ap (λ front. front ++ second) (c.push_line.ensures.line ∙ ap (λ mac. c.args.lines.now.items ++ named_line (codes "mac-expected") mac) expected)
          ∙ append_assoc c.args.lines.now.items first second,
    )
