use Rattle.std.proofs.Common.{◌≡◌, ◌++◌, ◌∙◌, ℕ, List, Some, ap, sym, true≢false}
use Rattle.std.specs.Cmp.Lexicographic.{bytes_decides}
use Rattle.duk_journal.specs.CheckedFormat.{check_bytes}
use Rattle.duk_ledger.specs.IssuedFormat.{said_by}
use Rattle.duk_ledger.specs.declared.issued.Issued.{Issued}
use Rattle.duk_ledger.proofs.SaidIssues.{issued_back}
use Rattle.duk_ledger.proofs.format.IssuedFormatFormat.read.Goals as goal

pub returns-then-eq-clause-every : goal.returns-then-eq-clause-every
returns-then-eq-clause-every c = λ followers item says.
    let check : List ℕ = check_bytes c.args.identity c.args.place (said_by item) in
    let same : c.at_its_places-issued.result ≡ item =
    c.at_its_places-issued.ensures ∙ issued_back c.serials.ensures.ten c.serials.ensures.found item c.args.contents.now check says.fields says.written in
    ap (λ (it : Issued). Some (0, it)) same ∙ ap (λ (n : ℕ). Some (n, item)) (sym says.alone)

pub returns-else-eq-clause-every : goal.returns-else-eq-clause-every
returns-else-eq-clause-every c = λ followers item says.
    let contents : List ℕ = c.args.contents.now in
    let check : List ℕ = check_bytes c.args.identity c.args.place (said_by item) in
    let same : c.at_its_places-issued.result ≡ item =
    c.at_its_places-issued.ensures ∙ issued_back c.serials.ensures.ten c.serials.ensures.found item contents check says.fields says.written in
    let written : c.as_slice.result.now ≡ said_by item ++ check =
    c.as_slice.ensures.value ∙ c.contents_of-written.ensures.bytes ∙ ap (λ (it : Issued). said_by it ++ check_bytes c.args.identity c.args.place (said_by it)) same in
    let yes = c.eq.ensures ∙ (bytes_decides contents c.as_slice.result.now).1 (says.written ∙ sym written) in
    absurd (true≢false (sym yes ∙ c.if-eq.false))
