use Rattle.std.proofs.Common.{◌≡◌, ◌++◌, ◌∙◌, ℕ, List, ap, take, replicate}
use Rattle.std.proofs.lemmas.List.{take_at}
use Rattle.duk_journal.specs.CheckedFormat.{check_bytes, said_of}
use Rattle.duk_ledger.specs.IssuedFormat.{said_by}
use Rattle.duk_ledger.proofs.SaidIssues.{said_length}
use Rattle.duk_ledger.proofs.format.contents_of.Goals as goal

pub returns-clause-bytes : goal.returns-clause-bytes
returns-clause-bytes c =
    let said : List ℕ = said_by c.args.issued.now in
    let front : said_of c.as_slice.result.now ≡ said =
    ap (take 26) (c.as_slice.ensures.value ∙ c.plain.ensures.bytes) ∙ take_at said (replicate 5 0) 26 (said_length c.serials.ensures.ten c.args.issued.now c.plain.ensures.fields) in
    c.with_check.ensures.bytes ∙ ap (λ (l : List ℕ). l ++ check_bytes c.args.identity c.args.place l) front
