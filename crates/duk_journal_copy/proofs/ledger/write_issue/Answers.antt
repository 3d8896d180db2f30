use Rattle.std.proofs.Common.{◌≡◌, ◌++◌, ◌∷◌, ℕ, List, [], arith, length, length-append, refl, subst, sym}
use Rattle.std.proofs.lemmas.List.{append-nil}
use Rattle.duk_ledger.specs.IssuedFormat.{SaysIssued}
use Rattle.duk_journal_copy.proofs.Results.{on_both}
use Rattle.duk_journal_copy.proofs.ledger.write_issue.Goals as goal

pub returns-clause-written : goal.returns-clause-written
returns-clause-written g c =
    let contents : List ℕ = c.write.new.contents in
    let long : length contents ≡ 31 = c.write.ensures.length in
    on_both _ _ _ c.write_at.result
    (λ wrote none. record {
      nature = c.write_at.ensures.nature;
      no_failure = none;
      wrote = λ h. (
        1 ∷ (contents ++ []),
        omega (arith, long, length-append contents []),
        record { opened = refl; says = subst (λ (l : List ℕ). SaysIssued c.args.identity c.args.place 0 c.args.issued.now l) (sym (append-nil contents)) c.write.ensures.written },
        wrote h,
      );
    })
    c.write_at.ensures.written c.write_at.ensures.no_failure
