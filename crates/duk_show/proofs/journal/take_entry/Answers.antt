use Rattle.std.proofs.Common.{◌≡◌, Err, Ok, OnOk, Result, false, true≢false, sym, subst, arith}
use Rattle.std.specs.Bool.{MatchBool}
use Rattle.std.specs.Result.{is_err}
use Rattle.duk_host.specs.Used.{IsUsed}
use Rattle.duk_show.specs.inner.Journal.{AreUsedBy}
use Rattle.duk_show.proofs.JournalNumbers.{used_more}
use Rattle.duk_show.proofs.journal.take_entry.Goals as goal

-- what holds of a result where it is no error, of one that is none
where_ok : {A E : Type 0} (P : Type 0) (result : Result A E) → is_err result ≡ false → OnOk result P → P
where_ok P (Ok value) ok holds = holds
where_ok P (Err why) ok holds = absurd (true≢false ok)

pub returns-in-Ok-false-clause-refused : goal.returns-in-Ok-false-clause-refused
returns-in-Ok-false-clause-refused c =
    let ksn = c.args.entry.number in
    let used = c.args.used.now in
    let is_used = subst (λ fresh. MatchBool fresh (¬ IsUsed used ksn) (IsUsed used ksn)) c.in-Ok-false.field-0-test c.in-Ok-false.ensures.fresh in
    (omega (arith, c.len-place.ensures, c.args.entries.now.ok.0), (c.requires.listed.members ksn).1 is_used)

pub returns-in-Ok-clause-taken : goal.returns-in-Ok-clause-taken
returns-in-Ok-clause-taken c =
    let ksn = c.args.entry.number in
    let used = c.args.used.now in
    let fresh = subst (λ fresh. MatchBool fresh (¬ IsUsed used ksn) (IsUsed used ksn)) c.in-Ok-true.field-0-test c.in-Ok-true.ensures.fresh in
    record { is_new = λ contains. fresh ((c.requires.listed.members ksn).0 contains); taken = c.in-Ok.ensures.items }

pub returns-in-Ok-clause-listed : goal.returns-in-Ok-clause-listed
returns-in-Ok-clause-listed c =
    let ksn = c.args.entry.number in
    let used = c.args.used.now in
    let fresh = subst (λ fresh. MatchBool fresh (¬ IsUsed used ksn) (IsUsed used ksn)) c.in-Ok-true.field-0-test c.in-Ok-true.ensures.fresh in
    subst (λ entries. AreUsedBy entries c.take_reversed.new.numbers) (sym c.in-Ok.ensures.items)
    (used_more c.args.entries.now.items c.args.entry used c.insert.new.self c.take_reversed.new.numbers c.requires.listed c.requires.usable c.requires.stands (λ contains. fresh ((c.requires.listed.members ksn).0 contains))
    c.in-Ok-true.ensures.added (where_ok _ c.take_reversed.result (sym c.if-is_err.ensures.value) c.take_reversed.ensures.taken))
