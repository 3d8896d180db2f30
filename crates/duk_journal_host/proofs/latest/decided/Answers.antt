use Rattle.std.proofs.Common.{◌≡◌, ◌∙◌, None, Some, eqb, ap, sym, subst, rules}
use Rattle.std.proofs.lemmas.Bool.{false≢true}
use Rattle.std.proofs.lemmas.Slice.Eq.{bytes_eq-Decides}
use Rattle.std.specs.Map.{lookup}
use Rattle.duk_journal.specs.declared.entry.Decided.{Decided}
use Rattle.duk_tree.specs.Serial.{serial_number}
use Rattle.duk_journal_host.specs.declared.latest.Kept.{Kept}
use Rattle.duk_journal_host.proofs.Ring.{found_entry, one_found, only_place}
use Rattle.duk_journal_host.proofs.latest.decided.Goals as goal

pub returns-in_err-kept-clause-every : goal.returns-in_err-kept-clause-every
returns-in_err-kept-clause-every c = λ decided contains.
    let places = c.args.map.now.entries in
    let none : lookup (eqb (serial_number c.args.ksn)) places ≡ None =
    sym (subst (λ key. None ≡ lookup (eqb key) places) c.number.ensures.value c.in_err-kept.ensures.value) in
    let found = only_place c.args.oldest places c.args.ksn c.args.mac decided c.requires.unique contains in
    let is = found.1 in absurd (cc)

pub returns-then-eq-clause-found : goal.returns-then-eq-clause-found
returns-then-eq-clause-found c =
    let places = c.args.map.now.entries in
    let kept = c.in_ok-kept.kept.now in
    let found : lookup (eqb (serial_number c.args.ksn)) places ≡ Some kept =
    sym (subst (λ key. Some kept ≡ lookup (eqb key) places) c.number.ensures.value c.in_ok-kept.ensures.value) in
    let same : kept.mac ≡ c.args.mac = search rules in
    found_entry c.args.oldest places c.args.ksn c.args.mac kept c.number.ensures.serial found same

pub returns-then-eq-clause-every : goal.returns-then-eq-clause-every
returns-then-eq-clause-every c = λ decided contains.
    let places = c.args.map.now.entries in
    let kept = c.in_ok-kept.kept.now in
    let found = only_place c.args.oldest places c.args.ksn c.args.mac decided c.requires.unique contains in
    let is : lookup (eqb (serial_number c.args.ksn)) places ≡ Some kept =
    sym (subst (λ key. Some kept ≡ lookup (eqb key) places) c.number.ensures.value c.in_ok-kept.ensures.value) in
    let same : kept.decided ≡ decided = ap (λ (kept : Kept). kept.decided) (one_found (lookup (eqb (serial_number c.args.ksn)) places) kept found.0 is found.1) ∙ found.3 in
    ap (λ (decided : Decided). Some decided) same

pub returns-else-eq-clause-every : goal.returns-else-eq-clause-every
returns-else-eq-clause-every c = λ decided contains.
    let places = c.args.map.now.entries in
    let kept = c.in_ok-kept.kept.now in
    let found = only_place c.args.oldest places c.args.ksn c.args.mac decided c.requires.unique contains in
    let is : lookup (eqb (serial_number c.args.ksn)) places ≡ Some kept =
    sym (subst (λ key. Some kept ≡ lookup (eqb key) places) c.number.ensures.value c.in_ok-kept.ensures.value) in
    let same : kept.mac ≡ c.args.mac = ap (λ (kept : Kept). kept.mac) (one_found (lookup (eqb (serial_number c.args.ksn)) places) kept found.0 is found.1) ∙ found.2 in
    absurd (false≢true (c.if-eq.ensures ∙ (bytes_eq-Decides kept.mac c.args.mac).1 same))
