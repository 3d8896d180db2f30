use Rattle.std.proofs.Common.{◌≡◌, ◌∙◌, IsTrue, None, ap, false, inl, inr, rules, subst, sym}
use Rattle.std.specs.Option.{IsSome}
use Rattle.std.proofs.lemmas.Bool.{false≢true}
use Rattle.duk_hsm.specs.Keys.{key_set_of}
use Rattle.duk_hsm.specs.declared.fault.HsmFault.TheVariants as hsm
use Rattle.duk_journal_host.specs.Steps.{number_in}
use Rattle.duk_tree.specs.Path.{IsUsable}
use Rattle.duk_tree.specs.Serial.{Serial, prefix_of}
use Rattle.duk_calls.specs.Hosts.{padded}
use Rattle.duk_calls.proofs.HostPlaces.{none_of, with_key}
use Rattle.duk_calls.proofs.answering.place_of.Goals as goal

pub returns-then-not-has_key_set : goal.returns-then-not-has_key_set
returns-then-not-has_key_set g c =
    let keys = c.args.hsm.now in
    let failed : c.has_key_set.result ≡ false = search rules in
    let prefix : c.prefix.result ≡ prefix_of (number_in c.args.settled.now) = c.prefix.ensures ∙ ap prefix_of c.number_in-number.ensures in
    let none : key_set_of keys c.prefix.result ≡ None = none_of (key_set_of keys c.prefix.result) (λ some. false≢true (sym failed ∙ c.has_key_set.ensures.held.1 some)) in
    inr (hsm.NoKeySet, subst (λ prefix. key_set_of keys prefix ≡ None) prefix none, c.place_of_fault.ensures)

pub returns-then-usable : goal.returns-then-usable
returns-then-usable g c =
    let keys = c.args.hsm.now in
    let number = number_in c.args.settled.now in
    let has : IsTrue c.has_key_set.result = search rules in
    let is : IsTrue c.usable.result = search rules in
    let prefix : c.prefix.result ≡ prefix_of number = c.prefix.ensures ∙ ap prefix_of c.number_in-number.ensures in
    let counter : c.counter.result ≡ number.counter = c.counter.ensures.value ∙ ap (λ (serial : Serial). serial.counter) c.number_in-number.ensures in
    let held : IsSome (key_set_of keys (prefix_of number)) = subst (λ prefix. IsSome (key_set_of keys prefix)) prefix (c.has_key_set.ensures.held.0 has) in
    let usable : IsUsable number.counter = subst IsUsable counter (c.usable.ensures.usable.0 is) in
    let key = with_key keys number held usable in
    inl (key, c.args.frame.now.items, c.requires.answer key, c.padded.ensures ∙ ap padded c.as_slice.ensures.value)

pub returns-else-usable : goal.returns-else-usable
returns-else-usable g c =
    let keys = c.args.hsm.now in
    let number = number_in c.args.settled.now in
    let has : IsTrue c.has_key_set.result = search rules in
    let failed : c.usable.result ≡ false = search rules in
    let prefix : c.prefix.result ≡ prefix_of number = c.prefix.ensures ∙ ap prefix_of c.number_in-number.ensures in
    let counter : c.counter.result ≡ number.counter = c.counter.ensures.value ∙ ap (λ (serial : Serial). serial.counter) c.number_in-number.ensures in
    inr (
      hsm.BadCounter,
      record {
        held = subst (λ prefix. IsSome (key_set_of keys prefix)) prefix (c.has_key_set.ensures.held.0 has);
        unusable = λ is. false≢true (sym failed ∙ c.usable.ensures.usable.1 (subst IsUsable (sym counter) is));
      },
      c.place_of_fault-else-usable.ensures,
    )
