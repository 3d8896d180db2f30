use Rattle.std.proofs.Common.{◌≡◌, ◌∙◌, ◌<◌, ℕ, List, Result, Ok, Err, IfOk, IfErr, length, get_or, subst, length-set, arith}
use Rattle.std.proofs.lemmas.List.{get_or_default}
use Rattle.duk_hsm.specs.TransactionKeys.{TransactionKeys}
use Rattle.duk_hsm.specs.inner.Group.{base_at, prepared_at}
use Rattle.duk_hsm.specs.declared.fault.HsmFault.{HsmFault}
use Rattle.duk_hsm.specs.declared.fault.HsmFault.TheVariants.{NoKeySet}
use Rattle.duk_hsm.proofs.WrittenPlaces.{written_below}
use Rattle.duk_hsm.proofs.group.derived.Goals as goal

pub loop-i-preserved : goal.loop-i-preserved
loop-i-preserved c =
    let bases = c.args.bases.now in
    let prepared = c.prepared_keys-prepared.result in
    let i = c.loop-i.i in
    let place = c.unless_refused.result in
    let room : i < length c.loop-i.places = omega (arith, c.loop-i.invariant.size, c.loop-i-test.true) in
    let base : get_or bases i c.index-bases-i.result ≡ base_at bases i = get_or_default bases i c.index-bases-i.result (Err NoKeySet) (omega arith) in
    let found : get_or prepared i c.index-prepared-i.result ≡ prepared_at prepared i = get_or_default prepared i c.index-prepared-i.result _ (omega arith) in
    let Opens : Result (List ℕ) HsmFault → Type 0 = λ base. IfOk base (λ _. place ≡ Ok (prepared_at prepared i)) in
    let Refuses : Result (List ℕ) HsmFault → Type 0 = λ base. IfErr base (λ why. place ≡ Err why) in
    let Finds : TransactionKeys → Type 0 = λ prepared. IfOk (get_or bases i c.index-bases-i.result) (λ _. place ≡ Ok prepared) in
    record {
      size = length-set c.loop-i.places i place ∙ c.loop-i.invariant.size;
      opened =
          written_below (λ p place. IfOk (base_at bases p) (λ _. place ≡ Ok (prepared_at prepared p))) c.loop-i.places i place (Err NoKeySet) room c.loop-i.invariant.opened
          (subst Opens base (subst Finds found c.unless_refused.ensures.opened));
      refused =
          written_below (λ p place. IfErr (base_at bases p) (λ why. place ≡ Err why)) c.loop-i.places i place (Err NoKeySet) room c.loop-i.invariant.refused (subst Refuses base c.unless_refused.ensures.refused);
    }
