use Rattle.std.proofs.Common.{◌≡◌, ◌∙◌, ◌<◌, ℕ, List, Ok, Err, get_or, subst, length-set, arith}
use Rattle.std.proofs.lemmas.List.{get_or_default}
use Rattle.duk_group.specs.Numbers.{number_at}
use Rattle.duk_group.specs.declared.transposed.TheConstants.{WIDTH}
use Rattle.duk_tree.specs.Serial.{Serial}
use Rattle.duk_hsm.specs.Group.{numbers_of}
use Rattle.duk_hsm.specs.inner.Group.{IsDerivedKey, base_at}
use Rattle.duk_hsm.specs.declared.fault.HsmFault.TheVariants.{NoKeySet}
use Rattle.duk_hsm.proofs.AskedNumbers.{number_there}
use Rattle.duk_hsm.proofs.WrittenPlaces.{written_below}
use Rattle.duk_hsm.proofs.one_by_one.prepared_one_by_one.Goals as goal

pub loop-i-preserved : goal.loop-i-preserved
loop-i-preserved c =
    let bases = c.args.bases.now in
    let asked = c.args.asked.now in
    let i = c.loop-i.i in
    let one = c.prepared_key.result in
    let lane : i < WIDTH = omega (arith, c.loop-i-test.true, c.requires.few) in
    let base : get_or bases i c.index-bases-i.result ≡ base_at bases i = get_or_default bases i c.index-bases-i.result (Err NoKeySet) (omega arith) in
    let ksn : c.ksn.result ≡ number_at (numbers_of asked) i = c.ksn.ensures ∙ number_there asked i c.index-asked-i.result c.loop-i-test.true c.index-asked-i.is in
    let here : (bdk : List ℕ) → base_at bases i ≡ Ok bdk → IsDerivedKey (number_at (numbers_of asked) i) c.args.zone bdk one = λ bdk is.
    subst (λ (ksn : Serial). IsDerivedKey ksn c.args.zone bdk one) ksn (c.prepared_key.ensures bdk (base ∙ is)) in
    record {
      size = length-set c.loop-i.prepared i one ∙ c.loop-i.invariant.size;
      below =
          written_below (λ p prepared. (bdk : List ℕ) → base_at bases p ≡ Ok bdk → IsDerivedKey (number_at (numbers_of asked) p) c.args.zone bdk prepared) c.loop-i.prepared i one _
          (omega (arith, c.loop-i.invariant.size, lane)) c.loop-i.invariant.below here;
    }

pub returns : goal.returns
returns c = λ i bdk within is. c.loop-i.invariant.below i (omega (arith, within, c.loop-i-test.false)) bdk is
