use Rattle.std.proofs.Common.{◌≡◌, ◌∙◌, Err, refl, subst, length-set, get_or-set_other, arith}
use Rattle.duk_group.specs.Numbers.{number_at}
use Rattle.duk_tree.specs.Serial.{Serial}
use Rattle.duk_hsm.specs.Group.{numbers_of}
use Rattle.duk_hsm.specs.inner.Group.{IsBase}
use Rattle.duk_hsm.specs.declared.fault.HsmFault.TheVariants.{NoKeySet}
use Rattle.duk_hsm.proofs.AskedNumbers.{number_there, either_base}
use Rattle.duk_hsm.proofs.WrittenPlaces.{unwritten, written_below}
use Rattle.duk_hsm.proofs.group.base_keys.Goals as goal

pub loop-i-init : goal.loop-i-init
loop-i-init g c = record { size = refl; below = λ p before. absurd (omega (arith, before)); past = λ p past. unwritten 128 p (Err NoKeySet) }

pub loop-i-preserved : goal.loop-i-preserved
loop-i-preserved g c =
    let keys = c.args.hsm.now in
    let asked = c.args.asked.now in
    let i = c.loop-i.i in
    let base = c.base_key.result in
    let ksn : c.ksn.result ≡ number_at (numbers_of asked) i = c.ksn.ensures ∙ number_there asked i c.index-asked-i.result c.loop-i-test.true c.index-asked-i.is in
    let P : Serial → Type 0 = λ ksn. IsBase keys ksn base in
    record {
      size = length-set c.loop-i.bases i base ∙ c.loop-i.invariant.size;
      below =
          written_below (λ p base. IsBase keys (number_at (numbers_of asked) p) base) c.loop-i.bases i base (Err NoKeySet) (omega (arith, c.loop-i.invariant.size, c.loop-i-test.true, c.requires.few)) c.loop-i.invariant.below
          (subst P ksn (either_base keys c.ksn.result base c.base_key.ensures.found c.base_key.ensures.refused));
      past = λ p past. get_or-set_other c.loop-i.bases i p base (Err NoKeySet) (omega (arith, past)) ∙ c.loop-i.invariant.past p (omega (arith, past));
    }
