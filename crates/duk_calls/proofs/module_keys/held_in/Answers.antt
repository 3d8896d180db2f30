use Rattle.std.proofs.Common.{◌≡◌, ◌<◌, ◌+◌, ◌-◌, ◌*◌, IsTrue, suc, arith, drop, false, rules, subst, take}
use Rattle.duk_tdes.specs.Tdes.{IsTdesKey}
use Rattle.duk_calls.specs.Modules.{AreLoaded, IsEntryLoaded, count_in}
use Rattle.duk_calls.proofs.Loading.{Readings, not_loaded}
use Rattle.duk_calls.proofs.module_keys.held_in.Goals as goal

pub returns-then-not-load_entry : goal.returns-then-not-load_entry
returns-then-not-load_entry g c = λ keys is.
    let readings : Readings = record { one = c.one_reading.ensures; none = c.no_fault.ensures } in
    let image = c.args.image.now in
    let i = c.loop-i.i in
    let hsm = c.loop-i.held.hsm in
    let failed : c.load_entry.result ≡ false = search rules in
    let width : 520 * i + 520 - 520 * i ≡ 520 = omega arith in
    let within : i < count_in image = omega (arith, c.loop-i-test.true, c.from-count.ensures) in
    not_loaded readings image (count_in image) i keys hsm (subst IsTdesKey c.requires.lmk c.tdes_key.ensures.key) within c.loop-i.invariant.loaded
    (λ after. subst (λ n. ¬ IsEntryLoaded (take n (drop (520 * i) image)) hsm after) width (c.load_entry.ensures.refused failed after)) is.are_loaded

pub loop-i-preserved : goal.loop-i-preserved
loop-i-preserved g c =
    let image = c.args.image.now in
    let i = c.loop-i.i in
    let hsm = c.loop-i.held.hsm in
    let after = c.load_entry.new.held.hsm in
    let done : IsTrue c.load_entry.result = search rules in
    let width : 520 * i + 520 - 520 * i ≡ 520 = omega arith in
    let next : suc i ≡ i + 1 = omega arith in
    record {
      loaded = subst (λ n. AreLoaded image n after) next
          (hsm, c.loop-i.invariant.loaded, subst (λ n. IsEntryLoaded (take n (drop (520 * i) image)) hsm after) width (c.load_entry.ensures.loaded done));
      lmk = c.load_entry.ensures.lmk done;
      zone = c.load_entry.ensures.zone done;
    }
