use Rattle.std.proofs.Common.{◌≡◌, ◌∙◌, ◌<◌, ◌+◌, ◌++◌, ◌∷◌, [], ap, arith, get_or, length, map, rules, slice_set, subst, sym, take}
use Rattle.std.proofs.lemmas.List.{map-append, take_more, take_more_set}
use Rattle.duk_group.specs.declared.transposed.TheConstants.{WIDTH}
use Rattle.duk_hsm.specs.Group.{numbers_of}
use Rattle.duk_journal_host.specs.Steps.{number_in}
use Rattle.duk_journal_host.proofs.answer.asked_for.Goals as goal

pub loop-place-preserved : goal.loop-place-preserved
loop-place-preserved c =
    let settled = c.args.settled.now in
    let asked = c.loop-place.asked in
    let place = c.loop-place.place in
    let item = c.index-settled-place.result in
    let one = c.reversal.result in
    let size : length (slice_set asked place one) ≡ WIDTH = search rules in
    let room : place < length asked = omega (arith, c.loop-place.invariant.size, c.loop-place-test.true, c.requires.few) in
    let is : get_or settled place item ≡ item = sym c.index-settled-place.is in
    record {
      size = size;
      numbers = ap numbers_of (take_more_set asked place one room)
          ∙ map-append (λ one. one.ksn) (take place asked) (one ∷ [])
          ∙ ap (λ numbers. numbers ++ one.ksn ∷ []) c.loop-place.invariant.numbers
          ∙ ap (λ ksn. map number_in (take place settled) ++ ksn ∷ []) (c.reversal.ensures.ksn ∙ c.number.ensures)
          ∙ sym (map-append number_in (take place settled) (item ∷ []))
          ∙ ap (map number_in) (sym (take_more settled place item c.loop-place-test.true ∙ ap (λ item. take place settled ++ item ∷ []) is));
    }
