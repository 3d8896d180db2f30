use Rattle.std.proofs.Common.{[], ◌∷◌, ◌++◌, ◌≡◌, length, sym, ap, subst, ◌∙◌, arith}
use Rattle.std.proofs.lemmas.List.Elements.{All-nil, All-push, All-same}
use Rattle.duk_tree.specs.Serial.{IsIksn, Serial}
use Rattle.duk_regs.specs.Image.{past_of, past_serial_in}
use Rattle.duk_regs.proofs.PastWrittenAndRead.{length-past_of, past_of_more, past_of_none}
use Rattle.duk_regs.proofs.past_image.read_places.Goals as goal

pub loop-place-init : goal.loop-place-init
loop-place-init c = record {
  read = c.none-past.ensures ∙ sym (past_of_none c.args.image.now);
  iksns = All-same IsIksn c.none-past.result [] c.none-past.ensures (All-nil IsIksn);
}

pub with-past-requires : goal.with-past-requires
with-past-requires c = omega (arith, ap length c.loop-place.invariant.read, length-past_of c.args.image.now c.loop-place.place)

pub loop-place-preserved : goal.loop-place-preserved
loop-place-preserved c =
    let image = c.args.image.now in
    let place = c.loop-place.place in
    let past = c.loop-place.past in
    let iksn = c.iksn.result in
    let is_iksn : iksn ≡ (past_serial_in image place).iksn = c.iksn.ensures.value ∙ ap (λ (serial : Serial). serial.iksn) c.past_serial.ensures.value in
    record {
      read = c.with-past.ensures ∙ ap (λ front. front ++ iksn ∷ []) c.loop-place.invariant.read ∙ ap (λ last. past_of image place ++ last ∷ []) is_iksn ∙ sym (past_of_more image place);
      iksns = All-same IsIksn c.with-past.result (past ++ iksn ∷ []) c.with-past.ensures (All-push IsIksn past iksn c.loop-place.invariant.iksns (subst IsIksn (sym c.iksn.ensures.value) c.past_serial.ensures.iksn));
    }
