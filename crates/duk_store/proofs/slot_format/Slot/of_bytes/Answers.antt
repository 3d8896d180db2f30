use Rattle.std.proofs.Common.{rules, arith, ◌∙◌, sym, drop, length-drop}
use Rattle.std.proofs.lemmas.Bool.{eqb-true, eq-eqb}
use Rattle.std.proofs.lemmas.List.{drop-drop, take_all}
use Rattle.duk_store.proofs.slot_format.Slot.of_bytes.Goals as goal

pub returns : goal.returns
returns c =
    let bytes = c.args.bytes.now in
    let body = c.copy_from_slice.ensures.after ∙ take_all 503 (drop 9 bytes) (omega (arith, c.told-bytes, length-drop 9 bytes)) in
    record {
      commit = (eqb-true _ _, eq-eqb _ _);
      sequence = search rules;
      body = body ∙ sym (drop-drop 8 1 bytes);
    }
