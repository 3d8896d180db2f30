use Rattle.std.proofs.Common.{◌≡◌, ◌-◌, ℕ, List, Some, length, drop, take, get_or, ap, sym, ◌∙◌}
use Rattle.std.proofs.lemmas.List.{take_rest}
use Rattle.byteorder.specs.Endian.{big_number}
use Rattle.duk_tree.specs.Serial.{serial_of_bytes}
use Rattle.duk_journal.specs.inner.Entry.{IsWrittenAs}
use Rattle.duk_journal.specs.declared.record_format.Contents.{Contents}
use Rattle.duk_journal.proofs.FieldPlaces.{FieldPlaces, field_places, same_contents, same_some}
use Rattle.duk_journal.proofs.record_format.Contents.at_their_places.Goals as goal

-- what was decided is written in its three fields
written : (bytes : List ℕ) (figure : ℕ) (contents : Contents) → FieldPlaces bytes contents → figure ≡ big_number 4 (take (length bytes - 13) (drop 13 bytes)) → IsWrittenAs contents.entry.decided (get_or bytes 0 0) figure (get_or bytes 17 0)
written bytes figure contents places read = record {
  kind_is = sym places.kind_is;
  figure_is = sym (read ∙ ap (big_number 4) (take_rest bytes 13) ∙ places.figure_is);
  outcome_is = sym places.outcome_is;
}

pub returns-in_err-written_as : goal.returns-in_err-written_as
returns-in_err-written_as c = record {
  every = λ contents are.
      let places = field_places c.args.bytes.now contents c.serials.ensures.ten are in
      let wrong = c.in_err-written_as.ensures.every contents.entry.decided (written c.args.bytes.now c.read_u32-figure.result contents places c.read_u32-figure.ensures) in
      cc;
}

pub returns : goal.returns
returns c = record {
  every = λ contents are.
      let places = field_places c.args.bytes.now contents c.serials.ensures.ten are in
      let number : c.from_bytes.result ≡ contents.entry.number =
      c.from_bytes.ensures.value
      ∙ ap serial_of_bytes (c.copy_from_slice.ensures.after ∙ places.number_is)
      ∙ c.serials.ensures.found contents.entry.number are.entry_is.serial in
      let decided : c.in_ok-written_as.field-0 ≡ contents.entry.decided =
      same_some _ _ c.written_as.result c.in_ok-written_as.was (c.written_as.ensures.every contents.entry.decided (written c.args.bytes.now c.read_u32-figure.result contents places c.read_u32-figure.ensures)) in
      ap Some (same_contents _ contents (c.read_u16.ensures ∙ ap (big_number 2) (take_rest c.args.bytes.now 1) ∙ places.followers_is) number decided (c.copy_from_slice-2.ensures.after ∙ places.mac_is));
}
