use Rattle.std.proofs.Common.{◌≡◌, refl, ◌∙◌}
use Rattle.duk_pin.specs.PinBlock.{pin_field}
use Rattle.duk_pin.proofs.FieldsWrittenAndRead.{pin_field_written, pin_field_is_field}
use Rattle.duk_pin.proofs.field.Field.of_pin.Goals as goal

pub returns-clause-field : goal.returns-clause-field
returns-clause-field c =
    let digits : c.as_bytes-digits.result.now ≡ c.args.pin.now = cc in
    c.with_values.ensures ∙ rw digits (pin_field_written c.args.pin.now _ refl)

pub invariant_of-result : goal.invariant_of-result
invariant_of-result c =
    let field : c.with_values.result ≡ pin_field c.args.pin.now = returns-clause-field c in
    rw field (pin_field_is_field _ c.digits.ensures.pin)
