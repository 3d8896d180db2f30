use Rattle.std.proofs.Common.{◌≡◌, Some, rules, sym, ap, ◌∙◌}
use Rattle.duk_pin.specs.inner.Reading.{ReadsAsPin}
use Rattle.duk_pin.specs.Digits.{ascii_of}
use Rattle.duk_pin.specs.PinBlock.{pin_field}
use Rattle.duk_pin.proofs.FieldsWrittenAndRead.{ascii_of_values, field_of_digits_read, one_pin_of_field}
use Rattle.duk_pin.proofs.PinInField.{no_pin_of_field, pin_of_field}
use Rattle.duk_pin.proofs.field.Field.to_pin.Goals as goal

pub returns-then-reads_as_pin-clause-every : goal.returns-then-reads_as_pin-clause-every
returns-then-reads_as_pin-clause-every c =
    λ pin is_pin same.
    let reads : ReadsAsPin c.args.self = search rules in
    let field : pin_field c.from_values.result ≡ c.args.self = field_of_digits_read _ _ reads c.digits.ensures.field (c.from_values.ensures.values ∙ c.digits.ensures.values) in
    ap Some (one_pin_of_field _ pin c.from_values.ensures.pin is_pin (field ∙ sym same))

pub returns-then-reads_as_pin-clause-value : goal.returns-then-reads_as_pin-clause-value
returns-then-reads_as_pin-clause-value c =
    let reads : ReadsAsPin c.args.self = search rules in
    let values_are = c.from_values.ensures.values ∙ c.digits.ensures.values in
    sym (pin_of_field _ c.digits.ensures.field reads ∙ ap Some (sym (ap ascii_of values_are) ∙ ascii_of_values _ c.from_values.ensures.pin.digits))

pub returns-else-reads_as_pin-clause-value : goal.returns-else-reads_as_pin-clause-value
returns-else-reads_as_pin-clause-value c =
    let reads_not : ¬ ReadsAsPin c.args.self = search rules in
    sym (no_pin_of_field _ reads_not)
