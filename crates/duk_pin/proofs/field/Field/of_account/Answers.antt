use Rattle.std.proofs.Common.{◌≡◌, refl, ◌∙◌}
use Rattle.duk_pin.specs.PinBlock.{account_digits, account_field}
use Rattle.duk_pin.proofs.FieldsWrittenAndRead.{account_field_written, account_field_is_field}
use Rattle.duk_pin.proofs.field.Field.of_account.Goals as goal

pub returns-clause-field : goal.returns-clause-field
returns-clause-field c =
    let same : c.as_bytes.result.now ≡ c.args.pan.now = cc in
    let account : c.account_digits-account.result.now ≡ account_digits c.args.pan.now = rw same at c.account_digits-account.ensures.digits in
    c.with_values.ensures ∙ account_field_written c.args.pan.now _ _ account refl

pub invariant_of-result : goal.invariant_of-result
invariant_of-result c =
    let field : c.with_values.result ≡ account_field c.args.pan.now = returns-clause-field c in
    rw field (account_field_is_field _ c.digits.ensures.pan)
