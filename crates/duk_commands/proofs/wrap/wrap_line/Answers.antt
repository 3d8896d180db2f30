use Rattle.std.proofs.Common.{length, rules, subst}
use Rattle.duk_tdes.specs.KeyBytes.{bytes_of}
use Rattle.duk_commands.specs.Wrap.{wrap_arguments}
use Rattle.duk_commands.specs.inner.Wrap.{IsWrapFault, wrapping}
use Rattle.duk_commands.proofs.FaultOrder.{wrap_refused}
use Rattle.duk_commands.proofs.wrap.wrap_line.Goals as goal

pub returns-in_default-clause-refused : goal.returns-in_default-clause-refused
returns-in_default-clause-refused c =
    let header = c.in_ok-header.header in
    let key = c.in_ok-key.key in
    let padding = c.if-not-is_hexadecimal.ensures in
    wrap_refused (wrap_arguments c.args.kbpk.now c.args.fields.now c.args.key.now c.args.pad.now) (wrapping c.in_ok-kbpk.kbpk header key padding.0) c.long_pad_fault.result
    (record {
      protection_key_read = search rules;
      fields_read = search rules;
      key_read = search rules;
      pad_read = padding.1;
    })
    (c.long_pad_fault.ensures (length (bytes_of key)) (length padding.0) (c.in_default.ensures padding.0 (length (bytes_of key)) padding.1))

pub returns-in-Err-clause-refused : goal.returns-in-Err-clause-refused
returns-in-Err-clause-refused c =
    let header = c.in_ok-header.header in
    let key = c.in_ok-key.key in
    let padding = c.in-Some.pad.items in
    wrap_refused (wrap_arguments c.args.kbpk.now c.args.fields.now c.args.key.now c.args.pad.now) (wrapping c.in_ok-kbpk.kbpk header key padding) c.in-Err.fault
    (record {
      protection_key_read = search rules;
      fields_read = search rules;
      key_read = search rules;
      pad_read = c.in-Some.ensures;
    })
    (subst (λ pad. IsWrapFault header (length (bytes_of key)) (length pad) c.in-Err.fault) c.as_slice.ensures.value c.in-Err.ensures.refused)
