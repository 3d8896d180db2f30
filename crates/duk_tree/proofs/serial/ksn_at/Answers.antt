use Rattle.std.proofs.Common.{◌<◌, ◌^◌, arith}
use Rattle.std.proofs.lemmas.List.Elements.{All-from_get_or}
use Rattle.duk_tree.proofs.SerialBytes.{serial_bytes-read}
use Rattle.duk_tree.proofs.serial.ksn_at.Goals as goal

pub returns-clause-bytes : goal.returns-clause-bytes
returns-clause-bytes c =
    let fit = All-from_get_or (λ byte. byte < 2 ^ 8) c.args.bytes.now 0 (λ i within. omega (arith, c.type_inv.bytes i)) in
    serial_bytes-read c.args.bytes.now c.read_uint128-number.result c.requires fit c.read_uint128-number.ensures
