use Rattle.std.proofs.Common.{◌+◌, ◌*◌, ◌≡◌, List, ℕ, get_or, ap, ◌∙◌, arith}
use Rattle.duk_crc.specs.Crc32.{shifted}
use Rattle.duk_crc.proofs.ByteTable.{left_at, left_from, table_at}
use Rattle.duk_crc.proofs.table.left_by.Goals as goal

pub returns : goal.returns
returns c =
    let byte : ℕ = c.args.byte in
    let power : 8 * (0 + c.args.following + 1) ≡ 8 * (c.args.following + 1) = omega arith in
    let here : 0 + byte ≡ byte = omega arith in
    ap (λ (table : List ℕ). get_or table byte 0) (table_at 8 0 c.args.following c.requires ∙ ap (λ (n : ℕ). left_from n 256 0) power)
    ∙ left_at (8 * (c.args.following + 1)) 256 0 byte (omega arith)
    ∙ ap (shifted (8 * (c.args.following + 1))) here
