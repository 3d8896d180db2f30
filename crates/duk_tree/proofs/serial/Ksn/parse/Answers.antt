use Rattle.std.proofs.Common.{sym, ◌∙◌}
use Rattle.hex.proofs.HexLemmas.{IsOk-decode_sized}
use Rattle.duk_tree.proofs.serial.Ksn.parse.Goals as goal

pub returns-clause-found : goal.returns-clause-found
returns-clause-found c =
    let digits = IsOk-decode_sized c.args.text.now 10 in
    let sized = c.from_hex.ensures in
    let some = c.map.ensures.variant ∙ c.ok.ensures.variant in
    (λ found. digits.0 (rw sized at (sym some ∙ found)), λ spelled. some ∙ rw sized (digits.1 spelled))
