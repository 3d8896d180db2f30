use Rattle.std.proofs.Common.{sym, ◌∙◌}
use Rattle.hex.proofs.HexLemmas.{IsOk-decode_sized}
use Rattle.duk_tdes.proofs.key_text.Key+16.parse.Goals as goal

pub returns-clause-digits : goal.returns-clause-digits
returns-clause-digits c =
    let digits = IsOk-decode_sized c.args.text.now 16 in
    let sized = c.from_hex.ensures in (
      λ h. digits.0 (rw sized at (sym c.ok.ensures.variant ∙ (sym c.map.ensures.variant ∙ h))),
      λ h. c.map.ensures.variant ∙ (c.ok.ensures.variant ∙ rw sized (digits.1 h)),
    )
