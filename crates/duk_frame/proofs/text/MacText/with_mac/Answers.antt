use Rattle.std.proofs.Common.{◌≡◌, ◌++◌, ap, ◌∙◌, arith}
use Rattle.std.proofs.lemmas.Grind.{common_steps}
use Rattle.duk_frame.specs.Frame.{framed, mac_text_of}
use Rattle.duk_frame.proofs.PlacesOfFrames.{mac_text_framed}
use Rattle.duk_frame.proofs.text.MacText.with_mac.Goals as goal

pub returns-clause-mac_text : goal.returns-clause-mac_text
returns-clause-mac_text c =
    let laid : c.append.new.frame.items ≡ framed (c.args.self ++ c.args.mac) = grind (arith, common_steps) in
    ap mac_text_of laid ∙ mac_text_framed c.args.self c.args.mac (omega arith)
