use Rattle.std.proofs.Common.{refl, ◌∙◌}
use Rattle.duk_data.proofs.JoinedHalves.{put_mid-joined}
use Rattle.duk_data.proofs.keys.join.Goals as goal

pub returns : goal.returns
returns c =
    let left = c.copy_from_slice.ensures in
    let right = c.copy_from_slice-2.ensures in
    c.new.ensures ∙ put_mid-joined c.copy_from_slice.new.self c.copy_from_slice-2.new.self _ left.len refl ∙ rw (left.after, right.after) refl
