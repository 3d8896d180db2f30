use Rattle.std.proofs.Common.{◌≡◌, ◌+◌, ◌-◌, ◌*◌, ◌∙◌, ap, arith, drop, length, length-drop, rules, take}
use Rattle.std.proofs.lemmas.List.{length-take-le}
use Rattle.duk_calls.specs.Answer.{with_front}
use Rattle.duk_calls.specs.Modules.{count_in, entry_bytes}
use Rattle.duk_calls.proofs.Entries.{appended}
use Rattle.duk_calls.proofs.modules.append.Goals as goal

pub returns : goal.returns
returns c =
    let image = c.args.image.now in
    let count = c.from-count.result in
    let k = 520 * count + 520 - 520 * count in
    let entry = entry_bytes c.args.kind c.args.prefix c.args.block.now in
    let slot = take k (drop (520 * count) image) in
    let part = c.write_front.new.bytes in
    let counted : count ≡ count_in image = omega (arith, c.from-count.ensures) in
    let wide : k ≡ 520 = omega arith in
    let slot_long : length slot ≡ k = length-take-le k (drop (520 * count) image) (omega (arith, length-drop (520 * count) image, c.requires.size, c.requires.room, counted)) in
    let front : c.as_slice.result.now ≡ entry = c.as_slice.ensures.value ∙ c.entry_of-entry.ensures in
    let written : part ≡ with_front entry slot = c.write_front.ensures ∙ ap (λ front. with_front front slot) front in
    let part_long : length part ≡ 520 = search rules in
    appended entry image part count k c.requires.size (omega (arith, c.requires.room, counted)) counted wide part_long
    (written ∙ ap (λ n. with_front entry (take n (drop (520 * count) image))) wide)
