use Rattle.std.proofs.Common.{◌≡◌, ◌-◌, rules, arith, subst, sym, ap, ◌∙◌, drop, replicate, length, take}
use Rattle.duk_regs.specs.Image.{IsImage}
use Rattle.duk_term.specs.Body.{KeepsRegisters, image_in, image_length}
use Rattle.duk_term.proofs.BodyIsFoundAgain.{if_found, keeps_registers}
use Rattle.duk_term.proofs.body.registers_in.Goals as goal

zeros : (c : goal.After-from_image) → drop c.length_of_image.result c.args.body.now ≡ replicate (503 - c.length_of_image.result) 0
zeros c =
    let rest = c.split_at.result.1.now in
    let size : length rest ≡ 503 - c.length_of_image.result = omega (arith, c.split_at.ensures.back_len, c.fits-body) in
    let filled : rest ≡ replicate (length rest) 0 = search rules in
    sym c.split_at.ensures.back ∙ filled ∙ ap (λ n. replicate n 0) size

front : (c : goal.After-from_image) → c.split_at.result.0.now ≡ image_in c.args.body.now
front c = c.split_at.ensures.front ∙ ap (λ n. take n c.args.body.now) c.length_of_image.ensures

pub returns-clause-found : goal.returns-clause-found
returns-clause-found c =
    let body = c.args.body.now in
    let zeros_in : drop (image_length body) body ≡ replicate (503 - image_length body) 0 =
    subst (λ n. drop n body ≡ replicate (503 - n) 0) c.length_of_image.ensures (zeros c) in (
      λ is_some. record { image = subst IsImage (front c) (c.from_image.ensures.found.0 is_some); zeros = zeros_in },
      λ is_body. c.from_image.ensures.found.1 (subst IsImage (sym (front c)) is_body.image),
    )

pub returns-clause-keeps : goal.returns-clause-keeps
returns-clause-keeps c =
    let body = c.args.body.now in
    let image = c.split_at.result.0.now in
    if_found image (KeepsRegisters body) c.from_image.result
    (λ set is_some of. keeps_registers body image c.length_of_image.result set c.split_at.ensures.front (omega (arith, c.split_at.ensures.front_len)) (zeros c) (c.images.ensures.length_as_version_1 image) (c.images.ensures.length_as_version_2 image) (c.from_image.ensures.found.0 is_some) of)
    c.from_image.ensures.version_2 c.from_image.ensures.version_1 c.from_image.ensures.no_past
