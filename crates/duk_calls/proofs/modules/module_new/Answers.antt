use Rattle.std.proofs.Common.{◌≡◌, ◌∙◌, ◌++◌, ap, drop, length, rules, subst, sym, take}
use Rattle.std.proofs.Math.Seq.{drop-append_seam, take-append_seam}
use Rattle.duk_tdes.specs.Tdes.{IsTdesLength}
use Rattle.duk_calls.specs.Modules.{IsModule, lmk_alone, new_image}
use Rattle.duk_calls.proofs.Entries.{new_module}
use Rattle.duk_calls.proofs.modules.module_new.Goals as goal

pub returns : goal.returns
returns c =
    let lmk = c.args.lmk.now in
    let old = c.args.image.now in
    let new = c.write_front.new.bytes in
    let tdes : IsTdesLength (length lmk) = c.in-Some.ensures.1 in
    let is = new_module lmk tdes in
    let front : c.as_slice.result.now ≡ new_image lmk = c.as_slice.ensures.value ∙ c.new_image.ensures in
    let written : new ≡ new_image lmk ++ drop (length (new_image lmk)) old = c.write_front.ensures ∙ ap (λ front. front ++ drop (length front) old) front in
    let size : length (new_image lmk) ≡ 4706 = is.length_is in
    let image : take 4706 new ≡ new_image lmk =
    ap (take 4706) written
    ∙ ap (λ n. take n (new_image lmk ++ drop (length (new_image lmk)) old)) (sym size)
    ∙ take-append_seam (new_image lmk) (drop (length (new_image lmk)) old) in (
      (tdes, (search rules, tt)),
      record {
        is_module = subst (λ image. IsModule image (lmk_alone lmk)) (sym image) is;
        image_is = image;
        behind =
            ap (drop 4706) written
            ∙ ap (λ n. drop n (new_image lmk ++ drop (length (new_image lmk)) old)) (sym size)
            ∙ drop-append_seam (new_image lmk) (drop (length (new_image lmk)) old)
            ∙ ap (λ n. drop n old) size;
      },
    )
