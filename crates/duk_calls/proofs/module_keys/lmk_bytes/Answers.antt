use Rattle.std.proofs.Common.{◌≡◌, ◌+◌, ◌-◌, ◌∙◌, ap, arith, drop, inl, inr, length, length-drop, slice_index_or, sym, take}
use Rattle.std.proofs.lemmas.Bool.{cases_lt}
use Rattle.std.proofs.lemmas.List.{drop-take, take_all}
use Rattle.duk_calls.proofs.module_keys.lmk_bytes.Goals as goal

pub returns : goal.returns
returns c =
    let image = c.args.image.now in
    let count = slice_index_or image 4681 0 in
    elim (cases_lt (length image) (4682 + count)) [
      | inl longer ↦
          take_all (c.min.result - 4682) (drop 4682 image) (omega (arith, length-drop 4682 image, c.min.ensures, c.from-end.ensures, longer))
          ∙ ap (drop 4682) (sym (take_all (4682 + count) image (omega (arith, longer))))
      | inr fits ↦
          let size : c.min.result - 4682 ≡ count = omega (arith, c.min.ensures, c.from-end.ensures, fits) in
          ap (λ n. take n (drop 4682 image)) size ∙ sym (drop-take 4682 count image)
    ]
