use Rattle.std.proofs.Common.{◌≡◌, ℕ, List, ◌++◌, length, take, drop, sym, ap, ◌∙◌, arith}
use Rattle.std.proofs.Math.Seq.{drop-append_seam, take-append_seam}
use Rattle.std.proofs.lemmas.List.{drop-replicate, length-take-le}
use Rattle.duk_group.proofs.transposed.first_of.Goals as goal

module _ {X : Type 0} (count : ℕ) (first all filled : List X) (is : first ≡ take count all) (long : length (take count all) ≡ count) where
  take-front : take count (first ++ filled) ≡ take count all
  take-front = ap (λ n. take n (first ++ filled)) (sym (ap length is ∙ long)) ∙ take-append_seam first filled ∙ is

  drop-front : drop count (first ++ filled) ≡ filled
  drop-front = ap (λ n. drop n (first ++ filled)) (sym (ap length is ∙ long)) ∙ drop-append_seam first filled

pub returns-clause-first : goal.returns-clause-first
returns-clause-first g c =
    let all = c.args.all.now in
    take-front c.args.count c.copy_from_slice.new.self all _ c.copy_from_slice.ensures.after (length-take-le c.args.count all (omega arith))

pub returns-clause-rest : goal.returns-clause-rest
returns-clause-rest g c =
    let all = c.args.all.now in
    drop-front c.args.count c.copy_from_slice.new.self all _ c.copy_from_slice.ensures.after (length-take-le c.args.count all (omega arith))
    ∙ drop-replicate c.args.count 128 c.args.filler
