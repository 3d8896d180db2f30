use Rattle.std.proofs.Common.{◌≡◌, ◌≤◌, ◌∙◌, ap, arith, length, sym, take}
use Rattle.std.proofs.lemmas.List.{length-take-le, take_all}
use Rattle.duk_program.proofs.secrets.Secret.told_name.Goals as goal

pub returns-then-name-le-LONGEST_NAME-clause-name : goal.returns-then-name-le-LONGEST_NAME-clause-name
returns-then-name-le-LONGEST_NAME-clause-name c =
    let few : length c.as_bytes-name.result.now ≤ 64 = omega (arith, c.if-name-le-LONGEST_NAME.true) in
    sym (take_all 64 c.as_bytes-name.result.now few) ∙ ap (take 64) c.as_bytes-name.ensures.value

pub slice_bounds-result-end : goal.slice_bounds-result-end
slice_bounds-result-end c = sym (length-take-le 64 c.as_bytes-name.result.now (omega (arith, c.if-name-le-LONGEST_NAME.false)))

pub returns-clause-short : goal.returns-clause-short
returns-clause-short c =
    let all : length (take 64 c.as_bytes-name.result.now) ≡ 64 =
    length-take-le 64 c.as_bytes-name.result.now (omega (arith, c.if-name-le-LONGEST_NAME.false)) in
    omega (arith, all)
