use Rattle.std.proofs.Common.{◌≡◌, ◌≤◌, ◌+◌, ◌-◌, length, map, take, drop, sym, ap, ◌∙◌, length-drop, arith}
use Rattle.std.proofs.lemmas.List.{length-map, length-take-le}
use Rattle.duk_tree.specs.Derivation.{derived_key_of}
use Rattle.duk_group.proofs.OneMoreGroup.{group_written, length-written}
use Rattle.duk_group.proofs.derivation.derive_many.Goals as goal

pub loop-done-preserved : goal.loop-done-preserved
loop-done-preserved c =
    let f = derived_key_of c.args.bdk.now in
    let numbers = c.args.numbers.now in
    let keys = c.loop-done.keys in
    let done = c.loop-done.done in
    let count = c.min-count.result in
    let group = c.derive_group-group.result in
    let part = c.copy_from_slice.new.self in
    let width : done + count - done ≡ count = omega arith in
    let room : done + count ≤ length numbers = omega arith in
    let long : length (take (done + count - done) (drop done numbers)) ≡ count =
    length-take-le (done + count - done) (drop done numbers) (omega (arith, length-drop done numbers)) ∙ width in
    let is : part ≡ map f (take count (drop done numbers)) =
    c.copy_from_slice.ensures.after
    ∙ ap (λ n. take n group) (sym long)
    ∙ c.derive_group-group.ensures.keys
    ∙ ap (λ n. map f (take n (drop done numbers))) width in
    let part_long : length part ≡ count = ap length is ∙ length-map (take count (drop done numbers)) f ∙ length-take-le count (drop done numbers) (omega (arith, length-drop done numbers)) in
    record {
      kept = length-written done (done + count - done) keys part (omega arith) (omega arith) ∙ c.loop-done.invariant.kept;
      within = room;
      same = group_written f numbers keys part done count (done + count - done) (omega arith) part_long c.loop-done.invariant.same is;
    }
