use Rattle.std.proofs.Common.{◌≡◌, ◌<◌, ◌+◌, ◌*◌, ◌^◌, ◌%◌, ◌-◌, inl, inr, ap, ◌∙◌, rules, arith}
use Rattle.std.proofs.lemmas.Bool.{cases_lt}
use Rattle.duk_tree.specs.Derivation.{step_of}
use Rattle.duk_tree.specs.Serial.{low_bytes}
use Rattle.duk_group.specs.Numbers.{bytes_at}
use Rattle.duk_group.specs.declared.transposed.TheConstants.{WIDTH}
use Rattle.duk_group.specs.inner.Block.{AreLanesAt}
use Rattle.duk_group.proofs.ChildrenInRows.{PathLaws, split, in_block, lane_of_child}
use Rattle.duk_group.proofs.block.+fill_rows.Goals as goal

pub child_keys-children-requires : goal.child_keys-children-requires
child_keys-children-requires t c =
    let halves = split c.args.place c.args.low (omega arith) c.requires.place c.requires.whole in
    omega (arith, halves.shifted, halves.doubled, halves.some, c.requires.fits)

pub fill_rows-requires : goal.fill_rows-requires
fill_rows-requires t c =
    let halves = split c.args.place c.args.low (omega arith) c.requires.place c.requires.whole in
    (search rules, (omega arith, (halves.first, omega (arith, halves.doubled, c.requires.fits))))

pub fill_rows-requires-2 : goal.fill_rows-requires-2
fill_rows-requires-2 t c =
    let halves = split c.args.place c.args.low (omega arith) c.requires.place c.requires.whole in
    let whole : (c.args.low + 1 * 2 ^ (c.args.place - 1) % 256) % 2 ^ (c.args.place - 1) ≡ 0 = ap (λ n. (c.args.low + n) % 2 ^ (c.args.place - 1)) halves.shifted ∙ halves.second in
    (search rules, (omega arith, (whole, omega (arith, halves.shifted, halves.doubled, c.requires.fits))))

pub returns-clause-keys : goal.returns-clause-keys
returns-clause-keys t c = λ initial iksn base is_iksn whole fits lanes registers low i from below h.
    let place = c.args.place in
    let first = c.args.low in
    let half = 2 ^ (place - 1) in
    let child = first + 1 * half % 256 in
    let halves = split place first (omega arith) c.requires.place c.requires.whole in
    let is : child ≡ first + half = ap (λ n. first + n) halves.shifted in
    elim (cases_lt low (first + half)) [
      | inl lower ↦
          ap (λ row. bytes_at row i) (c.fill_rows-2.ensures.others low (inl (omega (arith, is))))
          ∙ c.fill_rows.ensures.keys initial iksn base is_iksn whole fits lanes registers low i from lower h
      | inr upper ↦
          let laws : PathLaws = record { is_path = c.paths.ensures.path_of_counter; value = c.paths.ensures.value; only = c.paths.ensures.only; lowest = c.bits.ensures.lowest } in
          let children = c.child_keys-children.result in
          let child_lanes : AreLanesAt initial iksn base child children.left children.right =
          λ i h.
          let within : base + 64 * i + first < 2 ^ 21 = in_block base i first WIDTH fits h (omega (arith, halves.doubled, halves.some, c.requires.fits)) in
          let register = low_bytes (record { iksn = iksn; counter = base + 64 * i + child }) in
          c.child_keys-children.ensures i iksn (base + 64 * i) h is_iksn (omega arith) (registers i h)
          ∙ ap (λ key. step_of key register) (lanes i h)
          ∙ lane_of_child laws initial iksn base place first child i (omega arith) c.requires.place halves is whole c.requires.whole within in
          c.fill_rows-2.ensures.keys initial iksn base is_iksn whole fits child_lanes registers low i (omega (arith, is)) (omega (arith, is, halves.doubled)) h
    ]

pub returns-clause-others : goal.returns-clause-others
returns-clause-others t c = λ row apart.
    let place = c.args.place in
    let first = c.args.low in
    let half = 2 ^ (place - 1) in
    let halves = split place first (omega arith) c.requires.place c.requires.whole in
    elim apart [
      | inl before ↦ c.fill_rows-2.ensures.others row (inl (omega (arith, halves.shifted))) ∙ c.fill_rows.ensures.others row (inl before)
      | inr behind ↦ c.fill_rows-2.ensures.others row (inr (omega (arith, halves.shifted, halves.doubled))) ∙ c.fill_rows.ensures.others row (inr (omega (arith, halves.shifted, halves.doubled)))
    ]
