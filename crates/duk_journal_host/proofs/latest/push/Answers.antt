use Rattle.std.proofs.Common.{◌≡◌, ◌∷◌, [], ℕ, List, length, set, eqb, refl, ap, ◌∙◌, arith, length-append}
use Rattle.std.proofs.Math.ListN.{length-set}
use Rattle.std.specs.Map.{lookup}
use Rattle.duk_journal.specs.declared.entry.Entry.{Entry}
use Rattle.duk_tree.specs.Serial.{serial_number}
use Rattle.duk_journal_host.specs.Latest.{most_latest}
use Rattle.duk_journal_host.specs.declared.latest.Kept.{Kept}
use Rattle.duk_journal_host.specs.inner.Latest.{kept_of}
use Rattle.duk_journal_host.proofs.Ring.{absent, inserted, on_ok, pushed, removed, replaced, ring_after}
use Rattle.duk_journal_host.proofs.latest.push.Goals as goal

pub returns-then-len-le-MOST_LATEST-clause-last : goal.returns-then-len-le-MOST_LATEST-clause-last
returns-then-len-le-MOST_LATEST-clause-last c =
    let entry = c.args.entry.now in
    let added = on_ok c.insert.result (c.insert.ensures.succeeds c.requires.room) c.insert.ensures.entries in
    let none = absent c.args.oldest c.args.map.now.entries entry.number (lookup (eqb (serial_number entry.number)) c.args.map.now.entries) c.number.ensures.serial refl c.requires.new in
    let all = inserted c.args.map.now c.number.result c.kept_of.result entry c.insert.new.self.entries added c.number.ensures.value c.kept_of.ensures none in
    pushed c.args.oldest c.args.map.now.entries c.insert.new.self.entries entry c.number.ensures.serial c.requires.ring (omega arith) all

-- what there is, where there were as many as can be
record IsReplaced (places after : List (ℕ × Kept)) (oldest : ℕ) (entry : Entry) : Type 0 where
  full : length places ≡ most_latest
  after_is : after ≡ set places oldest (serial_number entry.number, kept_of entry)
  as_many : length after ≡ most_latest

replaced_there : (c : goal.After-place_after) → IsReplaced c.args.map.now.entries c.swap_remove_index.new.self.entries c.args.oldest c.args.entry.now
replaced_there c =
    let entry = c.args.entry.now in
    let places = c.args.map.now.entries in
    let place : ℕ × Kept = (serial_number entry.number, kept_of entry) in
    let added = on_ok c.insert.result (c.insert.ensures.succeeds c.requires.room) c.insert.ensures.entries in
    let none = absent c.args.oldest c.args.map.now.entries entry.number (lookup (eqb (serial_number entry.number)) c.args.map.now.entries) c.number.ensures.serial refl c.requires.new in
    let all = inserted c.args.map.now c.number.result c.kept_of.result entry c.insert.new.self.entries added c.number.ensures.value c.kept_of.ensures none in
    let full : length places ≡ most_latest = omega (arith, c.requires.ring.most, ap length all, length-append places (place ∷ [])) in
    let after_is = removed places c.insert.new.self.entries c.swap_remove_index.new.self.entries c.args.oldest place c.swap_remove_index.result
    (omega (arith, c.requires.ring.inside, full)) all c.swap_remove_index.ensures.entry c.swap_remove_index.ensures.entries in
    record { full = full; after_is = after_is; as_many = ap length after_is ∙ length-set places c.args.oldest place ∙ full }

pub returns-clause-ring : goal.returns-clause-ring
returns-clause-ring c =
    ring_after c.args.oldest c.place_after.result (length c.swap_remove_index.new.self.entries) c.requires.ring.inside (replaced_there c).as_many c.place_after.ensures.next c.place_after.ensures.around

pub returns-clause-last : goal.returns-clause-last
returns-clause-last c =
    let there = replaced_there c in
    replaced c.args.oldest c.place_after.result c.args.map.now.entries c.swap_remove_index.new.self.entries c.args.entry.now c.number.ensures.serial c.requires.ring there.full there.after_is there.as_many
    c.place_after.ensures.next c.place_after.ensures.around
