use Rattle.std.proofs.Common.{◌≡◌, ◌∙◌, ◌≤◌, ◌-◌, ◌+◌, ◌<◌, ◌++◌, ◌∷◌, ℕ, [], ap, arith, get_or, length, map, refl, subst, sym, take}
use Rattle.std.proofs.lemmas.List.{append-nil, length-map, length_push}
use Rattle.std.specs.Option.{option_to_list}
use Rattle.duk_group.specs.Numbers.{number_at}
use Rattle.duk_journal_host.specs.Judgement.{room_for_payments}
use Rattle.duk_journal_host.specs.inner.Draft.{AreDraftsUnder, IsDraftUnder, frame_of}
use Rattle.duk_journal_host.specs.inner.Judged.{AreJudgedSoFar, IsNumberOf, JudgesFrame, JudgesFrames, MayBeAccepted}
use Rattle.duk_journal_host.proofs.Drafts.{frames_more, under_more}
use Rattle.duk_journal_host.proofs.Judging.{item_at, item_of, on_err, so_far_more}
use Rattle.duk_journal_host.proofs.NumbersOpened.{next_number, opens_next}
use Rattle.duk_journal_host.proofs.judge.judge_opened.Goals as goal

-- before the first frame there are no drafts
pub loop-place-init : goal.loop-place-init
loop-place-init g c =
    let none = c.requires.no_drafts in
    let old = c.args.group.now in
    record {
      answers = refl;
      counted = omega (arith, ap length none);
      under = λ keys opens. subst (λ drafts. AreDraftsUnder keys opens.numbers drafts) (sym none) tt;
      so_far = λ keys before opened first.
          subst (λ answers. AreJudgedSoFar keys (g.I.Issuer.decides c.args.issuer.now) c.args.kept c.args.room (map (λ frame. frame.items) c.args.frames.now) c.args.from before c.args.index.now answers old.entries)
          (sym (ap (λ drafts. old.answers ++ map (frame_of keys) drafts) none ∙ append-nil old.answers)) first;
    }

pub room_after-left-requires : goal.room_after-left-requires
room_after-left-requires g c =
    let given = c.requires.so_far in
    let so_far = c.loop-place.invariant.so_far given.0 given.1 given.3 given.4 in
    subst (λ entries. length entries ≤ c.args.room) (sym c.entries.ensures) so_far.fits

pub judge_frame-requires-clause-opened : goal.judge_frame-requires-clause-opened
judge_frame-requires-clause-opened g c =
    let given = c.requires.so_far in
    let opens = opens_next (λ frame. frame.items) given.0 c.args.frames.now c.args.opened.now c.args.from c.args.to c.loop-place.place c.index-frames-place.result c.as_slice.result.now c.transaction-transaction.result
    given.3 (omega arith) (omega arith) (omega arith) (sym c.index-frames-place.is) c.as_slice.ensures.value c.transaction-transaction.ensures.opened c.transaction-transaction.ensures.refused in
    (given.0, given.2, opens)

pub push_entry-requires : goal.push_entry-requires
push_entry-requires g c =
    let given = c.requires.so_far in
    let so_far = c.loop-place.invariant.so_far given.0 given.1 given.3 given.4 in
    omega (arith, so_far.fewer, so_far.counted, c.requires.few, c.requires.within, c.loop-place-test.true)

pub loop-place-preserved : goal.loop-place-preserved
loop-place-preserved g c =
    let decides = g.I.Issuer.decides c.args.issuer.now in
    let frames = map (λ frame. frame.items) c.args.frames.now in
    let place = c.loop-place.place in
    let frame = c.index-frames-place.result.items in
    let group = c.loop-place.group in
    let old = c.args.group.now in
    let drafts = c.loop-place.drafts.items in
    let draft = c.in_ok-judged.judged.answer in
    let one = c.in_ok-judged.judged.added in
    let mid = c.loop-place.index in
    let new = c.judge_frame.new.index in
    let left = c.room_after-left.result in
    let left_is : left.entries ≡ c.args.room - length group.entries = c.room_after-left.ensures.entries ∙ ap (λ entries. c.args.room - length entries) c.entries.ensures in
    let inside : place < length c.args.frames.now = omega arith in
    let within : place < length frames = omega (arith, inside, length-map c.args.frames.now (λ frame. frame.items)) in
    let is = item_of (λ frame. frame.items) c.args.frames.now place c.index-frames-place.result inside (sym c.index-frames-place.is) in
    let fits : length (option_to_list one) ≤ c.args.room - length group.entries = subst (λ left. length (option_to_list one) ≤ left) left_is c.in_ok-judged.ensures.room in
    record {
      answers = c.push_entry.ensures.answers ∙ c.loop-place.invariant.answers;
      counted = omega (arith, ap length c.push.ensures.items, length_push drafts draft, c.loop-place.invariant.counted);
      under = λ keys opened.
          let opens = opens_next (λ frame. frame.items) keys c.args.frames.now c.args.opened.now c.args.from c.args.to place c.index-frames-place.result c.as_slice.result.now c.transaction-transaction.result
          opened (omega arith) (omega arith) (omega arith) (sym c.index-frames-place.is) c.as_slice.ensures.value c.transaction-transaction.ensures.opened c.transaction-transaction.ensures.refused in
          let number = next_number (λ frame. frame.items) keys c.args.frames.now c.args.opened.now c.args.from c.args.to place c.index-frames-place.result
          opened (omega arith) (omega arith) (omega arith) (sym c.index-frames-place.is) in
          let count : place - c.args.from ≡ length drafts = omega (arith, c.loop-place.invariant.counted) in
          let here = c.in_ok-judged.ensures.under keys (number_at opened.numbers (place - c.args.from)) opens (subst (λ bytes. IsNumberOf bytes (number_at opened.numbers (place - c.args.from))) (sym c.as_slice.ensures.value) number.1) in
          subst (λ drafts. AreDraftsUnder keys opened.numbers drafts) (sym c.push.ensures.items)
          (under_more keys opened.numbers drafts draft (c.loop-place.invariant.under keys opened) (omega (arith, number.0, count)) (subst (λ (i : ℕ). IsDraftUnder keys (number_at opened.numbers i) draft) count here));
      so_far = λ keys before opened first.
          let f = frame_of keys in
          let answers = old.answers ++ map f drafts in
          let opens = opens_next (λ frame. frame.items) keys c.args.frames.now c.args.opened.now c.args.from c.args.to place c.index-frames-place.result c.as_slice.result.now c.transaction-transaction.result
          opened (omega arith) (omega arith) (omega arith) (sym c.index-frames-place.is) c.as_slice.ensures.value c.transaction-transaction.ensures.opened c.transaction-transaction.ensures.refused in
          let here : (capacity : ℕ) → c.args.room ≡ capacity - c.args.kept → JudgesFrame keys decides capacity (c.args.room - length group.entries) frame mid new (f draft) one = λ capacity room_is.
          let payments : left.payments ≡ room_for_payments capacity left.entries = c.room_after-left.ensures.payments capacity room_is ∙ sym (ap (room_for_payments capacity) c.room_after-left.ensures.entries) in
          let judged = subst (λ frame. JudgesFrame keys decides capacity left.entries frame mid new (f draft) one) c.as_slice.ensures.value (c.in_ok-judged.ensures.judged keys capacity opens payments) in
          subst (λ left. JudgesFrame keys decides capacity left frame mid new (f draft) one) left_is judged in
          let so_far = so_far_more keys decides c.args.kept c.args.room frames place frame before mid new answers (f draft) group.entries one
          (c.loop-place.invariant.so_far keys before opened first) within is here c.in_ok-judged.ensures.usable c.in_ok-judged.ensures.stands fits in
          let count = place + 1 in
          let answers_are : answers ++ f draft ∷ [] ≡ old.answers ++ map f c.push.new.self.items = frames_more f old.answers drafts draft ∙ ap (λ drafts. old.answers ++ map f drafts) (sym c.push.ensures.items) in
          subst (λ entries. AreJudgedSoFar keys decides c.args.kept c.args.room frames count before new (old.answers ++ map f c.push.new.self.items) entries) (sym c.push_entry.ensures.entries)
          (subst (λ answers. AreJudgedSoFar keys decides c.args.kept c.args.room frames count before new answers (group.entries ++ option_to_list one)) answers_are so_far);
    }

-- memory is refused at a frame, and those before it are judged
pub returns-in_err-judged-clause-stopped : goal.returns-in_err-judged-clause-stopped
returns-in_err-judged-clause-stopped g c = on_err _ c.from_residual.result (λ keys before capacity opened first room_is.
    let decides = g.I.Issuer.decides c.args.issuer.now in
    let frames = map (λ frame. frame.items) c.args.frames.now in
    let place = c.loop-place.place in
    let frame = c.index-frames-place.result.items in
    let group = c.loop-place.group in
    let answers = c.args.group.now.answers ++ map (frame_of keys) c.loop-place.drafts.items in
    let mid = c.loop-place.index in
    let left = c.room_after-left.result in
    let left_is : left.entries ≡ c.args.room - length group.entries = c.room_after-left.ensures.entries ∙ ap (λ entries. c.args.room - length entries) c.entries.ensures in
    let payments : left.payments ≡ room_for_payments capacity left.entries = c.room_after-left.ensures.payments capacity room_is ∙ sym (ap (room_for_payments capacity) c.room_after-left.ensures.entries) in
    let so_far = c.loop-place.invariant.so_far keys before opened first in
    let inside : place < length c.args.frames.now = omega arith in
    let item = item_at (λ frame. frame.items) c.args.frames.now place c.index-frames-place.result [] inside (sym c.index-frames-place.is) in
    let next : get_or frames (length answers) [] ≡ frame = ap (λ (i : ℕ). get_or frames i []) so_far.counted ∙ item in
    let opens = opens_next (λ frame. frame.items) keys c.args.frames.now c.args.opened.now c.args.from c.args.to place c.index-frames-place.result c.as_slice.result.now c.transaction-transaction.result
    opened (omega arith) (omega arith) (omega arith) (sym c.index-frames-place.is) c.as_slice.ensures.value c.transaction-transaction.ensures.opened c.transaction-transaction.ensures.refused in
    let refused = subst (λ left. MayBeAccepted keys mid capacity left c.as_slice.result.now) left_is (c.in_err-judged.ensures.refused keys capacity opens payments) in
    record {
      fewer = omega (arith, so_far.counted, inside, length-map c.args.frames.now (λ frame. frame.items));
      before = mid;
      judged = subst (λ count. JudgesFrames keys decides capacity c.args.room (take count frames) before mid answers group.entries) (sym so_far.counted) (so_far.judged capacity room_is);
      may_be_accepted = subst (λ bytes. MayBeAccepted keys mid capacity (c.args.room - length group.entries) bytes) (c.as_slice.ensures.value ∙ sym next) refused;
    })

pub returns-in_err-judged-clause-usable : goal.returns-in_err-judged-clause-usable
returns-in_err-judged-clause-usable g c =
    let given = c.requires.so_far in
    (c.loop-place.invariant.so_far given.0 given.1 given.3 given.4).usable

pub returns-in_err-judged-clause-stand : goal.returns-in_err-judged-clause-stand
returns-in_err-judged-clause-stand g c =
    let given = c.requires.so_far in
    (c.loop-place.invariant.so_far given.0 given.1 given.3 given.4).stand

pub returns-in_err-judged-clause-fits : goal.returns-in_err-judged-clause-fits
returns-in_err-judged-clause-fits g c =
    let given = c.requires.so_far in
    (c.loop-place.invariant.so_far given.0 given.1 given.3 given.4).fits

pub returns-in_err-judged-clause-most : goal.returns-in_err-judged-clause-most
returns-in_err-judged-clause-most g c =
    let given = c.requires.so_far in
    let so_far = c.loop-place.invariant.so_far given.0 given.1 given.3 given.4 in
    omega (arith, so_far.fewer, so_far.counted, c.requires.few, c.requires.within)

pub returns-clause-judged : goal.returns-clause-judged
returns-clause-judged g c = λ keys before opened first.
    let done : c.loop-place.place ≡ c.args.to = omega arith in
    let answers = c.args.group.now.answers ++ map (frame_of keys) c.loop-place.drafts.items in
    subst (λ count. AreJudgedSoFar keys (g.I.Issuer.decides c.args.issuer.now) c.args.kept c.args.room (map (λ frame. frame.items) c.args.frames.now) count before c.loop-place.index answers c.loop-place.group.entries)
    done (c.loop-place.invariant.so_far keys before opened first)

pub returns-clause-usable : goal.returns-clause-usable
returns-clause-usable g c =
    let given = c.requires.so_far in
    (c.loop-place.invariant.so_far given.0 given.1 given.3 given.4).usable

pub returns-clause-stand : goal.returns-clause-stand
returns-clause-stand g c =
    let given = c.requires.so_far in
    (c.loop-place.invariant.so_far given.0 given.1 given.3 given.4).stand

pub returns-clause-fits : goal.returns-clause-fits
returns-clause-fits g c =
    let given = c.requires.so_far in
    (c.loop-place.invariant.so_far given.0 given.1 given.3 given.4).fits

pub returns-clause-most : goal.returns-clause-most
returns-clause-most g c =
    let given = c.requires.so_far in
    let so_far = c.loop-place.invariant.so_far given.0 given.1 given.3 given.4 in
    omega (arith, so_far.fewer, so_far.counted, c.requires.few, c.requires.within)
