use Rattle.std.proofs.Common.{◌≡◌, ◌∙◌, ◌++◌, ap, arith, length, map, subst, sym}
use Rattle.duk_journal_host.specs.inner.Draft.{AreDraftsUnder, frame_of}
use Rattle.duk_journal_host.specs.inner.Judged.{AreJudgedSoFar, JudgesFirst}
use Rattle.duk_journal_host.proofs.judge.judge_next.Goals as goal

pub judge_opened-judged-requires-clause-so_far : goal.judge_opened-judged-requires-clause-so_far
judge_opened-judged-requires-clause-so_far g c =
    (c.args.hsm.now, c.requires.so_far.0, c.requires.zone, c.open_frames-opened.ensures.opened, c.requires.so_far.1)

pub complete-requires-clause-room : goal.complete-requires-clause-room
complete-requires-clause-room g c =
    omega (arith, ap length c.judge_opened-judged.ensures.answers, c.requires.so_far.1.counted, c.judge_opened-judged.ensures.counted, ap length c.as_slice.ensures.value, c.requires.few, c.requires.from)

pub returns-in-Ok-clause-judged : goal.returns-in-Ok-clause-judged
returns-in-Ok-clause-judged g c = λ before first.
    let keys = c.args.hsm.now in
    let opens = c.open_frames-opened.ensures.opened in
    let drafts = c.judge_opened-judged.new.drafts.items in
    let under = subst (λ drafts. AreDraftsUnder keys opens.numbers drafts) (sym c.as_slice.ensures.value) (c.judge_opened-judged.ensures.under keys opens) in
    let answers : c.args.group.now.answers ++ map (frame_of keys) drafts ≡ c.complete.new.group.answers = sym (
    c.complete.ensures.answers keys opens.numbers opens.are_opened under
    ∙ ap (λ answers. answers ++ map (frame_of keys) c.as_slice.result.now) c.judge_opened-judged.ensures.answers
    ∙ ap (λ drafts. c.args.group.now.answers ++ map (frame_of keys) drafts) c.as_slice.ensures.value) in
    subst (λ entries. AreJudgedSoFar keys (g.I.Issuer.decides c.args.issuer.now) c.args.kept c.args.room (map (λ frame. frame.items) c.args.frames.now) c.min-to.result before c.judge_opened-judged.new.index c.complete.new.group.answers entries) (sym c.complete.ensures.entries)
    (subst (λ answers. AreJudgedSoFar keys (g.I.Issuer.decides c.args.issuer.now) c.args.kept c.args.room (map (λ frame. frame.items) c.args.frames.now) c.min-to.result before c.judge_opened-judged.new.index answers c.judge_opened-judged.new.group.entries) answers
    (c.in-Ok.ensures.judged keys before opens first))

pub returns-in-Err-clause-stopped : goal.returns-in-Err-clause-stopped
returns-in-Err-clause-stopped g c = λ before capacity first room_is.
    let keys = c.args.hsm.now in
    let opens = c.open_frames-opened.ensures.opened in
    let drafts = c.judge_opened-judged.new.drafts.items in
    let under = subst (λ drafts. AreDraftsUnder keys opens.numbers drafts) (sym c.as_slice.ensures.value) (c.judge_opened-judged.ensures.under keys opens) in
    let answers : c.args.group.now.answers ++ map (frame_of keys) drafts ≡ c.complete.new.group.answers = sym (
    c.complete.ensures.answers keys opens.numbers opens.are_opened under
    ∙ ap (λ answers. answers ++ map (frame_of keys) c.as_slice.result.now) c.judge_opened-judged.ensures.answers
    ∙ ap (λ drafts. c.args.group.now.answers ++ map (frame_of keys) drafts) c.as_slice.ensures.value) in
    subst (λ entries. JudgesFirst keys (g.I.Issuer.decides c.args.issuer.now) capacity c.args.room (map (λ frame. frame.items) c.args.frames.now) before c.complete.new.group.answers entries) (sym c.complete.ensures.entries)
    (subst (λ answers. JudgesFirst keys (g.I.Issuer.decides c.args.issuer.now) capacity c.args.room (map (λ frame. frame.items) c.args.frames.now) before answers c.judge_opened-judged.new.group.entries) answers
    (c.in-Err.ensures.stopped keys before capacity opens first room_is))
