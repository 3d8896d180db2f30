use Rattle.std.proofs.Common.{None, Some, map, subst}
use Rattle.duk_journal_host.specs.Group.{AnswersFirst, AnswersFrames, IsGroupNotKept}
use Rattle.duk_journal_host.specs.Host.{HostOf, host_meaning_of}
use Rattle.duk_journal_host.specs.inner.Keep.{AreKept, KeepFailed}
use Rattle.duk_journal_host.proofs.Answering.{answers_all, answers_first, held, holds_after, host_with, not_kept, room_is, room_left}
use Rattle.duk_journal_host.proofs.host.JournalHost.answer.Goals as goal

pub returns-in-Err-clause-refused : goal.returns-in-Err-clause-refused
returns-in-Err-clause-refused g c =
    let meaning = host_meaning_of g.J.Journal.meaning g.I.Issuer.decides in
    let inside = c.self.inside in
    let group = c.judge_frames-judged.new.group in
    let frames = map (λ frame. frame.items) c.args.frames.now in
    let holds = held g.J.Journal.meaning inside.hsm inside.journal inside.state c.in-Some.index c.self.invariant c.in-Some.is in
    let left = room_left g.J.Journal.meaning inside.journal c.in-Some.index c.len-kept.result c.room-room.result holds c.len-kept.ensures c.room-room.ensures in
    let all = room_is g.J.Journal.meaning inside.journal c.in-Some.index c.room-room.result holds c.room-room.ensures in
    let failed = subst (λ entries. KeepFailed g.J.Journal.meaning inside.journal c.keep.new.journal entries c.in-Err.fault) c.entries.ensures c.in-Err.ensures.failed in
    let by_fields = not_kept meaning inside.hsm inside.issuer inside.journal c.keep.new.journal inside.state c.in-Some.index c.judge_frames-judged.new.index c.room-room.result frames group.answers group.entries
    c.in-Some.is all c.judge_frames-judged.result c.len-kept.result c.in-Err.fault left c.judge_frames-judged.ensures.judged c.judge_frames-judged.ensures.stopped failed in
    (subst (λ (old : HostOf g.row.J.Denot g.row.I.Denot). IsGroupNotKept meaning frames old (host_with inside.hsm inside.issuer c.keep.new.journal None) c.in-Err.fault) c.self.view_is by_fields, c.clear-in-Err.ensures.answers)

pub invariant_of-self-in-Ok-judged : goal.invariant_of-self-in-Ok-judged
invariant_of-self-in-Ok-judged g c =
    let meaning = g.J.Journal.meaning in
    let inside = c.self.inside in
    let group = c.judge_frames-judged.new.group in
    let holds = held meaning inside.hsm inside.journal inside.state c.in-Some.index c.self.invariant c.in-Some.is in
    let left = room_left meaning inside.journal c.in-Some.index c.len-kept.result c.room-room.result holds c.len-kept.ensures c.room-room.ensures in
    let kept = subst (λ entries. AreKept meaning inside.journal c.keep.new.journal entries) c.entries.ensures c.in-Ok.ensures.kept in
    holds_after meaning inside.hsm (g.I.Issuer.decides inside.issuer) (meaning.capacity inside.journal) c.room-room.result (map (λ frame. frame.items) c.args.frames.now)
    inside.journal c.keep.new.journal c.in-Some.index c.judge_frames-judged.new.index group.answers group.entries c.self.invariant.zone holds (c.in-Ok-judged.ensures.judged (meaning.capacity inside.journal) left) kept

pub returns-in-Ok-judged-clause-answered : goal.returns-in-Ok-judged-clause-answered
returns-in-Ok-judged-clause-answered g c =
    let meaning = host_meaning_of g.J.Journal.meaning g.I.Issuer.decides in
    let inside = c.self.inside in
    let group = c.judge_frames-judged.new.group in
    let frames = map (λ frame. frame.items) c.args.frames.now in
    let holds = held g.J.Journal.meaning inside.hsm inside.journal inside.state c.in-Some.index c.self.invariant c.in-Some.is in
    let left = room_left g.J.Journal.meaning inside.journal c.in-Some.index c.len-kept.result c.room-room.result holds c.len-kept.ensures c.room-room.ensures in
    let all = room_is g.J.Journal.meaning inside.journal c.in-Some.index c.room-room.result holds c.room-room.ensures in
    let kept = subst (λ entries. AreKept g.J.Journal.meaning inside.journal c.keep.new.journal entries) c.entries.ensures c.in-Ok.ensures.kept in
    let by_fields = answers_all meaning inside.hsm inside.issuer inside.journal c.keep.new.journal inside.state c.in-Some.index c.judge_frames-judged.new.index c.room-room.result frames group.answers group.entries
    c.in-Some.is all (c.in-Ok-judged.ensures.judged (meaning.journal.capacity inside.journal) left) kept c.keep.ensures.capacity in
    subst (λ (old : HostOf g.row.J.Denot g.row.I.Denot). AnswersFrames meaning frames old (host_with inside.hsm inside.issuer c.keep.new.journal (Some c.judge_frames-judged.new.index)) group.answers) c.self.view_is by_fields

pub returns-in-Err-judged-clause-refused : goal.returns-in-Err-judged-clause-refused
returns-in-Err-judged-clause-refused g c =
    let meaning = host_meaning_of g.J.Journal.meaning g.I.Issuer.decides in
    let inside = c.self.inside in
    let group = c.judge_frames-judged.new.group in
    let frames = map (λ frame. frame.items) c.args.frames.now in
    let holds = held g.J.Journal.meaning inside.hsm inside.journal inside.state c.in-Some.index c.self.invariant c.in-Some.is in
    let left = room_left g.J.Journal.meaning inside.journal c.in-Some.index c.len-kept.result c.room-room.result holds c.len-kept.ensures c.room-room.ensures in
    let all = room_is g.J.Journal.meaning inside.journal c.in-Some.index c.room-room.result holds c.room-room.ensures in
    let kept = subst (λ entries. AreKept g.J.Journal.meaning inside.journal c.keep.new.journal entries) c.entries.ensures c.in-Ok.ensures.kept in
    let by_fields = answers_first meaning inside.hsm inside.issuer inside.journal c.keep.new.journal inside.state c.in-Some.index c.judge_frames-judged.new.index c.room-room.result frames group.answers group.entries
    c.in-Some.is all (c.in-Err-judged.ensures.stopped (meaning.journal.capacity inside.journal) left) kept c.keep.ensures.capacity in
    subst (λ (old : HostOf g.row.J.Denot g.row.I.Denot). AnswersFirst meaning frames old (host_with inside.hsm inside.issuer c.keep.new.journal None) group.answers) c.self.view_is by_fields
