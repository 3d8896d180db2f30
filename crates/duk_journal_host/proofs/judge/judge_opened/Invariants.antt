use Rattle.std.proofs.Common.{◌≡◌, ◌+◌, ◌++◌, length, map}
use Rattle.duk_hsm.specs.Keys.{HsmKeys}
use Rattle.duk_journal_host.specs.Host.{IndexOf}
use Rattle.duk_journal_host.specs.inner.Draft.{AreDraftsUnder, frame_of}
use Rattle.duk_journal_host.specs.inner.Judged.{AreJudgedSoFar, OpensBetween}
use Rattle.duk_journal_host.proofs.judge.judge_opened.Given as goal

abbrev pub invariant-loop-place : goal.invariant-loop-place
invariant-loop-place g l = record {
  answers : l.group.answers ≡ l.initial.group.answers;
  counted : l.from + length l.drafts.items ≡ l.place;
  under : (keys : HsmKeys) (opens : OpensBetween keys (λ frame. frame.items) l.frames l.from l.to l.opened) → AreDraftsUnder keys opens.numbers l.drafts.items;
  so_far : (keys : HsmKeys) (before : IndexOf) → OpensBetween keys (λ frame. frame.items) l.frames l.from l.to l.opened
      → AreJudgedSoFar keys (g.I.Issuer.decides l.issuer) l.kept l.room (map (λ frame. frame.items) l.frames) l.from before l.initial.index l.initial.group.answers l.initial.group.entries
      → AreJudgedSoFar keys (g.I.Issuer.decides l.issuer) l.kept l.room (map (λ frame. frame.items) l.frames) l.place before l.index (l.initial.group.answers ++ map (frame_of keys) l.drafts.items) l.group.entries;
}
