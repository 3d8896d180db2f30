use Rattle.std.proofs.Common.{◌≡◌, ◌+◌, ◌++◌, List, length, map, take}
use Rattle.duk_hsm.specs.Group.{AreOpened}
use Rattle.duk_hsm.specs.Keys.{HsmKeys}
use Rattle.duk_tree.specs.Serial.{Serial}
use Rattle.duk_journal_host.specs.inner.Draft.{AreDraftsUnder, frame_of}
use Rattle.duk_journal_host.proofs.draft.complete.Given as goal

abbrev pub invariant-loop-place : goal.invariant-loop-place
invariant-loop-place l = record {
  counted : length l.group.answers ≡ length l.initial.group.answers + l.place;
  answers : (keys : HsmKeys) (numbers : List Serial) → AreOpened keys numbers l.opened → AreDraftsUnder keys numbers l.drafts
      → l.group.answers ≡ l.initial.group.answers ++ map (frame_of keys) (take l.place l.drafts);
  entries : l.group.entries ≡ l.initial.group.entries;
}
