use Rattle.std.proofs.Common.{◌≡◌, ◌<◌, ℕ, length, map}
use Rattle.duk_group.specs.Numbers.{bytes_at, message_at}
use Rattle.duk_group.specs.declared.transposed.TheConstants.{WIDTH}
use Rattle.duk_journal_host.specs.inner.Draft.{text_in}
use Rattle.duk_journal_host.proofs.draft.texts_of.Given as goal

abbrev pub invariant-loop-place : goal.invariant-loop-place
invariant-loop-place l = record {
  size : length l.texts ≡ WIDTH;
  below : (p : ℕ) → p < l.place → message_at l.texts p ≡ bytes_at (map text_in l.drafts) p;
}
