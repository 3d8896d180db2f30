use Rattle.std.proofs.Common.{◌≤◌, inl, inr, ◌∙◌, arith}
use Rattle.duk_show.proofs.StoredRecords.{same_followers}
use Rattle.duk_show.proofs.journal.next_contents.Goals as goal

pub returns-in_default : goal.returns-in_default
returns-in_default c = λ followers entry next.
    c.in_default.not-Some (followers, entry) (c.contents_at.ensures.every followers entry next.contents)

pub returns-then-followers-ne0 : goal.returns-then-followers-ne0
returns-then-followers-ne0 c = λ followers entry next.
    let some : 1 ≤ c.args.left = omega (arith, c.if-left-ne0.true) in
    let inside = next.inside some in
    elim c.if-followers-ne0.either [
      | inl is_open ↦ inside.0 is_open
      | inr other ↦
          let same = same_followers (c.in-Some.followers, c.in-Some.entry) (followers, entry) (c.in-Some.ensures.every followers entry next.contents) in
          other.1 (same ∙ inside.1)
    ]
