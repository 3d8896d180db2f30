use Rattle.std.proofs.Common.{◌≡◌, ◌++◌, ◌∷◌, [], flat_map, map, take}
use Rattle.json.specs.Token.{begin_object}
use Rattle.dukpt.specs.inner.Answer.{tokens_of_member}
use Rattle.dukpt.specs.inner.Members.{member_of}
use Rattle.dukpt.proofs.as_json.object.write_object.Given as goal

abbrev pub invariant-loop-member : goal.invariant-loop-member
invariant-loop-member l =
    (l.writer.before ≡ l.fn.writer.before)
    × (l.writer.tokens ≡ l.fn.writer.tokens ++ begin_object ∷ flat_map tokens_of_member (map member_of (take l.member-index l.answer.members.items)))
