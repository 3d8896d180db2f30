use Rattle.std.proofs.Common.{◌∙◌, ap, position, string_bytes}
use Rattle.std.specs.Str.{bytes_eq}
use Rattle.dukpt.proofs.Said.{place_of_members}
use Rattle.dukpt.proofs.as_json.answer.Answer.place.Goals as goal

pub returns-clause-value : goal.returns-clause-value
returns-clause-value c = c.place_among.ensures.value ∙ ap (position (λ member. bytes_eq (string_bytes member.name) c.args.name.now)) c.as_slice.ensures.value ∙ place_of_members c.args.name.now c.args.self.now.members.items
