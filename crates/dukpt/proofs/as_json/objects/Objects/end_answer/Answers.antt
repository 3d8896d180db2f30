use Rattle.std.proofs.Common.{map}
use Rattle.dukpt.proofs.Added.{adds_one}
use Rattle.dukpt.specs.inner.Members.{member_of}
use Rattle.dukpt.proofs.as_json.objects.Objects.end_answer.Goals as goal

pub returns-clause-added : goal.returns-clause-added
returns-clause-added c = adds_one c.args.self.now.ready.items c.push_object.new.lines.items (map member_of c.args.self.now.answer.members.items) c.in_ok-push_object.ensures
