-- What a member of the program says (this project's own).
use Rattle.std.specs.Prelude.{map, string_bytes}
use Rattle.dukpt.specs.inner.Answer.{Said}
use Rattle.dukpt.specs.declared.as_json.answer.Member.{Member}

abbrev pub member_of : Member → Said
member_of member = (string_bytes member.name, map string_bytes member.texts.items)
