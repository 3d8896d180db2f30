use Rattle.std.proofs.Common.{◌∙◌, ap, length, string_bytes, sym}
use Rattle.std.proofs.lemmas.List.{length-map}
use Rattle.duk_program.proofs.Own.{may_use}
use Rattle.duk_program.proofs.Words.{means_length}
use Rattle.duk_program.proofs.program.run_request.Goals as goal

pub meant_by-requires : goal.meant_by-requires
meant_by-requires g c = ap length c.as_slice.ensures.value ∙ sym (length-map _ string_bytes) ∙ means_length _ _ _ c.in-Ok.ensures.read.means

pub run_meant-requires : goal.run_meant-requires
run_meant-requires g c = may_use _ _ c.args.request c.in-Ok-meant_by.meant c.in-Ok-meant_by.ensures.command c.in-Ok-meant_by.ensures.plain c.requires
