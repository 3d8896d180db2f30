use Rattle.std.proofs.Common.{◌∙◌}
use Rattle.duk_service.proofs.new_file.new_file.Goals as goal

pub make_blank-requires-clause-zeros : goal.make_blank-requires-clause-zeros
make_blank-requires-clause-zeros g c =
    c.as_slice.ensures.value ∙ c.in_ok-zeros.ensures.items_if_clones_equal (λ y is. is)
