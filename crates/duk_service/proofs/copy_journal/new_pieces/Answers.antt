use Rattle.duk_service.proofs.copy_journal.new_pieces.Goals as goal

pub returns-clause-zeros : goal.returns-clause-zeros
returns-clause-zeros c = c.in_ok-zeros.ensures.items_if_clones_equal (λ y is. is)
