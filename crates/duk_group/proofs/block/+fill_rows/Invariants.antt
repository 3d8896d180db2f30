use Rattle.duk_group.proofs.block.+fill_rows.Given as goal

abbrev pub decreases-fill_rows : goal.decreases-fill_rows
decreases-fill_rows l = l.place
