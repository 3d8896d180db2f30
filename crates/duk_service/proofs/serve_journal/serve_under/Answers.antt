use Rattle.duk_service.proofs.serve_journal.serve_under.Goals as goal

pub serve_host-requires : goal.serve_host-requires
serve_host-requires g c = c.requires.fits
