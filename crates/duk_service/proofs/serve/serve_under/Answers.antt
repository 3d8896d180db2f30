use Rattle.std.proofs.Common.{rules}
use Rattle.duk_service.proofs.serve.serve_under.Goals as goal

pub new_host-requires : goal.new_host-requires
new_host-requires g c = (search rules, (c.requires.fits, (c.requires.length, c.requires.lmk)))

pub serve_host-requires : goal.serve_host-requires
serve_host-requires g c = c.requires.fits
