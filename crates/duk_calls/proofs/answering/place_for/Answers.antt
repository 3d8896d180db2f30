use Rattle.std.proofs.Common.{inl}
use Rattle.duk_calls.proofs.answering.place_for.Goals as goal

pub returns-in-Some : goal.returns-in-Some
returns-in-Some g c = inl (c.args.settled.now, c.requires.read c.in-Some.field-0 c.in-Some.ensures, c.place_of.ensures)
