use Rattle.std.proofs.Common.{refl}
use Rattle.duk_tree.specs.Frontier.{candidate_at}
use Rattle.duk_tree.proofs.FrontierCovers.{held_candidate, candidate_held, candidate_either}
use Rattle.duk_tree.proofs.laws.candidates.Goals as goal

pub returns-clause-held : goal.returns-clause-held
returns-clause-held c = held_candidate

pub returns-clause-candidate : goal.returns-clause-candidate
returns-clause-candidate c counter place some within is_usable unused =
    candidate_held counter place (candidate_at counter place) some within is_usable unused refl

pub returns-clause-either : goal.returns-clause-either
returns-clause-either c = candidate_either
