use Rattle.duk_tree.proofs.FrontierCovers.{HasOneInFrontier-usable, none_used, same_place}
use Rattle.duk_tree.proofs.laws.frontier.Goals as goal

pub returns-clause-one : goal.returns-clause-one
returns-clause-one c = HasOneInFrontier-usable

pub returns-clause-none_used : goal.returns-clause-none_used
returns-clause-none_used c counter held node fits is_in_frontier used = none_used counter held node is_in_frontier used fits

pub returns-clause-places : goal.returns-clause-places
returns-clause-places c = same_place
