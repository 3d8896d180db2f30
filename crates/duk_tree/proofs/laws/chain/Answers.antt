use Rattle.std.proofs.Common.{◌^◌, arith}
use Rattle.duk_tree.proofs.OneChain.{usable_bounds, some_chain, one_chain, chain_usable, usable_chain, chain_count, chain_last}
use Rattle.duk_tree.proofs.laws.chain.Goals as goal

pub returns-clause-exists : goal.returns-clause-exists
returns-clause-exists c counter = some_chain (2 ^ 21) counter (omega arith)

pub returns-clause-only : goal.returns-clause-only
returns-clause-only c counter a b a_chain b_chain = one_chain a b counter a_chain b_chain

pub returns-clause-all : goal.returns-clause-all
returns-clause-all c numbers is_chain counter = (
  λ contains. chain_usable numbers 0 counter is_chain contains,
  λ is_usable. usable_chain numbers 0 counter is_chain is_usable (usable_bounds counter is_usable).0,
)

pub returns-clause-count : goal.returns-clause-count
returns-clause-count c = chain_count

pub returns-clause-last : goal.returns-clause-last
returns-clause-last c = chain_last
