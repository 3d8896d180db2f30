use Rattle.duk_regs.proofs.FrontierToFrontier.{TreeLaws, taken_key, taken_future_keys, taken_set}
use Rattle.duk_regs.proofs.laws.transactions.Goals as goal

pub returns : goal.returns
returns c =
    let laws : TreeLaws = record {
      usable = c.bits.ensures.usable;
      value = c.paths.ensures.value;
      places = c.frontier.ensures.places;
      moves = c.moves.ensures.moves;
      child = c.children.ensures.child;
      child_value = c.children.ensures.value;
    } in
    record { key = taken_key laws; future_keys = taken_future_keys laws; set = taken_set laws }
