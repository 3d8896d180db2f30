-- What only private functions and proofs say beside `InOrder.antt`: this project's own.
use Rattle.std.specs.Prelude.{◌≡◌, ◌⊎◌}
use Rattle.duk_tree.specs.Next.{spent_counter}
use Rattle.duk_tree.specs.Path.{IsUsable}
use Rattle.duk_group.specs.InOrder.{InOrder}

-- the next number is a usable one, or the terminal is spent
pub record IsInOrder (keys : InOrder) : Type 0 where
  pub counter_is : IsUsable keys.counter ⊎ (keys.counter ≡ spent_counter)
