-- The counters that a terminal goes through.
use Rattle.std.proofs.Common.{◌↔◌, ℕ, [], ◌∷◌, Option, Some, None, IfSome, IsNone, inl, inr, refl, arith}
use Rattle.std.specs.Option.{unwrap_or}
use Rattle.duk_tree.specs.Path.{IsUsable}
use Rattle.duk_tree.specs.Next.{spent_counter, IsNextUsable, IsLast, ComesAfter}

-- the first
pub first_is_usable : IsUsable 1
first_is_usable = record {
  path = 0 ∷ [];
  path_is = (omega arith, tt);
  value_is = refl;
  not_the_root = omega arith;
  ten_ones_at_most = omega arith;
}

-- what `next_usable` and spent together give
pub comes_after : (counter : ℕ) (found : Option ℕ) → IfSome found (IsNextUsable counter) → IsNone found ↔ IsLast counter → ComesAfter counter (unwrap_or found spent_counter)
comes_after counter (Some next) is_next none = inl is_next
comes_after counter None is_next none = inr (none.0 refl, refl)
