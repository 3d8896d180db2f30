-- The numbers that come after one.
use Rattle.std.proofs.Common.{ℕ, Option, Some, None, IsNone, IsSome, IfSome, ◌↔◌, arith, refl}
use Rattle.std.proofs.lemmas.Bool.{false≢true}
use Rattle.duk_tree.specs.Next.{IsLast, IsNextUsable}
use Rattle.duk_till.specs.Till.{HasOneAfter, HasTwoAfter}

-- where no usable number comes after, none is above
pub none_after : (counter : ℕ) → IsLast counter → ¬ HasOneAfter counter
none_after counter last one = omega (arith, last one.later one.later_is, one.after)

-- the least one above comes after
pub one_after : (counter next : ℕ) → IsNextUsable counter next → HasOneAfter counter
one_after counter next is = record { later = next; later_is = is.is_usable; after = is.is_above }

-- two come after where one comes after the least one above
pub two_after : (counter next : ℕ) → IsNextUsable counter next → HasOneAfter next ↔ HasTwoAfter counter
two_after counter next is = (
  λ one. record { later = next; later_is = is.is_usable; after = is.is_above; another = one },
  λ two. record {
    later = two.another.later;
    later_is = two.another.later_is;
    after = omega (arith, is.is_least two.later two.later_is two.after, two.another.after);
  },
)

pub not_two_after : (counter : ℕ) → IsLast counter → ¬ HasTwoAfter counter
not_two_after counter last two = omega (arith, last two.later two.later_is, two.after)

-- what was found says whether one comes after
pub found_after : (found : Option ℕ) (counter : ℕ) → IfSome found (IsNextUsable counter) → IsNone found ↔ IsLast counter
    → (IsSome found → HasOneAfter counter) × (HasOneAfter counter → IsSome found)
found_after None counter next none = (λ is. absurd (false≢true is), λ one. absurd (none_after counter (none.0 refl) one))
found_after (Some later) counter next none = (λ is. one_after counter later next, λ one. refl)
