-- The frontier: what it covers, how it moves from number to number, and where its nodes stand.
use Rattle.std.proofs.Common.{◌≡◌, ◌≢◌, ℕ, suc, ◌+◌, ◌-◌, ◌*◌, ◌/◌, ◌^◌, ◌<◌, ◌≤◌, ◌⊎◌, List, [], ◌∷◌, ◌++◌, length, refl, sym, ap, ◌∙◌, arith, inl, inr, subst, add-one}
use Rattle.std.proofs.Math.Nat.{pow-suc}
use Rattle.std.proofs.lemmas.Nat.{pow_pos, div-mul-add}
use Rattle.std.proofs.lemmas.Bool.{cases_lt, cases_order}
use Rattle.duk_tree.specs.Path.{last_place, IsPath, value_of, path_of, IsUsable}
use Rattle.duk_tree.specs.Next.{ComesAfter}
use Rattle.duk_tree.specs.Frontier.{parent_of, IsInFrontier, IsAncestorOrSelf, IsChild, HasOneInFrontier, candidate_at}
use Rattle.duk_tree.proofs.PathsOfCounters.{IsUsable-ones, IsUsable-from_ones, path_from, IsPath-path_from, value_of-path_from}
use Rattle.std.specs.Int.RustNames.{count_ones}
use Rattle.duk_tree.proofs.LeastUsable.{some_ones}
use Rattle.duk_tree.proofs.UsablePaths.{path_of-value_of, IsPath-path_of, value_of-path_of, usable_path, usable_value, some_length, odd_multiple}

-- ---- ancestors

value_of-append : (below path : List ℕ) → value_of path ≤ value_of (below ++ path)
value_of-append [] path = omega arith
value_of-append (place ∷ below) path = omega (arith, value_of-append below path)

-- an ancestor or self is no greater
pub ancestor_le : (ancestor node : ℕ) → ancestor < 2 ^ 21 → node < 2 ^ 21 → IsAncestorOrSelf ancestor node → ancestor ≤ node
ancestor_le ancestor node fits node_fits above =
    let smaller = value_of-append above.0 (path_of ancestor) in
    let whole = ap value_of above.1 in
    omega (arith, value_of-path_of ancestor fits, value_of-path_of node node_fits)

suffix_cases : (below path : List ℕ) (place : ℕ) (parent : List ℕ) → below ++ path ≡ place ∷ parent → (path ≡ place ∷ parent) ⊎ ((rest : List ℕ) × (rest ++ path ≡ parent))
suffix_cases [] path place parent same = inl same
suffix_cases (first ∷ below) path place parent same = inr (below, cc)

held_fits : (counter node : ℕ) → IsInFrontier counter node → node < 2 ^ 21
held_fits counter node is_in_frontier = (usable_path node is_in_frontier.is_usable).0

-- on the way to a node whose parent is used, only the node itself is held
only_self : (counter place : ℕ) (parent : List ℕ) → value_of parent < counter → (other : ℕ) → IsInFrontier counter other
    → (path_of other ≡ place ∷ parent) ⊎ ((rest : List ℕ) × (rest ++ path_of other ≡ parent))
    → other ≡ value_of (place ∷ parent)
only_self counter place parent used other is_in_frontier either =
    let value : value_of (path_of other) ≡ other = value_of-path_of other (held_fits counter other is_in_frontier) in
    elim either [
      | inl same ↦ sym value ∙ ap value_of same
      | inr rest ↦
          let smaller = value_of-append rest.0 (path_of other) in
          let whole = ap value_of rest.1 in
          absurd (omega (arith, is_in_frontier.not_used))
    ]

-- on the way to a node whose parent is not used, that node is not held
only_above : (counter place : ℕ) (parent : List ℕ) (held : ℕ) → counter ≤ value_of parent
    → ((other : ℕ) → IsInFrontier counter other → (rest : List ℕ) × (rest ++ path_of other ≡ parent) → other ≡ held)
    → (other : ℕ) → IsInFrontier counter other
    → (path_of other ≡ place ∷ parent) ⊎ ((rest : List ℕ) × (rest ++ path_of other ≡ parent))
    → other ≡ held
only_above counter place parent held unused is_only other is_in_frontier either =
    elim either [
      | inl same ↦ let parents = ap (λ path. value_of (parent_of path)) same in absurd (omega (arith, is_in_frontier.parent_used))
      | inr rest ↦ is_only other is_in_frontier rest
    ]

covered : (counter : ℕ) (path : List ℕ) → 1 ≤ counter → IsPath path → length path ≤ 10 → counter ≤ value_of path → HasOneInFrontier counter (value_of path)
covered counter [] some is_path few reached = absurd (omega arith)
covered counter (place ∷ parent) some is_path few reached =
    let node = path_of-value_of (place ∷ parent) is_path in
    let up = path_of-value_of parent is_path.1 in
    elim (cases_lt (value_of parent) counter) [
      | inl used ↦ record {
        held = value_of (place ∷ parent);
        is_in_frontier = record {
          is_usable = usable_value (place ∷ parent) is_path (omega arith) few;
          not_used = reached;
          parent_used = rw node used;
        };
        is_above = ([], refl);
        is_only = λ other is_in_frontier above. only_self counter place parent used other is_in_frontier (suffix_cases above.0 (path_of other) place parent (above.1 ∙ node));
      }
      | inr unused ↦
          let higher = covered counter parent some is_path.1 (omega arith) unused in
          record {
            held = higher.held;
            is_in_frontier = higher.is_in_frontier;
            is_above = (place ∷ higher.is_above.0, ap (λ path. place ∷ path) (higher.is_above.1 ∙ up) ∙ sym node);
            is_only = λ other is_in_frontier above. only_above counter place parent higher.held unused (λ other is_in_frontier rest. higher.is_only other is_in_frontier (rest.0, rest.1 ∙ sym up)) other is_in_frontier (suffix_cases above.0 (path_of other) place parent (above.1 ∙ node));
          }
    ]

pub HasOneInFrontier-usable : (counter node : ℕ) → 1 ≤ counter → IsUsable node → counter ≤ node → HasOneInFrontier counter node
HasOneInFrontier-usable counter node some is_usable reached =
    let bounds = usable_path node is_usable in
    let value = value_of-path_of node bounds.0 in
    subst (HasOneInFrontier counter) value (covered counter (path_of node) some (IsPath-path_of node) bounds.2 (omega arith))

pub none_used : (counter held node : ℕ) → IsInFrontier counter held → node < counter → counter ≤ 2 ^ 21 → IsAncestorOrSelf held node → ⊥
none_used counter held node is_in_frontier used fits above =
    let smaller = ancestor_le held node (held_fits counter held is_in_frontier) (omega arith) above in
    omega (arith, is_in_frontier.not_used)

-- ---- places

power_above : (place : ℕ) → 2 ^ (place + 1) ≡ 2 ^ place + 2 ^ place
power_above place = ap (λ n. 2 ^ n) (add-one place) ∙ pow-suc 2 place ∙ omega arith

-- the parent of a held node is the greatest multiple of its power of two that is below the counter
greatest_multiple : (counter power times : ℕ) → 0 < power → times * power < counter → counter ≤ times * power + power → (counter - 1) / power * power ≡ times * power
greatest_multiple counter power times some below above =
    let rest = counter - 1 - times * power in
    let split : counter - 1 ≡ times * power + rest = omega arith in
    ap (λ n. n * power) (ap (λ n. n / power) split ∙ div-mul-add times power rest (omega arith))

is_candidate : (counter node : ℕ) (path : List ℕ) → path_of node ≡ path → IsInFrontier counter node → node ≡ candidate_at counter (last_place path)
is_candidate counter node [] same is_in_frontier =
    let none = ap length same in
    absurd (omega (arith, (usable_path node is_in_frontier.is_usable).1))
is_candidate counter node (place ∷ parent) same is_in_frontier =
    let is_path : IsPath (place ∷ parent) = subst IsPath same (IsPath-path_of node) in
    let value : value_of (place ∷ parent) ≡ node = ap value_of (sym same) ∙ value_of-path_of node (held_fits counter node is_in_frontier) in
    let split = odd_multiple place parent is_path in
    let suc_place : 2 ^ suc place ≡ 2 ^ (place + 1) = ap (λ n. 2 ^ n) (sym (add-one place)) in
    let above : value_of parent ≡ split.0 * 2 ^ (place + 1) = split.1 ∙ ap (λ n. split.0 * n) suc_place in
    let doubled = power_above place in
    let used : value_of parent < counter = subst (λ path. value_of (parent_of path) < counter) same is_in_frontier.parent_used in
    let multiple = greatest_multiple counter (2 ^ (place + 1)) split.0 (pow_pos (place + 1)) (omega arith) (omega (arith, is_in_frontier.not_used)) in
    omega arith

pub held_candidate : (counter node : ℕ) → IsInFrontier counter node → node ≡ candidate_at counter (last_place (path_of node))
held_candidate counter node is_in_frontier = is_candidate counter node (path_of node) refl is_in_frontier

pub same_place : (counter a b : ℕ) → IsInFrontier counter a → IsInFrontier counter b → last_place (path_of a) ≡ last_place (path_of b) → a ≡ b
same_place counter a b a_held b_held same =
    held_candidate counter a a_held ∙ ap (candidate_at counter) same ∙ sym (held_candidate counter b b_held)

-- the path of an odd multiple of a power of two
odd_path : (place times node : ℕ) → place < 21 → node < 2 ^ 21 → node ≡ times * 2 ^ (place + 1) + 2 ^ place
    → (parent : List ℕ) × (path_of node ≡ place ∷ parent) × (value_of parent ≡ times * 2 ^ (place + 1))
odd_path place times node within fits split =
    let count = 21 - suc place in
    let parent = path_from (suc place) count node in
    let is_path = IsPath-path_from count (suc place) node (omega arith) in
    let suc_place : 2 ^ (place + 1) ≡ 2 ^ suc place = ap (λ n. 2 ^ n) (add-one place) in
    let doubled = power_above place in
    let high : node / 2 ^ suc place ≡ times =
    ap (λ n. n / 2 ^ suc place) (split ∙ ap (λ n. times * n + 2 ^ place) suc_place) ∙ div-mul-add times (2 ^ suc place) (2 ^ place) (omega (arith, pow_pos place)) in
    let above : value_of parent ≡ times * 2 ^ (place + 1) =
    value_of-path_from count (suc place) node (omega arith) fits ∙ ap (λ n. n * 2 ^ suc place) high ∙ ap (λ n. times * n) (sym suc_place) in
    let whole : IsPath (place ∷ parent) = (omega (arith, is_path.1), is_path.0) in
    let value : node ≡ value_of (place ∷ parent) = omega arith in
    (parent, ap path_of value ∙ path_of-value_of (place ∷ parent) whole, above)

-- the frontier has the candidate of a place where that is usable and not used
pub candidate_held : (counter place node : ℕ) → 1 ≤ counter → place < 21 → IsUsable node → counter ≤ node → node ≡ candidate_at counter place
    → IsInFrontier counter node × (last_place (path_of node) ≡ place)
candidate_held counter place node some within is_usable unused candidate =
    let fits = (usable_path node is_usable).0 in
    let path = odd_path place ((counter - 1) / 2 ^ (place + 1)) node within fits candidate in
    let parents : value_of (parent_of (path_of node)) ≡ (counter - 1) / 2 ^ (place + 1) * 2 ^ (place + 1) = ap (λ path. value_of (parent_of path)) path.1 ∙ path.2 in (
      record {
        is_usable = is_usable;
        not_used = unused;
        parent_used = omega (arith, pow_pos (place + 1));
      },
      ap last_place path.1,
    )

-- what the frontier has at a place is the candidate, or nothing
nothing_at : (counter place : ℕ) → (IsInFrontier counter (candidate_at counter place) → ⊥) → (node : ℕ) → IsInFrontier counter node → last_place (path_of node) ≢ place
nothing_at counter place never node is_in_frontier same =
    let candidate : node ≡ candidate_at counter place = held_candidate counter node is_in_frontier ∙ ap (candidate_at counter) same in
    never (subst (IsInFrontier counter) candidate is_in_frontier)

pub candidate_either : (counter place : ℕ) → 1 ≤ counter → place < 21
    → (IsInFrontier counter (candidate_at counter place) × (last_place (path_of (candidate_at counter place)) ≡ place))
    ⊎ ((node : ℕ) → IsInFrontier counter node → last_place (path_of node) ≢ place)
candidate_either counter place some within =
    let node = candidate_at counter place in
    elim (cases_lt node counter) [
      | inl used ↦ inr (nothing_at counter place (λ is_in_frontier. omega (arith, is_in_frontier.not_used)))
      | inr unused ↦
          elim (cases_lt 10 (count_ones node)) [
            | inl many ↦ inr (nothing_at counter place (λ is_in_frontier. omega (arith, (IsUsable-ones node is_in_frontier.is_usable).1)))
            | inr few ↦
                elim (cases_lt node (2 ^ 21)) [
                  | inr beyond ↦ inr (nothing_at counter place (λ is_in_frontier. omega (arith, held_fits counter node is_in_frontier)))
                  | inl fits ↦
                      let is_usable = IsUsable-from_ones node fits (some_ones node (omega arith)) few in
                      inl (candidate_held counter place node some within is_usable unused refl)
                ]
          ]
    ]

-- ---- children

pub child_of : (counter place : ℕ) → IsUsable counter → length (path_of counter) < 10 → place < last_place (path_of counter)
    → IsUsable (counter + 2 ^ place) × (path_of (counter + 2 ^ place) ≡ place ∷ path_of counter)
child_of counter place is_usable few below =
    let bounds = usable_path counter is_usable in
    let is_path : IsPath (place ∷ path_of counter) = (below, IsPath-path_of counter) in
    let value : value_of (place ∷ path_of counter) ≡ counter + 2 ^ place = omega (arith, value_of-path_of counter bounds.0) in (
      subst IsUsable value (usable_value (place ∷ path_of counter) is_path (omega arith) (omega arith)),
      ap path_of (sym value) ∙ path_of-value_of (place ∷ path_of counter) is_path,
    )

pub child_value : (counter child place : ℕ) → counter < 2 ^ 21 → IsUsable child → path_of child ≡ place ∷ path_of counter → child ≡ counter + 2 ^ place
child_value counter child place fits is_usable same =
    sym (value_of-path_of child (usable_path child is_usable).0) ∙ ap value_of same ∙ omega (arith, value_of-path_of counter fits)

pub child_place : (counter child place : ℕ) → path_of child ≡ place ∷ path_of counter → place < last_place (path_of counter)
child_place counter child place same = (subst IsPath same (IsPath-path_of child)).0

-- ---- from a number to the next

pub after_above : (counter next : ℕ) → counter < 2 ^ 21 → ComesAfter counter next → counter < next
after_above counter next fits after = elim after [ inl usable ↦ usable.is_above | inr spent ↦ omega (arith, spent.1) ]

pub after_least : (counter next other : ℕ) → ComesAfter counter next → IsUsable other → counter < other → next ≤ other
after_least counter next other after is_usable above =
    elim after [
      | inl usable ↦ usable.is_least other is_usable above
      | inr spent ↦ absurd (omega (arith, spent.0 other is_usable))
    ]

-- the parent of a usable number is usable or the root, which is below every number
pub parent_usable : (node : ℕ) (path : List ℕ) → path_of node ≡ path → IsUsable node → 0 < value_of (parent_of path) → IsUsable (value_of (parent_of path))
parent_usable node [] same is_usable some = absurd (omega arith)
parent_usable node (place ∷ parent) same is_usable some =
    let is_path : IsPath (place ∷ parent) = subst IsPath same (IsPath-path_of node) in
    let long = ap length same in
    usable_value parent is_path.1 (some_length parent some) (omega (arith, (usable_path node is_usable).2))

-- a node whose parent is a counter is its child
parent_child : (counter node : ℕ) (path : List ℕ) → path_of node ≡ path → IsUsable node → value_of (parent_of path) ≡ counter → IsChild counter node
parent_child counter node [] same is_usable parent = let none = ap length same in absurd (omega (arith, (usable_path node is_usable).1))
parent_child counter node (place ∷ parent) same is_usable value =
    let is_path : IsPath (place ∷ parent) = subst IsPath same (IsPath-path_of node) in
    (place, same ∙ ap (λ path. place ∷ path) (sym (path_of-value_of parent is_path.1) ∙ ap path_of value))

pub moves_from : (counter next node : ℕ) → IsUsable counter → ComesAfter counter next → IsInFrontier next node
    → (IsInFrontier counter node × (node ≢ counter)) ⊎ (IsUsable node × IsChild counter node)
moves_from counter next node is_usable after is_in_frontier =
    let above : counter < next = after_above counter next (usable_path counter is_usable).0 after in
    let parent = value_of (parent_of (path_of node)) in
    let unused = is_in_frontier.not_used in
    elim (cases_order parent counter) [
      | inl same ↦ inr (is_in_frontier.is_usable, parent_child counter node (path_of node) refl is_in_frontier.is_usable same)
      | inr apart ↦
          elim apart [
            | inl used ↦ inl (record { is_usable = is_in_frontier.is_usable; not_used = omega arith; parent_used = used }, λ same. omega arith)
            | inr later ↦
                let usable = parent_usable node (path_of node) refl is_in_frontier.is_usable (omega arith) in
                absurd (omega (arith, after_least counter next parent after usable later, is_in_frontier.parent_used))
          ]
    ]

pub moves_to : (counter next node : ℕ) → IsUsable counter → ComesAfter counter next
    → (IsInFrontier counter node × (node ≢ counter)) ⊎ (IsUsable node × IsChild counter node)
    → IsInFrontier next node
moves_to counter next node is_usable after either =
    let fits = (usable_path counter is_usable).0 in
    let above : counter < next = after_above counter next fits after in
    elim either [
      | inl stays ↦
          let later : counter < node = omega (arith, stays.0.not_used, stays.1) in
          record {
            is_usable = stays.0.is_usable;
            not_used = after_least counter next node after stays.0.is_usable later;
            parent_used = omega (arith, stays.0.parent_used);
          }
      | inr child ↦
          let value : node ≡ counter + 2 ^ child.1.0 = child_value counter node child.1.0 fits child.0 child.1.1 in
          let parents : value_of (parent_of (path_of node)) ≡ counter = ap (λ path. value_of (parent_of path)) child.1.1 ∙ value_of-path_of counter fits in
          record {
            is_usable = child.0;
            not_used = after_least counter next node after child.0 (omega (arith, pow_pos child.1.0));
            parent_used = omega arith;
          }
    ]

-- ---- the first frontier

first_path : (node : ℕ) (path : List ℕ) → path_of node ≡ path → IsInFrontier 1 node → (place : ℕ) × (place < 21) × (node ≡ 2 ^ place)
first_path node [] same is_in_frontier = let none = ap length same in absurd (omega (arith, (usable_path node is_in_frontier.is_usable).1))
first_path node (place ∷ []) same is_in_frontier =
    let is_path : IsPath (place ∷ []) = subst IsPath same (IsPath-path_of node) in
    (place, is_path.0, sym (value_of-path_of node (held_fits 1 node is_in_frontier)) ∙ ap value_of same ∙ omega arith)
first_path node (place ∷ (above ∷ parent)) same is_in_frontier =
    let used = subst (λ path. value_of (parent_of path) < 1) same is_in_frontier.parent_used in
    absurd (omega (arith, pow_pos above))

pub first_held : (node : ℕ) → IsInFrontier 1 node → (place : ℕ) × (place < 21) × (node ≡ 2 ^ place)
first_held node is_in_frontier = first_path node (path_of node) refl is_in_frontier

pub held_first : (node place : ℕ) → place < 21 → node ≡ 2 ^ place → IsInFrontier 1 node × (path_of node ≡ place ∷ [])
held_first node place within power =
    let is_path : IsPath (place ∷ []) = (within, tt) in
    let value : value_of (place ∷ []) ≡ node = omega arith in
    let path : path_of node ≡ place ∷ [] = ap path_of (sym value) ∙ path_of-value_of (place ∷ []) is_path in
    let parents : value_of (parent_of (path_of node)) ≡ 0 = ap (λ path. value_of (parent_of path)) path in (
      record {
        is_usable = subst IsUsable value (usable_value (place ∷ []) is_path (omega arith) (omega arith));
        not_used = omega (arith, pow_pos place);
        parent_used = omega arith;
      },
      path,
    )
