-- The nodes on the way to a number, one bit of its counter after the other.
use Rattle.std.proofs.Common.{◌≡◌, ◌+◌, ◌-◌, ◌*◌, ◌%◌, ◌<◌, ◌≤◌, ◌^◌, ℕ, zero, suc, List, ◌∷◌, ◌++◌, ap, ◌∙◌, subst, arith, append_assoc}
use Rattle.duk_commands.specs.Keys.{step_line, step_lines}
use Rattle.duk_tree.specs.Path.{IsPath, last_place, value_of}

-- a node on the way: the path that is reached, with the places below `place` still to come
pub record IsReached (place : ℕ) (path : List ℕ) (reached left : ℕ) : Type 0 where
  pub is_path : IsPath path
  pub value_is : value_of path ≡ reached
  pub above : place ≤ last_place path
  pub fits : left < 2 ^ place

pow_grows : (n more : ℕ) → 2 ^ n ≤ 2 ^ (n + more)
pow_grows n zero = let same : n ≡ n + 0 = omega arith in subst (λ k. 2 ^ n ≤ 2 ^ k) same (omega arith)
pow_grows n (suc more) =
    let next : 2 ^ (n + suc more) ≡ 2 ^ suc (n + more) = ap (λ k. 2 ^ k) (omega arith) in
    omega (arith, next, pow_grows n more)

-- a bit of a counter has its value in 32 bits
pub shifted : (place : ℕ) → place < 21 → 1 * 2 ^ place % 4294967296 ≡ 2 ^ place
shifted place below =
    let top : place + (20 - place) ≡ 20 = omega arith in
    let bound : 2 ^ place ≤ 2 ^ 20 = subst (λ k. 2 ^ place ≤ 2 ^ k) top (pow_grows place (20 - place)) in
    omega (arith, bound)

-- a bit of the counter is the next place of the path
pub one_more : (place : ℕ) (path : List ℕ) (reached left : ℕ) → 2 ^ place ≤ left → IsReached (suc place) path reached left
    → IsReached place (place ∷ path) (reached + 2 ^ place) (left - 2 ^ place)
one_more place path reached left one is = record {
  is_path = (omega (arith, is.above), is.is_path);
  value_is = omega (arith, is.value_is);
  above = omega arith;
  fits = omega (arith, is.fits);
}

-- a zero is none
pub no_more : (place : ℕ) (path : List ℕ) (reached left : ℕ) → left < 2 ^ place → IsReached (suc place) path reached left
    → IsReached place path reached left
no_more place path reached left below is = record {
  is_path = is.is_path;
  value_is = is.value_is;
  above = omega (arith, is.above);
  fits = below;
}

-- the lines of the nodes, and one more
pub lines_more : (initial : List ℕ) (iksn place : ℕ) (path before held lines : List ℕ)
    → held ≡ before ++ step_lines initial iksn path → lines ≡ held ++ step_line initial iksn (place ∷ path)
    → lines ≡ before ++ step_lines initial iksn (place ∷ path)
lines_more initial iksn place path before held lines so_far more =
    more ∙ ap (λ t. t ++ step_line initial iksn (place ∷ path)) so_far
    ∙ append_assoc before (step_lines initial iksn path) (step_line initial iksn (place ∷ path))
