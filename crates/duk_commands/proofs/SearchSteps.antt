-- A search, number by number and key by key.
use Rattle.std.proofs.Common.{◌≡◌, ◌<◌, ◌≤◌, ◌+◌, ◌-◌, ℕ, zero, suc, All, List, [], ◌∷◌, ◌++◌, length, length-append, take, ap, refl, sym, subst, ◌∙◌, inl, inr, arith, append_assoc, append-nil}
use Rattle.std.proofs.Math.Seq.{take-append-add}
use Rattle.std.proofs.lemmas.Bool.{cases_order}
use Rattle.std.proofs.lemmas.List.{take_all, take_at}
use Rattle.std.proofs.lemmas.List.Elements.{All-push, All-same}
use Rattle.duk_io.specs.FirstFault.{IsFirst}
use Rattle.duk_io.specs.Known.{Known}
use Rattle.duk_regs.specs.Registers.{AreFutureKeysOf, IsTaken, RegisterSet}
use Rattle.duk_commands.specs.Find.{NoneMakesAt, Search}
use Rattle.duk_commands.specs.Origin.{key_for, origin_rank, use_rank, way_rank}
use Rattle.duk_commands.specs.Sought.{Makes, MakesBy}
use Rattle.duk_commands.specs.inner.Search.{AreLeft, IsFirstWay, IsFoundTelling, IsNotFoundTelling, IsProgressTold, search_in}
use Rattle.duk_commands.specs.declared.origin.KeyUse.{KeyUse}
use Rattle.duk_commands.specs.declared.origin.KeyUse.TheVariants.{Pin, RequestData, RequestMac, ResponseData, ResponseMac, Transaction}
use Rattle.duk_commands.specs.declared.origin.Origin.{Origin}
use Rattle.duk_commands.specs.declared.origin.Way.{Way}
use Rattle.duk_commands.specs.declared.origin.Way.TheVariants.{Cipher, Cmac, Retail}
use Rattle.duk_commands.specs.declared.sought.Sought.{Sought}
use Rattle.duk_commands.proofs.Windows.{IsFrontOf, left_after}
use Rattle.duk_tree.specs.Derivation.{transaction_key_of}
use Rattle.duk_tree.specs.Next.{spent_counter}
use Rattle.duk_tree.specs.Path.{IsUsable}
use Rattle.duk_tree.specs.Serial.{Serial}

-- ---- the keys of a number

abbrev use_of : ℕ → KeyUse
use_of zero = Transaction
use_of (suc zero) = Pin
use_of (suc (suc zero)) = RequestMac
use_of (suc (suc (suc zero))) = ResponseMac
use_of (suc (suc (suc (suc zero)))) = RequestData
use_of rank = ResponseData

use_of-rank : (key_use : KeyUse) → use_of (use_rank key_use) ≡ key_use
use_of-rank Transaction = refl
use_of-rank Pin = refl
use_of-rank RequestMac = refl
use_of-rank ResponseMac = refl
use_of-rank RequestData = refl
use_of-rank ResponseData = refl

same_use : (a b : KeyUse) → use_rank a ≡ use_rank b → a ≡ b
same_use a b same = sym (use_of-rank a) ∙ ap use_of same ∙ use_of-rank b

use_small : (key_use : KeyUse) → use_rank key_use < 6
use_small Transaction = omega arith
use_small Pin = omega arith
use_small RequestMac = omega arith
use_small ResponseMac = omega arith
use_small RequestData = omega arith
use_small ResponseData = omega arith

way_small : (way : Way) → way_rank way ≤ 1
way_small Retail = omega arith
way_small Cmac = omega arith
way_small Cipher = omega arith

-- no key before this place makes what is looked for
abbrev pub NoneBefore : Sought → List ℕ → ℕ → Type 0
NoneBefore sought key place =
    (key_use : KeyUse) → use_rank key_use < place → (way : Way) → ¬ MakesBy sought (key_for key_use key) way

-- the first way of the first key that does
pub first_origin : (sought : Sought) (key : List ℕ) (key_use : KeyUse) (way : Way) → NoneBefore sought key (use_rank key_use)
    → IsFirstWay sought (key_for key_use key) way
    → IsFirst origin_rank (λ origin. ¬ Makes sought key origin) (Makes sought key) (record { key = key_use; way = way })
first_origin sought key key_use way none is_first = record {
  fails = is_first.fails;
  earlier_met = λ earlier below.
      elim (cases_order (use_rank earlier.key) (use_rank key_use)) [
        | inl same ↦
            subst (λ u. ¬ MakesBy sought (key_for u key) earlier.way) (sym (same_use earlier.key key_use same))
            (is_first.earlier_met earlier.way (omega (arith, same, below)))
        | inr apart ↦
            elim apart [
              | inl before ↦ none earlier.key before earlier.way
              | inr behind ↦ absurd (omega (arith, below, behind, way_small way))
            ]
      ];
}

-- one key more
pub none_more : (sought : Sought) (key : List ℕ) (place : ℕ) (key_use : KeyUse) → use_rank key_use ≡ place → NoneBefore sought key place
    → ((way : Way) → ¬ MakesBy sought (key_for key_use key) way) → NoneBefore sought key (place + 1)
none_more sought key place key_use at_place none here other below way =
    elim (cases_order (use_rank other) place) [
      | inl same ↦ subst (λ u. ¬ MakesBy sought (key_for u key) way) (sym (same_use other key_use (same ∙ sym at_place))) (here way)
      | inr apart ↦
          elim apart [
            | inl before ↦ none other before way
            | inr behind ↦ absurd (omega arith)
          ]
    ]

pub none_of_all : (sought : Sought) (key : List ℕ) (place : ℕ) → 6 ≤ place → NoneBefore sought key place
    → (origin : Origin) → ¬ Makes sought key origin
none_of_all sought key place all none origin = none origin.key (omega (arith, use_small origin.key)) origin.way

-- ---- the numbers of a terminal

-- so many of the counters were tried, and the terminal has the others left
pub record HasTried (search : Search) (tried : ℕ) (now : RegisterSet) : Type 0 where
  pub seen : List ℕ
  pub rest : List ℕ
  pub numbers_are : search.window ≡ seen ++ rest
  pub length_is : length seen ≡ tried
  pub none : All (NoneMakesAt search) seen
  pub left : AreLeft now.counter rest
  pub future_keys : AreFutureKeysOf search.initial now

-- the terminal uses a number
pub record Uses (search : Search) (old : RegisterSet) (key : List ℕ) (new : RegisterSet) : Type 0 where
  pub usable : IsUsable old.counter
  pub same_iksn : old.iksn ≡ search.iksn
  pub taken : IsTaken old key new
  pub key_is : key ≡ transaction_key_of search.initial old.iksn old.counter
  pub future_keys : AreFutureKeysOf search.initial new

-- the key of the number is that of the search
search_key : (search : Search) (old new : RegisterSet) (key : List ℕ) → Uses search old key new
    → key ≡ transaction_key_of search.initial search.iksn old.counter
search_key search old new key is_used =
    is_used.key_is ∙ ap (λ iksn. transaction_key_of search.initial iksn old.counter) is_used.same_iksn

-- no key of it makes what is looked for
pub tried_more : (search : Search) (tried : ℕ) (old new : RegisterSet) (key : List ℕ) → ¬ IsUsable spent_counter → HasTried search tried old
    → Uses search old key new → ((origin : Origin) → ¬ Makes search.sought key origin) → HasTried search (tried + 1) new
tried_more search tried old new key never has is_used none_here =
    elim has.left [
      | inl spent ↦ absurd (never (subst IsUsable spent.0 is_used.usable))
      | inr more ↦
          record {
            seen = has.seen ++ old.counter ∷ [];
            rest = more.0;
            numbers_are = has.numbers_are ∙ ap (λ (rest : List ℕ). has.seen ++ rest) more.3
                ∙ sym (append_assoc has.seen (old.counter ∷ []) more.0);
            length_is = simp length-append (omega (arith, has.length_is));
            none = All-push (NoneMakesAt search) has.seen old.counter has.none
                (subst (λ k. (origin : Origin) → ¬ Makes search.sought k origin) (search_key search old new key is_used) none_here);
            left = left_after old.counter new.counter more.0 is_used.taken.next_counter more.2;
            future_keys = is_used.future_keys;
          }
    ]

-- where the number stands among those that are tried
front : (most tried : ℕ) (window seen rest later : List ℕ) (counter : ℕ) → tried < most → length seen ≡ tried → window ≡ seen ++ rest
    → rest ≡ counter ∷ later → take most window ≡ seen ++ counter ∷ take (most - tried - 1) later
front most tried window seen rest later counter below length_is window_is rest_is =
    let all : length seen + suc (most - tried - 1) ≡ most = omega arith in
    ap (take most) (window_is ∙ ap (λ (r : List ℕ). seen ++ r) rest_is)
    ∙ ap (λ n. take n (seen ++ counter ∷ later)) (sym all)
    ∙ take-append-add seen (counter ∷ later) (suc (most - tried - 1))

-- a key of it makes it
pub found_here : (search : Search) (most tried : ℕ) (old new : RegisterSet) (key : List ℕ) (ksn : Serial) (origin : Origin)
    → ¬ IsUsable spent_counter → tried < most → HasTried search tried old → Uses search old key new
    → ksn ≡ record { iksn = old.iksn; counter = old.counter }
    → IsFirst origin_rank (λ o. ¬ Makes search.sought key o) (Makes search.sought key) origin
    → (before after : Known) → IsProgressTold search.sought most (tried + 1) before after
    → IsFoundTelling (search_in search.sought search.initial search.iksn (take most search.window)) most ksn origin before after
found_here search most tried old new key ksn origin never below has is_used ksn_is is_first before after told =
    let counter : ksn.counter ≡ old.counter = ap (λ (s : Serial). s.counter) ksn_is in
    let key_is : key ≡ transaction_key_of search.initial search.iksn ksn.counter =
    search_key search old new key is_used ∙ ap (transaction_key_of search.initial search.iksn) (sym counter) in
    elim has.left [
      | inl spent ↦ absurd (never (subst IsUsable spent.0 is_used.usable))
      | inr more ↦
          record {
            found = record {
              before = has.seen;
              after = take (most - tried - 1) more.0;
              window_is = front most tried search.window has.seen has.rest more.0 ksn.counter below has.length_is has.numbers_are
                  (more.3 ∙ ap (λ n. n ∷ more.0) (sym counter));
              none_before = has.none;
              of_the_terminal = ap (λ (s : Serial). s.iksn) ksn_is ∙ is_used.same_iksn;
              makes = subst (λ k. IsFirst origin_rank (λ o. ¬ Makes search.sought k o) (Makes search.sought k) origin) key_is is_first;
            };
            progress = subst (λ n. IsProgressTold search.sought most (n + 1) before after) (sym has.length_is) told;
          }
    ]

-- no key of those that are tried makes it, which are these
vain : (search : Search) (most tried : ℕ) (now : RegisterSet) → (has : HasTried search tried now) → take most search.window ≡ has.seen
    → (before after : Known) → IsProgressTold search.sought most tried before after
    → IsNotFoundTelling (search_in search.sought search.initial search.iksn (take most search.window)) most before after
vain search most tried now has are before after told = record {
  not_found = All-same (NoneMakesAt search) (take most search.window) has.seen are has.none;
  progress = subst (λ n. IsProgressTold search.sought most n before after) (sym (ap length are ∙ has.length_is)) told;
}

-- the terminal is spent before all are tried
pub vain_spent : (search : Search) (most tried : ℕ) (now : RegisterSet) → ¬ IsUsable spent_counter → now.counter ≡ spent_counter → tried ≤ most
    → HasTried search tried now → (before after : Known) → IsProgressTold search.sought most tried before after
    → IsNotFoundTelling (search_in search.sought search.initial search.iksn (take most search.window)) most before after
vain_spent search most tried now never spent below has before after told =
    elim has.left [
      | inl spent_there ↦
          let seen : search.window ≡ has.seen =
          has.numbers_are ∙ ap (λ (rest : List ℕ). has.seen ++ rest) spent_there.1 ∙ append-nil has.seen in
          vain search most tried now has
          (ap (take most) seen ∙ take_all most has.seen (omega (arith, has.length_is))) before after told
      | inr more ↦ absurd (never (subst IsUsable spent more.1))
    ]

-- all are tried
pub vain_all : (search : Search) (most tried : ℕ) (now : RegisterSet) → tried ≡ most → HasTried search tried now
    → (before after : Known) → IsProgressTold search.sought most tried before after
    → IsNotFoundTelling (search_in search.sought search.initial search.iksn (take most search.window)) most before after
vain_all search most tried now all has before after told =
    vain search most tried now has (ap (take most) has.numbers_are ∙ take_at has.seen has.rest most (has.length_is ∙ all)) before after told

-- ---- the window

-- what holds of the numbers that are left holds of the window
pub among : (Holds : Search → Type 0) (sought : Sought) (initial : List ℕ) (registers : RegisterSet) (iksn first most : ℕ) (window : List ℕ)
    → IsFrontOf first most window → registers.iksn ≡ iksn → registers.counter ≡ first → AreFutureKeysOf initial registers
    → ((initial numbers : List ℕ) → AreFutureKeysOf initial registers → AreLeft registers.counter numbers
    → Holds (search_in sought initial registers.iksn (take most numbers)))
    → Holds (search_in sought initial iksn window)
among Holds sought initial registers iksn first most window front same_iksn same_counter keys left =
    subst (λ w. Holds (search_in sought initial iksn w)) (sym front.window_is)
    (subst (λ i. Holds (search_in sought initial i (take most front.numbers))) same_iksn
    (left initial front.numbers keys (subst (λ n. AreLeft n front.numbers) (sym same_counter) front.left)))
