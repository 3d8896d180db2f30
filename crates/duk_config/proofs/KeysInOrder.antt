-- The order of the keys of a configuration, key by key.
use Rattle.std.proofs.Common.{true, ◌≡◌, ◌⊎◌, inl, inr, ℕ, zero, suc, ◌<◌, Option, Some, IsSome, Result, Ok, Err, IfOk, OnOk, refl, ap, sym, ◌∙◌, subst, arith}
use Rattle.std.specs.Result.{result_ok}
use Rattle.toml.specs.Data.{Members}
use Rattle.duk_config.specs.declared.fault.ConfigKey.{ConfigKey}
use Rattle.duk_config.specs.declared.fault.ConfigKey.TheVariants as key
use Rattle.duk_config.specs.ConfigFaults.{IsRight, IsRightBefore, key_rank}
use Rattle.duk_config.specs.ConfigKeys.{is_config_key}
use Rattle.duk_config.specs.Names.{has_only}

-- the key of a key_rank
abbrev key_at : ℕ → ConfigKey
key_at zero = key.Lmk
key_at (suc zero) = key.Zone
key_at (suc (suc zero)) = key.Loading
key_at (suc (suc (suc zero))) = key.Terminals
key_at (suc (suc (suc (suc zero)))) = key.Log
key_at (suc (suc (suc (suc (suc zero))))) = key.Stores
key_at (suc (suc (suc (suc (suc (suc zero)))))) = key.Bdk
key_at (suc (suc (suc (suc (suc (suc (suc _))))))) = key.Card

key_at_rank : (k : ConfigKey) → key_at (key_rank k) ≡ k
key_at_rank key.Lmk = refl
key_at_rank key.Zone = refl
key_at_rank key.Loading = refl
key_at_rank key.Terminals = refl
key_at_rank key.Log = refl
key_at_rank key.Stores = refl
key_at_rank key.Bdk = refl
key_at_rank key.Card = refl

-- two keys have not one key_rank
pub rank_once : (a b : ConfigKey) → key_rank a ≡ key_rank b → a ≡ b
rank_once a b same = sym (key_at_rank a) ∙ (ap key_at same ∙ key_at_rank b)

below_or_at : (m n : ℕ) → m < suc n → (m < n) ⊎ (n ≡ m)
below_or_at m n below = grind arith

-- before the first key none is reported
pub first_right : (document : Members) → has_only is_config_key document ≡ true → IsRightBefore document key.Lmk
first_right document known = record { no_other_key = known; earlier_right = λ earlier lower. absurd (omega arith) }

-- where a key and those before it are right, so are those before the next
pub next_right : (document : Members) (a b : ConfigKey) → key_rank b ≡ suc (key_rank a) → IsRightBefore document a → IsRight document a → IsRightBefore document b
next_right document a b follows before right = record {
  no_other_key = before.no_other_key;
  earlier_right = λ earlier lower.
      elim (below_or_at (key_rank earlier) (key_rank a) (omega arith)) [
        | inl below ↦ before.earlier_right earlier below
        | inr same ↦ subst (IsRight document) (rank_once a earlier same) right
      ];
}

-- what is equal to something is there
pub is_there : {A : Type 0} (x : A) (o : Option A) → Some x ≡ o → IsSome o
is_there x o same = rw (← same) refl

-- what follows where something was found
pub on_found : {A E : Type 0} (found : Option A) (answer : Result A E) (Q : Type 0) → found ≡ result_ok answer → ((x : A) → found ≡ Some x → Q) → OnOk answer Q
on_found found (Ok x) Q is gives = gives x is
on_found found (Err e) Q is gives = tt

-- what follows from each value of an answer
pub on_ok : {A B : Type 0} (answer : Result A B) (P : A → Type 0) (Q : Type 0) → IfOk answer P → ((x : A) → P x → Q) → OnOk answer Q
on_ok (Ok x) P Q holds gives = gives x holds
on_ok (Err e) P Q holds gives = tt
