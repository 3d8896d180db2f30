-- An issuer that decides by a limit of each card: this example's own.
use Rattle.std.specs.Prelude.{ℕ, List, Option, Some, None, find, nat_lt, if◌then◌else◌}
use Rattle.std.specs.Str.{bytes_eq}
use Rattle.duk_frame.specs.declared.code.Code.{Code}
use Rattle.duk_frame.specs.declared.code.Code.TheVariants.{Approved, NoCard, OverLimit}
use Rattle.duk_embedding.specs.declared.limits.LimitedCard.{LimitedCard}

-- the first card with this PAN
abbrev pub limited_card_of : List ℕ → List LimitedCard → Option LimitedCard
limited_card_of pan cards = find (λ card. bytes_eq card.pan pan) cards

-- the code for the card that was found
abbrev pub limited_code : Option LimitedCard → ℕ → Code
limited_code None amount = NoCard
limited_code (Some card) amount = if nat_lt card.limit amount then OverLimit else Approved

-- the decision, whatever the PIN block: 14 if no card has the PAN, 51 if the amount is above the
-- limit of the first that has it, else 00
abbrev pub limit_decision : List LimitedCard → List ℕ → ℕ → List ℕ → Code
limit_decision cards pan amount block = limited_code (limited_card_of pan cards) amount
