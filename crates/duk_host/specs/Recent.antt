-- The latest requests that a host accepted, and what it replied: this project's own.
use Rattle.std.specs.Prelude.{◌-◌, ℕ, List, [], ◌∷◌, ◌++◌, Option, length, drop, find}
use Rattle.std.specs.Option.{option_map}
use Rattle.std.specs.Str.{bytes_eq}
use Rattle.duk_frame.specs.Answer.{IsReply}
use Rattle.duk_frame.specs.declared.code.Code.{Code}
use Rattle.duk_tree.specs.Serial.{Serial}

-- a request that was accepted, and the reply that it was given, each as the bytes of its frame
pub record Exchange : Type 0 where
  pub request : List ℕ
  pub reply : List ℕ

-- the two together
abbrev pub exchange : List ℕ → List ℕ → Exchange
exchange request reply = record { request = request; reply = reply }

-- how many exchanges a host keeps at most
abbrev pub most_exchanges : ℕ
most_exchanges = 64

-- the last of these, as many as a host keeps
abbrev pub latest : List Exchange → List Exchange
latest exchanges = drop (length exchanges - most_exchanges) exchanges

-- an exchange is put last, and where there were as many as a host keeps, the first is dropped
abbrev pub with_exchange : List Exchange → Exchange → List Exchange
with_exchange recent last = latest (recent ++ last ∷ [])

-- the reply that was given to the request that is equal to these bytes in every one
abbrev pub reply_given : List Exchange → List ℕ → Option (List ℕ)
reply_given recent bytes =
    option_map (λ given. given.reply) (find (λ given. bytes_eq given.request bytes) recent)

-- the frame is the accepted reply with this number and this code
abbrev pub IsReplyWithCode : List ℕ → Serial → Code → Type 0
IsReplyWithCode frame ksn code = (mac : List ℕ) × IsReply frame ksn code mac
