-- The frames of a reversal under the transaction key of the number that it uses: formats of this
-- project's own over ANSI X9.19 and the variants of ANSI X9.24-1:2009 annex A.
use Rattle.std.specs.Prelude.{ℕ, List}
use Rattle.duk_frame.specs.Payment.{authenticated}
use Rattle.duk_mac.specs.Retail.{retail_of}
use Rattle.duk_tree.specs.Derivation.{request_key_of}
use Rattle.duk_reversal.specs.Numbers.{Numbers}
use Rattle.duk_reversal.specs.Reply.{reversal_reply_text}
use Rattle.duk_reversal.specs.Reversal.{reversal_text}
use Rattle.duk_reversal.specs.declared.reply.ReversalReply.{ReversalReply}
use Rattle.duk_reversal.specs.declared.reversal.Reversal.{Reversal}
use Rattle.duk_reversal.specs.declared.state.ReversalState.{ReversalState}

-- the reversal with these numbers, with a MAC under the transaction key's variant for requests
abbrev pub reversal_under : List ℕ → Numbers → List ℕ
reversal_under key numbers = authenticated (request_key_of key) (reversal_text numbers)

-- the fields of that reversal
abbrev pub reversal_of : List ℕ → Numbers → Reversal
reversal_of key numbers =
    record { numbers = numbers; mac = retail_of (request_key_of key) (reversal_text numbers) }

-- the reply to it, with a MAC under this variant of the transaction key, that for responses
abbrev pub reversal_reply_under : List ℕ → Numbers → ReversalState → List ℕ
reversal_reply_under response_key numbers state =
    authenticated response_key (reversal_reply_text numbers state)

-- the fields of that reply
abbrev pub reversal_reply_of : List ℕ → Numbers → ReversalState → ReversalReply
reversal_reply_of response_key numbers state = record {
  numbers = numbers;
  state = state;
  mac = retail_of response_key (reversal_reply_text numbers state);
}
