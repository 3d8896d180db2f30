-- What only private functions and proofs say beside `Recent.antt`: this project's own.
use Rattle.std.specs.Prelude.{◌≡◌, ℕ, List}
use Rattle.duk_frame.specs.Request.{IsRequest}
use Rattle.duk_frame.specs.declared.code.Code.{Code}
use Rattle.duk_frame.specs.declared.request.Request.{Request}
use Rattle.duk_tree.specs.Serial.{Serial}
use Rattle.duk_host.specs.Recent.{Exchange, IsReplyWithCode}

-- the bytes are a request of this number
pub record IsRequestOf (bytes : List ℕ) (ksn : Serial) : Type 0 where
  pub request : Request
  pub is_request : IsRequest bytes request
  pub number : request.ksn ≡ ksn

-- request and reply have this number, and the reply has this code
pub record IsExchangeOf (given : Exchange) (ksn : Serial) (code : Code) : Type 0 where
  pub asked : IsRequestOf given.request ksn
  pub replied : IsReplyWithCode given.reply ksn code
