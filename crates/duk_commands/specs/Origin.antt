-- Where something comes from, by a key of a number and what is done under it (this project's own,
-- over the keys of ANSI X9.24-1:2009 annex A).
use Rattle.std.specs.Prelude.{◌+◌, ◌*◌, ℕ, List, [], codes}
use Rattle.duk_commands.specs.declared.origin.KeyUse.{KeyUse}
use Rattle.duk_commands.specs.declared.origin.KeyUse.TheVariants.{Pin, RequestData, RequestMac, ResponseData, ResponseMac, Transaction}
use Rattle.duk_commands.specs.declared.origin.Origin.{Origin}
use Rattle.duk_commands.specs.declared.origin.Way.{Way}
use Rattle.duk_commands.specs.declared.origin.Way.TheVariants.{Cipher, Cmac, Retail}
use Rattle.duk_data.specs.DataKeys.{request_data_key_of, response_data_key_of}
use Rattle.duk_tree.specs.Derivation.{pin_key_of, request_key_of, response_key_of}

-- the key for a use, of a transaction key
abbrev pub key_for : KeyUse → List ℕ → List ℕ
key_for Transaction key = key
key_for Pin key = pin_key_of key
key_for RequestMac key = request_key_of key
key_for ResponseMac key = response_key_of key
key_for RequestData key = request_data_key_of key
key_for ResponseData key = response_data_key_of key

-- the order in which the keys of a number are tried
abbrev pub use_rank : KeyUse → ℕ
use_rank Transaction = 0
use_rank Pin = 1
use_rank RequestMac = 2
use_rank ResponseMac = 3
use_rank RequestData = 4
use_rank ResponseData = 5

-- the order of the MACs under one key
abbrev pub way_rank : Way → ℕ
way_rank Retail = 0
way_rank Cmac = 1
way_rank Cipher = 0

-- key after key, and of each the retail MAC before the CMAC
abbrev pub origin_rank : Origin → ℕ
origin_rank origin = 2 * use_rank origin.key + way_rank origin.way

-- the name of a key
abbrev pub use_name : KeyUse → List ℕ
use_name Transaction = codes "key"
use_name Pin = codes "pin"
use_name RequestMac = codes "request-mac"
use_name ResponseMac = codes "response-mac"
use_name RequestData = codes "request-data"
use_name ResponseData = codes "response-data"

-- what stands behind it: the MAC, where it is one
abbrev pub way_text : Way → List ℕ
way_text Retail = codes " retail"
way_text Cmac = codes " cmac"
way_text Cipher = []
