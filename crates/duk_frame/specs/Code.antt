-- The codes of an accepted reply: this project's own choice of response codes of ISO 8583.
use Rattle.std.specs.Prelude.{ℕ, List, codes}
use Rattle.duk_frame.specs.declared.code.Code.{Code}
use Rattle.duk_frame.specs.declared.code.Code.TheVariants.{Approved, NoCard, WrongPin, OverLimit, Unreadable}

-- the two digits of a code
abbrev pub code_text : Code → List ℕ
code_text Approved = codes "00"
code_text NoCard = codes "14"
code_text WrongPin = codes "55"
code_text OverLimit = codes "51"
code_text Unreadable = codes "30"
