-- What contracts see of a till's fields: this project's own.
use Rattle.duk_till.specs.Till.{TillOf}
use Rattle.duk_till.specs.declared.till.Till.TheInside.{Inside}

-- its terminal, its book and its state
abbrev pub till_view : {C J : Type 0} → Inside C J → TillOf C J
till_view till = record { terminal = till.terminal; book = till.book; state = till.state }
