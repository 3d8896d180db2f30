-- Which arguments of a command exclude each other: this project's own.
use Rattle.std.specs.Prelude.{◌≡◌, ◌&&◌, ◌||◌, Bool, bytes_eq, codes, if◌then◌else◌, not, true}
use Rattle.duk_arguments.specs.Request.{Written, flag_in, text_in}
use Rattle.duk_arguments.specs.declared.name.CommandName.{CommandName}
use Rattle.duk_arguments.specs.declared.name.CommandName.TheVariants as name

-- `serve` keeps its numbers in one store at most
abbrev pub has_one_store : Written → Bool
has_one_store request =
    not (flag_in (codes "log") request && flag_in (codes "journal") request)

-- `request` is told of a payment, or of the number that it reverses
abbrev pub has_payment_or_number : Written → Bool
has_payment_or_number request = if flag_in (codes "reverse") request
    then not (flag_in (codes "PAN") request || flag_in (codes "PIN") request
    || flag_in (codes "AMOUNT") request)
    else flag_in (codes "PAN") request && flag_in (codes "PIN") request
    && flag_in (codes "AMOUNT") request

-- at most one of three
abbrev pub is_one_at_most : Bool → Bool → Bool → Bool
is_one_at_most a b c = not (a && b) && not (a && c) && not (b && c)

-- `find` seeks the MAC of a text, a PIN block or a block, each from a number on, or a frame
abbrev pub has_one_sought : Written → Bool
has_one_sought request =
    is_one_at_most (flag_in (codes "text") request) (flag_in (codes "pan") request)
    (flag_in (codes "clear") request)
    && (flag_in (codes "from") request || not (flag_in (codes "text") request
    || flag_in (codes "pan") request || flag_in (codes "clear") request))
    && (flag_in (codes "text") request || not (flag_in (codes "hex") request))

-- `show` has a key of a frame alone, and an initial key alone is said to be one
abbrev pub has_key_of_frame : Written → Bool
has_key_of_frame request = if flag_in (codes "key") request
    then bytes_eq (text_in (codes "KIND") request) (codes "frame")
    else not (flag_in (codes "initial") request)

-- `lmk` makes a new component, or a key block, of which all three are told, or neither
abbrev pub has_one_work : Written → Bool
has_one_work request = if flag_in (codes "new") request
    then not (flag_in (codes "key") request || flag_in (codes "fields") request
    || flag_in (codes "pad") request)
    else (flag_in (codes "key") request && flag_in (codes "fields") request
    && flag_in (codes "pad") request)
    || not (flag_in (codes "key") request || flag_in (codes "fields") request
    || flag_in (codes "pad") request)

abbrev pub fits_by : CommandName → Written → Bool
fits_by name.Serve request = has_one_store request
fits_by name.Request request = has_payment_or_number request
fits_by name.Find request = has_one_sought request
fits_by name.Show request = has_key_of_frame request
fits_by name.Lmk request = has_one_work request
fits_by _ request = true

-- the arguments of the request do not exclude each other
abbrev pub Fits : Written → Type 0
Fits request = fits_by request.command request ≡ true
