-- How many texts a request has of each argument: of `request` all that may be left out, or none.
use Rattle.std.proofs.Common.{◌≡◌, ◌≤◌, ◌∷◌, ◌&&◌, ◌||◌, [], Bool, List, ap, arith, codes, false, if◌then◌else◌, is_some, length, not, refl, slice_get, true}
use Rattle.std.specs.List.{AllByRecursion}
use Rattle.clap.specs.Words.{Text}
use Rattle.duk_program.specs.CommandLine.{row_of}
use Rattle.duk_program.specs.Fits.{fits_by}
use Rattle.duk_arguments.specs.Request.{Written, flag_in, texts_in}
use Rattle.duk_program.specs.Written.{AreAsMany}
use Rattle.duk_arguments.specs.declared.name.CommandName.{CommandName}
use Rattle.duk_arguments.specs.declared.name.CommandName.TheVariants as name
use Rattle.duk_program.proofs.Parameters.{AreGiven}

all_or_none : (number pan pin amount : Bool)
    → (if number then not (pan || pin || amount) else pan && pin && amount) ≡ true
    → (pin ≡ pan) × (amount ≡ pan)
all_or_none true false false false fits = (refl, refl)
all_or_none true true pin amount fits = cc
all_or_none true false true amount fits = cc
all_or_none true false false true fits = cc
all_or_none false true true true fits = (refl, refl)
all_or_none false false pin amount fits = cc
all_or_none false true false amount fits = cc
all_or_none false true true false fits = cc

one_or_none : (texts : List Text) (given : Bool) → length texts ≤ 1 → is_some (slice_get texts 0) ≡ given
    → length texts ≡ (if given then 1 else 0)
one_or_none [] given few is = ap (λ b. if b then 1 else 0) is
one_or_none (text ∷ []) given few is = ap (λ b. if b then 1 else 0) is
one_or_none (text ∷ other ∷ more) given few is = absurd (omega arith)

pub are_given : (request : Written) (command : CommandName) → fits_by command request ≡ true
    → AllByRecursion (λ p. AreAsMany p.kind (texts_in p.name request)) (row_of command).parameters
    → AllByRecursion (λ p. AreGiven (flag_in (codes "PAN") request) p.kind (texts_in p.name request))
    (row_of command).parameters
are_given request name.Request fits many =
    let given = flag_in (codes "PAN") request in
    let others = all_or_none (flag_in (codes "reverse") request) given (flag_in (codes "PIN") request)
    (flag_in (codes "AMOUNT") request) fits in
    let rest = many.1.1 in (
      many.0,
      (
        many.1.0,
        (
          one_or_none (texts_in (codes "PAN") request) given rest.0 refl,
          (
            one_or_none (texts_in (codes "PIN") request) given rest.1.0 others.0,
            (one_or_none (texts_in (codes "AMOUNT") request) given rest.1.1.0 others.1, rest.1.1.1),
          ),
        ),
      ),
    )
are_given request _ fits many = many
