-- What only private functions and proofs say beside `Feeder.antt`: this project's own.
use Rattle.std.specs.Prelude.{◌++◌, ℕ, List}
use Rattle.duk_frame.specs.Stream.{BeginsTooLong, IsPart}
use Rattle.duk_frame.specs.declared.feeder.Front.{Front}
use Rattle.duk_frame.specs.declared.feeder.Front.TheVariants as front
use Rattle.duk_frame.specs.Feeder.{EndsFrame}

-- what the rest and the piece after it begin with: what a private function answers
abbrev pub IsFront : List ℕ → List ℕ → Front → Type 0
IsFront rest piece front.Part = IsPart (rest ++ piece)
IsFront rest piece (front.Whole taken) = EndsFrame rest piece taken
IsFront rest piece front.TooLong = BeginsTooLong (rest ++ piece)
