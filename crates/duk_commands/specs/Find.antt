-- What `find` makes of its arguments (this project's own, over the numbers and keys of ANSI
-- X9.24-1:2009 annex A).
use Rattle.std.specs.Prelude.{◌≡◌, ◌⊎◌, ◌≤◌, ◌+◌, ⊤, ℕ, List, [], ◌∷◌, ◌++◌, codes, filter, length, nat_le, take, All, Option, Some, None, IsSome}
use Rattle.hex.specs.Hex.{encode_upper}
use Rattle.duk_commands.specs.Answer.{Streams}
use Rattle.duk_commands.specs.Decimal.{IsDecimal}
use Rattle.duk_commands.specs.KeyArgument.{MeetsKey, initial_from, key_in}
use Rattle.duk_commands.specs.Lines.{text_line}
use Rattle.duk_commands.specs.declared.fault.Fault.TheVariants as command_fault
use Rattle.duk_commands.specs.declared.key_argument.KeyArgument.{KeyArgument}
use Rattle.duk_io.specs.FirstFault.{IsFirst}
use Rattle.duk_io.specs.Known.{Known}
use Rattle.duk_io.specs.Sink.{IsCut, IsUntouched, IsWritten}
use Rattle.duk_commands.specs.FindFault.{find_rank}
use Rattle.duk_commands.specs.Origin.{origin_rank, use_name, way_text}
use Rattle.duk_commands.specs.Progress.{AreTried, progress_lines, progress_step}
use Rattle.duk_commands.specs.Sought.{IsSought, Makes, MeetsClear, MeetsPan, MeetsText, MeetsWhat, TakesMemory}
use Rattle.duk_commands.specs.declared.find_fault.FindFault.{FindFault}
use Rattle.duk_commands.specs.declared.find_fault.FindFault.TheVariants as fault
use Rattle.duk_commands.specs.declared.origin.Origin.{Origin}
use Rattle.duk_commands.specs.declared.sought.Clue.{Clue}
use Rattle.duk_commands.specs.declared.sought.Clue.TheVariants as clue
use Rattle.duk_commands.specs.declared.sought.Sought.{Sought}
use Rattle.duk_commands.specs.declared.sought.Sought.TheVariants as sought
use Rattle.duk_tree.specs.Derivation.{transaction_key_of}
use Rattle.duk_tree.specs.Next.{IsChainAfter}
use Rattle.duk_tree.specs.Serial.{Serial, ksn_of_text, serial_bytes}

-- the arguments, as written: the key, what is looked for and what is known of it, the number from
-- which the search starts, and how many numbers are tried at most
pub record FindArguments : Type 0 where
  pub given : KeyArgument
  pub what : List ℕ
  pub clue : Clue
  pub from : Option (List ℕ)
  pub window : Option (List ℕ)

-- those arguments
abbrev pub find_arguments : KeyArgument → List ℕ → Clue → Option (List ℕ) → Option (List ℕ)
    → FindArguments
find_arguments given what clue from window =
    record { given = given; what = what; clue = clue; from = from; window = window }

-- the number from which the search starts: the one that is given, and else the first one of the
-- terminal of the frame
abbrev pub IsStartOf : Option (List ℕ) → Sought → Serial → Type 0
IsStartOf (Some text) sought from = ksn_of_text text ≡ Some from
IsStartOf None (sought.Frame bytes ksn mac) from = from ≡ record { iksn = ksn.iksn; counter = 1 }
IsStartOf None sought from = ⊥

-- the most numbers that are tried, where no other number is given
abbrev pub most_tried : ℕ
most_tried = 100_000

-- how many numbers are tried at most
abbrev pub IsWindowSize : Option (List ℕ) → ℕ → Type 0
IsWindowSize None most = most ≡ most_tried
IsWindowSize (Some text) most = IsDecimal most_tried text most × (1 ≤ most)

-- the counters that are tried: all usable ones, in the order in which a terminal uses them; of
-- these those that are not below the start; and of those so many at most
pub record IsWindow (from most : ℕ) (window : List ℕ) : Type 0 where
  pub all : List ℕ
  pub all_usable : IsChainAfter 0 all
  pub window_is : window ≡ take most (filter (λ counter. nat_le from counter) all)

-- a search: what is looked for, the terminal, by its initial key and its initial key serial number,
-- and the counters of the numbers that are tried
pub record Search : Type 0 where
  pub sought : Sought
  pub initial : List ℕ
  pub iksn : ℕ
  pub window : List ℕ

-- a key of the number with this counter makes what is looked for
abbrev pub MakesAt : Search → ℕ → Origin → Type 0
MakesAt search counter =
    Makes search.sought (transaction_key_of search.initial search.iksn counter)

-- no key of that number makes it
abbrev pub NoneMakesAt : Search → ℕ → Type 0
NoneMakesAt search counter = (origin : Origin) → ¬ MakesAt search counter origin

-- the first number that is tried and has a key that makes it, and the first such key
pub record IsFound (search : Search) (ksn : Serial) (origin : Origin) : Type 0 where
  pub before : List ℕ
  pub after : List ℕ
  pub window_is : search.window ≡ before ++ ksn.counter ∷ after
  pub none_before : All (NoneMakesAt search) before
  pub of_the_terminal : ksn.iksn ≡ search.iksn
  pub makes : IsFirst origin_rank (λ earlier. ¬ MakesAt search ksn.counter earlier)
      (MakesAt search ksn.counter) origin

-- no number that is tried has such a key
abbrev pub IsNotFound : Search → Type 0
IsNotFound search = All (NoneMakesAt search) search.window

-- the arguments ask for this search
pub record AsksFor (arguments : FindArguments) (search : Search) : Type 0 where
  pub key : List ℕ
  pub from : Serial
  pub most : ℕ
  pub key_read : key_in arguments.given ≡ Some key
  pub sought_read : IsSought arguments.what arguments.clue search.sought
  pub from_read : IsStartOf arguments.from search.sought from
  pub most_read : IsWindowSize arguments.window most
  pub initial_is : search.initial ≡ initial_from arguments.given key from.iksn
  pub iksn_is : search.iksn ≡ from.iksn
  pub window_is : IsWindow from.counter most search.window

-- the line of what is found: the number, the key and, of a MAC, which
abbrev pub found_line : Serial → Origin → List ℕ
found_line ksn origin = text_line (codes "found")
    (encode_upper (serial_bytes ksn) ++ codes " " ++ use_name origin.key ++ way_text origin.way)

-- the text of the line that the arguments ask for, and the lines of progress before it
pub record IsFindText (arguments : FindArguments) (text : List ℕ) (told : List (List ℕ))
    : Type 0 where
  pub search : Search
  pub ksn : Serial
  pub origin : Origin
  pub asked : AsksFor arguments search
  pub found : IsFound search ksn origin
  pub text_is : text ≡ found_line ksn origin
  pub told_are : told
      ≡ progress_lines (progress_step search.sought) asked.most (length found.before + 1)

-- the arguments ask for a search that finds nothing, with these lines of progress
pub record AsksInVain (arguments : FindArguments) (told : List (List ℕ)) : Type 0 where
  pub search : Search
  pub asked : AsksFor arguments search
  pub not_found : IsNotFound search
  pub told_are : told
      ≡ progress_lines (progress_step search.sought) asked.most (length search.window)

-- the number from which the search starts is given, but for a frame, whose own terminal has one
abbrev pub MeetsStartOf : Option (List ℕ) → Clue → Type 0
MeetsStartOf (Some text) clue = IsSome (ksn_of_text text)
MeetsStartOf None clue.Frame = ⊤
MeetsStartOf None clue = ⊥

-- what the arguments must meet, or else are refused with this fault
abbrev pub MeetsFind : FindArguments → FindFault → Type 0
MeetsFind arguments fault.BdkRefused = MeetsKey arguments.given command_fault.BdkRefused
MeetsFind arguments fault.InitialRefused = MeetsKey arguments.given command_fault.InitialRefused
MeetsFind arguments fault.WhatRefused = MeetsWhat arguments.what arguments.clue
MeetsFind arguments fault.TextRefused = MeetsText arguments.clue
MeetsFind arguments fault.PanRefused = MeetsPan arguments.clue
MeetsFind arguments fault.BlockRefused = MeetsClear arguments.clue
MeetsFind arguments fault.KsnRefused = MeetsStartOf arguments.from arguments.clue
MeetsFind arguments fault.WindowRefused = (most : ℕ) × IsWindowSize arguments.window most
MeetsFind arguments why = Unit {0}

-- why nothing is searched for: the first of the faults, in their order, whose condition the
-- arguments do not meet; memory may be refused where it is taken
abbrev pub IsFindRefused : FindArguments → FindFault → Type 0
IsFindRefused arguments fault.NotFound = ⊥
IsFindRefused arguments fault.WriteFailed = ⊥
IsFindRefused arguments fault.OutOfMemory =
    IsSome (key_in arguments.given) × TakesMemory arguments.clue
IsFindRefused arguments why =
    IsFirst find_rank (MeetsFind arguments) (λ fault. ¬ MeetsFind arguments fault) why

-- why nothing is found, and the lines of progress before that: nothing is searched for, and then
-- there are none; or no key makes what is looked for
abbrev pub IsFindVain : FindArguments → FindFault → List (List ℕ) → Type 0
IsFindVain arguments why told = (IsFindRefused arguments why × (told ≡ []))
    ⊎ ((why ≡ fault.NotFound) × AsksInVain arguments told)

-- the arguments ask for the line with this text, and the progress was told
pub record HasFound (arguments : FindArguments) (text : List ℕ) (old new : Known) : Type 0 where
  pub told : List (List ℕ)
  pub asked : IsFindText arguments text told
  pub progress : AreTried old new told

-- nothing is found for this reason, and the progress was told
pub record HasFoundNothing (arguments : FindArguments) (why : FindFault) (old new : Known)
    : Type 0 where
  pub told : List (List ℕ)
  pub cause : IsFindVain arguments why told
  pub progress : AreTried old new told

-- the line was written
pub record IsFindDone (arguments : FindArguments) (s : Streams) : Type 0 where
  pub text : List ℕ
  pub found : HasFound arguments text s.fault_before s.fault_after
  pub written : IsWritten s.output_before s.output_after text

-- the line was begun, and a write failed
pub record IsFindCutShort (arguments : FindArguments) (s : Streams) : Type 0 where
  pub text : List ℕ
  pub found : HasFound arguments text s.fault_before s.fault_after
  pub failed : IsCut s.output_before s.output_after text

-- the line is not written for this reason, which is still to be reported
abbrev pub IsFindFailed : FindArguments → FindFault → Streams → Type 0
IsFindFailed arguments why s =
    (HasFoundNothing arguments why s.fault_before s.fault_after
    × IsUntouched s.output_before s.output_after)
    ⊎ ((why ≡ fault.WriteFailed) × IsFindCutShort arguments s)
