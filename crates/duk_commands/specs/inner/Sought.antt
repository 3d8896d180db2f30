-- What only private functions and proofs say beside `Sought.antt`: this project's own.
use Rattle.std.specs.Prelude.{◌<◌, ◌≤◌, ⊤, ℕ, Bool, List, length}
use Rattle.duk_commands.specs.Mac.{IsMessage}
use Rattle.duk_commands.specs.Sought.{MeetsClear, MeetsPan, MeetsText, MeetsWhat, TakesMemory}
use Rattle.duk_commands.specs.declared.find_fault.FindFault.{FindFault}
use Rattle.duk_commands.specs.declared.find_fault.FindFault.TheVariants.{BlockRefused, OutOfMemory, PanRefused, TextRefused, WhatRefused}
use Rattle.duk_commands.specs.declared.sought.Clue.{Clue}
use Rattle.duk_commands.specs.declared.sought.Sought.{Sought}
use Rattle.duk_commands.specs.declared.sought.Sought.TheVariants as sought
use Rattle.duk_frame.specs.Frame.{mac_text_of}

-- a MAC is made of one byte at least
abbrev pub HasMessage : Sought → Type 0
HasMessage (sought.Frame bytes ksn mac) =
    (10 ≤ length bytes.items) × (0 < length (mac_text_of bytes.items))
HasMessage (sought.Mac message mac) = 0 < length message.items
HasMessage sought = ⊤

-- why the text of a MAC is refused
abbrev pub IsMessageRefused : Bool → List ℕ → FindFault → Type 0
IsMessageRefused hex text TextRefused =
    (message : List ℕ) → IsMessage hex text message → ¬ (0 < length message)
IsMessageRefused hex text OutOfMemory = ⊤
IsMessageRefused hex text why = ⊥

-- why the arguments of what is looked for are refused: the first of these
abbrev pub IsSoughtRefused : List ℕ → Clue → FindFault → Type 0
IsSoughtRefused what clue WhatRefused = ¬ MeetsWhat what clue
IsSoughtRefused what clue TextRefused = MeetsWhat what clue × ¬ MeetsText clue
IsSoughtRefused what clue PanRefused = MeetsWhat what clue × MeetsText clue × ¬ MeetsPan clue
IsSoughtRefused what clue BlockRefused =
    MeetsWhat what clue × MeetsText clue × MeetsPan clue × ¬ MeetsClear clue
IsSoughtRefused what clue OutOfMemory = TakesMemory clue
IsSoughtRefused what clue why = ⊥
