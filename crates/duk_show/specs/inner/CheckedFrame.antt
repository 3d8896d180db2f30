-- What only private functions and proofs say beside `CheckedFrame.antt`: this project's own.
use Rattle.std.specs.Prelude.{◌≡◌, ◌≢◌, ℕ, List}
use Rattle.duk_show.specs.CheckedFrame.{NumbersNothing}
use Rattle.duk_show.specs.Frame.{IsBytesShown, IsFrameFault}
use Rattle.duk_show.specs.FrameFault.{frame_place}
use Rattle.duk_show.specs.declared.fault.ShowFault.{ShowFault}
use Rattle.duk_show.specs.declared.fault.ShowFault.TheVariants.{FrameRefused, KsnRefused}
use Rattle.duk_show.specs.declared.frame_fault.FrameFault.TheVariants.{Hex}

-- why bytes are not shown with a key: they are no frame, or one of no number
abbrev pub IsBytesRefused : List ℕ → ShowFault → Type 0
IsBytesRefused bytes (FrameRefused place why) = (place ≡ frame_place why) × IsFrameFault bytes why
    × (why ≢ Hex) × ((text : List ℕ) → ¬ IsBytesShown bytes text)
IsBytesRefused bytes KsnRefused = NumbersNothing bytes
IsBytesRefused bytes why = ⊥
