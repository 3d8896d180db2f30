-- Where the reading of a frame stops.
use Rattle.std.proofs.Common.{◌≡◌, ◌≢◌, ℕ, List, refl, subst}
use Rattle.hex.proofs.HexLemmas.{decode_of-same}
use Rattle.duk_block.specs.Hexadecimal.{IsHexadecimal}
use Rattle.duk_show.specs.Frame.{IsBytesShown, IsFrameFault, IsFrameText, StopsFrame}
use Rattle.duk_show.specs.FrameFault.{frame_place}
use Rattle.duk_show.specs.declared.frame_fault.FrameFault.{FrameFault}
use Rattle.duk_show.specs.declared.frame_fault.FrameFault.TheVariants.{Hex, Length, Version, Kind, Size, PanLength, PanDigit, Code, Reason, Reversed, State}

-- at the first wrong field of the bytes
pub stops_at : (frame bytes : List ℕ) (place : ℕ) (why : FrameFault) → why ≢ Hex → IsHexadecimal frame bytes → IsFrameFault bytes why
    → place ≡ frame_place why → StopsFrame frame place why
stops_at frame bytes place Hex other read wrong at = absurd (other refl)
stops_at frame bytes place Length other read wrong at = record { bytes = bytes; read = read; wrong = wrong; place_is = at }
stops_at frame bytes place Version other read wrong at = record { bytes = bytes; read = read; wrong = wrong; place_is = at }
stops_at frame bytes place Kind other read wrong at = record { bytes = bytes; read = read; wrong = wrong; place_is = at }
stops_at frame bytes place Size other read wrong at = record { bytes = bytes; read = read; wrong = wrong; place_is = at }
stops_at frame bytes place PanLength other read wrong at = record { bytes = bytes; read = read; wrong = wrong; place_is = at }
stops_at frame bytes place PanDigit other read wrong at = record { bytes = bytes; read = read; wrong = wrong; place_is = at }
stops_at frame bytes place Code other read wrong at = record { bytes = bytes; read = read; wrong = wrong; place_is = at }
stops_at frame bytes place Reason other read wrong at = record { bytes = bytes; read = read; wrong = wrong; place_is = at }
stops_at frame bytes place Reversed other read wrong at = record { bytes = bytes; read = read; wrong = wrong; place_is = at }
stops_at frame bytes place State other read wrong at = record { bytes = bytes; read = read; wrong = wrong; place_is = at }

-- and then there is no frame
pub no_frame : (frame bytes : List ℕ) → IsHexadecimal frame bytes → ((text : List ℕ) → ¬ IsBytesShown bytes text)
    → (text : List ℕ) → ¬ IsFrameText frame text
no_frame frame bytes read none text is =
    none text (subst (λ (b : List ℕ). IsBytesShown b text) (decode_of-same frame is.bytes bytes is.read read) is.shown)
