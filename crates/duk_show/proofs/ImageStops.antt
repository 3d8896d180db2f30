-- Where the reading of an image stops.
use Rattle.std.proofs.Common.{◌≡◌, ◌≢◌, ℕ, List, refl, subst}
use Rattle.hex.proofs.HexLemmas.{decode_of-same}
use Rattle.duk_block.specs.Hexadecimal.{IsHexadecimal}
use Rattle.duk_regs.specs.Image.{IsImage}
use Rattle.duk_show.specs.Image.{IsImageFault, StopsImage}
use Rattle.duk_show.specs.ImageFault.{image_place}
use Rattle.duk_show.specs.declared.image_fault.ImageFault.{ImageFault}
use Rattle.duk_show.specs.declared.image_fault.ImageFault.TheVariants.{Hex, Version, Length, Iksn, Counter, Registers, Past}

-- at the first wrong field of the bytes
pub stops_at : (image bytes : List ℕ) (place : ℕ) (why : ImageFault) → why ≢ Hex → IsHexadecimal image bytes → IsImageFault bytes why
    → place ≡ image_place bytes why → StopsImage image place why
stops_at image bytes place Hex other read wrong at = absurd (other refl)
stops_at image bytes place Version other read wrong at = record { bytes = bytes; read = read; wrong = wrong; place_is = at }
stops_at image bytes place Length other read wrong at = record { bytes = bytes; read = read; wrong = wrong; place_is = at }
stops_at image bytes place Iksn other read wrong at = record { bytes = bytes; read = read; wrong = wrong; place_is = at }
stops_at image bytes place Counter other read wrong at = record { bytes = bytes; read = read; wrong = wrong; place_is = at }
stops_at image bytes place Registers other read wrong at = record { bytes = bytes; read = read; wrong = wrong; place_is = at }
stops_at image bytes place Past other read wrong at = record { bytes = bytes; read = read; wrong = wrong; place_is = at }

-- and then there is no image
pub no_image : (image bytes : List ℕ) → IsHexadecimal image bytes → ¬ IsImage bytes → (other : List ℕ) → IsHexadecimal image other → ¬ IsImage other
no_image image bytes read none other also is = none (subst IsImage (decode_of-same image other bytes also read) is)
