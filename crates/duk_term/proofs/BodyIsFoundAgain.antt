-- The bytes of a body, read back.
use Rattle.std.proofs.Common.{◌≡◌, ◌-◌, ℕ, List, [], ◌++◌, Option, Some, None, Result, Ok, Err, IfSome, take, drop, replicate, length, inl, inr, IsSome, refl, subst, sym, ap, ◌∙◌, ◌↔◌}
use Rattle.std.proofs.Math.Seq.{drop-append_seam, take-append_seam}
use Rattle.std.proofs.lemmas.Bool.{false≢true}
use Rattle.std.proofs.lemmas.List.{take-append-drop}
use Rattle.std.specs.Prelude.{slice_index}
use Rattle.std.specs.Option.{ok_or}
use Rattle.duk_regs.specs.Image.{IsImage, IsImageOfVersion1, IsImageOfVersion2, image_bytes, image_bytes_of_version_1, set_in}
use Rattle.duk_regs.specs.Registers.{RegisterSet}
use Rattle.duk_term.specs.Body.{IsFoundAgain, IsTerminalBody, KeepsRegisters, body_bytes, body_bytes_of_version_1, set_of_body}

-- the registers of an image, by its version
pub record IsImageOf (image : List ℕ) (set : RegisterSet) : Type 0 where
  pub version_2 : slice_index image 0 ≡ 2 → image_bytes set ≡ image
  pub version_1 : slice_index image 0 ≡ 1 → image_bytes_of_version_1 set ≡ image
  pub no_past : slice_index image 0 ≡ 1 → set.past ≡ []

-- where registers are found, they are those of the image
pub if_found : (image : List ℕ) (Q : RegisterSet → Type 0) → (found : Option RegisterSet) → ((set : RegisterSet) → IsSome found → IsImageOf image set → Q set)
    → IfSome found (λ set. slice_index image 0 ≡ 2 → image_bytes set ≡ image)
    → IfSome found (λ set. slice_index image 0 ≡ 1 → image_bytes_of_version_1 set ≡ image)
    → IfSome found (λ set. slice_index image 0 ≡ 1 → set.past ≡ []) → IfSome found Q
if_found image Q None follows version_2 version_1 no_past = version_2
if_found image Q (Some set) follows version_2 version_1 no_past = follows set refl (record { version_2 = version_2; version_1 = version_1; no_past = no_past })

-- an image and the zeros after it are the body
pub image_and_zeros : (image body : List ℕ) (size rest : ℕ) → image ≡ take size body → drop size body ≡ replicate rest 0 → body ≡ image ++ replicate rest 0
image_and_zeros image body size rest image_is zeros =
    sym (ap (λ front. front ++ replicate rest 0) image_is ∙ ap (λ back. take size body ++ back) (sym zeros) ∙ take-append-drop size body)

-- the parts of an image with zeros after it
front_of : (image : List ℕ) (size rest : ℕ) → length image ≡ size → take size (image ++ replicate rest 0) ≡ image
front_of image size rest is = subst (λ n. take n (image ++ replicate rest 0) ≡ image) is (take-append_seam image (replicate rest 0))

back_of : (image : List ℕ) (size rest : ℕ) → length image ≡ size → drop size (image ++ replicate rest 0) ≡ replicate rest 0
back_of image size rest is = subst (λ n. drop n (image ++ replicate rest 0) ≡ replicate rest 0) is (drop-append_seam image (replicate rest 0))

-- an image of version 2 with its zeros is a body, and reads as its registers
latest_is_body : (set : RegisterSet) → IsImage (image_bytes set) → length (image_bytes set) ≡ 431 → IsTerminalBody (body_bytes set)
latest_is_body set is_image is_431 = record {
  image = subst IsImage (sym (front_of (image_bytes set) 431 72 is_431)) is_image;
  zeros = back_of (image_bytes set) 431 72 is_431;
}

latest_reads : (set : RegisterSet) → set_in (image_bytes set) ≡ set → length (image_bytes set) ≡ 431 → set_of_body (body_bytes set) ≡ set
latest_reads set read is_431 = ap set_in (front_of (image_bytes set) 431 72 is_431) ∙ read

-- so does one of version 1
first_is_body : (set : RegisterSet) → IsImage (image_bytes_of_version_1 set) → length (image_bytes_of_version_1 set) ≡ 350 → IsTerminalBody (body_bytes_of_version_1 set)
first_is_body set is_image is_350 = record {
  image = subst IsImage (sym (front_of (image_bytes_of_version_1 set) 350 153 is_350)) is_image;
  zeros = back_of (image_bytes_of_version_1 set) 350 153 is_350;
}

first_reads : (set : RegisterSet) → set_in (image_bytes_of_version_1 set) ≡ set → length (image_bytes_of_version_1 set) ≡ 350 → set_of_body (body_bytes_of_version_1 set) ≡ set
first_reads set read is_350 = ap set_in (front_of (image_bytes_of_version_1 set) 350 153 is_350) ∙ read

-- what the laws of images say of registers
pub record IsWritten (set : RegisterSet) : Type 0 where
  pub is_image : IsImage (image_bytes set)
  pub is_431 : length (image_bytes set) ≡ 431
  pub read : set_in (image_bytes set) ≡ set
  pub first_is_image : IsImage (image_bytes_of_version_1 set)
  pub is_350 : length (image_bytes_of_version_1 set) ≡ 350
  pub first_read : set.past ≡ [] → set_in (image_bytes_of_version_1 set) ≡ set

-- registers whose images read as themselves are found again in their bodies
pub found_again : (set : RegisterSet) → IsWritten set → IsFoundAgain set
found_again set written = record {
  is_body = λ body keeps. elim keeps [
    | inl is ↦ subst IsTerminalBody (sym is) (latest_is_body set written.is_image written.is_431)
    | inr (none, is) ↦ subst IsTerminalBody (sym is) (first_is_body set written.first_is_image written.is_350)
  ];
  same = λ body keeps. elim keeps [
    | inl is ↦ ap set_of_body is ∙ latest_reads set written.read written.is_431
    | inr (none, is) ↦ ap set_of_body is ∙ first_reads set (written.first_read none) written.is_350
  ];
}

-- a body is the image in it with zeros after it, and keeps the registers of that
pub keeps_registers : (body image : List ℕ) (size : ℕ) (set : RegisterSet) → image ≡ take size body → length image ≡ size → drop size body ≡ replicate (503 - size) 0
    → (IsImageOfVersion1 image → length image ≡ 350) → (IsImageOfVersion2 image → length image ≡ 431)
    → IsImage image → IsImageOf image set → KeepsRegisters body set
keeps_registers body image size set front length_is zeros are_350 are_431 is_image of = elim is_image [
  | inl first ↦
      let is_version_1 : slice_index image 0 ≡ 1 = ap (λ bytes. slice_index bytes 0) first.bytes_are in
      let is_350 : size ≡ 350 = sym length_is ∙ are_350 first in
      let rest : drop size body ≡ replicate 153 0 = subst (λ n. drop size body ≡ replicate (503 - n) 0) is_350 zeros in
      inr (of.no_past is_version_1, image_and_zeros image body size 153 front rest ∙ ap (λ image. image ++ replicate 153 0) (sym (of.version_1 is_version_1)))
  | inr latest ↦
      let is_version_2 : slice_index image 0 ≡ 2 = ap (λ bytes. slice_index bytes 0) latest.bytes_are in
      let is_431 : size ≡ 431 = sym length_is ∙ are_431 latest in
      let rest : drop size body ≡ replicate 72 0 = subst (λ n. drop size body ≡ replicate (503 - n) 0) is_431 zeros in
      inl (image_and_zeros image body size 72 front rest ∙ ap (λ image. image ++ replicate 72 0) (sym (of.version_2 is_version_2)))
]

-- what holds of what is found holds of the registers that a body was read as
pub if_read : {E : Type 0} (found : Option RegisterSet) (set : RegisterSet) (P : RegisterSet → Type 0) (why : E) (reported : Result RegisterSet E)
    → reported ≡ ok_or found why → reported ≡ Ok set → IfSome found P → P set
if_read None set P why reported value is holds = absurd (cc)
if_read (Some read) set P why reported value is holds = subst P (cc) holds

-- where no registers are found, the fault is the one that was given for that, and the body is none
pub none_found : {E P : Type 0} (found : Option RegisterSet) (why fault : E) (reported : Result RegisterSet E)
    → reported ≡ ok_or found why → reported ≡ Err fault → IsSome found ↔ P → (fault ≡ why) × ¬ P
none_found None why fault reported value is only = (cc, λ p. absurd (false≢true (only.1 p)))
none_found (Some read) why fault reported value is only = absurd (cc)
