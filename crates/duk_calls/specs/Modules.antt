-- What the calls over security modules answer. A module is bytes of a form of this project's own: its
-- local master key, and the key blocks under it (ANSI X9.143) in the order in which they were loaded.
use Rattle.std.specs.Prelude.{◌≡◌, ◌⊎◌, ◌≤◌, ◌+◌, ◌*◌, ◌++◌, ℕ, zero, suc, List, [], ◌∷◌, None, drop, length, replicate, slice_index_or, take}
use Rattle.byteorder.specs.Endian.{big_bytes}
use Rattle.duk_frame.specs.Stream.{said_length}
use Rattle.duk_hsm.specs.Keys.{HsmKeys}
use Rattle.duk_hsm.specs.Load.{IsBdkLoaded, IsZoneLoaded, LoadBdkRefused, LoadZoneRefused}
use Rattle.duk_hsm.specs.declared.fault.HsmFault.{HsmFault}
use Rattle.duk_hsm.specs.declared.fault.HsmFault.TheVariants as hsm
use Rattle.duk_tdes.specs.Tdes.{IsTdesLength}
use Rattle.duk_calls.specs.Answer.{Answer, Ends, EndsIfFit, HaveLengths, HaveRoom, part_at, with_front}
use Rattle.duk_calls.specs.declared.fault.Fault.{Fault}
use Rattle.duk_calls.specs.declared.fault.Fault.TheVariants as fault

-- an entry of a module: the length of a key block in two bytes; what its key is for in one, 0 for a
-- base derivation key and 1 for a zone key; the prefix of a base derivation key in five; and the key
-- block
abbrev pub entry_at : List ℕ → ℕ → List ℕ
entry_at image i = part_at 520 image i

abbrev pub kind_in : List ℕ → ℕ
kind_in entry = slice_index_or entry 2 0

abbrev pub prefix_in : List ℕ → List ℕ
prefix_in entry = take 5 (drop 3 entry)

abbrev pub block_in : List ℕ → List ℕ
block_in entry = drop 8 (take (8 + said_length entry) entry)

-- behind nine entries a module has the number of those that are used, the length of its local master
-- key, and that key
abbrev pub count_in : List ℕ → ℕ
count_in image = slice_index_or image 4680 0

abbrev pub lmk_in : List ℕ → List ℕ
lmk_in image = drop 4682 (take (4682 + slice_index_or image 4681 0) image)

-- the key of an entry is loaded into a security module with these keys, and leaves it with those
abbrev pub IsEntryLoaded : List ℕ → HsmKeys → HsmKeys → Type 0
IsEntryLoaded entry before after =
    ((kind_in entry ≡ 0) × IsBdkLoaded before (prefix_in entry) (block_in entry) after)
    ⊎ ((kind_in entry ≡ 1) × IsZoneLoaded before (block_in entry) after)

-- the keys of a security module that has its local master key alone
abbrev pub lmk_alone : List ℕ → HsmKeys
lmk_alone lmk = record { lmk = lmk; zone = None; key_sets = [] }

-- so many entries, loaded in turn, leave these keys
abbrev pub AreLoaded : List ℕ → ℕ → HsmKeys → Type 0
AreLoaded image zero keys = keys ≡ lmk_alone (lmk_in image)
AreLoaded image (suc count) keys =
    (before : HsmKeys) × AreLoaded image count before
    × IsEntryLoaded (entry_at image count) before keys

-- the bytes are a module that holds these keys
pub record IsModule (image : List ℕ) (keys : HsmKeys) : Type 0 where
  pub length_is : length image ≡ 4706
  pub lmk_is : IsTdesLength (length (lmk_in image))
  pub nine_at_most : count_in image ≤ 9
  pub are_loaded : AreLoaded image (count_in image) keys

-- the bytes are no module
abbrev pub IsNoModule : List ℕ → Type 0
IsNoModule image = (keys : HsmKeys) → ¬ IsModule image keys

-- a local master key of either length, and room for a module
abbrev pub FitNewModule : List ℕ → List ℕ → Type 0
FitNewModule lmk image = IsTdesLength (length lmk) × HaveRoom (image ∷ []) (4706 ∷ [])

-- the image of a module that has its local master key alone: zeros, but for that key and its length
abbrev pub new_image : List ℕ → List ℕ
new_image lmk =
    replicate 4681 0 ++ length lmk ∷ lmk ++ drop (length lmk) (replicate 24 0)

-- in front stands a module with this local master key alone; the bytes behind stay as they were
pub record HoldsNewModule (lmk old new : List ℕ) : Type 0 where
  pub is_module : IsModule (take 4706 new) (lmk_alone lmk)
  pub image_is : take 4706 new ≡ new_image lmk
  pub behind : drop 4706 new ≡ drop 4706 old

abbrev pub ModuleNewAnswers : List ℕ → List ℕ → List ℕ → Answer → Type 0
ModuleNewAnswers lmk old new =
    EndsIfFit (FitNewModule lmk old) (HoldsNewModule lmk old new) (new ≡ old)

-- a fault of a security module, as the calls have it
abbrev pub fault_of_hsm : HsmFault → Fault
fault_of_hsm (hsm.Block why) = fault.Block why
fault_of_hsm hsm.WrongUse = fault.WrongUse
fault_of_hsm hsm.PrefixTaken = fault.PrefixTaken
fault_of_hsm hsm.SlotsFull = fault.SlotsFull
fault_of_hsm hsm.ZoneTaken = fault.ZoneTaken
fault_of_hsm hsm.NoKeySet = fault.NoKeySet
fault_of_hsm hsm.NoZone = fault.NoZone
fault_of_hsm hsm.BadCounter = fault.NotUsable
fault_of_hsm hsm.BadMac = fault.BadMac
fault_of_hsm hsm.BadPinBlock = fault.NotAPinBlock

-- an entry, as far as its key block
abbrev pub entry_bytes : ℕ → List ℕ → List ℕ → List ℕ
entry_bytes kind prefix block = big_bytes 2 (length block) ++ kind ∷ prefix ++ block

-- an image with this entry behind those that it had, and counted; no other byte changes
abbrev pub image_with : List ℕ → List ℕ → List ℕ
image_with entry image =
    let at = 520 * count_in image in
    let written = take at image ++ with_front entry (drop at image) in
    take 4680 written ++ (count_in image + 1) ∷ drop 4681 written

-- the module's keys were those before, and are those that loading another key makes of them; its
-- image has that key's entry more, and nothing else: no key in the clear
pub record HoldsLoaded (Loads : HsmKeys → HsmKeys → Type 0) (entry old new : List ℕ) : Type 0
  where
    pub before : HsmKeys
    pub after : HsmKeys
    pub was_module : IsModule old before
    pub is_module : IsModule new after
    pub loads : Loads before after
    pub image_is : new ≡ image_with entry old

-- the module has these keys, and they are the reason for this fault
pub record IsReasonIn (Refuses : HsmKeys → HsmFault → Type 0) (image : List ℕ) (why : Fault)
    : Type 0 where
  pub keys : HsmKeys
  pub is_module : IsModule image keys
  pub reason : HsmFault
  pub refuses : Refuses keys reason
  pub why_is : why ≡ fault_of_hsm reason

-- a call is refused where slices do not fit, then where the bytes are no module, and then for what
-- the module says
abbrev pub IsLoadRefused : Type 0 → (HsmKeys → HsmFault → Type 0) → List ℕ → Fault → Type 0
IsLoadRefused Fit Refuses image why =
    ((why ≡ fault.Length) × (¬ Fit))
    ⊎ ((why ≡ fault.NotAModule) × Fit × IsNoModule image)
    ⊎ (Fit × IsReasonIn Refuses image why)

abbrev pub ModuleLoadBdkAnswers : List ℕ → List ℕ → List ℕ → List ℕ → Answer → Type 0
ModuleLoadBdkAnswers prefix block old new =
    let Fit = HaveLengths (old ∷ prefix ∷ []) (4706 ∷ 5 ∷ []) in
    Ends (Fit × HoldsLoaded (λ before after. IsBdkLoaded before prefix block after)
    (entry_bytes 0 prefix block) old new)
    (IsLoadRefused Fit (λ keys. LoadBdkRefused keys prefix block) old) (new ≡ old)

abbrev pub ModuleLoadZoneAnswers : List ℕ → List ℕ → List ℕ → Answer → Type 0
ModuleLoadZoneAnswers block old new =
    let Fit = HaveLengths (old ∷ []) (4706 ∷ []) in
    Ends (Fit × HoldsLoaded (λ before after. IsZoneLoaded before block after)
    (entry_bytes 1 (replicate 5 0) block) old new)
    (IsLoadRefused Fit (λ keys. LoadZoneRefused keys block) old) (new ≡ old)
