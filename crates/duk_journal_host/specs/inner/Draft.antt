-- Answers whose MACs are made together: this project's own, over the transaction keys of
-- ANSI X9.24-1:2009 annex A.
use Rattle.std.specs.Prelude.{◌≡◌, ◌<◌, ◌++◌, ◌∷◌, ℕ, List, [], Option, Some, None, length}
use Rattle.duk_frame.specs.Frame.{framed}
use Rattle.duk_frame.specs.Payment.{authenticated}
use Rattle.duk_hsm.specs.Commands.{HasTransactionKey}
use Rattle.duk_hsm.specs.Keys.{HsmKeys, key_set_of}
use Rattle.duk_tree.specs.Derivation.{derived_key_of, response_key_of}
use Rattle.duk_tree.specs.Serial.{Serial, prefix_of}
use Rattle.duk_journal_host.specs.Steps.{IsAnswerOf, number_in}
use Rattle.duk_journal_host.specs.declared.draft.Draft.{Draft}
use Rattle.duk_journal_host.specs.declared.draft.Draft.TheVariants.{Whole, Reply}
use Rattle.duk_journal_host.specs.declared.settlement.Settled.{Settled}

-- the key that was found, and no bytes where there is none
abbrev pub found_key : Option (List ℕ) → List ℕ
found_key None = []
found_key (Some key) = key

-- the transaction key of a key serial number that has one
abbrev pub key_under : HsmKeys → Serial → List ℕ
key_under keys ksn = derived_key_of (found_key (key_set_of keys (prefix_of ksn))) ksn

-- the frame that a draft becomes: a whole answer stays as it is, and a reply has the MAC of its text
-- under the variant for responses of its number's transaction key
abbrev pub frame_of : HsmKeys → Draft → List ℕ
frame_of keys (Whole frame) = frame.items
frame_of keys (Reply number text) = authenticated (response_key_of (key_under keys number)) text.items

-- the frame of a draft with these bytes as the MAC that it lacks
abbrev pub frame_with : Draft → List ℕ → List ℕ
frame_with (Whole frame) mac = frame.items
frame_with (Reply number text) mac = framed (text.items ++ mac)

-- the text of the MAC that a draft lacks
abbrev pub text_in : Draft → List ℕ
text_in (Whole frame) = []
text_in (Reply number text) = text.items

-- the MAC that a draft lacks, if it lacks one, is made of a text under the transaction key of this
-- number
abbrev pub IsDraftUnder : HsmKeys → Serial → Draft → Type 0
IsDraftUnder keys ksn (Whole frame) = Unit {0}
IsDraftUnder keys ksn (Reply number text) =
    (number ≡ ksn) × HasTransactionKey keys ksn × (0 < length text.items)

-- the MACs that drafts lack are, each under that of the number at its place
abbrev pub AreDraftsUnder : HsmKeys → List Serial → List Draft → Type 0
AreDraftsUnder keys numbers [] = Unit {0}
AreDraftsUnder keys [] (draft ∷ drafts) = ⊥
AreDraftsUnder keys (ksn ∷ numbers) (draft ∷ drafts) =
    IsDraftUnder keys ksn draft × AreDraftsUnder keys numbers drafts

-- a draft becomes the answer to what was settled, wherever the number of that has a transaction key
pub record IsDraftOf (settled : Settled) (draft : Draft) : Type 0 where
  pub answer : (keys : HsmKeys) → HasTransactionKey keys (number_in settled)
      → IsAnswerOf keys settled (frame_of keys draft)
  pub under : (keys : HsmKeys) → HasTransactionKey keys (number_in settled)
      → IsDraftUnder keys (number_in settled) draft
