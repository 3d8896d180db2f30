-- Drafts, and the answers that they become.
use Rattle.std.proofs.Common.{◌≡◌, ◌≢◌, ◌<◌, ◌+◌, ◌++◌, ◌∷◌, ◌∙◌, ℕ, zero, suc, List, [], Result, Ok, Err, IfErr, IfOk, ap, arith, below_more, get_or, get_or-set_other, get_or-set_same, length, map, refl, set, subst, sym}
use Rattle.std.proofs.lemmas.List.{append_assoc, map_push}
use Rattle.arrayvec.specs.ArrayVec.{ArrayVec}
use Rattle.duk_frame.specs.Frame.{framed}
use Rattle.duk_frame.specs.Payment.{authenticated}
use Rattle.duk_group.specs.Numbers.{number_at}
use Rattle.duk_hsm.specs.Commands.{HasTransactionKey, IsReplyMac, IsTransactionKey, NoTransactionKey}
use Rattle.duk_hsm.specs.Keys.{HsmKeys}
use Rattle.duk_hsm.specs.TransactionKeys.{AreTransactionKeys, TransactionKeys}
use Rattle.duk_hsm.specs.declared.fault.HsmFault.{HsmFault}
use Rattle.duk_hsm.specs.declared.fault.HsmFault.TheVariants as hsm_fault
use Rattle.duk_tree.specs.Derivation.{derived_key_of, response_key_of}
use Rattle.duk_tree.specs.Serial.{Serial}
use Rattle.duk_journal_host.specs.Candidate.{IsAnswered}
use Rattle.duk_journal_host.specs.Steps.{IsAnswerOf, number_in}
use Rattle.duk_journal_host.specs.declared.draft.Draft.{Draft}
use Rattle.duk_journal_host.specs.declared.draft.Draft.TheVariants.{Whole, Reply}
use Rattle.duk_journal_host.specs.declared.settlement.Settled.{Settled}
use Rattle.duk_journal_host.specs.inner.Draft.{AreDraftsUnder, IsDraftOf, IsDraftUnder, found_key, frame_of, frame_with, key_under, text_in}

-- a transaction key is that of its number
pub key_is_under : (keys : HsmKeys) (ksn : Serial) (key : List ℕ) → IsTransactionKey keys ksn key → key ≡ key_under keys ksn
key_is_under keys ksn key is = is.key_is ∙ ap (λ found. derived_key_of (found_key found) ksn) (sym is.held)

-- a draft with the MAC that it lacks is the frame that it becomes
pub completed : (keys : HsmKeys) (ksn : Serial) (draft : Draft) (mac : List ℕ) → IsDraftUnder keys ksn draft → (HasTransactionKey keys ksn → 0 < length (text_in draft) → IsReplyMac keys ksn (text_in draft) mac) → frame_with draft mac ≡ frame_of keys draft
completed keys ksn (Whole frame) mac under made = refl
completed keys ksn (Reply number text) mac under made =
    let is = made under.1 under.2 in
    ap (λ mac. framed (text.items ++ mac)) is.mac_is
    ∙ ap (λ key. authenticated (response_key_of key) text.items) (key_is_under keys ksn is.key is.key_is ∙ ap (λ ksn. key_under keys ksn) (sym under.0))

-- a draft at its place
pub under_at :
    (keys : HsmKeys) (numbers : List Serial) (drafts : List Draft) (place : ℕ) (draft : Draft) → AreDraftsUnder keys numbers drafts → place < length drafts → get_or drafts place draft ≡ draft
    → (place < length numbers) × IsDraftUnder keys (number_at numbers place) draft
under_at keys numbers [] place draft are within is = absurd (omega (arith, within))
under_at keys [] (first ∷ drafts) place draft are within is = absurd are
under_at keys (ksn ∷ numbers) (first ∷ drafts) zero draft are within is = (omega arith, subst (λ draft. IsDraftUnder keys ksn draft) is are.0)
under_at keys (ksn ∷ numbers) (first ∷ drafts) (suc place) draft are within is =
    let rest = under_at keys numbers drafts place draft are.1 (omega (arith, within)) is in (omega (arith, rest.0), rest.1)

-- one draft more
pub under_more :
    (keys : HsmKeys) (numbers : List Serial) (drafts : List Draft) (draft : Draft) → AreDraftsUnder keys numbers drafts → length drafts < length numbers
    → IsDraftUnder keys (number_at numbers (length drafts)) draft → AreDraftsUnder keys numbers (drafts ++ draft ∷ [])
under_more keys [] [] draft are within is = absurd (omega (arith, within))
under_more keys (ksn ∷ numbers) [] draft are within is = (is, tt)
under_more keys [] (first ∷ drafts) draft are within is = absurd are
under_more keys (ksn ∷ numbers) (first ∷ drafts) draft are within is = (are.0, under_more keys numbers drafts draft are.1 (omega (arith, within)) is)

-- the frames of drafts behind others, and of one draft more
pub frames_more : (f : Draft → List ℕ) (answers : List (List ℕ)) (drafts : List Draft) (draft : Draft) → (answers ++ map f drafts) ++ f draft ∷ [] ≡ answers ++ map f (drafts ++ draft ∷ [])
frames_more f answers drafts draft = append_assoc answers (map f drafts) (f draft ∷ []) ∙ ap (λ more. answers ++ more) (sym (map_push f drafts draft))

-- what holds of each place of a list that is written place by place
pub written_below : {X : Type 0} (P : ℕ → X → Type 0) (xs : List X) (i : ℕ) (x none : X) → i < length xs → ((p : ℕ) → p < i → P p (get_or xs p none)) → P i x
    → (p : ℕ) → p < i + 1 → P p (get_or (set xs i x) p none)
written_below P xs i x none room below here =
    below_more (λ p. P p (get_or (set xs i x) p none)) i
    (λ p h. let other : p ≢ i = omega arith in subst (P p) (sym (get_or-set_other xs i p x none other)) (below p h))
    (subst (P i) (sym (get_or-set_same xs i x none room)) here)

-- ---- what was settled elsewhere

-- no number both has a transaction key and lacks one
apart : (keys : HsmKeys) (ksn : Serial) (why : HsmFault) → HasTransactionKey keys ksn → NoTransactionKey keys ksn why → ⊥
apart keys ksn hsm_fault.NoKeySet (key, has) none = absurd (cc (has.held, none))
apart keys ksn hsm_fault.BadCounter (key, has) bad = bad.unusable has.usable
apart keys ksn (hsm_fault.Block why) has none = none
apart keys ksn hsm_fault.WrongUse has none = none
apart keys ksn hsm_fault.PrefixTaken has none = none
apart keys ksn hsm_fault.SlotsFull has none = none
apart keys ksn hsm_fault.ZoneTaken has none = none
apart keys ksn hsm_fault.BadMac has none = none
apart keys ksn hsm_fault.NoZone has none = none
apart keys ksn hsm_fault.BadPinBlock has none = none

-- it is answered with its draft, where its number was opened
pub answered_by :
    (keys : HsmKeys) (settled : Settled) (draft : Draft) (mac : List ℕ) (opened : Result TransactionKeys HsmFault) (frame : ArrayVec ℕ) → IsDraftOf settled draft
    → IfOk opened (AreTransactionKeys keys (number_in settled)) → IfErr opened (NoTransactionKey keys (number_in settled))
    → (HasTransactionKey keys (number_in settled) → 0 < length (text_in draft) → IsReplyMac keys (number_in settled) (text_in draft) mac)
    → IfOk opened (λ _. frame.items ≡ frame_with draft mac) → IfErr opened (λ _. frame.items ≡ []) → IsAnswered keys settled frame
answered_by keys settled draft mac (Ok given) frame is opens refused made frame_is none_is =
    let has : HasTransactionKey keys (number_in settled) = (given.key, opens.key_is) in
    record {
      answer = λ has. subst (λ bytes. IsAnswerOf keys settled bytes) (sym (frame_is ∙ completed keys (number_in settled) draft mac (is.under keys has) made)) (is.answer keys has);
      none = λ why lacks. absurd (apart keys (number_in settled) why has lacks);
    }
answered_by keys settled draft mac (Err why) frame is opens refused made frame_is none_is =
    record { answer = λ has. absurd (apart keys (number_in settled) why has refused); none = λ other lacks. none_is }
