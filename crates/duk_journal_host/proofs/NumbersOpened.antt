-- The numbers of frames, and what opening them gives.
use Rattle.std.proofs.Common.{◌≡◌, ◌<◌, ◌≤◌, ◌-◌, ◌+◌, ◌++◌, ◌∷◌, ◌∙◌, ℕ, zero, suc, List, [], Option, Some, None, Result, IfErr, IfOk, ap, arith, drop, get_or, length, length-drop, map, set, sym, subst, take}
use Rattle.std.proofs.lemmas.List.{get_or-drop, get_or-take, length-map, length-take-le, map-append, take_more, take_more_set}
use Rattle.duk_group.specs.Numbers.{number_at}
use Rattle.duk_host.specs.Judgement.{IsOpenedTo}
use Rattle.duk_hsm.specs.Commands.{IsOtherMac, IsRequestMac, IsTransactionKey, NoTransactionKey}
use Rattle.duk_hsm.specs.Group.{AreOpened, OpenedPlaces}
use Rattle.duk_hsm.specs.Keys.{HsmKeys}
use Rattle.duk_hsm.specs.TransactionKeys.{AreTransactionKeys, TransactionKeys}
use Rattle.duk_hsm.specs.declared.fault.HsmFault.{HsmFault}
use Rattle.duk_tree.specs.Serial.{Serial}
use Rattle.duk_journal_host.specs.inner.Judged.{AreNumbersOf, IsNumberOf, OpensBetween, OpensFrame, OpensFrames}
use Rattle.duk_journal_host.proofs.Judging.{item_at}

pub not_both : {A : Type 0} (found : Option A) (value : A) → found ≡ Some value → found ≡ None → ⊥
not_both found value some none = absurd (cc (some, none))

-- a MAC that is not that of the text is another
pub other_mac : (keys : HsmKeys) (ksn : Serial) (key text mac : List ℕ) → IsTransactionKey keys ksn key → ¬ IsRequestMac keys ksn text mac → IsOtherMac keys ksn text mac
other_mac keys ksn key text mac is not = record { key = key; key_is = is; mac_is_other = λ same. not (record { key = key; key_is = is; mac_is = same }) }

-- ---- the numbers of frames

pub one_more : (frames : List (List ℕ)) (numbers : List Serial) (bytes : List ℕ) (ksn : Serial) → AreNumbersOf frames numbers → IsNumberOf bytes ksn → AreNumbersOf (frames ++ bytes ∷ []) (numbers ++ ksn ∷ [])
one_more [] [] bytes ksn are is = (is, tt)
one_more [] (one ∷ numbers) bytes ksn are is = absurd are
one_more (frame ∷ frames) [] bytes ksn are is = absurd are
one_more (frame ∷ frames) (one ∷ numbers) bytes ksn are is = (are.0, one_more frames numbers bytes ksn are.1 is)

pub number_of : (frames : List (List ℕ)) (numbers : List Serial) (place : ℕ) → AreNumbersOf frames numbers → place < length frames → (place < length numbers) × IsNumberOf (get_or frames place []) (number_at numbers place)
number_of [] [] place are within = absurd (omega (arith, within))
number_of [] (one ∷ numbers) place are within = absurd are
number_of (frame ∷ frames) [] place are within = absurd are
number_of (frame ∷ frames) (one ∷ numbers) zero are within = (omega arith, are.0)
number_of (frame ∷ frames) (one ∷ numbers) (suc place) are within =
    let rest = number_of frames numbers place are.1 (omega (arith, within)) in (omega (arith, rest.0), rest.1)

-- ---- what opening them gives

frame_opened : (keys : HsmKeys) (bytes : List ℕ) (ksn : Serial) (opened : Result TransactionKeys HsmFault) → IsNumberOf bytes ksn → IsOpenedTo keys ksn opened → OpensFrame keys bytes opened
frame_opened keys bytes ksn opened number is = record {
  reversal = λ reversal is_reversal. subst (λ ksn. IsOpenedTo keys ksn opened) (number.reversal reversal is_reversal) is;
  request = λ none request is_request. subst (λ ksn. IsOpenedTo keys ksn opened) (number.request none request is_request) is;
}

-- what the place of a frame in its group gives is what opening its number gives
pub opens_at :
    (keys : HsmKeys) (frames : List (List ℕ)) (group : OpenedPlaces) (place : ℕ) (bytes : List ℕ) (opened : Result TransactionKeys HsmFault)
    → OpensFrames keys frames group → place < length frames → get_or frames place [] ≡ bytes
    → ((keys : HsmKeys) (numbers : List Serial) → place < length numbers → AreOpened keys numbers group → IfOk opened (AreTransactionKeys keys (number_at numbers place)))
    → ((keys : HsmKeys) (numbers : List Serial) → place < length numbers → AreOpened keys numbers group → IfErr opened (NoTransactionKey keys (number_at numbers place)))
    → OpensFrame keys bytes opened
opens_at keys frames group place bytes opened opens within is given refused =
    let number = number_of frames opens.numbers place opens.numbers_are within in
    subst (λ bytes. OpensFrame keys bytes opened) is (frame_opened keys (get_or frames place []) (number_at opens.numbers place) opened number.1 (record {
      given = given keys opens.numbers number.0 opens.are_opened;
      refused = refused keys opens.numbers number.0 opens.are_opened;
    }))

-- ---- a part of a list

pub length_part : {A : Type 0} (things : List A) (from to : ℕ) → from ≤ to → to ≤ length things → length (take (to - from) (drop from things)) ≡ to - from
length_part things from to order within = length-take-le (to - from) (drop from things) (omega (arith, length-drop from things))

pub part_at :
    {A B : Type 0} (f : A → B) (things : List A) (from to place : ℕ) (thing : A) (none : B) → from ≤ place → place < to → to ≤ length things → get_or things place thing ≡ thing
    → get_or (map f (take (to - from) (drop from things))) (place - from) none ≡ f thing
part_at f things from to place thing none after before within is =
    let part = take (to - from) (drop from things) in
    let back : from + (place - from) ≡ place = omega arith in
    let same : get_or part (place - from) thing ≡ thing =
    get_or-take (to - from) (drop from things) (place - from) thing (omega arith) ∙ get_or-drop from things (place - from) thing ∙ ap (λ (i : ℕ). get_or things i thing) back ∙ is in
    item_at f part (place - from) thing none (omega (arith, length_part things from to (omega arith) within)) same

-- what a frame asks stands at its place
pub one_asked :
    {A B : Type 0} (bytes_of : A → List ℕ) (number_in : B → Serial) (frames : List A) (asked : List B) (place : ℕ) (frame : A) (one : B)
    → place < length frames → place < length asked → get_or frames place frame ≡ frame
    → AreNumbersOf (map bytes_of (take place frames)) (map number_in (take place asked)) → IsNumberOf (bytes_of frame) (number_in one)
    → AreNumbersOf (map bytes_of (take (place + 1) frames)) (map number_in (take (place + 1) (set asked place one)))
one_asked bytes_of number_in frames asked place frame one within room is are number =
    let frames_are : map bytes_of (take (place + 1) frames) ≡ map bytes_of (take place frames) ++ bytes_of frame ∷ [] =
    ap (λ frames. map bytes_of frames) (take_more frames place frame within ∙ ap (λ frame. take place frames ++ frame ∷ []) is) ∙ map-append bytes_of (take place frames) (frame ∷ []) in
    let asked_are : map number_in (take (place + 1) (set asked place one)) ≡ map number_in (take place asked) ++ number_in one ∷ [] =
    ap (λ asked. map number_in asked) (take_more_set asked place one room) ∙ map-append number_in (take place asked) (one ∷ []) in
    subst (λ frames. AreNumbersOf frames (map number_in (take (place + 1) (set asked place one)))) (sym frames_are)
    (subst (λ numbers. AreNumbersOf (map bytes_of (take place frames) ++ bytes_of frame ∷ []) numbers) (sym asked_are)
    (one_more (map bytes_of (take place frames)) (map number_in (take place asked)) (bytes_of frame) (number_in one) are number))

-- a frame of a group, among all frames
pub opens_next :
    {A : Type 0} (bytes_of : A → List ℕ) (keys : HsmKeys) (frames : List A) (group : OpenedPlaces) (from to place : ℕ) (frame : A) (bytes : List ℕ) (opened : Result TransactionKeys HsmFault)
    → OpensBetween keys bytes_of frames from to group → from ≤ place → place < to → to ≤ length frames → get_or frames place frame ≡ frame → bytes ≡ bytes_of frame
    → ((keys : HsmKeys) (numbers : List Serial) → place - from < length numbers → AreOpened keys numbers group → IfOk opened (AreTransactionKeys keys (number_at numbers (place - from))))
    → ((keys : HsmKeys) (numbers : List Serial) → place - from < length numbers → AreOpened keys numbers group → IfErr opened (NoTransactionKey keys (number_at numbers (place - from))))
    → OpensFrame keys bytes opened
opens_next bytes_of keys frames group from to place frame bytes opened opens after before within is bytes_are given refused =
    let part = take (to - from) (drop from frames) in
    let long : length (map bytes_of part) ≡ to - from = length-map part bytes_of ∙ length_part frames from to (omega arith) within in
    opens_at keys (map bytes_of part) group (place - from) bytes opened opens (omega (arith, long))
    (part_at bytes_of frames from to place frame [] after before within is ∙ sym bytes_are) given refused

-- the number at the place of such a frame is its own
pub next_number :
    {A : Type 0} (bytes_of : A → List ℕ) (keys : HsmKeys) (frames : List A) (group : OpenedPlaces) (from to place : ℕ) (frame : A)
    → (opens : OpensBetween keys bytes_of frames from to group) → from ≤ place → place < to → to ≤ length frames → get_or frames place frame ≡ frame
    → (place - from < length opens.numbers) × IsNumberOf (bytes_of frame) (number_at opens.numbers (place - from))
next_number bytes_of keys frames group from to place frame opens after before within is =
    let part = take (to - from) (drop from frames) in
    let long : length (map bytes_of part) ≡ to - from = length-map part bytes_of ∙ length_part frames from to (omega arith) within in
    let number = number_of (map bytes_of part) opens.numbers (place - from) opens.numbers_are (omega (arith, long)) in
    (number.0, subst (λ bytes. IsNumberOf bytes (number_at opens.numbers (place - from))) (part_at bytes_of frames from to place frame [] after before within is) number.1)
