-- A frame that is judged by the index of some entries.
use Rattle.std.proofs.Common.{◌≡◌, ◌<◌, ◌≤◌, ◌-◌, ◌+◌, ◌++◌, ◌∷◌, ℕ, zero, suc, List, [], Bool, true, false, Contains, Option, Some, None, Result, Ok, Err, IfSome, All, length, drop, take, get_or, map, refl, sym, ap, subst, ◌∙◌, append_assoc, arith, length-append, length-drop}
use Rattle.std.specs.Bool.{MatchBool}
use Rattle.std.specs.Option.{option_to_list}
use Rattle.std.specs.Prelude.{IfNone, OnErr}
use Rattle.std.proofs.lemmas.List.{append-nil, drop-append-le, take_more}
use Rattle.std.proofs.lemmas.List.Elements.{All-append, All-cons, All-nil}
use Rattle.duk_host.specs.Judgement.{Decision}
use Rattle.duk_host.specs.Used.{IsUsed}
use Rattle.duk_hsm.specs.Keys.{HsmKeys}
use Rattle.duk_journal.specs.Entry.{MayStandUnder}
use Rattle.duk_journal.specs.Groups.{Entries}
use Rattle.duk_journal.specs.Standing.{used_by}
use Rattle.duk_journal.specs.declared.entry.Entry.{Entry}
use Rattle.duk_tree.specs.Path.{IsUsable}
use Rattle.duk_journal_host.specs.Host.{IndexOf, IsIndexOf}
use Rattle.duk_journal_host.specs.Judgement.{line_basis}
use Rattle.duk_journal_host.specs.Latest.{latest_entries, most_latest}
use Rattle.duk_journal_host.specs.inner.Index.{TakesNumbers}
use Rattle.duk_journal_host.specs.inner.Judged.{AreJudgedSoFar, JudgesFrame, JudgesFrames}
use Rattle.duk_journal_host.specs.inner.Latest.{with_latest}
use Rattle.duk_journal_host.proofs.InTurn.{joined}

-- ---- one more entry

zero_add : (more : ℕ) → more ≡ 0 + more
zero_add more = omega arith

suc_add : (one more : ℕ) → suc (one + more) ≡ suc one + more
suc_add one more = omega arith

drop_none : {A : Type 0} (count : ℕ) → drop {A = A} count [] ≡ []
drop_none zero = refl
drop_none (suc count) = refl

drop_drop : {A : Type 0} (one more : ℕ) (things : List A) → drop more (drop one things) ≡ drop (one + more) things
drop_drop zero more things = ap (λ count. drop count things) (zero_add more)
drop_drop (suc one) more [] = drop_none more ∙ sym (drop_none (suc one + more))
drop_drop (suc one) more (first ∷ things) = drop_drop one more things ∙ ap (λ count. drop count (first ∷ things)) (suc_add one more)

-- the latest of a list with one entry more
pub latest_more : (entries : Entries) (entry : Entry) → with_latest (latest_entries entries) entry ≡ latest_entries (entries ++ entry ∷ [])
latest_more entries entry =
    let gone = length entries - most_latest in
    let latest = drop gone entries in
    let last = entry ∷ [] in
    let one = length (latest ++ last) - most_latest in
    let count : gone + one ≡ length (entries ++ last) - most_latest = omega (arith, length-append latest last, length-append entries last, length-drop gone entries) in
    let behind : latest ++ last ≡ drop gone (entries ++ last) = sym (drop-append-le gone entries last (omega arith)) in
    ap (λ entries. drop one entries) behind ∙ drop_drop gone one (entries ++ last) ∙ ap (λ count. drop count (entries ++ last)) count

pub index_more : (entries : Entries) (entry : Entry) (old new : IndexOf) (fresh : Bool) → IsIndexOf entries old → ¬ Contains (used_by entries) entry.number
    → MatchBool fresh (¬ IsUsed old.used entry.number) (IsUsed old.used entry.number) → (fresh ≡ true → TakesNumbers old new entry)
    → (fresh ≡ true → new.latest ≡ with_latest old.latest entry) → IsIndexOf (entries ++ entry ∷ []) new
index_more entries entry old new true is not_in fresh numbers last = record {
  sets = numbers refl entries is.sets;
  latest_are = last refl ∙ ap (λ latest. with_latest latest entry) is.latest_are ∙ latest_more entries entry;
}
index_more entries entry old new false is not_in used numbers last = absurd (not_in ((is.sets.used_are entry.number).0 used))

-- ---- frames in turn

-- one more frame is judged after others
pub judged_more :
    (keys : HsmKeys) (decides : Decision) (capacity room : ℕ) (frames : List (List ℕ)) (frame : List ℕ) (old mid new : IndexOf) (answers : List (List ℕ)) (answer : List ℕ) (added : Entries) (one : Option Entry)
    → JudgesFrames keys decides capacity room frames old mid answers added → JudgesFrame keys decides capacity (room - length added) frame mid new answer one
    → JudgesFrames keys decides capacity room (frames ++ frame ∷ []) old new (answers ++ answer ∷ []) (added ++ option_to_list one)
judged_more keys decides capacity room frames frame old mid new answers answer added one before here = λ entries is_index.
    let first = before entries is_index in
    let last = here (entries ++ added) first.1 in
    let more = option_to_list one in (
      joined (line_basis keys entries capacity room decides) frames (frame ∷ []) answers (answer ∷ []) added more first.0
          (more, [], last.0, refl, sym (append-nil more)),
      subst (λ entries. IsIndexOf entries new) (append_assoc entries added more) last.1,
    )

all_of : (P : Entry → Type 0) (one : Option Entry) → IfSome one P → All P (option_to_list one)
all_of P None holds = All-nil P
all_of P (Some entry) holds = All-cons P entry [] holds (All-nil P)

one_at_most : (one : Option Entry) → length (option_to_list one) ≤ 1
one_at_most None = omega arith
one_at_most (Some entry) = omega arith

-- the first frames of a group, and one more
pub so_far_more :
    (keys : HsmKeys) (decides : Decision) (kept room : ℕ) (frames : List (List ℕ)) (count : ℕ) (frame : List ℕ) (old mid new : IndexOf) (answers : List (List ℕ)) (answer : List ℕ) (added : Entries) (one : Option Entry)
    → AreJudgedSoFar keys decides kept room frames count old mid answers added → count < length frames → get_or frames count frame ≡ frame
    → ((capacity : ℕ) → room ≡ capacity - kept → JudgesFrame keys decides capacity (room - length added) frame mid new answer one)
    → IfSome one (λ entry. IsUsable entry.number.counter) → IfSome one (λ entry. MayStandUnder entry.number entry.decided) → length (option_to_list one) ≤ room - length added
    → AreJudgedSoFar keys decides kept room frames (count + 1) old new (answers ++ answer ∷ []) (added ++ option_to_list one)
so_far_more keys decides kept room frames count frame old mid new answers answer added one before within is here usable stands fits =
    let more = option_to_list one in
    let all : take count frames ++ frame ∷ [] ≡ take (count + 1) frames = sym (take_more frames count frame within ∙ ap (λ frame. take count frames ++ frame ∷ []) is) in
    record {
      judged = λ capacity room_is. subst (λ frames. JudgesFrames keys decides capacity room frames old new (answers ++ answer ∷ []) (added ++ more)) all
          (judged_more keys decides capacity room (take count frames) frame old mid new answers answer added one (before.judged capacity room_is) (here capacity room_is));
      counted = omega (arith, length-append answers (answer ∷ []), before.counted);
      usable = All-append (λ (entry : Entry). IsUsable entry.number.counter) added more before.usable (all_of (λ entry. IsUsable entry.number.counter) one usable);
      stand = All-append (λ (entry : Entry). MayStandUnder entry.number entry.decided) added more before.stand (all_of (λ entry. MayStandUnder entry.number entry.decided) one stands);
      fits = omega (arith, length-append added more, fits, before.fits);
      fewer = omega (arith, length-append added more, length-append answers (answer ∷ []), before.fewer, one_at_most one);
    }

pub item_of : {A B : Type 0} (f : A → B) (things : List A) (i : ℕ) (thing : A) → i < length things → get_or things i thing ≡ thing → get_or (map f things) i (f thing) ≡ f thing
item_of f [] i thing within is = absurd (omega (arith, within))
item_of f (first ∷ things) zero thing within is = ap f is
item_of f (first ∷ things) (suc i) thing within is = item_of f things i thing (omega (arith, within)) is

-- whatever is given where there is none
pub item_at : {A B : Type 0} (f : A → B) (things : List A) (i : ℕ) (thing : A) (none : B) → i < length things → get_or things i thing ≡ thing → get_or (map f things) i none ≡ f thing
item_at f [] i thing none within is = absurd (omega (arith, within))
item_at f (first ∷ things) zero thing none within is = ap f is
item_at f (first ∷ things) (suc i) thing none within is = item_at f things i thing none (omega (arith, within)) is

-- what is so may be said of each error
pub on_err : {T E : Type 0} (P : Type 0) (result : Result T E) → P → OnErr result P
on_err P (Ok value) is = tt
on_err P (Err error) is = is

pub if_none : {T : Type 0} (P : Type 0) (found : Option T) → P → IfNone found P
if_none P None is = is
if_none P (Some thing) is = tt
