-- Entries that a journal gives, one after the other, and the index that they are taken into.
use Rattle.std.proofs.Common.{◌≡◌, ◌<◌, ◌++◌, ◌-◌, ◌∷◌, ◌↔◌, ◌∙◌, ℕ, zero, suc, List, [], Contains, length, get_or, refl, sym, ap, subst, append_assoc, arith, length-append}
use Rattle.std.proofs.Math.Seq.{drop-nil}
use Rattle.std.proofs.lemmas.List.{append-nil}
use Rattle.std.proofs.lemmas.List.Elements.{All-contains, All-nil, Contains-append_right}
use Rattle.std.specs.List.{fold}
use Rattle.duk_frame.specs.declared.code.Code.TheVariants.{Approved}
use Rattle.duk_host.specs.Used.{IsUsed}
use Rattle.duk_journal.specs.CheckSum.{check_sum_of, with_entry}
use Rattle.duk_journal.specs.Entry.{MayStandUnder}
use Rattle.duk_journal.specs.Groups.{Entries}
use Rattle.duk_journal.specs.Standing.{UseNewNumbers, numbers_in, payment_entry}
use Rattle.duk_journal.specs.declared.entry.Entry.{Entry}
use Rattle.duk_store.specs.Visitor.{TakesAll}
use Rattle.duk_store.specs.Log.{Numbers}
use Rattle.duk_tree.specs.Path.{IsUsable}
use Rattle.duk_journal_host.specs.Host.{IndexOf, IsIndexOf}
use Rattle.duk_journal_host.specs.Latest.{most_latest}
use Rattle.duk_journal_host.specs.inner.Index.{IsListed, TakesNumbers}
use Rattle.duk_journal_host.specs.inner.Latest.{with_latest}
use Rattle.duk_journal_host.specs.inner.Reading.{TakesChecked, TakesEntry}
use Rattle.duk_journal_host.specs.declared.check.Checking.{Checking}
use Rattle.duk_journal_host.proofs.Indexed.{none_listed}
use Rattle.duk_journal_host.proofs.Judging.{latest_more}
use Rattle.duk_journal_host.proofs.Members.{flat_from, none_in, the_one}

-- ---- lists that use no new numbers

last_in : (seen : Entries) (entry : Entry) → Contains (seen ++ entry ∷ []) entry
last_in seen entry = Contains-append_right seen (entry ∷ []) entry (the_one entry)

-- a list with a number that numbers no transaction
pub not_usable : (seen : Entries) (entry : Entry) → ¬ IsUsable entry.number.counter → ¬ UseNewNumbers (seen ++ entry ∷ [])
not_usable seen entry not are =
    not (All-contains (λ (entry : Entry). IsUsable entry.number.counter) (seen ++ entry ∷ []) entry are.usable (last_in seen entry))

-- one with a number under which what was decided may not stand
pub not_standing : (seen : Entries) (entry : Entry) → ¬ MayStandUnder entry.number entry.decided → ¬ UseNewNumbers (seen ++ entry ∷ [])
not_standing seen entry not are =
    not (All-contains (λ (entry : Entry). MayStandUnder entry.number entry.decided) (seen ++ entry ∷ []) entry are.stand (last_in seen entry))

front_at : {A : Type 0} (things more : List A) (i : ℕ) (d other : A) → i < length things → get_or (things ++ more) i d ≡ get_or things i other
front_at [] more i d other within = absurd (omega (arith, within))
front_at (first ∷ things) more zero d other within = refl
front_at (first ∷ things) more (suc i) d other within = front_at things more i d other (omega (arith, within))

last_at : {A : Type 0} (things : List A) (last d : A) → get_or (things ++ last ∷ []) (length things) d ≡ last
last_at [] last d = refl
last_at (first ∷ things) last d = last_at things last d

-- one with a number that was used before
pub used_twice : (seen : Entries) (entry : Entry) (index : IndexOf) → IsIndexOf seen index → IsUsed index.used entry.number → ¬ UseNewNumbers (seen ++ entry ∷ [])
used_twice seen entry index is used are =
    let from = flat_from numbers_in seen entry.number ((is.sets.used_are entry.number).0 used) in
    let place = from.1.0 in
    let earlier : get_or (seen ++ entry ∷ []) place entry ≡ from.0 = front_at seen (entry ∷ []) place entry from.0 from.1.1 ∙ from.1.2 in
    let within : length seen < length (seen ++ entry ∷ []) = omega (arith, length-append seen (entry ∷ [])) in
    are.new place (length seen) entry from.1.1 within
    (subst (λ earlier. Contains (numbers_in earlier) (get_or (seen ++ entry ∷ []) (length seen) entry).number) (sym earlier)
    (subst (λ (last : Entry). Contains (numbers_in from.0) last.number) (sym (last_at seen entry entry)) from.2))

-- the first of entries that use new numbers do
pub new_front : (entries more : Entries) → UseNewNumbers (entries ++ more) → UseNewNumbers entries
new_front entries more are = record {
  usable = λ k d within. subst (λ (entry : Entry). IsUsable entry.number.counter) (front_at entries more k d d within) (are.usable k d (omega (arith, within, length-append entries more)));
  stand = λ k d within. subst (λ (entry : Entry). MayStandUnder entry.number entry.decided) (front_at entries more k d d within) (are.stand k d (omega (arith, within, length-append entries more)));
  new = λ i j d below within has.
      let first : i < length entries = omega (arith, below, within) in
      are.new i j d below (omega (arith, within, length-append entries more))
      (subst (λ (earlier : Entry). Contains (numbers_in earlier) (get_or (entries ++ more) j d).number) (sym (front_at entries more i d d first))
      (subst (λ (later : Entry). Contains (numbers_in (get_or entries i d)) later.number) (sym (front_at entries more j d d within)) has));
}

-- ---- one entry after the other

pub takes_entry : (entry : Entry) (old new : IndexOf) → TakesNumbers old new entry → new.latest ≡ with_latest old.latest entry → TakesEntry old entry new
takes_entry entry old new takes last seen is = record {
  sets = takes seen is.sets;
  latest_are = last ∙ ap (λ latest. with_latest latest entry) is.latest_are ∙ latest_more seen entry;
}

-- the index of no entries
pub of_none : (index : IndexOf) → index.used ≡ [] → index.others ≡ [] → index.reversed ≡ [] → index.latest ≡ [] → IsIndexOf [] index
of_none index unused no_others unreversed unanswered = record {
  sets = record {
    new_numbers = record {
      usable = All-nil (λ (entry : Entry). IsUsable entry.number.counter);
      stand = All-nil (λ (entry : Entry). MayStandUnder entry.number entry.decided);
      new = λ i j d before within. absurd (omega (arith, within));
    };
    listed = subst IsListed (sym unused) none_listed;
    used_are = λ ksn. subst (λ (used : Numbers). IsUsed used ksn ↔ Contains [] ksn) (sym unused) (λ is_used. is_used, λ contains. contains);
    others_used = λ ksn is. absurd (none_in ksn (subst (λ (others : Numbers). IsUsed others ksn) no_others is));
    approved_are = λ ksn. (
      λ is. absurd (none_in ksn (subst (λ (used : Numbers). IsUsed used ksn) unused is.0)),
      λ has. absurd (none_in (payment_entry ksn has.amount Approved has.mac) has.kept),
    );
    reversed_are = λ ksn. subst (λ (reversed : Numbers). IsUsed reversed ksn ↔ Contains [] ksn) (sym unreversed) (λ is. is, λ contains. contains);
  };
  latest_are = unanswered ∙ sym (drop-nil (0 - most_latest));
}

-- a visitor with an index takes entries into it
pub all_taken : {V : Type 0} (takes : V → Entry → V → Type 0) (index_in : V → IndexOf) → ((old : V) (entry : Entry) (new : V) → takes old entry new → TakesEntry (index_in old) entry (index_in new))
    → (entries seen : Entries) (old new : V) → TakesAll takes entries old new → IsIndexOf seen (index_in old) → IsIndexOf (seen ++ entries) (index_in new)
all_taken takes index_in each [] seen old new taken is =
    subst (λ visitor. IsIndexOf (seen ++ []) (index_in visitor)) (sym taken) (subst (λ all. IsIndexOf all (index_in old)) (sym (append-nil seen)) is)
all_taken takes index_in each (entry ∷ entries) seen old new taken is =
    subst (λ all. IsIndexOf all (index_in new)) (append_assoc seen (entry ∷ []) entries)
    (all_taken takes index_in each entries (seen ++ entry ∷ []) taken.0 new taken.2 (each old entry taken.0 taken.1 seen is))

-- and into its check sum
all_summed : (entries : Entries) (old new : Checking) → TakesAll TakesChecked entries old new → new.sum ≡ fold with_entry old.sum entries
all_summed [] old new taken = ap (λ (checking : Checking). checking.sum) taken
all_summed (entry ∷ entries) old new taken =
    all_summed entries taken.0 new taken.2 ∙ ap (λ sum. fold with_entry sum entries) taken.1.sum

pub sum_of_all : (entries : Entries) (old new : Checking) → TakesAll TakesChecked entries old new → old.sum ≡ check_sum_of [] → new.sum ≡ check_sum_of entries
sum_of_all entries old new taken none = all_summed entries old new taken ∙ ap (λ sum. fold with_entry sum entries) none
