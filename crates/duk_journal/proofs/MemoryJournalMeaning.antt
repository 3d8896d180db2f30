-- What the calls of a journal in memory do to its meaning.
use Rattle.std.proofs.Common.{◌≡◌, false, [], ℕ, ◌+◌, ◌<◌, ◌++◌, ◌∷◌, length, take, drop, get_or, inr, refl, subst, sym, ap, ◌∙◌, append_assoc}
use Rattle.std.proofs.lemmas.List.{take-append-drop, take_more}
use Rattle.duk_store.specs.Listed.{IsGroupAppended, IsItemRefused, ListRestartFailed, ListRestarted}
use Rattle.duk_store.specs.Visitor.{TakesAll}
use Rattle.duk_store.specs.declared.fault.StoreFault.{StoreFault}
use Rattle.duk_journal.specs.Groups.{Entries}
use Rattle.duk_journal.specs.MemoryJournal.{IsMemoryGroupAppended, MemoryJournal, memory_journal_meaning, memory_journal_state, restarted_journal}
use Rattle.duk_journal.specs.declared.entry.Entry.{Entry}
use Rattle.duk_journal.specs.inner.MemoryJournal.{IsEntryRefused}

-- one more is taken
pub takes_more : {V : Type 0} (takes : V → Entry → V → Type 0) (entries : Entries) (entry : Entry) (old mid new : V) → TakesAll takes entries old mid → takes mid entry new → TakesAll takes (entries ++ entry ∷ []) old new
takes_more takes [] entry old mid new taken last = (new, subst (λ visitor. takes visitor entry new) taken last, refl)
takes_more takes (e ∷ entries) entry old mid new taken last = (taken.0, taken.1, takes_more takes entries entry taken.0 mid new taken.2 last)

-- the entries before one, it, and those behind it
pub parted_at : (entries : Entries) (count : ℕ) (entry : Entry) → count < length entries → entry ≡ get_or entries count entry → entries ≡ take count entries ++ entry ∷ drop (count + 1) entries
parted_at entries count entry within is =
    sym (take-append-drop (count + 1) entries)
    ∙ ap (λ (front : Entries). front ++ drop (count + 1) entries) (take_more entries count entry within ∙ ap (λ (entry : Entry). take count entries ++ entry ∷ []) (sym is))
    ∙ append_assoc (take count entries) (entry ∷ []) (drop (count + 1) entries)

module _ {V : Type 0} (takes : V → Entry → V → Type 0) (journal : MemoryJournal) (visitor : V) where
  -- a restart finds what is kept
  pub restarted_in_memory : (visited : V) → TakesAll takes journal.entries visitor visited → ListRestarted memory_journal_meaning takes journal (restarted_journal journal) visitor visited (length journal.entries)
  restarted_in_memory visited taken = record {
    nature = record { honest = (λ h. h, λ h. h); sound = λ h sound. sound; calm = λ calm. calm };
    sound = λ h. h;
    no_failure = refl;
    runs = refl;
    taken = record {
      items = journal.entries;
      taken = taken;
      counted = refl;
      found = λ h. record { finds = λ other. (λ is. is, λ is. is); was_found = refl };
    };
  }

  module _ (refuses : V → Entry → StoreFault → Type 0) (why : StoreFault) (refused : IsEntryRefused takes refuses journal.entries visitor why) where
    pub refused_in_memory : IsItemRefused takes refuses (memory_journal_state journal) (memory_journal_state (record journal { running = false })) visitor why
    refused_in_memory = record {
      earlier = refused.earlier;
      item = refused.entry;
      visited = refused.visited;
      taken = refused.taken;
      refused = refused.refused;
      begins = λ h items finds. (refused.rest, finds ∙ refused.entries_are);
    }

    -- what is kept stays, where the visitor refuses an entry
    pub stopped_in_memory : ListRestartFailed memory_journal_meaning takes refuses journal (record journal { running = false }) visitor why
    stopped_in_memory = record {
      stops = record {
        nature = record { honest = (λ h. h, λ h. h); sound = λ h sound. sound; calm = λ calm. calm };
        quiet = λ calm. refl;
        stopped = refl;
        within = λ h value finds. finds;
        some = λ h sound. (journal.entries, refl);
      };
      cause = inr (refused_in_memory, refl);
    }

-- an append that is done appends
pub appended_in_memory : (old new : MemoryJournal) (group : Entries) → IsMemoryGroupAppended old new group → IsGroupAppended memory_journal_meaning old new group
appended_in_memory old new group done = record {
  was_running = done.runs;
  nature = record { honest = (λ h. h, λ h. h); sound = λ h sound. sound; calm = λ calm. calm };
  no_failure = refl;
  runs = ap (λ journal. journal.running) done.kept ∙ done.runs;
  finds = λ h entries only other.
      let list : new.entries ≡ entries ++ group = ap (λ journal. journal.entries) done.kept ∙ ap (λ earlier. earlier ++ group) ((only old.entries).0 refl) in
      (λ is. is ∙ list, λ is. is ∙ sym list);
}
