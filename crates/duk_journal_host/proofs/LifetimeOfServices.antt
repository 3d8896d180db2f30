-- What services over one journal answer, all together: what holds of answers and of each list that
-- may be left, whatever frames come, holds of all of them.
use Rattle.std.proofs.Common.{◌≡◌, inl, inr, ℕ, List, [], ◌∷◌, ◌++◌, sym, ◌∙◌, ap, subst, take, append_assoc}
use Rattle.std.proofs.lemmas.List.{append-nil}
use Rattle.duk_host.specs.declared.fault.HostFault.{HostFault}
use Rattle.duk_host.specs.declared.fault.HostFault.TheVariants as fault
use Rattle.duk_hsm.specs.Keys.{HsmKeys}
use Rattle.duk_journal.specs.Groups.{Entries}
use Rattle.duk_journal.specs.Standing.{UseNewNumbers}
use Rattle.duk_store.specs.Listed.{GroupAppendFailed}
use Rattle.duk_store.specs.declared.fault.StoreFault.{StoreFault}
use Rattle.duk_store.specs.declared.fault.StoreFault.TheVariants as store
use Rattle.duk_journal_host.specs.Host.{HostMeaning, HostOf, JudgesBy, basis_of}
use Rattle.duk_journal_host.specs.Judged.{AreJudged}
use Rattle.duk_journal_host.specs.Judgement.{LineBasis}
use Rattle.duk_journal_host.specs.Lifetime.{EndsAt, IsLifetime, IsMadeOver, IsService, IsServiceBroughtUp, all_answers}
use Rattle.duk_journal_host.specs.Restart.{HostRestartRefused}

-- what holds of all answers so far and of each list that may be left
pub record IsKeptUp (keys : HsmKeys) (Holds : List (List ℕ) → Entries → Type 0) (Alike : List (List ℕ) → Type 0) : Type 0 where
  -- frames that come leave it so, with their answers
  pub judged : (basis : LineBasis) (before frames answers : List (List ℕ)) (added : Entries) → basis.keys ≡ keys → AreJudged basis frames answers added → Holds before basis.entries
      → Holds (before ++ answers) (basis.entries ++ added)
  -- it holds of fewer answers
  pub fewer : (before answers : List (List ℕ)) (entries : Entries) → Holds (before ++ answers) entries → Holds before entries
  -- and where each entry uses a new number, this follows of the answers alone
  pub alike : (answers : List (List ℕ)) (entries : Entries) → UseNewNumbers entries → Holds answers entries → Alike answers
  pub none : Alike []

module _ {J I : Type 0} (meaning : HostMeaning J I) (keys : HsmKeys) (Holds : List (List ℕ) → Entries → Type 0) (Alike : List (List ℕ) → Type 0) (laws : IsKeptUp keys Holds Alike) where
  abbrev found_of : HostOf J I → Entries → Type 0
  found_of host = (meaning.journal.state_of host.journal).found

  abbrev IsHonest : HostOf J I → Type 0
  IsHonest host = (meaning.journal.state_of host.journal).honest

  abbrev pub LeavesAll : List (List ℕ) → (Entries → Type 0) → Type 0
  LeavesAll answers left = (entries : Entries) → left entries → Holds answers entries

  -- what an append that failed leaves, where with the group it holds too
  left_by_append : (answers : List (List ℕ)) (mid last : HostOf J I) (group : Entries) (why : StoreFault) → IsHonest mid → LeavesAll answers (found_of mid)
      → ((entries : Entries) → found_of mid entries → Holds answers (entries ++ group)) → GroupAppendFailed meaning.journal mid.journal last.journal group why → LeavesAll answers (found_of last)
  left_by_append answers mid last group store.Device h leaves more failed entries found = elim (failed.stops.within h entries found) [
    | inl old ↦ leaves entries old
    | inr all ↦ subst (λ entries. Holds answers entries) (sym all.2) (more all.0 all.1)
  ]
  left_by_append answers mid last group store.Stopped h leaves more failed entries found = leaves entries ((failed.stays.found h entries).0 found)
  left_by_append answers mid last group store.Damaged h leaves more failed entries found = absurd failed
  left_by_append answers mid last group store.Worn h leaves more failed entries found = absurd failed
  left_by_append answers mid last group store.NoMemory h leaves more failed entries found = absurd failed

  -- what a restart that is refused leaves
  left_by_refusal : (answers : List (List ℕ)) (made last : HostOf J I) (why : HostFault) → IsHonest made → LeavesAll answers (found_of made) → HostRestartRefused meaning.journal made last why → LeavesAll answers (found_of last)
  left_by_refusal answers made last (fault.Store why) h leaves refused = elim refused.cause [
    | inl failed ↦ λ entries found. leaves entries (failed.stops.within h entries found)
    | inr bad ↦ λ entries found. leaves entries (bad.1.journal.stops.within h entries found)
  ]
  left_by_refusal answers made last fault.NoMemory h leaves refused = λ entries found. leaves entries (refused.journal.stops.within h entries found)
  left_by_refusal answers made last fault.Stopped h leaves refused = absurd refused
  left_by_refusal answers made last fault.Read h leaves refused = absurd refused
  left_by_refusal answers made last fault.Write h leaves refused = absurd refused
  left_by_refusal answers made last fault.Truncated h leaves refused = absurd refused
  left_by_refusal answers made last fault.TooLong h leaves refused = absurd refused

  -- all of it, of the answers so far and the lists that may be left
  record IsSound (answers : List (List ℕ)) (left : Entries → Type 0) : Type 0 where
    alike : Alike answers
    leaves : LeavesAll answers left

  -- how a service leaves its journal after the frames that it answered
  left_at_end : (answers : List (List ℕ)) (mid last : HostOf J I) (entries : Entries) → IsHonest mid → mid.keys ≡ keys → JudgesBy meaning mid entries → Holds answers entries → EndsAt meaning mid last
      → LeavesAll answers (found_of last)
  left_at_end answers mid last entries h keys_are judges holds ends =
      let only : LeavesAll answers (found_of mid) = λ list found. subst (λ list. Holds answers list) (sym ((judges.kept.finds h list).0 found)) holds in
      elim ends [
        | inl is ↦ subst (λ host. LeavesAll answers (found_of host)) (sym is) only
        | inr stopped ↦ elim stopped [
          | inl is ↦ subst (λ host. LeavesAll answers (found_of host)) (sym is) only
          | inr failed ↦
              let not_kept = failed.2.not_kept entries judges in
              let basis = basis_of meaning mid entries in
              let more : (list : Entries) → found_of mid list → Holds answers (list ++ not_kept.2) = λ list found.
              subst (λ list. Holds answers (list ++ not_kept.2)) (sym ((judges.kept.finds h list).0 found))
              (laws.fewer answers not_kept.1 (entries ++ not_kept.2) (laws.judged basis answers (take not_kept.0 failed.0) not_kept.1 not_kept.2 keys_are not_kept.3 holds)) in
              left_by_append answers mid last not_kept.2 failed.1 h only more not_kept.4
        ]
      ]

  -- one service that was brought up
  run_up : (before : List (List ℕ)) (left : Entries → Type 0) (made last : HostOf J I) (answers : List (List ℕ)) → IsSound before left → IsMadeOver meaning keys left made → IsServiceBroughtUp meaning made answers last → IsSound (before ++ answers) (found_of last)
  run_up before left made last answers sound is_made run =
      let h = is_made.honest in
      let entries = run.restarted.entries in
      let earlier : Holds before entries = sound.leaves entries (is_made.within entries (run.restarted.journal.was_found h)) in
      let mid_honest = run.answered.nature.honest.0 (run.restarted.journal.settles.nature.honest.0 h) in
      let answered = run.answered.answered entries run.restarted.judges in
      let added = answered.0 in
      let keys_are : run.up.keys ≡ keys = run.restarted.ends.keys ∙ is_made.keys_are in
      let all : Holds (before ++ answers) (entries ++ added) = laws.judged (basis_of meaning run.up entries) before run.frames answers added keys_are answered.1 earlier in
      record {
        alike = laws.alike (before ++ answers) (entries ++ added) answered.2.index_is.sets.new_numbers all;
        leaves = left_at_end (before ++ answers) run.mid last (entries ++ added) mid_honest (run.answered.ends.keys ∙ keys_are) answered.2 all run.ends;
      }

  run_of : (before : List (List ℕ)) (left : Entries → Type 0) (made last : HostOf J I) (answers : List (List ℕ)) → IsSound before left → IsMadeOver meaning keys left made → IsService meaning made answers last → IsSound (before ++ answers) (found_of last)
  run_of before left made last answers sound is_made (inl refused) =
      let none : before ≡ before ++ answers = sym (ap (λ (l : List (List ℕ)). before ++ l) refused.no_answers ∙ append-nil before) in
      subst (λ all. IsSound all (found_of last)) none (record {
        alike = sound.alike;
        leaves = left_by_refusal before made last refused.why is_made.honest (λ entries found. sound.leaves entries (is_made.within entries found)) refused.refused;
      })
  run_of before left made last answers sound is_made (inr up) = run_up before left made last answers sound is_made up

  -- what one service leaves, of a host over a journal of which this held
  pub left_by_service : (made last : HostOf J I) (answers : List (List ℕ)) → made.keys ≡ keys → IsHonest made → LeavesAll [] (found_of made) → IsService meaning made answers last → LeavesAll answers (found_of last)
  left_by_service made last answers keys_are honest leaves run =
      (run_of [] (found_of made) made last answers (record { alike = laws.none; leaves = leaves }) (record { keys_are = keys_are; honest = honest; within = λ entries found. found }) run).leaves

  -- all of them
  runs_of : (before : List (List ℕ)) (left after : Entries → Type 0) (runs : List (List (List ℕ))) → IsSound before left → IsLifetime meaning keys left runs after → IsSound (before ++ all_answers runs) after
  runs_of before left after [] sound life =
      subst (λ all. IsSound all after) (sym (append-nil before)) (record { alike = sound.alike; leaves = λ entries found. sound.leaves entries (life entries found) })
  runs_of before left after (answers ∷ later) sound (made, last, is_made, run, rest) =
      subst (λ all. IsSound all after) (append_assoc before answers (all_answers later))
      (runs_of (before ++ answers) (found_of last) after later (run_of before left made last answers sound is_made run) rest)

  pub alike_in_lifetime : (left after : Entries → Type 0) (runs : List (List (List ℕ))) → LeavesAll [] left → IsLifetime meaning keys left runs after → Alike (all_answers runs)
  alike_in_lifetime left after runs begins life = (runs_of [] left after runs (record { alike = laws.none; leaves = begins }) life).alike

  pub kept_in_lifetime : (left after : Entries → Type 0) (runs : List (List (List ℕ))) → LeavesAll [] left → IsLifetime meaning keys left runs after → LeavesAll (all_answers runs) after
  kept_in_lifetime left after runs begins life = (runs_of [] left after runs (record { alike = laws.none; leaves = begins }) life).leaves
