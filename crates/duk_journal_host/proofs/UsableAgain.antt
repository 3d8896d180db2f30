-- A service leaves a usable journal usable, however it ends.
use Rattle.std.proofs.Common.{inl, inr, refl, ℕ, List, ◌++◌, sym, subst}
use Rattle.duk_host.specs.declared.fault.HostFault.{HostFault}
use Rattle.duk_host.specs.declared.fault.HostFault.TheVariants as fault
use Rattle.duk_hsm.specs.Keys.{HsmKeys}
use Rattle.duk_journal.specs.Groups.{Entries}
use Rattle.duk_journal.specs.Journal.{JournalMeaning}
use Rattle.duk_journal.specs.Standing.{UseNewNumbers}
use Rattle.duk_store.specs.Listed.{GroupAppendFailed}
use Rattle.duk_store.specs.StoreState.{PreservesNature, StoreState}
use Rattle.duk_store.specs.declared.fault.StoreFault.{StoreFault}
use Rattle.duk_store.specs.declared.fault.StoreFault.TheVariants as store
use Rattle.duk_journal_host.specs.Host.{HostMeaning, HostOf}
use Rattle.duk_journal_host.specs.Judged.{AreJudged}
use Rattle.duk_journal_host.specs.Judgement.{LineBasis}
use Rattle.duk_journal_host.specs.Lifetime.{IsService, IsServiceBroughtUp}
use Rattle.duk_journal_host.specs.Restart.{HostRestartRefused, IsUsableJournal}
use Rattle.duk_journal_host.proofs.LifetimeOfServices.{IsKeptUp, left_by_service}

-- frames add no entry whose number was used
abbrev pub AddsNewNumbers : Type 0
AddsNewNumbers = (basis : LineBasis) (frames answers : List (List ℕ)) (added : Entries) → AreJudged basis frames answers added → UseNewNumbers basis.entries → UseNewNumbers (basis.entries ++ added)

pub new_kept_up : (keys : HsmKeys) → AddsNewNumbers → IsKeptUp keys (λ answers entries. UseNewNumbers entries) (λ answers. Unit {0})
new_kept_up keys law = record {
  judged = λ basis before frames answers added keys_are judged new. law basis frames answers added judged new;
  fewer = λ before answers entries new. new;
  alike = λ answers entries new also. tt;
  none = tt;
}

-- a journal keeps to its model, and is sound
record IsWell (journal : StoreState Entries) : Type 0 where
  honest : journal.honest
  sound : journal.sound

stays_well : (old new : StoreState Entries) → PreservesNature old new → IsWell old → IsWell new
stays_well old new nature well = record { honest = nature.honest.0 well.honest; sound = nature.sound well.honest well.sound }

well_not_kept : {J : Type 0} (meaning : JournalMeaning J) (old new : J) (group : Entries) (why : StoreFault) → IsWell (meaning.state_of old) → GroupAppendFailed meaning old new group why → IsWell (meaning.state_of new)
well_not_kept meaning old new group store.Device well failed = stays_well (meaning.state_of old) (meaning.state_of new) failed.stops.nature well
well_not_kept meaning old new group store.Stopped well failed = stays_well (meaning.state_of old) (meaning.state_of new) failed.stays.nature well
well_not_kept meaning old new group store.Damaged well failed = absurd failed
well_not_kept meaning old new group store.Worn well failed = absurd failed
well_not_kept meaning old new group store.NoMemory well failed = absurd failed

module _ {J I : Type 0} (meaning : HostMeaning J I) where
  abbrev state_of : HostOf J I → StoreState Entries
  state_of host = meaning.journal.state_of host.journal

  well_refused : (made last : HostOf J I) (why : HostFault) → IsWell (state_of made) → HostRestartRefused meaning.journal made last why → IsWell (state_of last)
  well_refused made last (fault.Store why) well refused = elim refused.cause [
    | inl failed ↦ stays_well (state_of made) (state_of last) failed.stops.nature well
    | inr bad ↦ stays_well (state_of made) (state_of last) bad.1.journal.stops.nature well
  ]
  well_refused made last fault.NoMemory well refused = stays_well (state_of made) (state_of last) refused.journal.stops.nature well
  well_refused made last fault.Stopped well refused = absurd refused
  well_refused made last fault.Read well refused = absurd refused
  well_refused made last fault.Write well refused = absurd refused
  well_refused made last fault.Truncated well refused = absurd refused
  well_refused made last fault.TooLong well refused = absurd refused

  well_brought_up : (made last : HostOf J I) (answers : List (List ℕ)) → IsWell (state_of made) → IsServiceBroughtUp meaning made answers last → IsWell (state_of last)
  well_brought_up made last answers well run =
      let up = stays_well (state_of made) (state_of run.up) run.restarted.journal.settles.nature well in
      let mid = stays_well (state_of run.up) (state_of run.mid) run.answered.nature up in
      elim run.ends [
        | inl is ↦ subst (λ host. IsWell (state_of host)) (sym is) mid
        | inr stopped ↦ elim stopped [
          | inl is ↦ subst (λ host. IsWell (state_of host)) (sym is) mid
          | inr failed ↦
              let judges = (run.answered.answered run.restarted.entries run.restarted.judges).2 in
              let not_kept = failed.2.not_kept (run.restarted.entries ++ (run.answered.answered run.restarted.entries run.restarted.judges).0) judges in
              well_not_kept meaning.journal run.mid.journal last.journal not_kept.2 failed.1 mid not_kept.4
        ]
      ]

  well_after : (made last : HostOf J I) (answers : List (List ℕ)) → IsWell (state_of made) → IsService meaning made answers last → IsWell (state_of last)
  well_after made last answers well (inl refused) = well_refused made last refused.why well refused.refused
  well_after made last answers well (inr up) = well_brought_up made last answers well up

  pub usable_again : AddsNewNumbers → (made last : HostOf J I) (answers : List (List ℕ)) → IsUsableJournal (state_of made) → IsService meaning made answers last → IsUsableJournal (state_of last)
  usable_again law made last answers usable run =
      let well = well_after made last answers (record { honest = usable.honest; sound = usable.sound }) run in
      record {
        honest = well.honest;
        sound = well.sound;
        usable = left_by_service meaning made.keys (λ answers entries. UseNewNumbers entries) (λ answers. Unit {0}) (new_kept_up made.keys law) made last answers refl usable.honest usable.usable run;
      }
