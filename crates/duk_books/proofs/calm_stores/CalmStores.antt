-- Sound stores report no damage, and a calm store reports no failed device step before it is armed.
use Rattle.std.proofs.Common.{◌≡◌, ◌≢◌, ◌⊎◌, List, inl, inr, refl, ap}
use Rattle.std.specs.List.{All}
use Rattle.std.proofs.lemmas.Bool.Decides.{eqb_tells}
use Rattle.std.proofs.lemmas.List.Elements.{All-nil, All-push}
use Rattle.duk_host.specs.declared.fault.HostFault.TheVariants as host_fault
use Rattle.duk_store.specs.declared.fault.StoreFault.TheVariants.{Device}
use Rattle.duk_books.specs.Books.{BooksOf, Meanings}
use Rattle.duk_books.specs.Calm.{FailsOnceArmed, HasSoundStores, IsCalmAt, ReportsArming, ReportsFault, ReportsNoDamage, StaysCalm}
use Rattle.duk_books.specs.CallLeads.{CallLeads}
use Rattle.duk_books.specs.Reached.{IsLeft, Reached}
use Rattle.duk_books.specs.Step.{Step}
use Rattle.duk_books.specs.declared.event.End.{End}
use Rattle.duk_books.specs.declared.event.End.TheVariants as ends
use Rattle.duk_books.specs.declared.event.Event.{Event}
use Rattle.duk_books.specs.declared.outcome.Outcome.{Outcome}
use Rattle.duk_books.specs.declared.outcome.Outcome.TheVariants as came
use Rattle.duk_stations.proofs.Calm.{CalmSince, calm_first, calm_left, calm_more}
use Rattle.duk_books.proofs.calm_stores.CalmSteps.{StepFacts, left_facts, step_facts}
use Rattle.duk_books.proofs.calm_stores.KnownStores.{StoreLaws, reached_stores}
use Rattle.duk_books.proofs.moves.CallsLead.{leads_all}

-- whether an end is this one
same_end : (one other : End) → (one ≡ other) ⊎ (one ≢ other)
same_end ends.Host ends.Host = inl refl
same_end (ends.Terminal t) (ends.Terminal u) = elim (eqb_tells t u) [
  | inl same ↦ inl (ap ends.Terminal same.1)
  | inr apart ↦ inr (λ same. apart.1 cc)
]
same_end (ends.Book t) (ends.Book u) = elim (eqb_tells t u) [
  | inl same ↦ inl (ap ends.Book same.1)
  | inr apart ↦ inr (λ same. apart.1 cc)
]
same_end _ _ = inr (λ same. cc)

-- whether an outcome says that the store of an end was armed
reports_arming : (end : End) (outcome : Outcome) → ReportsArming end outcome ⊎ ¬ ReportsArming end outcome
reports_arming end (came.Armed armed steps) = same_end armed end
reports_arming end _ = inr (λ reports. reports)

module _ {C B J I : Type 0} (m : Meanings C B J I) (laws : StoreLaws m) where
  -- what a step does, from what is reached
  pub reached_facts : (old : BooksOf C B J I) (event : Event) (outcome : Outcome) (new : BooksOf C B J I) → Reached m old → Step m old event outcome new → StepFacts m old outcome new
  reached_facts old event outcome new reached step = step_facts m old new (reached_stores m laws old reached) event outcome step

  reached_left : (old new : BooksOf C B J I) → Reached m old → IsLeft m old new → StepFacts m old (came.HostFaulted host_fault.NoMemory) new
  reached_left old new reached left = left_facts m old new (reached_stores m laws old reached) left

  -- sound stores stay so in a call, and report no damage
  pub leads_sound : (old new : BooksOf C B J I) (outcomes : List Outcome) → Reached m old → HasSoundStores m old → CallLeads m old outcomes new → HasSoundStores m new × All ReportsNoDamage outcomes
  leads_sound old new outcomes reached sound leads =
      leads_all m (λ outcomes books. HasSoundStores m books × All ReportsNoDamage outcomes)
      (λ outcomes before after event outcome reached since step.
      let facts = reached_facts before event outcome after reached step in
      (facts.sound since.0, All-push ReportsNoDamage outcomes outcome since.1 (facts.damaged since.0)))
      (λ outcomes before after reached since left. ((reached_left before after reached left).sound since.0, since.1))
      old new outcomes reached (sound, All-nil ReportsNoDamage) leads

  -- a calm store stays so in a call until it is armed, and no device step of it fails before
  pub leads_calm : (end : End) (old new : BooksOf C B J I) (outcomes : List Outcome) → Reached m old → IsCalmAt m old end → CallLeads m old outcomes new → StaysCalm m end new outcomes × FailsOnceArmed end outcomes
  leads_calm end old new outcomes reached calm leads =
      let fails = λ (outcome : Outcome). ReportsFault outcome end Device in
      leads_all m (λ outcomes books. CalmSince (ReportsArming end) fails (IsCalmAt m books end) outcomes)
      (λ outcomes before after event outcome reached since step.
      let facts = reached_facts before event outcome after reached step in
      calm_more (ReportsArming end) fails (IsCalmAt m before end) (IsCalmAt m after end) outcomes outcome (reports_arming end outcome) (facts.device end) (facts.calm end) since)
      (λ outcomes before after reached since left. calm_left (ReportsArming end) fails (IsCalmAt m before end) (IsCalmAt m after end) outcomes (λ still. (reached_left before after reached left).calm end still (λ reports. reports)) since)
      old new outcomes reached (calm_first (ReportsArming end) fails (IsCalmAt m old end) calm) leads
