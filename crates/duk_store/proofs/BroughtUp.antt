-- A disk that is brought up by three steps: opened, tested for its header, and read.
use Rattle.std.proofs.Common.{◌≡◌, ◌⊎◌, inl, inr, ℕ, ◌+◌, ◌*◌, ◌<◌, ◌≤◌, ◌^◌, List, [], refl, sym, ◌∙◌, subst}
use Rattle.duk_store.specs.Disk.{DiskState, HasFailed, LeavesWithin, PreservesBytes}
use Rattle.duk_store.specs.declared.fault.StoreFault.{StoreFault}
use Rattle.duk_store.specs.Format.{FormatMeaning}
use Rattle.duk_store.specs.Records.{AreListed, HasHeader, IsRecordsSize}
use Rattle.duk_store.specs.inner.Reading.{IsUnreadable}
use Rattle.duk_store.specs.inner.RecordSteps.{AreAllRead, AreRecordsUp, HeaderFailed, IsDeviceOrDamage, IsDiskOpen, IsReadFrom, IsUpFault, OpenFailed, RecordsUnread, RecordsUpFailed, StaysSame}
use Rattle.duk_store.specs.declared.reading.Reading.TheVariants.{Groups}
use Rattle.duk_store.proofs.RecordsRead.{nothing_read}
use Rattle.duk_store.proofs.StepsInTurn.{bytes_on, fails_later, keeps_on}

module _ {I V : Type 0} (format : FormatMeaning I) (takes : V → I → V → Type 0) (refuses : V → I → StoreFault → Type 0) (visitor : V) (old one : DiskState) where
  pub not_opened : (why : StoreFault) → OpenFailed format old one why → RecordsUpFailed format takes refuses old one visitor why
  not_opened why failed = record { nature = failed.nature; disarmed = failed.disarmed; within = failed.within; cause = cause failed.cause }
    where
      cause : IsDeviceOrDamage (¬ IsRecordsSize format old.size) old one why → IsUpFault format takes refuses old one visitor why
      cause (inl device) = inl (inl device)
      cause (inr damage) = inl (inr (damage.0, (damage.1.0, λ h. inl damage.1.1)))

  module _ (opened : IsDiskOpen format old one) where
    -- what is left of the open disk could be left before
    open_within : (new : DiskState) → PreservesBytes one new → LeavesWithin old new
    open_within new same h bytes left = subst (λ (l : List ℕ). old.may_leave l) (sym ((opened.leaves h bytes).0 ((same.may_leave bytes).0 left))) (opened.found h)

    pub no_header : (two : DiskState) (why : StoreFault) → HeaderFailed format one two why → RecordsUpFailed format takes refuses old two visitor why
    no_header two why failed = record {
      nature = keeps_on old one two opened.nature failed.nature;
      disarmed = failed.nature.disarmed opened.disarmed;
      within = open_within two failed.bytes;
      cause = cause failed.cause;
    }
      where
        cause : IsDeviceOrDamage (one.honest → ¬ HasHeader format one.reads) one two why → IsUpFault format takes refuses old two visitor why
        cause (inl device) = inl (inl (fails_later old one two why opened.nature opened.no_failure device))
        cause (inr damage) = inl (inr (
          damage.0,
          (damage.1.0 ∙ opened.no_failure, λ h. inr (one.reads, opened.found h, λ items keeps. damage.1.1 (opened.nature.honest.0 h) keeps.header)),
        ))

    module _ (two new : DiskState) (same : StaysSame one two) where
      could_stay : old.honest → old.may_leave two.reads
      could_stay h = subst (λ (l : List ℕ). old.may_leave l) (sym same.bytes.reads) (opened.found h)

      still_honest : old.honest → two.honest
      still_honest h = same.nature.honest.0 (opened.nature.honest.0 h)

      pub not_visited : (why : StoreFault) → RecordsUnread format takes refuses format.headers (Groups 0 0) two new visitor why → RecordsUpFailed format takes refuses old new visitor why
      not_visited why failed = record {
        nature = keeps_on old two new (keeps_on old one two opened.nature same.nature) failed.nature;
        disarmed = failed.nature.disarmed (same.nature.disarmed opened.disarmed);
        within = open_within new (bytes_on one two new same.bytes failed.bytes);
        cause = cause failed.cause;
      }
        where
          -- nothing but what was read is left
          only_reads : old.honest → (bytes : List ℕ) → new.may_leave bytes → bytes ≡ two.reads
          only_reads h bytes left = (opened.leaves h bytes).0 (((bytes_on one two new same.bytes failed.bytes).may_leave bytes).0 left) ∙ sym same.bytes.reads

          wrong : IsUnreadable format takes refuses (Groups 0 0) (IsReadFrom two format.headers) visitor why → new.failures ≡ old.failures → IsUpFault format takes refuses old new visitor why
          wrong (inl none) quiet = inl (inr (
            none.0,
            (quiet, λ h. inr (two.reads, could_stay h, λ items keeps. none.1 [] format.headers two.reads (still_honest h, (refl, refl)) (nothing_read format two.reads) items keeps.listed)),
          ))
          wrong (inr refused) quiet = inr (
            quiet,
            record {
              earlier = refused.items;
              item = refused.item;
              visited = refused.visited;
              taken = refused.taken;
              refused = refused.refused;
              begins = λ h bytes left items keeps.
                  let reads : bytes ≡ two.reads = only_reads h bytes left in
                  refused.begins [] format.headers two.reads (still_honest h, (refl, refl)) (nothing_read format two.reads) items
                  (subst (λ (l : List ℕ). AreListed format items l) reads keeps.listed);
            },
          )

          cause : HasFailed two new why ⊎ ((new.failures ≡ two.failures) × IsUnreadable format takes refuses (Groups 0 0) (IsReadFrom two format.headers) visitor why) → IsUpFault format takes refuses old new visitor why
          cause (inl device) = inl (inl (fails_later old two new why (keeps_on old one two opened.nature same.nature) (same.no_failure ∙ opened.no_failure) device))
          cause (inr unread) = wrong unread.1 (unread.0 ∙ same.no_failure ∙ opened.no_failure)

      pub brought_up : (visited : V) (count : ℕ) → (one.honest → HasHeader format one.reads) → AreAllRead format takes two new visitor visited count → AreRecordsUp format takes old new visitor visited count
      brought_up visited count header all =
          let bytes = bytes_on one two new same.bytes all.stays.bytes in
          record {
            nature = keeps_on old two new (keeps_on old one two opened.nature same.nature) all.stays.nature;
            no_failure = all.stays.no_failure ∙ same.no_failure ∙ opened.no_failure;
            disarmed = all.stays.nature.disarmed (same.nature.disarmed opened.disarmed);
            size = subst (λ (n : ℕ). IsRecordsSize format n) (sym (all.stays.nature.size ∙ same.nature.size)) opened.size;
            size_fits = subst (λ (n : ℕ). n < 2 ^ 64) (sym (all.stays.nature.size ∙ same.nature.size)) opened.size_fits;
            fits = subst (λ (n : ℕ). format.record_length * (format.headers + count) ≤ n) (sym all.stays.nature.size) all.fits;
            leaves = λ h left. (
              (λ could. (opened.leaves h left).0 ((bytes.may_leave left).0 could) ∙ sym bytes.reads),
              (λ is. (bytes.may_leave left).1 ((opened.leaves h left).1 (is ∙ bytes.reads))),
            );
            found = λ h. subst (λ (l : List ℕ). old.may_leave l) (sym bytes.reads) (opened.found h);
            items = all.items;
            taken = all.taken;
            counted = all.counted;
            keeps = λ h. record {
              header = subst (λ (l : List ℕ). HasHeader format l) (sym bytes.reads) (header (opened.nature.honest.0 h));
              listed = subst (λ (l : List ℕ). AreListed format all.items l) (sym all.stays.bytes.reads) (all.listed (still_honest h));
            };
          }
