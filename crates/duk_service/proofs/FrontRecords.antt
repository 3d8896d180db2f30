-- The first record of a journal of version 1.
use Rattle.std.proofs.Common.{◌≡◌, ℕ, List, Option, Some, None, get_or, refl}
use Rattle.std.proofs.lemmas.Bool.{false≢true}
use Rattle.std.specs.Prelude.{IfSome, IsTrue}
use Rattle.std.specs.Option.{is_some}
use Rattle.duk_journal.specs.Groups.{HasContents}
use Rattle.duk_journal.specs.declared.record_format.Contents.{Contents}
use Rattle.duk_journal_copy.specs.declared.version.Version.TheVariants.{One}
use Rattle.duk_service.specs.LeftRecords.{IsFront}

-- an open one is such where it has contents
pub front_one : (first : List ℕ) (found : Option Contents) → get_or first 0 0 ≡ 1 → IfSome found (λ contents. HasContents contents.followers contents.entry first)
    → ((contents : Contents) → HasContents contents.followers contents.entry first → found ≡ Some contents)
    → (IsTrue (is_some found) → IsFront One first) × (IsFront One first → IsTrue (is_some found))
front_one first (Some contents) opened has every = ((λ is again. (contents.followers, contents.entry, has)), (λ front. refl))
front_one first None opened has every = (
  λ never. absurd (false≢true never),
  λ front.
      let it = front opened in
      let none : None ≡ Some (record { followers = it.0; entry = it.1 }) = every (record { followers = it.0; entry = it.1 }) it.2 in
      cc,
)
