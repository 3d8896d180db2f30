use Rattle.std.proofs.Common.{◌+◌, ◌≡◌, ◌++◌, ◌∷◌, [], ◌∙◌, List, ap, append_assoc, flat_map, subst, sym, take}
use Rattle.std.proofs.lemmas.List.{append-nil, take_more}
use Rattle.duk_journal.specs.Groups.{Entries}
use Rattle.duk_journal_host.specs.Steps.{added_by}
use Rattle.duk_journal_host.specs.declared.candidate.Candidate.{Candidate}
use Rattle.duk_journal_host.specs.declared.settlement.Settled.{Settled}
use Rattle.duk_hosts.specs.Book.{AreSettledInTurn, IsSettledIn, NoBound}
use Rattle.duk_hosts.proofs.Members.{flat_end}
use Rattle.duk_hosts.proofs.book.settle_in_turn.Invariants.{AreSettledSoFar}
use Rattle.duk_hosts.proofs.book.settle_in_turn.Goals as goal

-- one candidate more is settled behind the others
settled_more : (before : Entries) (candidates : List Candidate) (done : List Settled) (candidate : Candidate) (it : Settled) → AreSettledInTurn NoBound before candidates done
    → IsSettledIn NoBound (before ++ flat_map added_by done) candidate it → AreSettledInTurn NoBound before (candidates ++ candidate ∷ []) (done ++ it ∷ [])
settled_more before [] [] candidate it settled is = (subst (λ (entries : Entries). IsSettledIn NoBound entries candidate it) (append-nil before) is, tt)
settled_more before [] (first ∷ done) candidate it settled is = absurd settled
settled_more before (other ∷ candidates) [] candidate it settled is = absurd settled
settled_more before (other ∷ candidates) (first ∷ done) candidate it settled is = (
  settled.0,
  settled_more (before ++ added_by first) candidates done candidate it settled.1
      (subst (λ (entries : Entries). IsSettledIn NoBound entries candidate it) (sym (append_assoc before (added_by first) (flat_map added_by done))) is),
)

so_far : (before now after : Entries) (group : List Candidate) (candidates : List Candidate) (done all : List Settled) (candidate : Candidate) (it : Settled) → AreSettledSoFar before candidates done now → IsSettledIn NoBound now candidate it
    → after ≡ now ++ added_by it → all ≡ done ++ it ∷ [] → group ≡ candidates ++ candidate ∷ [] → AreSettledSoFar before group all after
so_far before now after group candidates done all candidate it so is kept pushed more =
    let settled = settled_more before candidates done candidate it so.settled (subst (λ (entries : Entries). IsSettledIn NoBound entries candidate it) so.kept is) in
    let added : after ≡ before ++ flat_map added_by (done ++ it ∷ []) =
    kept ∙ ap (λ (entries : Entries). entries ++ added_by it) so.kept ∙ append_assoc before (flat_map added_by done) (added_by it) ∙ ap (λ (entries : Entries). before ++ entries) (sym (flat_end added_by done it)) in
    rw (more, pushed) (record { settled = settled; kept = added })

pub loop-candidate-preserved : goal.loop-candidate-preserved
loop-candidate-preserved c =
    let group = c.args.group.now in
    let index = c.loop-candidate.candidate-index in
    let candidate = c.candidate-item.result in
    so_far c.args.entries.now.items c.loop-candidate.entries.items c.keep.new.entries.items (take (index + 1) group) (take index group) c.loop-candidate.settled.items c.push.new.self.items candidate c.settle_one-done.result
    c.loop-candidate.invariant
    (subst (λ (entries : Entries). IsSettledIn NoBound entries candidate c.settle_one-done.result) c.as_slice.ensures.value c.settle_one-done.ensures)
    c.in_ok-keep.ensures.kept
    c.in_ok-push.ensures.items
    (take_more group index candidate c.loop-candidate-test.true ∙ ap (λ (it : Candidate). take index group ++ it ∷ []) (sym c.candidate-item.is))
