use Rattle.std.proofs.Common.{◌≡◌, ◌≢◌, ◌+◌, ◌*◌, ◌<◌, ◌^◌, ℕ, List, All, AllPairs, Contains, drop, take, refl, sym, subst, ◌∙◌, arith}
use Rattle.std.proofs.lemmas.Bool.{false≢true}
use Rattle.std.proofs.lemmas.List.Elements.{All-drop, All-from_get_or, All-take}
use Rattle.duk_regs.specs.Image.{counted_past_in, past_count_in, serial_in}
use Rattle.duk_regs.specs.inner.ImageParts.{IsPastPart}
use Rattle.duk_regs.proofs.PastWrittenAndRead.{AreWrittenAgain, past_bytes-counted_past_in, unused_zeros}
use Rattle.duk_regs.proofs.PiecesInARow.{part_length}
use Rattle.duk_regs.proofs.past_image.read_past.Goals as goal
use Rattle.duk_regs.proofs.past_image.read_past.Goals.{then-contains-via-then-contains, then-contains-via-else-contains+then-not-are_different}

part : (c : goal.Else-not-are_different) → IsPastPart c.args.image.now
part c =
    let image = c.args.image.now in
    let past = c.read_places-past.result in
    let is_past : past ≡ counted_past_in image = c.read_places-past.ensures.past in
    record {
      are_at_most_8 = c.if-count-gt-MOST_PAST.false;
      counter_bits_are_zero = c.if-not-have_no_counter.ensures.0 refl;
      are_different = subst (AllPairs (λ (one other : ℕ). one ≢ other)) (c.iksns.ensures.iksns ∙ is_past) (c.if-not-are_different.ensures.0 refl);
      iksn_is_not_past = λ found. absurd (false≢true (c.if-contains.ensures.1 (subst (Contains past) (sym c.requires.iksn) (subst (λ (list : List ℕ). Contains list (serial_in image).iksn) (sym is_past) found))));
      unused_are_zero = unused_zeros image (past_count_in image) c.requires.size c.if-count-gt-MOST_PAST.false (c.if-not-are_zeros.ensures.0 refl);
    }

pub returns-clause-found : goal.returns-clause-found
returns-clause-found c = (λ some. part c, λ is_part. refl)

pub returns-clause-written : goal.returns-clause-written
returns-clause-written c =
    let image = c.args.image.now in
    let fit : All (λ byte. byte < 2 ^ 8) image = All-from_get_or (λ byte. byte < 2 ^ 8) image 0 (λ i within. omega (arith, c.type_inv.image i)) in
    let again : AreWrittenAgain image = λ place within. c.serials.ensures.written (take 10 (drop (351 + 10 * place) image)) (part_length image (351 + 10 * place) 10 (omega (arith, c.requires.size))) (All-take (λ byte. byte < 2 ^ 8) 10 (drop (351 + 10 * place) image) (All-drop (λ byte. byte < 2 ^ 8) (351 + 10 * place) image fit)) in
    rw c.read_places-past.ensures.past (past_bytes-counted_past_in image c.requires.size again (part c))

pub returns-then-contains-clause-found : goal.returns-then-contains-clause-found
returns-then-contains-clause-found c =
    let image = c.args.image.now in
    let past = c.read_places-past.result in
    let is_past : past ≡ counted_past_in image = c.read_places-past.ensures.past in (
      λ never. absurd (cc),
      λ is_part. elim c.then-contains.branch [
        | then-contains-via-then-contains w ↦ absurd (is_part.iksn_is_not_past (subst (λ (list : List ℕ). Contains list (serial_in image).iksn) is_past (subst (Contains past) c.requires.iksn (w.if-contains.ensures.0 refl))))
        | then-contains-via-else-contains+then-not-are_different w ↦ w.if-not-are_different.ensures.1 (subst (AllPairs (λ (one other : ℕ). one ≢ other)) (sym (w.iksns.ensures.iksns ∙ is_past)) is_part.are_different)
      ],
    )
