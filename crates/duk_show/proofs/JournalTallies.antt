-- The terminals of a journal's entries, as an index finds them.
use Rattle.std.proofs.Common.{◌≡◌, ◌≤◌, ◌<◌, ◌+◌, ◌∷◌, ◌++◌, [], ◌||◌, inl, inr, ℕ, suc, Bool, true, false, true≢false, cond, if◌then◌else◌, List, Option, None, Some, IfSome, is_some, length, flat_map, take, drop, get_or, add-one, drop-cons, refl, ap, sym, subst, ◌∙◌, append_assoc, length-append, nat_eq, arith}
use Rattle.std.proofs.lemmas.Bool.Decides.{eqb_tells}
use Rattle.std.proofs.lemmas.Bool.{eq-eqb}
use Rattle.std.proofs.lemmas.List.{append-nil, drop_all, take-append-drop, take_more}
use Rattle.std.proofs.lemmas.List.Folds.{list_any-append}
use Rattle.std.proofs.lemmas.List.Sums.{sum_by-cons}
use Rattle.std.proofs.lemmas.Map.Keys.{IsDistinct-head, IsDistinct-tail}
use Rattle.std.specs.List.{AllByRecursion, IsDistinct, count_by, filter, list_any, sum_by}
use Rattle.std.specs.Map.{keys_of, lookup, values_of}
use Rattle.indexmap.specs.IndexMap.{insert_entry}
use Rattle.duk_journal.specs.Groups.{Entries}
use Rattle.duk_journal.specs.Standing.{is_by, is_payment, is_undone, standing_amount}
use Rattle.duk_journal.specs.declared.entry.Entry.{Entry}
use Rattle.duk_tree.specs.Serial.{Serial}
use Rattle.duk_show.specs.Journal.{numbers_of, payer_if_first, payer_line_of, payer_lines, terminal_line}
use Rattle.duk_show.specs.Log.{last_after}
use Rattle.duk_show.specs.declared.journal_tallies.Payer.{Payer}
use Rattle.duk_show.specs.declared.journal_tallies.Share.{Share}
use Rattle.duk_show.specs.inner.JournalTallies.{ArePayers, IsSmall, IsWithin, line_with, next_payer, payer_line, share_of, with_own, with_share}

-- the line of a terminal with the same numbers is the same
same_line : (first last : Serial) (p q a b u v : ℕ) → p ≡ q → a ≡ b → u ≡ v → terminal_line first last p a u ≡ terminal_line first last q b v
same_line first last p q a b u v payments approved undone =
    ap (λ (n : ℕ). terminal_line first last n a u) payments
    ∙ ap (λ (n : ℕ). terminal_line first last q n u) approved
    ∙ ap (λ (n : ℕ). terminal_line first last q b n) undone

-- an entry counts, and those behind it
counts_more : (test : Entry → Bool) (entry : Entry) (more : Entries) → count_by test (entry ∷ more) ≡ cond (test entry) 1 0 + count_by test more
counts_more test entry more = sum_by-cons (λ (e : Entry). cond (test e) 1 0) entry more

-- the line of the terminal of an entry, whose own entries these are
abbrev line_of : Entries → Entry → Entries → List ℕ
line_of all first own =
    terminal_line first.number (last_after first.number (numbers_of own)) (count_by is_payment own) (sum_by (standing_amount all) own) (count_by (is_undone all) own)

-- the same, where its own entries stand among these
abbrev line_from : Entries → Entry → Entries → List ℕ
line_from all first entries = line_of all first (filter (is_by first.number.iksn) entries)

-- behind entries of which none is of a terminal, all of its own stand
fails_both : (one other : Bool) → (one || other) ≡ false → (one ≡ false) × (other ≡ false)
fails_both true other none = absurd (true≢false none)
fails_both false other none = (refl, none)

own_behind : (iksn : ℕ) (before rest : Entries) → list_any (is_by iksn) before ≡ false → filter (is_by iksn) (before ++ rest) ≡ filter (is_by iksn) rest
own_behind iksn [] rest none = refl
own_behind iksn (entry ∷ before) rest none =
    let own : Entries = filter (is_by iksn) (before ++ rest) in
    let fails = fails_both (is_by iksn entry) (list_any (is_by iksn) before) none in
    ap (λ (b : Bool). cond b (entry ∷ own) own) fails.0 ∙ own_behind iksn before rest fails.1

-- so the line of a terminal from its first entry on is that among all
line_among_all : (all before more : Entries) (entry : Entry) (seen : Bool) → all ≡ before ++ entry ∷ more → list_any (is_by entry.number.iksn) before ≡ seen
    → (if seen then [] else line_from all entry (entry ∷ more)) ≡ (if seen then [] else payer_line_of all entry)
line_among_all all before more entry true is seen = refl
line_among_all all before more entry false is seen =
    sym (ap (λ (own : Entries). line_of all entry own) (ap (filter (is_by entry.number.iksn)) is ∙ own_behind entry.number.iksn before (entry ∷ more) seen))

module _ (all : Entries) where
  -- an entry of another terminal than these leaves their lines
  other_lines : (entry : Entry) (more : Entries) (known : List (ℕ × Payer)) → AllByRecursion (λ key. nat_eq entry.number.iksn key ≡ false) (keys_of known)
      → flat_map (line_with all (entry ∷ more)) known ≡ flat_map (line_with all more) known
  other_lines entry more [] none = refl
  other_lines entry more (one ∷ known) none =
      let own : Entries = filter (is_by one.0) more in
      ap (λ (b : Bool). payer_line (with_own all one.1 (cond b (entry ∷ own) own)) ++ flat_map (line_with all (entry ∷ more)) known) none.0
      ∙ ap (λ (lines : List ℕ). line_with all more one ++ lines) (other_lines entry more known none.1)

  -- the line of a terminal that an entry begins
  new_line : (entry : Entry) (more : Entries) → line_with all more (entry.number.iksn, next_payer all None entry) ≡ line_from all entry (entry ∷ more)
  new_line entry more =
      let own : Entries = filter (is_by entry.number.iksn) more in
      let last : Serial = last_after entry.number (numbers_of own) in
      same_line entry.number last _ (count_by is_payment (entry ∷ own)) _ (sum_by (standing_amount all) (entry ∷ own)) _ (count_by (is_undone all) (entry ∷ own))
      (sym (counts_more is_payment entry own)) (sym (sum_by-cons (standing_amount all) entry own)) (sym (counts_more (is_undone all) entry own))
      ∙ ap (λ (b : Bool). let found : Entries = cond b (entry ∷ own) own in
      terminal_line entry.number (last_after entry.number (numbers_of found)) (count_by is_payment found) (sum_by (standing_amount all) found) (count_by (is_undone all) found))
      (sym (eq-eqb entry.number.iksn entry.number.iksn refl))

  -- the line of a terminal, after an entry of its own
  own_line : (payer : Payer) (entry : Entry) (own : Entries) → payer_line (with_own all (next_payer all (Some payer) entry) own) ≡ payer_line (with_own all payer (entry ∷ own))
  own_line payer entry own =
      let payments = counts_more is_payment entry own in
      let approved = sum_by-cons (standing_amount all) entry own in
      let undone = counts_more (is_undone all) entry own in
      same_line payer.first (last_after entry.number (numbers_of own)) _ (payer.payments + count_by is_payment (entry ∷ own)) _ (payer.approved + sum_by (standing_amount all) (entry ∷ own)) _ (payer.undone + count_by (is_undone all) (entry ∷ own))
      (omega (arith, payments)) (omega (arith, approved)) (omega (arith, undone))

  -- an entry that is counted leaves the lines of the terminals that are known, and adds that of a new one
  counted : (entry : Entry) (more : Entries) (known : List (ℕ × Payer)) → IsDistinct nat_eq (keys_of known)
      → flat_map (line_with all more) (insert_entry nat_eq known entry.number.iksn (next_payer all (lookup (nat_eq entry.number.iksn) known) entry))
      ≡ flat_map (line_with all (entry ∷ more)) known ++ (if is_some (lookup (nat_eq entry.number.iksn) known) then [] else line_from all entry (entry ∷ more))
  counted entry more [] distinct = append-nil (line_with all more (entry.number.iksn, next_payer all None entry)) ∙ new_line entry more
  counted entry more (one ∷ known) distinct =
      let own : Entries = filter (is_by one.0) more in
      let others : Option Payer = lookup (nat_eq entry.number.iksn) known in
      let old : List ℕ = flat_map (line_with all (entry ∷ more)) known in
      let payer : Bool → Payer = λ b. next_payer all (cond b (Some one.1) others) entry in
      let P : Bool → Type 0 = λ b. flat_map (line_with all more) (if b then (one.0, payer b) ∷ known else one ∷ insert_entry nat_eq known entry.number.iksn (payer b))
      ≡ (payer_line (with_own all one.1 (cond b (entry ∷ own) own)) ++ old) ++ (if is_some (cond b (Some one.1) others) then [] else line_from all entry (entry ∷ more)) in
      elim (eqb_tells entry.number.iksn one.0) [
        | inl same ↦
            let none : AllByRecursion (λ key. nat_eq entry.number.iksn key ≡ false) (keys_of known) =
            subst (λ (own : ℕ). AllByRecursion (λ key. nat_eq own key ≡ false) (keys_of known)) (sym same.1) (IsDistinct-head nat_eq one.0 (keys_of known) distinct) in
            subst P (sym same.0)
            (ap (λ (line : List ℕ). line ++ flat_map (line_with all more) known) (own_line one.1 entry own)
            ∙ ap (λ (lines : List ℕ). payer_line (with_own all one.1 (entry ∷ own)) ++ lines) (sym (other_lines entry more known none))
            ∙ sym (append-nil (payer_line (with_own all one.1 (entry ∷ own)) ++ old)))
        | inr other ↦
            subst P (sym other.0)
            (ap (λ (lines : List ℕ). line_with all more one ++ lines) (counted entry more known (IsDistinct-tail nat_eq one.0 (keys_of known) distinct))
            ∙ sym (append_assoc (line_with all more one) old (if is_some others then [] else line_from all entry (entry ∷ more))))
      ]

-- what the index has at a terminal after an entry
some_or : (same : Bool) (payer : Payer) (old : Option Payer) → is_some (cond same (Some payer) old) ≡ (is_some old || (same || false))
some_or true payer None = refl
some_or true payer (Some t) = refl
some_or false payer None = refl
some_or false payer (Some t) = refl

next_fits : (old : Option Payer) (number : Serial) (share : Share) (most : ℕ) → IsSmall share → IfSome old (IsWithin most) → IsWithin (most + 1) (with_share old number share)
next_fits None number share most small fits = record {
  payments_in = omega (arith, small.payments_fit);
  approved_in = omega (arith, small.approved_fits);
  undone_in = omega (arith, small.undone_fits);
}
next_fits (Some payer) number share most small fits = record {
  payments_in = omega (arith, small.payments_fit, fits.payments_in);
  approved_in = omega (arith, small.approved_fits, fits.approved_in);
  undone_in = omega (arith, small.undone_fits, fits.undone_in);
}

still_fits : (same : Bool) (payer : Payer) (old : Option Payer) (most : ℕ) → IsWithin (most + 1) payer → IfSome old (IsWithin most)
    → IfSome (cond same (Some payer) old) (IsWithin (most + 1))
still_fits true payer old most now fits = now
still_fits false payer None most now fits = tt
still_fits false payer (Some other) most now fits = record {
  payments_in = omega (arith, fits.payments_in);
  approved_in = omega (arith, fits.approved_in);
  undone_in = omega (arith, fits.undone_in);
}

-- one entry more
next : (before more all : Entries) (entry : Entry) (old new : List (ℕ × Payer)) → all ≡ before ++ entry ∷ more → ArePayers before (entry ∷ more) all old
    → new ≡ insert_entry nat_eq old entry.number.iksn (next_payer all (lookup (nat_eq entry.number.iksn) old) entry)
    → ((iksn : ℕ) → lookup (nat_eq iksn) new ≡ cond (nat_eq entry.number.iksn iksn) (Some (next_payer all (lookup (nat_eq entry.number.iksn) old) entry)) (lookup (nat_eq iksn) old))
    → IsDistinct nat_eq (keys_of new) → IsSmall (share_of all entry)
    → ArePayers (before ++ entry ∷ []) more all new
next before more all entry old new all_are so_far inserted updates unique small =
    let payer : Payer = next_payer all (lookup (nat_eq entry.number.iksn) old) entry in
    let after : Entries = before ++ entry ∷ [] in
    let rest : List ℕ = payer_lines all after more in
    let known : List ℕ = flat_map (line_with all (entry ∷ more)) old in
    let size : length after ≡ length before + 1 = length-append before (entry ∷ []) in
    record {
      lines = ap (λ (es : List (ℕ × Payer)). flat_map (line_with all more) es ++ rest) inserted
          ∙ ap (λ (lines : List ℕ). lines ++ rest) (counted all entry more old so_far.unique)
          ∙ ap (λ (b : Bool). (known ++ (if b then [] else line_from all entry (entry ∷ more))) ++ rest) (so_far.seen entry.number.iksn)
          ∙ ap (λ (line : List ℕ). (known ++ line) ++ rest) (line_among_all all before more entry (list_any (is_by entry.number.iksn) before) all_are refl)
          ∙ append_assoc known (payer_if_first all before entry) rest
          ∙ so_far.lines;
      seen = λ iksn.
          ap is_some (updates iksn)
          ∙ some_or (nat_eq entry.number.iksn iksn) payer (lookup (nat_eq iksn) old)
          ∙ ap (λ (b : Bool). b || (nat_eq entry.number.iksn iksn || false)) (so_far.seen iksn)
          ∙ sym (list_any-append (is_by iksn) before (entry ∷ []));
      fits = λ iksn.
          let now : IsWithin (length before + 1) payer = next_fits (lookup (nat_eq entry.number.iksn) old) entry.number (share_of all entry) (length before) small (so_far.fits entry.number.iksn) in
          subst (λ (found : Option Payer). IfSome found (IsWithin (length after))) (sym (updates iksn))
          (subst (λ (most : ℕ). IfSome (cond (nat_eq entry.number.iksn iksn) (Some payer) (lookup (nat_eq iksn) old)) (IsWithin most)) (sym size)
          (still_fits (nat_eq entry.number.iksn iksn) payer (lookup (nat_eq iksn) old) (length before) now (so_far.fits iksn)));
      unique = unique;
    }

-- the entry at a place is one more, with its share
pub in_turn : (entries : Entries) (place : ℕ) (entry : Entry) (share : Share) (old new : List (ℕ × Payer)) → place < length entries → entry ≡ get_or entries place entry
    → ArePayers (take place entries) (drop place entries) entries old
    → share ≡ share_of entries entry → IsSmall share
    → new ≡ insert_entry nat_eq old entry.number.iksn (with_share (lookup (nat_eq entry.number.iksn) old) entry.number share)
    → ((iksn : ℕ) → lookup (nat_eq iksn) new ≡ cond (nat_eq entry.number.iksn iksn) (Some (with_share (lookup (nat_eq entry.number.iksn) old) entry.number share)) (lookup (nat_eq iksn) old))
    → IsDistinct nat_eq (keys_of new)
    → ArePayers (take (place + 1) entries) (drop (place + 1) entries) entries new
in_turn entries place entry share old new inside is so_far share_is small inserted updates unique =
    let before : Entries = take place entries in
    let more : Entries = drop (place + 1) entries in
    let found : Option Payer = lookup (nat_eq entry.number.iksn) old in
    let rest : drop place entries ≡ entry ∷ more =
    drop-cons entries place entry inside ∙ ap (λ (n : Entry). n ∷ drop (suc place) entries) (sym is) ∙ ap (λ (n : ℕ). entry ∷ drop n entries) (sym (add-one place)) in
    let front : take (place + 1) entries ≡ before ++ entry ∷ [] = take_more entries place entry inside ∙ ap (λ (n : Entry). before ++ n ∷ []) (sym is) in
    subst (λ (front : Entries). ArePayers front more entries new) (sym front)
    (next before more entries entry old new (sym (take-append-drop place entries) ∙ ap (λ (rest : Entries). before ++ rest) rest) (subst (λ (rest : Entries). ArePayers before rest entries old) rest so_far)
    (inserted ∙ ap (λ (s : Share). insert_entry nat_eq old entry.number.iksn (with_share found entry.number s)) share_is)
    (λ iksn. updates iksn ∙ ap (λ (s : Share). cond (nat_eq entry.number.iksn iksn) (Some (with_share found entry.number s)) (lookup (nat_eq iksn) old)) share_is)
    unique (subst IsSmall share_is small))

-- where nothing is left, the lines are those of the terminals as they stand
as_they_stand : (all : Entries) (known : List (ℕ × Payer)) → flat_map (line_with all []) known ≡ flat_map payer_line (values_of known)
as_they_stand all [] = refl
as_they_stand all (one ∷ known) =
    ap (λ (line : List ℕ). line ++ flat_map (line_with all []) known)
    (same_line one.1.first one.1.last (one.1.payments + 0) one.1.payments (one.1.approved + 0) one.1.approved (one.1.undone + 0) one.1.undone (omega arith) (omega arith) (omega arith))
    ∙ ap (λ (lines : List ℕ). payer_line one.1 ++ lines) (as_they_stand all known)

-- where all are counted
pub whole : (entries : Entries) (place : ℕ) (known : List (ℕ × Payer)) → length entries ≤ place → ArePayers (take place entries) (drop place entries) entries known
    → flat_map payer_line (values_of known) ≡ payer_lines entries [] entries
whole entries place known all are =
    let before : Entries = take place entries in
    let at_end : ArePayers before [] entries known = subst (λ (rest : Entries). ArePayers before rest entries known) (drop_all place entries all) are in
    sym (as_they_stand entries known) ∙ sym (append-nil (flat_map (line_with entries []) known)) ∙ at_end.lines
