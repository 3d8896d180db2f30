-- What is known of a script while its lines are read.
use Rattle.std.proofs.Common.{◌≡◌, ◌≤◌, ◌+◌, ℕ, suc, List, [], ◌∷◌, ◌++◌, length, inl, inr, refl, sym, ap, subst, ◌∙◌, append_assoc, append-nil, arith}
use Rattle.std.specs.List.{All}
use Rattle.std.proofs.lemmas.List.Elements.{All-nil, All-cons, All-tail, All-head}
use Rattle.duk_books.specs.declared.event.Event.{Event}
use Rattle.duk_books.specs.declared.event.End.TheVariants as end
use Rattle.duk_books.specs.declared.event.Event.TheVariants as event
use Rattle.duk_play.specs.Script.{AreEvents, IsEventLine, IsFirstBad, IsLawful}
use Rattle.duk_script.specs.Script.{IsQuiet}
use Rattle.duk_play.specs.inner.Reading.{AddsLine}

-- the first so many lines of the whole are these events, and the rest is to be read
pub record Stands (whole rest : List (List ℕ)) (events : List Event) (number : ℕ) : Type 0 where
  pub read : (tail : List Event) → AreEvents rest tail → AreEvents whole (events ++ tail)
  pub only : (all : List Event) → AreEvents whole all → (tail : List Event) × (all ≡ events ++ tail) × AreEvents rest tail
  pub bad : (line : ℕ) → IsFirstBad rest line → IsFirstBad whole (number + line)
  pub only_bad : (line : ℕ) → IsFirstBad whole line → (later : ℕ) × (line ≡ number + later) × IsFirstBad rest later

pub stands_first : (lines : List (List ℕ)) → Stands lines lines [] 0
stands_first lines = record {
  read = λ tail are. are;
  only = λ all are. (all, refl, are);
  bad = λ line is. subst (λ (n : ℕ). IsFirstBad lines n) (omega arith) is;
  only_bad = λ line is. (line, omega arith, is);
}

-- the first byte of a list
abbrev first_byte : List ℕ → ℕ
first_byte [] = 0
first_byte (byte ∷ bytes) = byte

-- a line of an event begins with a small letter
letter : (line : List ℕ) (said : Event) → IsEventLine line said → 97 ≤ first_byte line
letter line (event.Load t iksn) is = rw is.line_is (omega arith)
letter line (event.Begin t purchase) is = rw is.line_is (omega arith)
letter line (event.Reverse t) is = rw is.line_is (omega arith)
letter line (event.Up k) is = rw is.line_is (omega arith)
letter line (event.Down k t) is = rw is.line_is (omega arith)
letter line (event.RestartTill t) is = rw is.line_is (omega arith)
letter line event.RestartHost is = rw is.line_is (omega arith)
letter line (event.Arm end.Host n) is = rw is.line_is (omega arith)
letter line (event.Arm (end.Terminal t) n) is = rw is.line_is (omega arith)
letter line (event.Arm (end.Book t) n) is = rw is.line_is (omega arith)

-- what says nothing is no event
quiet_alone : (line : List ℕ) (said : Event) → IsQuiet line → IsEventLine line said → ⊥
quiet_alone line said (inl empty) is =
    let e : first_byte line ≡ 0 = ap first_byte empty in omega (arith, letter line said is)
quiet_alone line said (inr (comment, begins)) is =
    let e : first_byte line ≡ 35 = ap first_byte begins in omega (arith, letter line said is)

-- one more line that may stand in a script moves the first bad line by one
bad_later : (line : List ℕ) (rest : List (List ℕ)) (later : ℕ) → IsLawful line → IsFirstBad rest later → IsFirstBad (line ∷ rest) (suc later)
bad_later line rest later lawful is = record {
  before = line ∷ is.before;
  item = is.item;
  after = is.after;
  items_are = ap (λ l. line ∷ l) is.items_are;
  place_is = omega (arith, is.place_is);
  earlier_right = All-cons IsLawful line is.before lawful is.earlier_right;
  wrong = is.wrong;
}

bad_sooner : (line : List ℕ) (rest : List (List ℕ)) (number : ℕ) → IsLawful line → IsFirstBad (line ∷ rest) number
    → (later : ℕ) × (number ≡ suc later) × IsFirstBad rest later
bad_sooner line rest number lawful is = at is.before is.items_are is.earlier_right is.place_is
  where
    at : (before : List (List ℕ)) → line ∷ rest ≡ before ++ is.item ∷ is.after → All IsLawful before → number ≡ length before + 1
        → (later : ℕ) × (number ≡ suc later) × IsFirstBad rest later
    at [] split all counted = let same : line ≡ is.item = cc in absurd (is.wrong (subst IsLawful same lawful))
    at (first ∷ before) split all counted = (
      length before + 1,
      omega arith,
      record { before = before; item = is.item; after = is.after; items_are = cc; place_is = refl; earlier_right = All-tail IsLawful first before all; wrong = is.wrong },
    )

-- a line that may stand in a script is passed
passed : (line : List ℕ) (rest : List (List ℕ)) (number bad : ℕ) → IsLawful line
    → (later : ℕ) × (bad ≡ number + later) × IsFirstBad (line ∷ rest) later → (later : ℕ) × (bad ≡ number + 1 + later) × IsFirstBad rest later
passed line rest number bad lawful (later, e, is) =
    let sooner = bad_sooner line rest later lawful is in (sooner.0, omega (arith, e, sooner.1), sooner.2)

pub stands_next : (whole : List (List ℕ)) (line : List ℕ) (rest : List (List ℕ)) (old new : List Event) (number : ℕ)
    → Stands whole (line ∷ rest) old number → AddsLine line old new → Stands whole rest new (number + 1)
stands_next whole line rest old new number stands (inl (quiet, same)) = record {
  read = λ tail are. rw same (stands.read tail (inl (quiet, are)));
  only = λ all are. quiet_only all (stands.only all are);
  bad = λ later is. subst (IsFirstBad whole) (omega arith) (stands.bad (suc later) (bad_later line rest later (inl quiet) is));
  only_bad = λ later is. passed line rest number later (inl quiet) (stands.only_bad later is);
}
  where
    quiet_only : (all : List Event) → (tail : List Event) × (all ≡ old ++ tail) × AreEvents (line ∷ rest) tail
        → (tail : List Event) × (all ≡ new ++ tail) × AreEvents rest tail
    quiet_only all (tail, split, inl (quiet', are)) = (tail, rw same split, are)
    quiet_only all (tail, split, inr (said, later, is, are, e)) = absurd (quiet_alone line said quiet is)
stands_next whole line rest old new number stands (inr (said, alone, loud, pushed)) = record {
  read = λ tail are. rw (pushed, append_assoc) (stands.read (said ∷ tail) (inr (said, tail, alone.is, are, refl)));
  only = λ all are. event_only all (stands.only all are);
  bad = λ later is. subst (IsFirstBad whole) (omega arith) (stands.bad (suc later) (bad_later line rest later (inr (said, alone.is)) is));
  only_bad = λ later is. passed line rest number later (inr (said, alone.is)) (stands.only_bad later is);
}
  where
    event_only : (all : List Event) → (tail : List Event) × (all ≡ old ++ tail) × AreEvents (line ∷ rest) tail
        → (tail : List Event) × (all ≡ new ++ tail) × AreEvents rest tail
    event_only all (tail, split, inl (quiet, are)) = absurd (loud quiet)
    event_only all (tail, split, inr (other, later, is, are, e)) = (
      later,
      rw (pushed, append_assoc) (split ∙ ap (λ l. old ++ l) (e ∙ ap (λ x. x ∷ later) (alone.only other is))),
      are,
    )

-- a text of no length
pub nothing : (text : List ℕ) → length text ≡ 0 → text ≡ []
nothing [] none = refl
nothing (byte ∷ bytes) none = absurd (omega arith)

-- where every line was read
pub end_events : (whole : List (List ℕ)) (events : List Event) (number : ℕ) → Stands whole [] events number → AreEvents whole events
end_events whole events number stands = subst (AreEvents whole) (append-nil events) (stands.read [] refl)

pub end_every : (whole : List (List ℕ)) (events : List Event) (number : ℕ) → Stands whole [] events number
    → (all : List Event) → AreEvents whole all → events ≡ all
end_every whole events number stands all are =
    let only = stands.only all are in sym (only.1 ∙ ap (λ l. events ++ l) only.2 ∙ append-nil events)

no_line : {A : Type 0} (number : ℕ) → IsFirstBad [] number → A
no_line number is = at is.before is.items_are
  where
    at : {A : Type 0} (before : List (List ℕ)) → [] ≡ before ++ is.item ∷ is.after → A
    at [] split = absurd (cc split)
    at (first ∷ before) split = absurd (cc split)

pub end_first : (whole : List (List ℕ)) (events : List Event) (number : ℕ) → Stands whole [] events number
    → (line : ℕ) → IsFirstBad whole line → ⊥
end_first whole events number stands line is = let later = stands.only_bad line is in no_line later.0 later.2

-- where a line may not stand in a script
pub stop_bad : (whole : List (List ℕ)) (line : List ℕ) (rest : List (List ℕ)) (events : List Event) (number : ℕ)
    → Stands whole (line ∷ rest) events number → ¬ IsLawful line → IsFirstBad whole (number + 1)
stop_bad whole line rest events number stands unlawful = stands.bad 1 (record {
  before = [];
  item = line;
  after = rest;
  items_are = refl;
  place_is = refl;
  earlier_right = All-nil IsLawful;
  wrong = unlawful;
})

pub stop_every : (whole : List (List ℕ)) (line : List ℕ) (rest : List (List ℕ)) (events : List Event) (number : ℕ)
    → Stands whole (line ∷ rest) events number → ¬ IsLawful line → (all : List Event) → AreEvents whole all → ⊥
stop_every whole line rest events number stands unlawful all are = at (stands.only all are)
  where
    at : (tail : List Event) × (all ≡ events ++ tail) × AreEvents (line ∷ rest) tail → ⊥
    at (tail, split, inl (quiet, are)) = unlawful (inl quiet)
    at (tail, split, inr (said, later, is, are, e)) = unlawful (inr (said, is))

pub stop_first : (whole : List (List ℕ)) (line : List ℕ) (rest : List (List ℕ)) (events : List Event) (number : ℕ)
    → Stands whole (line ∷ rest) events number → ¬ IsLawful line → (bad : ℕ) → IsFirstBad whole bad → bad ≡ number + 1
stop_first whole line rest events number stands unlawful bad is = let later = stands.only_bad bad is in later.1 ∙ ap (λ n. number + n) (first later.0 later.2)
  where
    first : (later : ℕ) → IsFirstBad (line ∷ rest) later → later ≡ 1
    first later is = at is.before is.items_are is.earlier_right is.place_is
      where
        at : (before : List (List ℕ)) → line ∷ rest ≡ before ++ is.item ∷ is.after → All IsLawful before → later ≡ length before + 1 → later ≡ 1
        at [] split all counted = counted
        at (first ∷ before) split all counted =
            let same : first ≡ line = cc in absurd (unlawful (subst IsLawful same (All-head IsLawful first before all)))
