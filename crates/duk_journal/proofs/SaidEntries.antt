-- What the contents of a record say: one entry at most.
use Rattle.std.proofs.Common.{◌≡◌, ℕ, ◌<◌, ◌≤◌, drop, get_or, List, refl, sym, ◌∙◌, ap, arith, length}
use Rattle.std.proofs.lemmas.List.{get_or-drop}
use Rattle.duk_frame.specs.declared.code.Code.{Code}
use Rattle.duk_frame.specs.declared.code.Code.TheVariants.{Approved, NoCard, WrongPin, OverLimit, Unreadable}
use Rattle.duk_reversal.specs.declared.state.ReversalState.{ReversalState}
use Rattle.duk_reversal.specs.declared.state.ReversalState.TheVariants.{NoneStands, Undone}
use Rattle.duk_tree.specs.Serial.{IsSerial, Serial, serial_bytes, serial_of_bytes}
use Rattle.duk_journal.specs.Entry.{figure_of, kind_of, number_of_code, number_of_state, outcome_of}
use Rattle.duk_journal.specs.Groups.{HasContents}
use Rattle.duk_journal.specs.RecordFormat.{SaysEntry, after_gate}
use Rattle.duk_journal.specs.declared.entry.Decided.{Decided}
use Rattle.duk_journal.specs.declared.entry.Decided.TheVariants.{Payment, Reversal}
use Rattle.duk_journal.specs.declared.entry.Entry.{Entry}
use Rattle.duk_journal.specs.declared.record_format.Contents.{Contents}
use Rattle.duk_journal.proofs.FieldPlaces.{field_places, same_contents}

-- a code has one number
one_code : (a b : Code) → number_of_code a ≡ number_of_code b → a ≡ b
one_code Approved Approved same = refl
one_code NoCard NoCard same = refl
one_code WrongPin WrongPin same = refl
one_code OverLimit OverLimit same = refl
one_code Unreadable Unreadable same = refl
one_code _ _ same = absurd (omega (arith, same))

-- a state has one number
one_state : (a b : ReversalState) → number_of_state a ≡ number_of_state b → a ≡ b
one_state Undone Undone same = refl
one_state NoneStands NoneStands same = refl
one_state _ _ same = absurd (omega (arith, same))

-- what is written with one kind, one figure and one outcome
pub one_decided : (a b : Decided) → kind_of a ≡ kind_of b → figure_of a ≡ figure_of b → outcome_of a ≡ outcome_of b → a ≡ b
one_decided (Payment m c) (Payment n d) kind figure outcome = ap (λ (x : ℕ). Payment x c) figure ∙ ap (λ (x : Code). Payment n x) (one_code c d outcome)
one_decided (Reversal m s) (Reversal n t) kind figure outcome = ap (λ (x : ℕ). Reversal x s) figure ∙ ap (λ (x : ReversalState). Reversal n x) (one_state s t outcome)
one_decided _ _ kind figure outcome = absurd (omega (arith, kind))

-- no code has the number of a state
of_code : (c : Code) → number_of_code c < 128
of_code Approved = omega arith
of_code NoCard = omega arith
of_code WrongPin = omega arith
of_code OverLimit = omega arith
of_code Unreadable = omega arith

of_state : (s : ReversalState) → 128 ≤ number_of_state s
of_state Undone = omega arith
of_state NoneStands = omega arith

-- so an outcome tells the kind
one_kind : (a b : Decided) → outcome_of a ≡ outcome_of b → kind_of a ≡ kind_of b
one_kind (Payment m c) (Payment n d) same = refl
one_kind (Reversal m s) (Reversal n t) same = refl
one_kind (Payment m c) (Reversal n t) same = absurd (omega (arith, same, of_code c, of_state t))
one_kind (Reversal m s) (Payment n d) same = absurd (omega (arith, same, of_code d, of_state s))

module _ (ten : (serial : Serial) → length (serial_bytes serial) ≡ 10) (found : (serial : Serial) → IsSerial serial → serial_of_bytes (serial_bytes serial) ≡ serial) where
  -- bytes are the contents of one entry
  pub one_contents : (bytes : List ℕ) (a b : Contents) → SaysEntry a.followers a.entry bytes → SaysEntry b.followers b.entry bytes → a ≡ b
  one_contents bytes a b first second =
      let x = field_places bytes a ten first in
      let y = field_places bytes b ten second in
      same_contents a b
      (sym x.followers_is ∙ y.followers_is)
      (sym (found a.entry.number first.entry_is.serial) ∙ ap serial_of_bytes (sym x.number_is ∙ y.number_is) ∙ found b.entry.number second.entry_is.serial)
      (one_decided a.entry.decided b.entry.decided (sym x.kind_is ∙ y.kind_is) (sym x.figure_is ∙ y.figure_is) (sym x.outcome_is ∙ y.outcome_is))
      (sym x.mac_is ∙ y.mac_is)

  -- the bytes of a record behind its kind tell its outcome
  outcome_behind : (f : ℕ) (p : Entry) (r : List ℕ) → HasContents f p r → get_or (drop 2 r) 16 0 ≡ outcome_of p.decided
  outcome_behind f p r has =
      get_or-drop 2 r 16 0 ∙ sym (get_or-drop 1 r 17 0)
      ∙ (field_places (after_gate r) (record { followers = f; entry = p }) ten has).outcome_is

  -- and so the kind
  pub same_kind : (f g : ℕ) (p q : Entry) (r s : List ℕ) → HasContents f p r → HasContents g q s → drop 2 r ≡ drop 2 s → kind_of p.decided ≡ kind_of q.decided
  same_kind f g p q r s one two same =
      one_kind p.decided q.decided (sym (outcome_behind f p r one) ∙ ap (λ (l : List ℕ). get_or l 16 0) same ∙ outcome_behind g q s two)

  -- contents say one thing
  pub same_contents_said : (f g : ℕ) (p q : Entry) (bytes : List ℕ) → SaysEntry f p bytes → SaysEntry g q bytes → (f ≡ g) × (p ≡ q)
  same_contents_said f g p q bytes one two =
      let same = one_contents bytes (record { followers = f; entry = p }) (record { followers = g; entry = q }) one two in
      (ap (λ (c : Contents). c.followers) same, ap (λ (c : Contents). c.entry) same)
