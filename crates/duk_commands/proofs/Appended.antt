-- Keys that are appended one after the other, and their lines.
use Rattle.std.proofs.Common.{◌≡◌, ◌+◌, ℕ, true, Some, List, [], ◌∷◌, ◌++◌, refl, sym, ap, ◌∙◌, subst, arith, append-nil, append_assoc, length-append}
use Rattle.std.proofs.lemmas.List.{map-append}
use Rattle.duk_io.specs.Sink.{IsWritten}
use Rattle.duk_ledger.specs.Issued.{Issues}
use Rattle.duk_ledger.specs.declared.issued.Issued.{Issued}
use Rattle.duk_store.specs.Listed.{IsGroupAppended, ListMeaning}
use Rattle.duk_store.specs.Restart.{Restarted}
use Rattle.duk_store.specs.StoreState.{FindsOnly}
use Rattle.duk_commands.specs.Issue.{Ends}
use Rattle.duk_commands.specs.Ledger.{IsExtended, issue_at}
use Rattle.duk_commands.specs.Numbers.{iksn_at}
use Rattle.duk_mac.specs.CheckValue.{check_value_of}
use Rattle.duk_tree.specs.Derivation.{initial_key_of}
use Rattle.duk_commands.specs.IssuedLines.{AreLines, IsLine}
use Rattle.duk_commands.specs.declared.issue.order.Order.{Order}
use Rattle.duk_commands.specs.inner.Ledger.{AreAppended}
use Rattle.duk_commands.specs.inner.Lines.{AreIssued, IsIssuedAt, kept_at}
use Rattle.duk_commands.proofs.OrderIsRead.{nature_on, nature_same}

-- the lines, and one more
pub lines_more : (order : Order) (padding places : List ℕ) (place : ℕ) (text line : List ℕ) → AreLines order padding places text → IsLine order padding place line → AreLines order padding (places ++ place ∷ []) (text ++ line)
lines_more order padding [] place text line none is =
    (line, [], is, refl, rw none (sym (append-nil line)))
lines_more order padding (first ∷ places) place text line (head, rest, head_is, rest_are, text_is) is =
    (head, rest ++ line, head_is, lines_more order padding places place rest line rest_are is, rw text_is (append_assoc head rest line))

abbrev pub issued_as : ℕ → List ℕ → List ℕ → ℕ → Issued
issued_as number value key_set run = record { number = number; made = Some (record { key = value; key_set = key_set; run = run }) }

-- a key with these fields is that of its place
pub kept_key : (order : Order) (run place number : ℕ) (value key_set : List ℕ) → number ≡ iksn_at order.first place → value ≡ check_value_of (initial_key_of order.bdk (iksn_at order.first place)) → key_set ≡ check_value_of order.bdk
    → issued_as number value key_set run ≡ issue_at order run place
kept_key order run place number value key_set number_is value_is set_is =
    ap (λ it. issued_as it value key_set run) number_is ∙ ap (λ it. issued_as (iksn_at order.first place) it key_set run) value_is
    ∙ ap (λ it. issued_as (iksn_at order.first place) (check_value_of (initial_key_of order.bdk (iksn_at order.first place))) it run) set_is

module _ {L : Type 0} (meaning : ListMeaning L Issued) where
  abbrev only : L → Issues → Type 0
  only ledger issues = FindsOnly (meaning.state_of ledger) issues

  pub none_appended : (ledger : L) → (meaning.state_of ledger).running ≡ true → AreAppended meaning ledger ledger []
  none_appended ledger runs = record {
    nature = nature_same (meaning.state_of ledger);
    no_failure = refl;
    runs = runs;
    finds = λ honest issues finds. subst (λ list. only ledger list) (sym (append-nil issues)) finds;
  }

  pub one_appended : (old mid new : L) (more : Issues) (issued : Issued) → AreAppended meaning old mid more → IsGroupAppended meaning mid new (issued ∷ []) → AreAppended meaning old new (more ++ issued ∷ [])
  one_appended old mid new more issued up one = record {
    nature = nature_on (meaning.state_of old) (meaning.state_of mid) (meaning.state_of new) up.nature one.nature;
    no_failure = one.no_failure ∙ up.no_failure;
    runs = one.runs;
    finds = λ honest issues finds.
        subst (λ list. only new list) (append_assoc issues more (issued ∷ []))
        (one.finds (up.nature.honest.0 honest) (issues ++ more) (up.finds honest issues finds));
  }

  -- one place more
  kept_more : (order : Order) (run : ℕ) (places : List ℕ) (place : ℕ) → kept_at order run (places ++ place ∷ []) ≡ kept_at order run places ++ issue_at order run place ∷ []
  kept_more order run places place = map-append (issue_at order run) places (place ∷ [])

  pub appended_at : (order : Order) (run : ℕ) (old mid new : L) (places : List ℕ) (place : ℕ) → AreAppended meaning old mid (kept_at order run places)
      → IsGroupAppended meaning mid new (issue_at order run place ∷ []) → AreAppended meaning old new (kept_at order run (places ++ place ∷ []))
  appended_at order run old mid new places place up one =
      subst (λ list. AreAppended meaning old new list) (sym (kept_more order run places place)) (one_appended old mid new (kept_at order run places) (issue_at order run place) up one)

  -- what a restart found, and what was appended since
  pub extended : (old mid new : L) (issues more : Issues) → Restarted (meaning.state_of old) (meaning.state_of mid) issues → AreAppended meaning mid new more → IsExtended meaning old new issues more
  extended old mid new issues more restarted appended = record {
    was_found = restarted.was_found;
    keeps = record {
      nature = nature_on (meaning.state_of old) (meaning.state_of mid) (meaning.state_of new) restarted.settles.nature appended.nature;
      no_failure = appended.no_failure ∙ restarted.settles.no_failure;
      runs = appended.runs;
      finds = λ honest. appended.finds (restarted.settles.nature.honest.0 honest) issues (restarted.settles.finds honest);
    };
  }

  pub none_issued : (order : Order) (run : ℕ) (padding : List ℕ) (start : Ends L) → (meaning.state_of start.ledger).running ≡ true → IsWritten start.output start.output [] → AreIssued meaning order run padding start start []
  none_issued order run padding start runs unwritten = record {
    text = [];
    appended = none_appended start.ledger runs;
    counted = omega arith;
    capacity = refl;
    lines = refl;
    written = unwritten;
  }

  -- a key more is issued
  pub one_issued : (order : Order) (run : ℕ) (padding : List ℕ) (start mid now : Ends L) (places : List ℕ) (place : ℕ)
      → ((text line : List ℕ) → IsWritten start.output mid.output text → IsWritten mid.output now.output line → IsWritten start.output now.output (text ++ line))
      → AreIssued meaning order run padding start mid places → IsIssuedAt meaning order run padding mid now place
      → meaning.count now.ledger ≡ meaning.count mid.ledger + 1 → meaning.capacity now.ledger ≡ meaning.capacity mid.ledger → AreIssued meaning order run padding start now (places ++ place ∷ [])
  one_issued order run padding start mid now places place then up one counted capacity = record {
    text = up.text ++ one.line;
    appended = appended_at order run start.ledger mid.ledger now.ledger places place up.appended one.appended;
    counted = omega (arith, counted, up.counted, length-append places (place ∷ []));
    capacity = capacity ∙ up.capacity;
    lines = lines_more order padding places place up.text one.line up.lines one.line_is;
    written = then up.text one.line up.written one.written;
  }
