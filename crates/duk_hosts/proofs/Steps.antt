-- A till pays at hosts from the first, and after each step; and what its calls send and take.
use Rattle.std.proofs.Common.{◌≢◌, ◌++◌, ◌∷◌, [], ℕ, List, Contains, Err, Ok, Result, inl, inr, refl, sym, subst, arith}
use Rattle.std.proofs.lemmas.List.Elements.{Contains-append_cases, Contains-append_left, Contains-append_right}
use Rattle.std.proofs.lemmas.List.Concat.{flat_map-append}
use Rattle.duk_frame.specs.declared.code.Code.{Code}
use Rattle.duk_journal.specs.Standing.{UseNewNumbers}
use Rattle.duk_reversal.specs.declared.state.ReversalState.{ReversalState}
use Rattle.duk_store.specs.declared.fault.StoreFault.{StoreFault}
use Rattle.duk_term.specs.declared.answer.Answer.{Answer}
use Rattle.duk_term.specs.declared.answer.Answer.TheVariants as answer
use Rattle.duk_term.specs.declared.answer.Begun.{Begun}
use Rattle.duk_term.specs.declared.answer.ReversalAnswer.{ReversalAnswer}
use Rattle.duk_term.specs.declared.answer.ReversalAnswer.TheVariants as reversal
use Rattle.duk_term.specs.declared.purchase.Purchase.{Purchase}
use Rattle.duk_till.specs.Lifetime.{ArmBook, ArmTerminal, Begin, Call, Load, Reply, Restart, Reverse, ReversalReply, Stop}
use Rattle.duk_till.specs.declared.fault.TillFault.{TillFault}
use Rattle.duk_till.specs.declared.fault.TillFault.TheVariants as fault
use Rattle.duk_hosts.specs.Book.{Book, Bound}
use Rattle.duk_hosts.specs.Events.{Event, Hosts, Judges, MayHappen, Turn, all_answers, all_given, given_in}
use Rattle.duk_hosts.specs.Tills.{PaysAt, WereGivenIn, WereSentIn, all_sent, all_taken, sent_by, taken_by}
use Rattle.duk_hosts.proofs.GoingOn.{one_more}
use Rattle.duk_hosts.proofs.Members.{end_or, first_in, made_of, map_in, none_in, the_one}

none_new : UseNewNumbers []
none_new = record { usable = λ i d within. absurd (omega (arith, within)); stand = λ i d within. absurd (omega (arith, within)); new = λ i j d below within. absurd (omega (arith, within)) }

pub at_first : (hosts : Hosts) (bound : Bound) (iksn : ℕ) → PaysAt hosts (record { first = []; bound = bound }) [] iksn []
at_first hosts bound iksn = record {
  happened = tt;
  numbers = none_new;
  new_book = λ entry is_in. absurd (none_in entry is_in);
  sent = λ judged is_in. absurd (none_in (Judges judged) is_in);
  given = λ frame is_in. absurd (none_in frame is_in);
}

-- what was given stays given
given_on : (events : List Event) (event : Event) (answer : List ℕ) → Contains (all_answers events) answer → Contains (all_answers (events ++ event ∷ [])) answer
given_on events event answer is_in =
    let from = made_of (λ (one : Turn). one.answer) (all_given events) answer is_in in
    let there : Contains (all_given (events ++ event ∷ [])) from.0 =
    subst (λ (all : List Turn). Contains all from.0) (sym (flat_map-append given_in events (event ∷ []))) (Contains-append_left (all_given events) (all_given (event ∷ [])) from.0 from.1) in
    subst (Contains (all_answers (events ++ event ∷ []))) (sym from.2) (map_in (λ (one : Turn). one.answer) (all_given (events ++ event ∷ [])) from.0 there)

pub after_event : (hosts : Hosts) (book : Book) (events : List Event) (event : Event) (iksn : ℕ) (calls : List Call) → PaysAt hosts book events iksn calls → MayHappen hosts book events event → WereSentIn calls iksn (event ∷ [])
    → PaysAt hosts book (events ++ event ∷ []) iksn calls
after_event hosts book events event iksn calls pays may sent = record {
  happened = one_more hosts book [] events event pays.happened may;
  numbers = pays.numbers;
  new_book = pays.new_book;
  sent = λ judged is_in own. elim (end_or events event (Judges judged) is_in) [
    | inl before ↦ pays.sent judged before own
    | inr now ↦ sent judged (subst (Contains (event ∷ [])) (sym now) (the_one event)) own
  ];
  given = λ frame taken. given_on events event frame (pays.given frame taken);
}

pub after_call : (hosts : Hosts) (book : Book) (events : List Event) (iksn : ℕ) (call : Call) (calls : List Call) → PaysAt hosts book events iksn calls → WereGivenIn events (call ∷ []) → PaysAt hosts book events iksn (call ∷ calls)
after_call hosts book events iksn call calls pays given = record {
  happened = pays.happened;
  numbers = pays.numbers;
  new_book = pays.new_book;
  sent = λ judged is_in own. Contains-append_right (sent_by call) (all_sent calls) judged.ask.frame (pays.sent judged is_in own);
  given = λ frame taken. elim (Contains-append_cases (taken_by call) (all_taken calls) frame taken) [
    | inl now ↦ given frame (Contains-append_left (taken_by call) [] frame now)
    | inr before ↦ pays.given frame before
  ];
}

-- ---- what a till sends

pub sends_purchase : (purchase : Purchase) (begun : Begun) (calls : List Call) → Contains (all_sent (Begin purchase (Ok begun) ∷ calls)) begun.frame.items
sends_purchase purchase begun calls = first_in begun.frame.items (all_sent calls)

pub sends_reversal : (begun : Begun) (calls : List Call) → Contains (all_sent (Reverse (Ok begun) ∷ calls)) begun.frame.items
sends_reversal begun calls = first_in begun.frame.items (all_sent calls)

pub sent_on : (call : Call) (calls : List Call) (frame : List ℕ) → Contains (all_sent calls) frame → Contains (all_sent (call ∷ calls)) frame
sent_on call calls frame is_in = Contains-append_right (sent_by call) (all_sent calls) frame is_in

-- ---- what it takes

pub refuses_reply : (events : List Event) (bytes : List ℕ) (said : Result Answer TillFault) → ((code : Code) → said ≢ Ok (answer.Done code)) → ((why : StoreFault) → said ≢ Err (fault.Store why))
    → WereGivenIn events (Reply bytes said ∷ [])
refuses_reply events bytes (Ok (answer.Done code)) done store = absurd (done code refl)
refuses_reply events bytes (Ok (answer.Refused why)) done store = λ frame taken. absurd (none_in frame taken)
refuses_reply events bytes (Err (fault.Store why)) done store = absurd (store why refl)
refuses_reply events bytes (Err fault.Stopped) done store = λ frame taken. absurd (none_in frame taken)
refuses_reply events bytes (Err fault.Open) done store = λ frame taken. absurd (none_in frame taken)
refuses_reply events bytes (Err fault.NothingOpen) done store = λ frame taken. absurd (none_in frame taken)
refuses_reply events bytes (Err (fault.Terminal why)) done store = λ frame taken. absurd (none_in frame taken)

pub refuses_reversal_reply : (events : List Event) (bytes : List ℕ) (said : Result ReversalAnswer TillFault) → ((found : ReversalState) → said ≢ Ok (reversal.Done found)) → ((why : StoreFault) → said ≢ Err (fault.Store why))
    → WereGivenIn events (ReversalReply bytes said ∷ [])
refuses_reversal_reply events bytes (Ok (reversal.Done found)) done store = absurd (done found refl)
refuses_reversal_reply events bytes (Ok (reversal.Refused why)) done store = λ frame taken. absurd (none_in frame taken)
refuses_reversal_reply events bytes (Err (fault.Store why)) done store = absurd (store why refl)
refuses_reversal_reply events bytes (Err fault.Stopped) done store = λ frame taken. absurd (none_in frame taken)
refuses_reversal_reply events bytes (Err fault.Open) done store = λ frame taken. absurd (none_in frame taken)
refuses_reversal_reply events bytes (Err fault.NothingOpen) done store = λ frame taken. absurd (none_in frame taken)
refuses_reversal_reply events bytes (Err (fault.Terminal why)) done store = λ frame taken. absurd (none_in frame taken)

pub takes_no_frame : (events : List Event) (call : Call) → ((bytes : List ℕ) (said : Result Answer TillFault) → call ≢ Reply bytes said) → ((bytes : List ℕ) (said : Result ReversalAnswer TillFault) → call ≢ ReversalReply bytes said)
    → WereGivenIn events (call ∷ [])
takes_no_frame events (Reply bytes said) no_reply no_reversal = absurd (no_reply bytes said refl)
takes_no_frame events (ReversalReply bytes said) no_reply no_reversal = absurd (no_reversal bytes said refl)
takes_no_frame events (Begin purchase said) no_reply no_reversal = λ frame taken. absurd (none_in frame taken)
takes_no_frame events (Reverse said) no_reply no_reversal = λ frame taken. absurd (none_in frame taken)
takes_no_frame events (Restart said) no_reply no_reversal = λ frame taken. absurd (none_in frame taken)
takes_no_frame events (Load asked said) no_reply no_reversal = λ frame taken. absurd (none_in frame taken)
takes_no_frame events (ArmTerminal steps) no_reply no_reversal = λ frame taken. absurd (none_in frame taken)
takes_no_frame events (ArmBook steps) no_reply no_reversal = λ frame taken. absurd (none_in frame taken)
takes_no_frame events Stop no_reply no_reversal = λ frame taken. absurd (none_in frame taken)
