-- The lines of outcomes of tills (this project's own).
use Rattle.std.specs.Prelude.{ℕ, List, [], ◌∷◌, ◌++◌, None, Option, Some, codes, decimal}
use Rattle.std.specs.List.{flat_map}
use Rattle.duk_books.specs.declared.event.End.TheVariants as end
use Rattle.duk_books.specs.declared.outcome.Outcome.{Outcome}
use Rattle.duk_books.specs.declared.outcome.Outcome.TheVariants.{Loaded, Sent, Reversing, Accepted, Repeated, Refused, Reversed, Done, Undone, GotRefusal, TillNext, HostKeeps, Armed, TillFaulted, HostFaulted, IksnElsewhere, NoKeySet, NoSuchTill, NoSuchFrame}
use Rattle.duk_frame.specs.Code.{code_text}
use Rattle.duk_net.specs.declared.event.End.TheVariants as net_end
use Rattle.duk_net.specs.declared.outcome.Outcome as net
use Rattle.duk_net.specs.declared.outcome.Outcome.TheVariants as same
use Rattle.duk_reversal.specs.declared.state.ReversalState.{ReversalState}
use Rattle.duk_reversal.specs.declared.state.ReversalState.TheVariants as found
use Rattle.duk_script.specs.OutcomeText as script
use Rattle.duk_script.specs.OutcomeText.{ksn_text, next_tokens}
use Rattle.duk_script.specs.Script.{spaced, terminal_name}
use Rattle.duk_term.specs.declared.fault.TermFault.TheVariants as terminal_fault
use Rattle.duk_till.specs.declared.fault.TillFault.TheVariants as fault
use Rattle.duk_till.specs.declared.last.Last.TheVariants.{Open, Approved, Declined, Undone as UndoneLast}
use Rattle.duk_till.specs.declared.state.TillState.{TillState}
use Rattle.duk_till.specs.declared.state.TillState.TheVariants.{Running, Stopped}

-- the same outcome of terminals, where they have it; the fault of a book is told as that of a cell
abbrev pub same_outcome : Outcome → Option net.Outcome
same_outcome (Loaded t iksn) = Some (same.Loaded t iksn)
same_outcome (Sent t k ksn) = Some (same.Sent t k ksn)
same_outcome (Accepted k ksn code) = Some (same.Accepted k ksn code)
same_outcome (Repeated k ksn code) = Some (same.Repeated k ksn code)
same_outcome (Refused k ksn reason) = Some (same.Refused k ksn reason)
same_outcome (Done t ksn code) = Some (same.Done t ksn code)
same_outcome (GotRefusal t ksn reason) = Some (same.GotRefusal t ksn reason)
same_outcome (HostKeeps n) = Some (same.HostUsed n)
same_outcome (Armed end.Host n) = Some (same.Armed net_end.Host n)
same_outcome (Armed (end.Terminal t) n) = Some (same.Armed (net_end.Term t) n)
same_outcome (TillFaulted t (fault.Terminal why)) = Some (same.TermFaulted t why)
same_outcome (TillFaulted t (fault.Store why)) =
    Some (same.TermFaulted t (terminal_fault.Store why))
same_outcome (HostFaulted why) = Some (same.HostFaulted why)
same_outcome (IksnElsewhere t) = Some (same.IksnElsewhere t)
same_outcome (NoKeySet t) = Some (same.NoKeySet t)
same_outcome NoSuchTill = Some same.NoSuchTerminal
same_outcome NoSuchFrame = Some same.NoSuchFrame
same_outcome _ = None

-- what a reversal found: 01, a payment stood and is undone; 00, none stands
abbrev pub state_text : ReversalState → List ℕ
state_text found.Undone = codes "01"
state_text found.NoneStands = codes "00"

-- the tokens of what a till's book keeps, behind which number it uses next
abbrev pub last_tokens : TillState → List (List ℕ)
last_tokens Stopped = []
last_tokens (Running None) = []
last_tokens (Running (Some (Open ksn amount))) = codes "open" ∷ ksn_text ksn ∷ []
last_tokens (Running (Some (Approved ksn amount))) = codes "approved" ∷ ksn_text ksn ∷ []
last_tokens (Running (Some (Declined ksn why))) =
    codes "declined" ∷ ksn_text ksn ∷ code_text why ∷ []
last_tokens (Running (Some (UndoneLast ksn))) = codes "undone" ∷ ksn_text ksn ∷ []

-- the tokens of an outcome that terminals do not have
abbrev pub till_tokens : Outcome → List (List ℕ)
till_tokens (Reversing t k ksn reversed) =
    terminal_name t ∷ codes "reversing" ∷ decimal k ∷ ksn_text ksn ∷ codes "of"
    ∷ ksn_text reversed ∷ []
till_tokens (Reversed k ksn reversed state) =
    codes "answer" ∷ decimal k ∷ codes "undone" ∷ ksn_text ksn ∷ codes "of" ∷ ksn_text reversed
    ∷ state_text state ∷ []
till_tokens (Undone t ksn state) = terminal_name t ∷ codes "undone" ∷ ksn_text ksn ∷ []
till_tokens (TillNext t next state) = terminal_name t ∷ next_tokens next ++ last_tokens state
till_tokens (Armed (end.Book t) n) =
    terminal_name t ∷ codes "book" ∷ codes "armed" ∷ decimal n ∷ []
till_tokens (TillFaulted t fault.Stopped) = terminal_name t ∷ codes "fault" ∷ codes "Stopped" ∷ []
till_tokens (TillFaulted t fault.Open) = terminal_name t ∷ codes "fault" ∷ codes "Open" ∷ []
till_tokens (TillFaulted t fault.NothingOpen) =
    terminal_name t ∷ codes "fault" ∷ codes "NothingOpen" ∷ []
till_tokens _ = []

-- the tokens of what is the same of terminals, or of tills alone
abbrev pub tokens_in : Outcome → Option net.Outcome → List (List ℕ)
tokens_in outcome (Some terminals) = script.outcome_tokens terminals
tokens_in outcome None = till_tokens outcome

-- the line of an outcome: its tokens, with one space between each two, and LF
abbrev pub line_of : Outcome → List ℕ
line_of outcome = spaced (tokens_in outcome (same_outcome outcome)) ++ codes "\n"

-- the lines of outcomes, one after the other
abbrev pub lines_of : List Outcome → List ℕ
lines_of outcomes = flat_map line_of outcomes
