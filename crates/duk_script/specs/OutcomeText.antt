-- The lines of outcomes (this project's own).
use Rattle.std.specs.Prelude.{ℕ, List, [], ◌∷◌, ◌++◌, codes, decimal}
use Rattle.std.specs.List.{flat_map}
use Rattle.hex.specs.Hex.{encode_upper}
use Rattle.duk_tree.specs.Serial.{Serial, iksn_bytes, serial_bytes}
use Rattle.duk_frame.specs.Code.{code_text}
use Rattle.duk_term.specs.declared.answer.Next.{Next}
use Rattle.duk_term.specs.declared.answer.Next.TheVariants.{Stopped, Empty, Spent, At}
use Rattle.duk_net.specs.declared.outcome.Outcome.{Outcome}
use Rattle.duk_net.specs.declared.outcome.Outcome.TheVariants.{Loaded, Sent, Accepted, Repeated, Refused, Done, GotRefusal, TermNext, HostUsed, Armed, TermFaulted, HostFaulted, IksnElsewhere, NoKeySet, NoSuchTerminal, NoSuchFrame}
use Rattle.duk_host.specs.FaultText.{host_fault_text}
use Rattle.duk_term.specs.FaultText.{term_fault_text}
use Rattle.duk_script.specs.Script.{end_name, spaced, terminal_name}

-- a key serial number: twenty hexadecimal digits in upper case
abbrev pub ksn_text : Serial → List ℕ
ksn_text ksn = encode_upper (serial_bytes ksn)

-- an initial key serial number: those of the key serial number with counter zero
abbrev pub iksn_text : ℕ → List ℕ
iksn_text iksn = encode_upper (iksn_bytes iksn)

-- the tokens of a terminal's restart: which number it uses next
abbrev pub next_tokens : Next → List (List ℕ)
next_tokens (At ksn) = codes "next" ∷ ksn_text ksn ∷ []
next_tokens Spent = codes "spent" ∷ []
next_tokens Empty = codes "empty" ∷ []
next_tokens Stopped = codes "stopped" ∷ []

-- the tokens of an outcome
abbrev pub outcome_tokens : Outcome → List (List ℕ)
outcome_tokens (Loaded t iksn) = terminal_name t ∷ codes "loaded" ∷ iksn_text iksn ∷ []
outcome_tokens (Sent t k ksn) = terminal_name t ∷ codes "sent" ∷ decimal k ∷ ksn_text ksn ∷ []
outcome_tokens (Accepted k ksn code) =
    codes "answer" ∷ decimal k ∷ codes "accepted" ∷ ksn_text ksn ∷ code_text code ∷ []
outcome_tokens (Repeated k ksn code) =
    codes "answer" ∷ decimal k ∷ codes "repeated" ∷ ksn_text ksn ∷ code_text code ∷ []
outcome_tokens (Refused k ksn reason) =
    codes "answer" ∷ decimal k ∷ codes "refused" ∷ ksn_text ksn ∷ decimal reason ∷ []
outcome_tokens (Done t ksn code) =
    terminal_name t ∷ codes "done" ∷ ksn_text ksn ∷ code_text code ∷ []
outcome_tokens (GotRefusal t ksn reason) =
    terminal_name t ∷ codes "refused" ∷ ksn_text ksn ∷ decimal reason ∷ []
outcome_tokens (TermNext t next) = terminal_name t ∷ next_tokens next
outcome_tokens (HostUsed n) = codes "host" ∷ codes "used" ∷ decimal n ∷ []
outcome_tokens (Armed end n) = end_name end ∷ codes "armed" ∷ decimal n ∷ []
outcome_tokens (TermFaulted t fault) = terminal_name t ∷ codes "fault" ∷ term_fault_text fault ∷ []
outcome_tokens (HostFaulted fault) = codes "host" ∷ codes "fault" ∷ host_fault_text fault ∷ []
outcome_tokens (IksnElsewhere t) = terminal_name t ∷ codes "IKSN" ∷ codes "elsewhere" ∷ []
outcome_tokens (NoKeySet t) = terminal_name t ∷ codes "no" ∷ codes "key" ∷ codes "set" ∷ []
outcome_tokens NoSuchTerminal = codes "no" ∷ codes "such" ∷ codes "terminal" ∷ []
outcome_tokens NoSuchFrame = codes "no" ∷ codes "such" ∷ codes "frame" ∷ []

-- the line of an outcome: its tokens, with one space between each two, and LF
abbrev pub line_of : Outcome → List ℕ
line_of outcome = spaced (outcome_tokens outcome) ++ codes "\n"

-- the lines of outcomes, one after the other
abbrev pub lines_of : List Outcome → List ℕ
lines_of outcomes = flat_map line_of outcomes
