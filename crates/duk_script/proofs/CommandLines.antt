-- The line of a command: the tokens after it.
use Rattle.std.proofs.Common.{◌≡◌, ℕ, List, [], ◌∷◌, ◌++◌, ◌≢◌, drop, codes, decimal, Option, Some, sym, ap, ◌∙◌, refl, true, false, not, eqb, arith}
use Rattle.std.proofs.lemmas.Bool.{eqb-false, false≢true}
use Rattle.std.proofs.lemmas.List.Sums.{AllPass-from_list_all}
use Rattle.std.specs.List.{list_all}
use Rattle.duk_term.specs.declared.purchase.Purchase.{Purchase}
use Rattle.duk_net.specs.declared.event.End.{End}
use Rattle.duk_net.specs.declared.event.Event.{Event}
use Rattle.duk_net.specs.declared.event.Event.TheVariants.{Load, Begin, Up, Down, RestartTerm, RestartHost, Arm}
use Rattle.duk_script.specs.Script.{HasNoSpace, IsNumber, IsSplit, IsTerminal, IsLoad, IsBegin, IsDown, IsArm, IsEventLine, terminal_name, spaced}
use Rattle.duk_script.specs.inner.Reading.{AreLoadTokens, AreBeginTokens, AreDownTokens, AreArmTokens}
use Rattle.duk_script.proofs.LineTokens.{no_space_terminal, no_space_end, no_space_decimal}

load_tokens : (line tokens : List ℕ) (t iksn : ℕ) → IsSplit line (codes "load") tokens → IsLoad line t iksn → AreLoadTokens tokens t iksn
load_tokens line tokens t iksn split is = record {
  terminal = is.terminal;
  text = is.text;
  spelled = is.spelled;
  split = record { one_token = no_space_terminal t is.terminal; text_is = ap (drop 5) (sym split.text_is ∙ is.line_is) };
}

begin_tokens : (line tokens : List ℕ) (t : ℕ) (purchase : Purchase) → IsSplit line (codes "begin") tokens → IsBegin line t purchase → AreBeginTokens tokens t purchase
begin_tokens line tokens t purchase split is = record {
  terminal = is.terminal;
  text = spaced (purchase.pan ∷ purchase.pin ∷ decimal purchase.amount ∷ []);
  bought = record { pan = is.pan; pin = is.pin; amount = is.amount; text_is = refl };
  split = record { one_token = no_space_terminal t is.terminal; text_is = ap (drop 6) (sym split.text_is ∙ is.line_is) };
}

down_tokens : (line tokens : List ℕ) (k t : ℕ) → IsSplit line (codes "down") tokens → IsDown line k t → AreDownTokens tokens k t
down_tokens line tokens k t split is = record {
  number = is.number;
  terminal = is.terminal;
  split = record { one_token = no_space_decimal k (omega (arith, is.number)); text_is = ap (drop 5) (sym split.text_is ∙ is.line_is) };
}

arm_tokens : (line tokens : List ℕ) (end : End) (n : ℕ) → IsSplit line (codes "arm") tokens → IsArm line end n → AreArmTokens tokens end n
arm_tokens line tokens end n split is = record {
  named = is.named;
  number = is.number;
  split = record { one_token = no_space_end end is.named; text_is = ap (drop 4) (sym split.text_is ∙ is.line_is) };
}

-- the first byte of a list
abbrev first_byte : List ℕ → ℕ
first_byte [] = 0
first_byte (byte ∷ bytes) = byte

-- two texts that begin with different bytes are not equal
apart : {A : Type 0} (a b : ℕ) → a ≡ b → eqb a b ≡ false → A
apart a b e other = absurd (omega (arith, eqb-false a b other, e))

-- the event of a line that begins with this command
pub load_every : (line tokens : List ℕ) (read : Option Event) → IsSplit line (codes "load") tokens
    → ((t iksn : ℕ) → AreLoadTokens tokens t iksn → read ≡ Some (Load t iksn))
    → (event : Event) → IsEventLine line event → read ≡ Some event
load_every line tokens read split every (Load t iksn) is = every t iksn (load_tokens line tokens t iksn split is)
load_every line tokens read split every (Begin t purchase) is = apart 108 98 (ap first_byte (sym split.text_is ∙ is.line_is)) refl
load_every line tokens read split every (Up k) is = apart 108 117 (ap first_byte (sym split.text_is ∙ is.line_is)) refl
load_every line tokens read split every (Down k t) is = apart 108 100 (ap first_byte (sym split.text_is ∙ is.line_is)) refl
load_every line tokens read split every (RestartTerm t) is = apart 108 114 (ap first_byte (sym split.text_is ∙ is.line_is)) refl
load_every line tokens read split every RestartHost is = apart 108 114 (ap first_byte (sym split.text_is ∙ is.line_is)) refl
load_every line tokens read split every (Arm end n) is = apart 108 97 (ap first_byte (sym split.text_is ∙ is.line_is)) refl

-- the event of a line that begins with this command
pub begin_every : (line tokens : List ℕ) (read : Option Event) → IsSplit line (codes "begin") tokens
    → ((t : ℕ) (purchase : Purchase) → AreBeginTokens tokens t purchase → read ≡ Some (Begin t purchase))
    → (event : Event) → IsEventLine line event → read ≡ Some event
begin_every line tokens read split every (Load t iksn) is = apart 98 108 (ap first_byte (sym split.text_is ∙ is.line_is)) refl
begin_every line tokens read split every (Begin t purchase) is = every t purchase (begin_tokens line tokens t purchase split is)
begin_every line tokens read split every (Up k) is = apart 98 117 (ap first_byte (sym split.text_is ∙ is.line_is)) refl
begin_every line tokens read split every (Down k t) is = apart 98 100 (ap first_byte (sym split.text_is ∙ is.line_is)) refl
begin_every line tokens read split every (RestartTerm t) is = apart 98 114 (ap first_byte (sym split.text_is ∙ is.line_is)) refl
begin_every line tokens read split every RestartHost is = apart 98 114 (ap first_byte (sym split.text_is ∙ is.line_is)) refl
begin_every line tokens read split every (Arm end n) is = apart 98 97 (ap first_byte (sym split.text_is ∙ is.line_is)) refl

-- the event of a line that begins with this command
pub up_every : (line tokens : List ℕ) (read : Option Event) → IsSplit line (codes "up") tokens
    → ((k : ℕ) → IsNumber k → tokens ≡ decimal k → read ≡ Some (Up k))
    → (event : Event) → IsEventLine line event → read ≡ Some event
up_every line tokens read split every (Load t iksn) is = apart 117 108 (ap first_byte (sym split.text_is ∙ is.line_is)) refl
up_every line tokens read split every (Begin t purchase) is = apart 117 98 (ap first_byte (sym split.text_is ∙ is.line_is)) refl
up_every line tokens read split every (Up k) is = every k is.number (ap (drop 3) (sym split.text_is ∙ is.line_is))
up_every line tokens read split every (Down k t) is = apart 117 100 (ap first_byte (sym split.text_is ∙ is.line_is)) refl
up_every line tokens read split every (RestartTerm t) is = apart 117 114 (ap first_byte (sym split.text_is ∙ is.line_is)) refl
up_every line tokens read split every RestartHost is = apart 117 114 (ap first_byte (sym split.text_is ∙ is.line_is)) refl
up_every line tokens read split every (Arm end n) is = apart 117 97 (ap first_byte (sym split.text_is ∙ is.line_is)) refl

-- the event of a line that begins with this command
pub down_every : (line tokens : List ℕ) (read : Option Event) → IsSplit line (codes "down") tokens
    → ((k t : ℕ) → AreDownTokens tokens k t → read ≡ Some (Down k t))
    → (event : Event) → IsEventLine line event → read ≡ Some event
down_every line tokens read split every (Load t iksn) is = apart 100 108 (ap first_byte (sym split.text_is ∙ is.line_is)) refl
down_every line tokens read split every (Begin t purchase) is = apart 100 98 (ap first_byte (sym split.text_is ∙ is.line_is)) refl
down_every line tokens read split every (Up k) is = apart 100 117 (ap first_byte (sym split.text_is ∙ is.line_is)) refl
down_every line tokens read split every (Down k t) is = every k t (down_tokens line tokens k t split is)
down_every line tokens read split every (RestartTerm t) is = apart 100 114 (ap first_byte (sym split.text_is ∙ is.line_is)) refl
down_every line tokens read split every RestartHost is = apart 100 114 (ap first_byte (sym split.text_is ∙ is.line_is)) refl
down_every line tokens read split every (Arm end n) is = apart 100 97 (ap first_byte (sym split.text_is ∙ is.line_is)) refl

-- the events of a line that begins with this command
pub restart_every : (line tokens : List ℕ) (read : Option Event) → IsSplit line (codes "restart") tokens
    → (tokens ≡ codes "host" → read ≡ Some RestartHost)
    → ((t : ℕ) → IsTerminal t → tokens ≡ terminal_name t → read ≡ Some (RestartTerm t))
    → (event : Event) → IsEventLine line event → read ≡ Some event
restart_every line tokens read split host terminal (Load t iksn) is = apart 114 108 (ap first_byte (sym split.text_is ∙ is.line_is)) refl
restart_every line tokens read split host terminal (Begin t purchase) is = apart 114 98 (ap first_byte (sym split.text_is ∙ is.line_is)) refl
restart_every line tokens read split host terminal (Up k) is = apart 114 117 (ap first_byte (sym split.text_is ∙ is.line_is)) refl
restart_every line tokens read split host terminal (Down k t) is = apart 114 100 (ap first_byte (sym split.text_is ∙ is.line_is)) refl
restart_every line tokens read split host terminal (RestartTerm t) is = terminal t is.named (ap (drop 8) (sym split.text_is ∙ is.line_is))
restart_every line tokens read split host terminal RestartHost is = host (ap (drop 8) (sym split.text_is ∙ is.line_is))
restart_every line tokens read split host terminal (Arm end n) is = apart 114 97 (ap first_byte (sym split.text_is ∙ is.line_is)) refl

-- the event of a line that begins with this command
pub arm_every : (line tokens : List ℕ) (read : Option Event) → IsSplit line (codes "arm") tokens
    → ((end : End) (n : ℕ) → AreArmTokens tokens end n → read ≡ Some (Arm end n))
    → (event : Event) → IsEventLine line event → read ≡ Some event
arm_every line tokens read split every (Load t iksn) is = apart 97 108 (ap first_byte (sym split.text_is ∙ is.line_is)) refl
arm_every line tokens read split every (Begin t purchase) is = apart 97 98 (ap first_byte (sym split.text_is ∙ is.line_is)) refl
arm_every line tokens read split every (Up k) is = apart 97 117 (ap first_byte (sym split.text_is ∙ is.line_is)) refl
arm_every line tokens read split every (Down k t) is = apart 97 100 (ap first_byte (sym split.text_is ∙ is.line_is)) refl
arm_every line tokens read split every (RestartTerm t) is = apart 97 114 (ap first_byte (sym split.text_is ∙ is.line_is)) refl
arm_every line tokens read split every RestartHost is = apart 97 114 (ap first_byte (sym split.text_is ∙ is.line_is)) refl
arm_every line tokens read split every (Arm end n) is = every end n (arm_tokens line tokens end n split is)

-- the command of an event
abbrev pub command_of : Event → List ℕ
command_of (Load t iksn) = codes "load"
command_of (Begin t purchase) = codes "begin"
command_of (Up k) = codes "up"
command_of (Down k t) = codes "down"
command_of (RestartTerm t) = codes "restart"
command_of RestartHost = codes "restart"
command_of (Arm end n) = codes "arm"

-- a token without a space, by its bytes
no_space_in : (token : List ℕ) → list_all (λ byte. not (eqb byte 32)) token ≡ true → HasNoSpace token
no_space_in token none i inside = λ space.
    absurd (false≢true (rw space at (AllPass-from_list_all (λ byte. not (eqb byte 32)) token none i 0 inside)))

-- what stands after it on its line
pub command_split : (line : List ℕ) (event : Event) → IsEventLine line event → (rest : List ℕ) × IsSplit line (command_of event) rest
command_split line (Load t iksn) is = (drop 5 line, record { one_token = no_space_in (codes "load") refl; text_is = is.line_is ∙ ap (λ l. codes "load " ++ drop 5 l) (sym is.line_is) })
command_split line (Begin t purchase) is = (drop 6 line, record { one_token = no_space_in (codes "begin") refl; text_is = is.line_is ∙ ap (λ l. codes "begin " ++ drop 6 l) (sym is.line_is) })
command_split line (Up k) is = (drop 3 line, record { one_token = no_space_in (codes "up") refl; text_is = is.line_is ∙ ap (λ l. codes "up " ++ drop 3 l) (sym is.line_is) })
command_split line (Down k t) is = (drop 5 line, record { one_token = no_space_in (codes "down") refl; text_is = is.line_is ∙ ap (λ l. codes "down " ++ drop 5 l) (sym is.line_is) })
command_split line (RestartTerm t) is = (drop 8 line, record { one_token = no_space_in (codes "restart") refl; text_is = is.line_is ∙ ap (λ l. codes "restart " ++ drop 8 l) (sym is.line_is) })
command_split line RestartHost is = (drop 8 line, record { one_token = no_space_in (codes "restart") refl; text_is = is.line_is ∙ ap (λ l. codes "restart " ++ drop 8 l) (sym is.line_is) })
command_split line (Arm end n) is = (drop 4 line, record { one_token = no_space_in (codes "arm") refl; text_is = is.line_is ∙ ap (λ l. codes "arm " ++ drop 4 l) (sym is.line_is) })

-- no event has another command
pub unknown : {A : Type 0} (command : List ℕ) → command ≢ codes "load" → command ≢ codes "begin" → command ≢ codes "up" → command ≢ codes "down"
    → command ≢ codes "restart" → command ≢ codes "arm" → (event : Event) → command ≡ command_of event → A
unknown command load begin up down restart arm (Load t iksn) is = absurd (load is)
unknown command load begin up down restart arm (Begin t purchase) is = absurd (begin is)
unknown command load begin up down restart arm (Up k) is = absurd (up is)
unknown command load begin up down restart arm (Down k t) is = absurd (down is)
unknown command load begin up down restart arm (RestartTerm t) is = absurd (restart is)
unknown command load begin up down restart arm RestartHost is = absurd (restart is)
unknown command load begin up down restart arm (Arm end n) is = absurd (arm is)
