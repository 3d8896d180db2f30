-- What only private functions and proofs say beside `Handle.antt`: this project's own.
use Rattle.std.specs.Prelude.{◌≡◌, ℕ, List, Some}
use Rattle.duk_frame.specs.Answer.{IsRefusal}
use Rattle.duk_frame.specs.declared.request.Request.{Request}
use Rattle.duk_tree.specs.Serial.{Serial}
use Rattle.duk_host.specs.Host.{HostMeaning, HostOf}
use Rattle.duk_host.specs.Judgement.{IsReplyTo}
use Rattle.duk_host.specs.Recent.{Exchange, IsReplyWithCode, exchange, with_exchange}
use Rattle.duk_host.specs.declared.answered.Verdict.{Verdict}
use Rattle.duk_host.specs.declared.answered.Verdict.TheVariants.{Accepted, Refused, Repeated}
use Rattle.duk_host.specs.declared.running.Running.{Running}
use Rattle.duk_host.specs.Handle.{IsNumberKept}

-- the number is in the log, and is used, and the latest exchanges stay: what a private function
-- does
pub record IsNumberAdded
    {L I : Type 0} (meaning : HostMeaning L I) (old new : HostOf L I) (ksn : Serial) : Type 0 where
  pub kept : IsNumberKept meaning old new ksn
  pub recent : kept.after.recent ≡ kept.before.recent

-- a running host keeps one exchange more in memory, and all else stays: what a private function
-- does
pub record IsRemembered
    {L I : Type 0} (old new : HostOf L I) (last : Exchange) : Type 0 where
  pub before : Running
  pub after : Running
  pub was_running : old.state ≡ Some before
  pub rest : new ≡ record old { state = Some after }
  pub used : after.used ≡ before.used
  pub recent : after.recent ≡ with_exchange before.recent last

-- the number of a request is kept, the frame is its reply, and the two are the latest exchange
pub record IsReplied
    {L I : Type 0} (meaning : HostMeaning L I) (bytes : List ℕ) (old new : HostOf L I)
    (request : Request) (frame : List ℕ) : Type 0 where
  pub kept : IsNumberKept meaning old new request.ksn
  pub reply : IsReplyTo old.keys (meaning.decides old.issuer) request frame
  pub recent : kept.after.recent ≡ with_exchange kept.before.recent (exchange bytes frame)

-- what is said of a frame is the refusal that it is
abbrev pub IsRefusalVerdict : List ℕ → Verdict → Type 0
IsRefusalVerdict frame (Refused ksn reason) = IsRefusal frame ksn reason
IsRefusalVerdict frame _ = ⊥

-- what is said of a frame is the accepted reply that it is
abbrev pub IsAcceptedVerdict : List ℕ → Verdict → Type 0
IsAcceptedVerdict frame (Accepted ksn code) = IsReplyWithCode frame ksn code
IsAcceptedVerdict frame _ = ⊥

-- what is said of a frame is that it is an accepted reply that was given before
abbrev pub IsRepeatedVerdict : List ℕ → Verdict → Type 0
IsRepeatedVerdict frame (Repeated ksn code) = IsReplyWithCode frame ksn code
IsRepeatedVerdict frame _ = ⊥
