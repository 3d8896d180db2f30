-- What `reply` makes of its arguments, and the first of its faults.
use Rattle.std.proofs.Common.{◌≡◌, ◌⊎◌, ◌<◌, ◌≤◌, ℕ, List, Option, Some, Result, Ok, Err, IfErr, IfOk, ap, ap₂, refl, sym, subst, ◌∙◌, inl, inr, arith}
use Rattle.std.specs.Prelude.{IsSome}
use Rattle.hex.specs.declared.error.FromHexError.{FromHexError}
use Rattle.duk_block.specs.Hexadecimal.{IsHexadecimal}
use Rattle.duk_commands.specs.Fault.{fault_rank}
use Rattle.duk_commands.specs.KeyArgument.{initial_from, key_in}
use Rattle.duk_commands.specs.declared.fault.Fault.{Fault}
use Rattle.duk_commands.specs.declared.fault.Fault.TheVariants.{AnswerRefused, BadMac, BdkRefused, InitialRefused, NotMine, OutOfMemory, RequestRefused}
use Rattle.duk_commands.specs.declared.key_argument.KeyArgument.{KeyArgument}
use Rattle.duk_commands.specs.declared.key_argument.KeyArgument.TheVariants.{Base, Initial}
use Rattle.duk_commands.specs.Frames.{AreOfOneNumber, HasItsMac, IsAsked, IsReply, IsReplyRefused, IsTold, IsToldOf, MeetsReply, WritesAsked, WritesTold, number_of, reply_arguments}
use Rattle.duk_commands.specs.inner.Frames.{IsToldLine, IsToldRefused, key_of}
use Rattle.duk_commands.specs.declared.asked.Asked.{Asked}
use Rattle.duk_commands.specs.declared.frames.Reply.{Reply}
use Rattle.duk_commands.specs.declared.start.Start.{Start}
use Rattle.duk_commands.specs.declared.told.Told.{Told}
use Rattle.duk_tree.specs.Derivation.{transaction_key_of}
use Rattle.duk_tree.specs.Serial.{Serial}

-- what is demanded before a limit
pub reply_met : (given : KeyArgument) (request answer : List ℕ) → IsSome (key_in given) → (limit : ℕ) → limit ≤ 16
    → (13 < limit → (asked : Asked) × WritesAsked request asked)
    → (14 < limit → (bytes : List ℕ) × (told : Told) × WritesTold answer bytes told)
    → (15 < limit → AreOfOneNumber (reply_arguments given request answer))
    → (fault : Fault) → fault_rank fault < limit → MeetsReply (reply_arguments given request answer) fault
reply_met given request answer key limit most asked told one RequestRefused below = asked below
reply_met given request answer key limit most asked told one AnswerRefused below = told below
reply_met given request answer key limit most asked told one NotMine below = one below
reply_met given request answer key limit most asked told one BadMac below = absurd (omega arith)
reply_met (Base text) request answer key limit most asked told one BdkRefused below = key
reply_met (Initial text) request answer key limit most asked told one InitialRefused below = key
reply_met (Base text) request answer key limit most asked told one fault below = tt
reply_met (Initial text) request answer key limit most asked told one fault below = tt

-- why a terminal's frame is not read is the fault, or else memory
pub request_refused : {T : Type 0} (given : KeyArgument) (request answer : List ℕ) (read : Result T Fault) → IsSome (key_in given)
    → IfErr read (λ why. (why ≡ OutOfMemory) ⊎ ((why ≡ RequestRefused) × ((asked : Asked) → ¬ WritesAsked request asked)))
    → IfErr read (IsReplyRefused (reply_arguments given request answer))
request_refused given request answer (Ok number) key cause = tt
request_refused given request answer (Err why) key (inl memory) = subst (IsReplyRefused (reply_arguments given request answer)) (sym memory) key
request_refused given request answer (Err why) key (inr (same, none)) = subst (IsReplyRefused (reply_arguments given request answer)) (sym same) (record {
  fails = λ asked. none asked.0 asked.1;
  earlier_met = reply_met given request answer key 13 (omega arith) (λ h. absurd (omega arith)) (λ h. absurd (omega arith)) (λ h. absurd (omega arith));
})

-- what was read before the answer
pub record HasRead (given : KeyArgument) (request answer : List ℕ) (start : Start) (asked : Asked) (bytes : List ℕ) : Type 0 where
  pub base : List ℕ
  pub key_read : key_in given ≡ Some base
  pub initial_is : start.initial ≡ initial_from given base start.ksn.iksn
  pub asked_read : WritesAsked request asked
  pub ksn_is : number_of asked ≡ start.ksn
  pub bytes_read : IsHexadecimal answer bytes

-- bytes are one frame of a terminal at most, and one of the host
pub record OneReading : Type 0 where
  pub asked : (bytes : List ℕ) (one other : Asked) → IsAsked bytes one → IsAsked bytes other → one ≡ other
  pub told : (bytes : List ℕ) (one other : Told) → IsTold bytes one → IsTold bytes other → one ≡ other

-- a text writes one list of bytes
one_text : (text one other : List ℕ) → IsHexadecimal text one → IsHexadecimal text other → one ≡ other
one_text text one other a b =
    let same : ◌≡◌ {A = Result (List ℕ) FromHexError} (Ok one) (Ok other) = sym a ∙ b in cc same

some_is : (a b : List ℕ) → ◌≡◌ {A = Option (List ℕ)} (Some a) (Some b) → a ≡ b
some_is a b same = cc same

same_asked : (text : List ℕ) (one other : Asked) → OneReading → WritesAsked text one → WritesAsked text other → one ≡ other
same_asked text one other readings a b =
    readings.asked b.bytes one other
    (subst (λ bytes. IsAsked bytes one) (one_text text a.bytes b.bytes a.read b.read) a.is_asked) b.is_asked

pub answered : (given : KeyArgument) (request answer : List ℕ) (start : Start) (asked : Asked) (bytes : List ℕ)
    → (made : Result Reply Fault) → HasRead given request answer start asked bytes
    → IfOk made (λ reply. IsToldLine start asked bytes reply.refused reply.lines.items)
    → IfOk made (λ reply. IsReply (reply_arguments given request answer) reply.refused reply.lines.items)
answered given request answer start asked bytes (Err why) has line = tt
answered given request answer start asked bytes (Ok reply) has line = record {
  told = line.told;
  read = record {
    asked = asked;
    key = key_of start;
    bytes = bytes;
    key_is = record {
      base = has.base;
      key_read = has.key_read;
      key_is = ap (λ i. transaction_key_of i start.ksn.iksn start.ksn.counter) has.initial_is
          ∙ ap (λ (s : Serial). transaction_key_of (initial_from given has.base s.iksn) s.iksn s.counter) (sym has.ksn_is);
    };
    asked_read = has.asked_read;
    told_read = record { read = has.bytes_read; is_told = line.is_told };
    told_of = line.told_of;
    has_its_mac = line.has_its_mac;
  };
  refused_is = line.refused_is;
  text_is = line.text_is;
}

pub refused : {T : Type 0} (given : KeyArgument) (request answer : List ℕ) (start : Start) (asked : Asked) (bytes : List ℕ) (made : Result T Fault)
    → OneReading → HasRead given request answer start asked bytes → IfErr made (IsToldRefused start asked bytes)
    → IfErr made (IsReplyRefused (reply_arguments given request answer))
refused given request answer start asked bytes (Ok lines) readings has why = tt
refused given request answer start asked bytes (Err AnswerRefused) readings has why = record {
  fails = λ found. why found.1 (subst (λ b. IsTold b found.1) (one_text answer found.0 bytes found.2.read has.bytes_read) found.2.is_told);
  earlier_met = reply_met given request answer (rw has.key_read refl) 14 (omega arith) (λ h. (asked, has.asked_read)) (λ h. absurd (omega arith)) (λ h. absurd (omega arith));
}
refused given request answer start asked bytes (Err NotMine) readings has why = record {
  fails = λ found.
      let bytes_are = one_text answer found.bytes bytes found.told_read.read has.bytes_read in
      let told = readings.told bytes found.told why.told (subst (λ b. IsTold b found.told) bytes_are found.told_read.is_told) why.is_told in
      let same = same_asked request found.asked asked readings found.asked_read has.asked_read in
      why.of_other (subst (λ t. IsToldOf asked t) told (subst (λ a. IsToldOf a found.told) same found.told_of));
  earlier_met = reply_met given request answer (rw has.key_read refl) 15 (omega arith) (λ h. (asked, has.asked_read))
      (λ h. (bytes, why.told, record { read = has.bytes_read; is_told = why.is_told })) (λ h. absurd (omega arith));
}
refused given request answer start asked bytes (Err BadMac) readings has why = record {
  fails = λ found.
      let are = found.1 in
      let bytes_are = one_text answer are.bytes bytes are.told_read.read has.bytes_read in
      let told = readings.told bytes found.0 why.told (subst (λ b. IsTold b found.0) bytes_are are.told_read.is_told) why.is_told in
      let same = same_asked request are.asked asked readings are.asked_read has.asked_read in
      let base = some_is are.key_is.base has.base (sym are.key_is.key_read ∙ has.key_read) in
      let number : number_of are.asked ≡ start.ksn = ap number_of same ∙ has.ksn_is in
      let key : are.key ≡ key_of start = are.key_is.key_is
      ∙ ap₂ (λ (b : List ℕ) (s : Serial). transaction_key_of (initial_from given b s.iksn) s.iksn s.counter) base number
      ∙ ap (λ i. transaction_key_of i start.ksn.iksn start.ksn.counter) (sym has.initial_is) in
      why.other_mac (subst (λ t. HasItsMac (key_of start) bytes t) told
      (subst (λ b. HasItsMac (key_of start) b found.0) bytes_are
      (subst (λ k. HasItsMac k are.bytes found.0) key are.has_its_mac)));
  earlier_met = reply_met given request answer (rw has.key_read refl) 16 (omega arith) (λ h. (asked, has.asked_read))
      (λ h. (bytes, why.told, record { read = has.bytes_read; is_told = why.is_told }))
      (λ h. record {
        asked = asked;
        bytes = bytes;
        told = why.told;
        asked_read = has.asked_read;
        told_read = record { read = has.bytes_read; is_told = why.is_told };
        told_of = why.told_of;
      });
}
refused given request answer start asked bytes (Err fault) readings has why = absurd why
