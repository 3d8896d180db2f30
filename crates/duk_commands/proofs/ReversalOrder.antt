-- The first fault of `request` where it reverses, in the order of the faults.
use Rattle.std.proofs.Common.{◌≡◌, ◌<◌, ◌≤◌, ℕ, List, Option, Some, Result, Ok, Err, IfErr, ap, refl, sym, subst, ◌∙◌, arith}
use Rattle.std.specs.Prelude.{◌≢◌, IsSome}
use Rattle.duk_commands.specs.Fault.{fault_rank}
use Rattle.duk_commands.specs.declared.fault.Fault.{Fault}
use Rattle.duk_commands.specs.declared.fault.Fault.TheVariants.{BdkRefused, CounterRefused, InitialRefused, KsnRefused, NotUsable, NumberRefused, OtherIksn, SameNumber}
use Rattle.duk_commands.specs.declared.key_argument.KeyArgument.{KeyArgument}
use Rattle.duk_commands.specs.declared.key_argument.KeyArgument.TheVariants.{Base, Initial}
use Rattle.duk_commands.proofs.TranslateOrder.{start_met}
use Rattle.duk_commands.specs.Reversals.{BothMeet, IsReversalRefused, MeetsReversal, reversal_arguments}
use Rattle.duk_commands.specs.inner.Reversals.{IsNotReversed}
use Rattle.duk_commands.specs.Start.{IsStart, IsStartRefused, MeetsStart}
use Rattle.duk_tree.specs.Path.{IsUsable}
use Rattle.duk_tree.specs.Serial.{Serial, ksn_of_text}

abbrev HasOneIksn : KeyArgument → List ℕ → List ℕ → Type 0
HasOneIksn given ksn number =
    BothMeet (reversal_arguments given ksn number) (λ one other. other.iksn ≡ one.iksn)

abbrev AreOthers : KeyArgument → List ℕ → List ℕ → Type 0
AreOthers given ksn number =
    BothMeet (reversal_arguments given ksn number) (λ one other. other.counter ≢ one.counter)

-- what is demanded before a limit, where what stands before it is read
pub reversal_met : (ksn number : List ℕ) (given : KeyArgument) (limit : ℕ) → limit ≤ 15
    → ((fault : Fault) → fault_rank fault < limit → MeetsStart given ksn fault)
    → (12 < limit → IsSome (ksn_of_text number)) → (13 < limit → HasOneIksn given ksn number)
    → (14 < limit → AreOthers given ksn number)
    → (fault : Fault) → fault_rank fault < limit → MeetsReversal (reversal_arguments given ksn number) fault
reversal_met ksn number given limit most own read one others NumberRefused below = read below
reversal_met ksn number given limit most own read one others OtherIksn below = one below
reversal_met ksn number given limit most own read one others SameNumber below = others below
reversal_met ksn number given limit most own read one others NotUsable below = absurd (omega arith)
reversal_met ksn number given limit most own read one others fault below = own fault below

-- why the key or the number is refused is the first fault of a reversal
pub start_refused : {T : Type 0} (ksn number : List ℕ) (given : KeyArgument) (read : Result T Fault)
    → IfErr read (IsStartRefused given ksn) → IfErr read (IsReversalRefused (reversal_arguments given ksn number))
start_refused ksn number given (Ok start) first = tt
start_refused ksn number given (Err BdkRefused) first = record {
  fails = first.fails;
  earlier_met = reversal_met ksn number given 4 (omega arith) first.earlier_met (λ h. absurd (omega arith)) (λ h. absurd (omega arith)) (λ h. absurd (omega arith));
}
start_refused ksn number given (Err InitialRefused) first = record {
  fails = first.fails;
  earlier_met = reversal_met ksn number given 4 (omega arith) first.earlier_met (λ h. absurd (omega arith)) (λ h. absurd (omega arith)) (λ h. absurd (omega arith));
}
start_refused ksn number given (Err KsnRefused) first = record {
  fails = first.fails;
  earlier_met = reversal_met ksn number given 5 (omega arith) first.earlier_met (λ h. absurd (omega arith)) (λ h. absurd (omega arith)) (λ h. absurd (omega arith));
}
start_refused ksn number given (Err CounterRefused) first = record {
  fails = first.fails;
  earlier_met = reversal_met ksn number given 8 (omega arith) first.earlier_met (λ h. absurd (omega arith)) (λ h. absurd (omega arith)) (λ h. absurd (omega arith));
}
start_refused ksn number (Base text) (Err fault) first = absurd (first.fails tt)
start_refused ksn number (Initial text) (Err fault) first = absurd (first.fails tt)

-- a number to reverse that is not read
pub number_refused : (ksn number : List ℕ) (given : KeyArgument) (initial : List ℕ) (serial : Serial) → IsStart given ksn initial serial
    → ¬ IsSome (ksn_of_text number) → IsReversalRefused (reversal_arguments given ksn number) NumberRefused
number_refused ksn number given initial serial start none = record {
  fails = none;
  earlier_met = reversal_met ksn number given 12 (omega arith) (λ fault below. start_met given ksn initial serial start fault)
      (λ h. absurd (omega arith)) (λ h. absurd (omega arith)) (λ h. absurd (omega arith));
}

some_is : (a b : Serial) → ◌≡◌ {A = Option Serial} (Some a) (Some b) → a ≡ b
some_is a b same = cc same

-- why a number is not reversed, where both are read
pub numbers_refused : {T : Type 0} (ksn number : List ℕ) (given : KeyArgument) (initial : List ℕ) (serial reversed : Serial) (made : Result T Fault)
    → IsStart given ksn initial serial → ksn_of_text number ≡ Some reversed → IfErr made (IsNotReversed serial reversed)
    → IfErr made (IsReversalRefused (reversal_arguments given ksn number))
numbers_refused ksn number given initial serial reversed (Ok numbers) start read why = tt
numbers_refused ksn number given initial serial reversed (Err OtherIksn) start read why = record {
  fails = λ both.
      let one = some_is both.ksn serial (sym both.ksn_read ∙ start.serial_read) in
      let other = some_is both.reversed reversed (sym both.number_read ∙ read) in
      why (sym (ap (λ s. s.iksn) other) ∙ both.meet ∙ ap (λ s. s.iksn) one);
  earlier_met = reversal_met ksn number given 13 (omega arith) (λ fault below. start_met given ksn initial serial start fault)
      (λ h. rw read refl) (λ h. absurd (omega arith)) (λ h. absurd (omega arith));
}
numbers_refused ksn number given initial serial reversed (Err SameNumber) start read why = record {
  fails = λ both.
      let one = some_is both.ksn serial (sym both.ksn_read ∙ start.serial_read) in
      let other = some_is both.reversed reversed (sym both.number_read ∙ read) in
      both.meet (ap (λ s. s.counter) other ∙ why.1 ∙ sym (ap (λ s. s.counter) one));
  earlier_met = reversal_met ksn number given 14 (omega arith) (λ fault below. start_met given ksn initial serial start fault)
      (λ h. rw read refl)
      (λ h. record { ksn = serial; reversed = reversed; ksn_read = start.serial_read; number_read = read; meet = why.0 })
      (λ h. absurd (omega arith));
}
numbers_refused ksn number given initial serial reversed (Err NotUsable) start read why = record {
  fails = λ both.
      let other = some_is both.reversed reversed (sym both.number_read ∙ read) in
      why.2 (subst (λ (s : Serial). IsUsable s.counter) other both.meet);
  earlier_met = reversal_met ksn number given 15 (omega arith) (λ fault below. start_met given ksn initial serial start fault)
      (λ h. rw read refl)
      (λ h. record { ksn = serial; reversed = reversed; ksn_read = start.serial_read; number_read = read; meet = why.0 })
      (λ h. record { ksn = serial; reversed = reversed; ksn_read = start.serial_read; number_read = read; meet = why.1 });
}
numbers_refused ksn number given initial serial reversed (Err fault) start read why = absurd why
