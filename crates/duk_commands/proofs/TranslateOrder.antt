-- The first fault of `translate`, in the order of the faults.
use Rattle.std.proofs.Common.{◌≡◌, ◌<◌, ◌≤◌, ℕ, List, Option, Some, None, Result, Ok, Err, IfErr, refl, sym, ap₂, ◌∙◌, subst, arith}
use Rattle.std.specs.Prelude.{IsSome}
use Rattle.duk_commands.specs.Fault.{fault_rank}
use Rattle.duk_commands.specs.declared.fault.Fault.{Fault}
use Rattle.duk_commands.specs.declared.fault.Fault.TheVariants.{BdkRefused, CounterRefused, InitialRefused, KsnRefused, NotAPinBlock, PinBlockRefused, PinRefused, ZoneRefused}
use Rattle.duk_commands.specs.declared.key_argument.KeyArgument.{KeyArgument}
use Rattle.duk_commands.specs.declared.key_argument.KeyArgument.TheVariants.{Base, Initial}
use Rattle.duk_pin.specs.Pan.{IsPan}
use Rattle.duk_pin.specs.declared.fault.PinFault.TheVariants.{PanLength, PanDigit}
use Rattle.duk_commands.specs.KeyArgument.{initial_from}
use Rattle.duk_pin.specs.PinBlock.{IsPinBlock}
use Rattle.duk_tdes.specs.KeyText.{tdes_key_of_text}
use Rattle.duk_tdes.specs.Tdes.{tdes_decrypted}
use Rattle.duk_tree.specs.Derivation.{pin_key_of, transaction_key_of}
use Rattle.duk_commands.specs.PinBlocks.{IsTranslateRefused, MeetsTranslate, block_of_text, translate_arguments}
use Rattle.duk_commands.specs.Start.{IsStart, IsStartRefused, MeetsStart}
use Rattle.duk_tree.specs.Serial.{Serial}

-- what the key and the number must meet is met where they are read
pub start_met : (given : KeyArgument) (ksn : List ℕ) (initial : List ℕ) (serial : Serial) → IsStart given ksn initial serial
    → (fault : Fault) → MeetsStart given ksn fault
start_met (Base text) ksn initial serial start BdkRefused = rw start.key_read refl
start_met (Initial text) ksn initial serial start InitialRefused = rw start.key_read refl
start_met given ksn initial serial start KsnRefused = rw start.serial_read refl
start_met given ksn initial serial start CounterRefused = (serial, start.serial_read, start.usable)
start_met (Base text) ksn initial serial start fault = tt
start_met (Initial text) ksn initial serial start fault = tt

-- where the block, the PAN, the key and the number are read, what is demanded before a limit
pub translate_met : (block pan ksn zone : List ℕ) (given : KeyArgument) → IsSome (block_of_text block) → IsPan pan
    → (limit : ℕ) → limit ≤ 17 → (11 < limit → IsSome (tdes_key_of_text zone))
    → ((fault : Fault) → fault_rank fault < limit → MeetsStart given ksn fault)
    → (fault : Fault) → fault_rank fault < limit → MeetsTranslate (translate_arguments block pan given ksn zone) fault
translate_met block pan ksn zone given is_block is_pan limit most is_zone own PinBlockRefused below = is_block
translate_met block pan ksn zone given is_block is_pan limit most is_zone own (PinRefused PanLength) below = is_pan.length
translate_met block pan ksn zone given is_block is_pan limit most is_zone own (PinRefused PanDigit) below = is_pan.digits
translate_met block pan ksn zone given is_block is_pan limit most is_zone own ZoneRefused below = is_zone below
translate_met block pan ksn zone given is_block is_pan limit most is_zone own NotAPinBlock below = absurd (omega arith)
translate_met block pan ksn zone given is_block is_pan limit most is_zone own fault below = own fault below

-- why the key or the number is refused is the first fault of `translate`
pub start_refused : (block pan ksn zone : List ℕ) (given : KeyArgument) (fault : Fault) → IsSome (block_of_text block) → IsPan pan
    → IsStartRefused given ksn fault → IsTranslateRefused (translate_arguments block pan given ksn zone) fault
start_refused block pan ksn zone given BdkRefused is_block is_pan first = record {
  fails = first.fails;
  earlier_met = translate_met block pan ksn zone given is_block is_pan 4 (omega arith) (λ above. absurd (omega arith)) first.earlier_met;
}
start_refused block pan ksn zone given InitialRefused is_block is_pan first = record {
  fails = first.fails;
  earlier_met = translate_met block pan ksn zone given is_block is_pan 4 (omega arith) (λ above. absurd (omega arith)) first.earlier_met;
}
start_refused block pan ksn zone given KsnRefused is_block is_pan first = record {
  fails = first.fails;
  earlier_met = translate_met block pan ksn zone given is_block is_pan 5 (omega arith) (λ above. absurd (omega arith)) first.earlier_met;
}
start_refused block pan ksn zone given CounterRefused is_block is_pan first = record {
  fails = first.fails;
  earlier_met = translate_met block pan ksn zone given is_block is_pan 8 (omega arith) (λ above. absurd (omega arith)) first.earlier_met;
}
start_refused block pan ksn zone (Base text) fault is_block is_pan first = absurd (first.fails tt)
start_refused block pan ksn zone (Initial text) fault is_block is_pan first = absurd (first.fails tt)

pub start_refused_by : {T : Type 0} (block pan ksn zone : List ℕ) (given : KeyArgument) (read : Result T Fault) → IsSome (block_of_text block)
    → IsPan pan → IfErr read (IsStartRefused given ksn) → IfErr read (IsTranslateRefused (translate_arguments block pan given ksn zone))
start_refused_by block pan ksn zone given (Ok start) is_block is_pan first = tt
start_refused_by block pan ksn zone given (Err fault) is_block is_pan first = start_refused block pan ksn zone given fault is_block is_pan first

-- a zone key that is not read is the first fault
pub zone_refused : (block pan ksn zone : List ℕ) (given : KeyArgument) (initial : List ℕ) (serial : Serial) → IsSome (block_of_text block) → IsPan pan
    → IsStart given ksn initial serial → tdes_key_of_text zone ≡ None → IsTranslateRefused (translate_arguments block pan given ksn zone) ZoneRefused
zone_refused block pan ksn zone given initial serial is_block is_pan start none = record {
  fails = λ some. cc (rw none at some);
  earlier_met = translate_met block pan ksn zone given is_block is_pan 11 (omega arith) (λ above. absurd (omega arith))
      (λ fault below. start_met given ksn initial serial start fault);
}

some_is : {A : Type 0} (a b : A) → ◌≡◌ {A = Option A} (Some a) (Some b) → a ≡ b
some_is a b same = cc same

-- what the key and the number give is one value
start_is : (given : KeyArgument) (ksn one other : List ℕ) (serial serial' : Serial) → IsStart given ksn one serial → IsStart given ksn other serial'
    → (one ≡ other) × (serial ≡ serial')
start_is given ksn one other serial serial' a b =
    let key : a.key ≡ b.key = some_is a.key b.key (sym a.key_read ∙ b.key_read) in
    let number : serial ≡ serial' = some_is serial serial' (sym a.serial_read ∙ b.serial_read) in
    (a.initial_is ∙ ap₂ (λ (k : List ℕ) (s : Serial). initial_from given k s.iksn) key number ∙ sym b.initial_is, number)

-- a block that holds no PIN is the first fault
pub no_pin_block : (text pan ksn zone : List ℕ) (given : KeyArgument) (block initial : List ℕ) (serial : Serial) → block_of_text text ≡ Some block
    → IsPan pan → IsStart given ksn initial serial → IsSome (tdes_key_of_text zone)
    → ((pin : List ℕ) → ¬ IsPinBlock pin pan (tdes_decrypted (pin_key_of (transaction_key_of initial serial.iksn serial.counter)) block))
    → IsTranslateRefused (translate_arguments text pan given ksn zone) NotAPinBlock
no_pin_block text pan ksn zone given block initial serial read is_pan start is_zone none = record {
  fails = λ found.
      let same_block : found.2.block ≡ block = some_is found.2.block block (sym found.2.block_read ∙ read) in
      let same = start_is given ksn found.2.initial initial found.2.serial serial found.2.start start in
      none found.1
      (subst (λ b. IsPinBlock found.1 pan (tdes_decrypted (pin_key_of (transaction_key_of initial serial.iksn serial.counter)) b)) same_block
      (subst (λ (s : Serial). IsPinBlock found.1 pan (tdes_decrypted (pin_key_of (transaction_key_of initial s.iksn s.counter)) found.2.block)) same.1
      (subst (λ i. IsPinBlock found.1 pan (tdes_decrypted (pin_key_of (transaction_key_of i found.2.serial.iksn found.2.serial.counter)) found.2.block)) same.0 found.2.is_block)));
  earlier_met = translate_met text pan ksn zone given (rw read refl) is_pan 17 (omega arith) (λ above. is_zone)
      (λ fault below. start_met given ksn initial serial start fault);
}
