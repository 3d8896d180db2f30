-- The first fault of a command, in the order of the faults.
use Rattle.std.proofs.Common.{◌≡◌, ◌⊎◌, ◌<◌, ◌≤◌, ℕ, List, length, Option, Some, Result, IfErr, All, refl, subst, lit≤, length-append, rules, arith}
use Rattle.std.specs.Char.{IsNotAsciiDigit}
use Rattle.std.specs.Prelude.{◌↔◌, IsOk, IsErrOf, Any}
use Rattle.duk_block.specs.Faults.{IsFirstFault, Meets, rank}
use Rattle.duk_block.specs.HeaderText.{IsHeader, IsPrintable}
use Rattle.duk_block.specs.declared.fault.BlockFault.{BlockFault}
use Rattle.duk_block.specs.declared.fault.BlockFault.TheVariants.{HeaderField, PadLength}
use Rattle.duk_io.specs.FirstFault.{AllBefore}
use Rattle.duk_pin.specs.Pan.{HasPanLength, IsPan}
use Rattle.duk_pin.specs.Pin.{IsPin}
use Rattle.duk_pin.specs.declared.fault.PinFault.{PinFault}
use Rattle.duk_pin.specs.declared.fault.PinFault.TheVariants.{PanLength, PanDigit}
use Rattle.duk_tdes.specs.KeyBytes.{bytes_of}
use Rattle.duk_tdes.specs.KeyText.{tdes_key_of_text}
use Rattle.duk_tdes.specs.declared.key.KeyBytes.{KeyBytes}
use Rattle.duk_commands.specs.Fault.{fault_rank}
use Rattle.duk_commands.specs.Pin.{IsPinRefused}
use Rattle.duk_commands.specs.Unwrap.{IsUnwrapRefused, MeetsUnwrap}
use Rattle.duk_commands.specs.Wrap.{AreWrapArguments, IsWrapRefused, MeetsWrap, WrapArguments, Wrapping}
use Rattle.duk_commands.specs.inner.Wrap.{IsWrapFault}
use Rattle.duk_commands.specs.declared.fault.Fault.{Fault}
use Rattle.duk_commands.specs.declared.fault.Fault.TheVariants.{KbpkRefused, FieldsRefused, KeyRefused, PadRefused, PinRefused, BlockRefused}

before_block : (kbpk block : List ℕ) (key : KeyBytes) (fault : BlockFault) → tdes_key_of_text kbpk ≡ Some key
    → AllBefore rank (Meets block (bytes_of key)) fault → AllBefore fault_rank (MeetsUnwrap kbpk block) (BlockRefused fault)
before_block kbpk block key fault read own KbpkRefused below = search rules
before_block kbpk block key fault read own (BlockRefused earlier) below = (key, read, own earlier (omega arith))
before_block kbpk block key fault read own earlier below = tt

-- the first fault of a block under the protection key that is read is the first of `unwrap`
pub unwrap_refused : (kbpk block : List ℕ) (key : KeyBytes) (fault : BlockFault) → tdes_key_of_text kbpk ≡ Some key
    → IsFirstFault block (bytes_of key) fault → IsUnwrapRefused kbpk block (BlockRefused fault)
unwrap_refused kbpk block key fault read first = record {
  fails = λ meets. let same : meets.0 ≡ key = cc in first.fails (subst (λ k. Meets block (bytes_of k) fault) same meets.2);
  earlier_met = before_block kbpk block key fault read first.earlier_met;
}

-- where the arguments are read, what is demanded before the padding is met, if the header can be printed
read_met : (arguments : WrapArguments) (asked : Wrapping) → AreWrapArguments arguments asked → (limit : ℕ) → limit ≤ fault_rank (BlockRefused PadLength)
    → (fault_rank (BlockRefused HeaderField) < limit → IsHeader asked.header) → (fault : Fault) → fault_rank fault < limit → MeetsWrap arguments fault
read_met arguments asked read limit most header KbpkRefused below = rw read.protection_key_read refl
read_met arguments asked read limit most header FieldsRefused below =
    rw (← read.fields_read.fields_are) (simp length-append (omega (arith, read.fields_read.widths.usage_width, read.fields_read.widths.version_width)))
read_met arguments asked read limit most header KeyRefused below = rw read.key_read refl
read_met arguments asked read limit most header PadRefused below = (asked.padding, read.pad_read)
read_met arguments asked read limit most header (BlockRefused HeaderField) below = subst (All IsPrintable) read.fields_read.fields_are (header below).printable
read_met arguments asked read limit most header (BlockRefused PadLength) below = absurd (omega arith)
read_met arguments asked read limit most header fault below = tt

-- why a block is not written is the first fault of `wrap`
pub wrap_refused : (arguments : WrapArguments) (asked : Wrapping) (fault : BlockFault) → AreWrapArguments arguments asked
    → IsWrapFault asked.header (length (bytes_of asked.key)) (length asked.padding) fault → IsWrapRefused arguments (BlockRefused fault)
wrap_refused arguments asked HeaderField read why = record {
  fails = λ printable. why (record { widths = read.fields_read.widths; printable = rw read.fields_read.fields_are printable });
  earlier_met = read_met arguments asked read 15 (lit≤ tt) (λ below. absurd (omega arith));
}
wrap_refused arguments asked PadLength read why = record {
  fails = λ fits.
      let same_key : fits.0.key ≡ asked.key = cc (fits.1.key_read, read.key_read) in
      let same_padding : fits.0.padding ≡ asked.padding = cc (fits.1.pad_read, read.pad_read) in
      why.1 (rw (← same_key, ← same_padding) fits.2);
  earlier_met = read_met arguments asked read 20 (lit≤ tt) (λ below. why.0);
}
wrap_refused arguments asked fault read why = absurd why

-- after a PIN, why a PAN is refused is the first fault of `pin`
pub pan_refused : {T : Type 0} (pin pan : List ℕ) (argument : Option (List ℕ)) (read : Result T PinFault) → IsPin pin
    → (IsOk read ↔ IsPan pan)
    → (IsErrOf read PanLength ↔ ((length pan < 12) ⊎ (19 < length pan)))
    → (IsErrOf read PanDigit ↔ (HasPanLength pan × Any IsNotAsciiDigit pan))
    → IfErr read (λ fault. IsPinRefused pin pan argument (PinRefused fault))
pan_refused pin pan argument read is_pin is_ok wrong_length wrong_digit = search rules
