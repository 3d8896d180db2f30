use Rattle.std.proofs.Common.{◌≡◌, ap, arith, length}
use Rattle.std.proofs.lemmas.Slice.{between_to_end}
use Rattle.duk_journal_copy.specs.Version.{format_of}
use Rattle.duk_journal_copy.specs.declared.version.Version.{Version}
use Rattle.duk_show.proofs.stored.Stored.of.Goals as goal

pub returns-then-is_journal_header : goal.returns-then-is_journal_header
returns-then-is_journal_header c =
    let bytes = c.args.bytes.now in
    record {
      two = λ same. record {
        header = record { whole = omega (arith, c.if-bytes-ge-RECORD_LENGTH.true); is = c.is_journal_header.ensures.0 c.if-is_journal_header.true };
        identity_is = c.identity_in.ensures.identity;
        records_are = between_to_end bytes 32 (length bytes) (omega arith);
      };
      one = λ same. let none : 1 ≡ 0 = ap (λ (v : Version). (format_of v).headers) same in absurd (omega (arith, none));
    }
