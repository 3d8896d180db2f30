use Rattle.std.proofs.Common.{subst, sym}
use Rattle.std.specs.Prelude.{IsTrue}
use Rattle.duk_journal_copy.specs.declared.version.Version.{Version}
use Rattle.duk_service.specs.LeftRecords.{IsFront}
use Rattle.duk_service.proofs.FrontRecords.{front_one}
use Rattle.duk_service.proofs.left_records.is_front.Goals as goal

pub returns-else-first-ne-OPEN : goal.returns-else-first-ne-OPEN
returns-else-first-ne-OPEN c =
    subst (λ (v : Version). (IsTrue c.is_some.result → IsFront v c.args.first.now) × (IsFront v c.args.first.now → IsTrue c.is_some.result)) (sym c.in-One.is)
    (rw c.is_some.ensures (front_one c.args.first.now c.contents_of_record.result c.if-first-ne-OPEN.false c.contents_of_record.ensures.found c.contents_of_record.ensures.every))
