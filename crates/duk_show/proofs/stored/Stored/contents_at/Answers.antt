use Rattle.std.proofs.Common.{◌≡◌, ◌+◌, arith, length}
use Rattle.std.proofs.lemmas.Slice.{between_to_end}
use Rattle.duk_journal_copy.specs.Version.{format_of}
use Rattle.duk_show.proofs.StoredRecords.{every_there, few_headers, found_there}
use Rattle.duk_show.proofs.stored.Stored.contents_at.Goals as goal

pub overflow_add-place : goal.overflow_add-place
overflow_add-place c = omega (arith, few_headers c.args.self.version, c.headers.ensures, c.requires.place)

pub returns-clause-found : goal.returns-clause-found
returns-clause-found c =
    let spot : c.headers.result + c.args.place ≡ (format_of c.args.self.version).headers + c.args.place = omega (arith, c.headers.ensures) in
    found_there c.args.self.version c.args.self.identity _ _ _ c.args.bytes.now c.read.result spot
    (between_to_end c.args.bytes.now 1 (length c.args.bytes.now) (omega arith)) c.read.ensures.found

pub returns-clause-every : goal.returns-clause-every
returns-clause-every c =
    let spot : c.headers.result + c.args.place ≡ (format_of c.args.self.version).headers + c.args.place = omega (arith, c.headers.ensures) in
    every_there c.args.self.version c.args.self.identity _ _ _ c.args.bytes.now c.read.result spot
    (between_to_end c.args.bytes.now 1 (length c.args.bytes.now) (omega arith)) c.read.ensures.every
