use Rattle.std.proofs.Common.{◌≡◌, ◌/◌, ℕ, length, subst, arith}
use Rattle.duk_show.specs.Log.{BeginsLog}
use Rattle.duk_show.proofs.LogRecords.{some_log}
use Rattle.duk_show.proofs.log.damaged_record.Goals as goal

pub returns : goal.returns
returns c =
    let bytes = c.args.bytes.now in
    let last : c.loop-place.place ≡ length bytes / 16 = omega (arith, c.loop-place.auto, c.loop-place-test.false) in
    some_log bytes c.loop-place.count
    (length bytes / 16, omega (arith, c.if-whole-eq0.false), omega (arith, c.if-bytes-ne0.false))
    (subst (λ (n : ℕ). BeginsLog n c.loop-place.count bytes) last c.loop-place.invariant)
