use Rattle.std.proofs.Common.{◌≡◌, ◌+◌, ◌-◌, ◌*◌, ℕ, List, IfErr, drop, length, take, ap, subst, arith, rules}
use Rattle.duk_store.specs.RecordFormat.{record_at}
use Rattle.duk_show.specs.inner.Log.{IsDamagedLog, IsNextRecord, IsRecordRefused}
use Rattle.duk_show.proofs.LogRecords.{next, refused}
use Rattle.duk_show.proofs.log.read_numbers.Goals as goal

-- a record as it is cut out of the bytes
same_record : (bytes : List ℕ) (place : ℕ) → take ((16 * place + 16) - 16 * place) (drop (16 * place) bytes) ≡ record_at place bytes
same_record bytes place =
    let sixteen : (16 * place + 16) - 16 * place ≡ 16 = omega arith in
    ap (λ (n : ℕ). take n (drop (16 * place) bytes)) sixteen

pub returns-in_err-push_number-clause-refused : goal.returns-in_err-push_number-clause-refused
returns-in_err-push_number-clause-refused c =
    let bytes = c.args.bytes.now in
    let place = c.loop-place.place in
    let numbers = c.loop-place.numbers.items in
    let why = subst (λ (bytes : List ℕ). IfErr c.push_number.result (IsRecordRefused bytes place (length numbers))) (same_record bytes place) c.push_number.ensures.refused in
    let all : IfErr c.push_number.result (IsDamagedLog bytes) = refused bytes place numbers c.push_number.result c.loop-place.invariant why in
    search (rules, all)

pub loop-place-preserved : goal.loop-place-preserved
loop-place-preserved c =
    let bytes = c.args.bytes.now in
    let place = c.loop-place.place in
    next bytes place c.loop-place.numbers.items c.push_number.new.numbers.items c.loop-place.invariant
    (subst (λ (cut : List ℕ). IsNextRecord cut place c.loop-place.numbers.items c.push_number.new.numbers.items) (same_record bytes place) c.in_ok-push_number.ensures.next)
