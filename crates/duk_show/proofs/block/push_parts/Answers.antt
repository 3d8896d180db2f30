use Rattle.std.proofs.Common.{ℕ, List, subst}
use Rattle.std.proofs.lemmas.List.{take_rest}
use Rattle.duk_show.specs.declared.block.SealedFault.TheVariants as sealed
use Rattle.duk_show.specs.inner.Block.{IsSealedFault}
use Rattle.duk_show.proofs.BlockStops.{stops_at_digit, stops_at_optional, stops_at_sealed}
use Rattle.duk_show.proofs.block.push_parts.Goals as goal

pub returns-in-Err-clause-refused : goal.returns-in-Err-clause-refused
returns-in-Err-clause-refused c =
    stops_at_optional c.args.text.now c.args.count c.in-Err.place c.requires.count c.requires.met c.in-Err.ensures.stops c.in-Err.ensures.none

pub returns-in-Err-Length-clause-refused : goal.returns-in-Err-Length-clause-refused
returns-in-Err-Length-clause-refused c =
    let text = c.args.text.now in
    let place = c.in-Ok.place in
    let passed = c.in-Ok.ensures.passed in
    let fault = subst (λ (rest : List ℕ). IsSealedFault rest sealed.Length) (take_rest text place) (rw c.in-Err-Length.field-0-is at c.in-Err-Length.ensures.fault) in
    stops_at_sealed text c.args.count place _ _ passed.0 c.requires.count passed.1 passed.2 c.requires.met fault

pub returns-in-Err-Digit-clause-refused : goal.returns-in-Err-Digit-clause-refused
returns-in-Err-Digit-clause-refused c =
    let text = c.args.text.now in
    let place = c.in-Ok.place in
    let offset = c.in-Err-Digit.offset in
    let passed = c.in-Ok.ensures.passed in
    let fault = subst (λ (rest : List ℕ). IsSealedFault rest (sealed.Digit offset)) (take_rest text place) (rw c.in-Err-Digit.field-0-is at c.in-Err-Digit.ensures.fault) in
    stops_at_digit text c.args.count place _ _ passed.0 c.requires.count passed.1 passed.2 offset c.requires.met fault.0 fault.1 fault.2
