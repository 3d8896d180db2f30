use Rattle.std.proofs.Common.{◌<◌, arith}
use Rattle.std.proofs.lemmas.Nat.{pow_pos}
use Rattle.duk_tree.specs.Path.{last_place, path_of}
use Rattle.duk_tree.proofs.LeastUsable.{last_usable, last_is_last, not_last, usable_next, found_next, pass_on, passed, some_counter}
use Rattle.duk_tree.proofs.next.next_usable.Goals as goal

pub returns-then-counter-ge-LAST_USABLE-clause-none : goal.returns-then-counter-ge-LAST_USABLE-clause-none
returns-then-counter-ge-LAST_USABLE-clause-none c = (λ none. last_is_last c.args.counter c.if-counter-ge-LAST_USABLE.true, λ is_last. cc)

pub returns-then-counter-lt-MOST_ONES-clause-found : goal.returns-then-counter-lt-MOST_ONES-clause-found
returns-then-counter-lt-MOST_ONES-clause-found c = usable_next c.args.counter c.if-counter-ge-LAST_USABLE.false (omega arith)

pub returns-then-counter-lt-MOST_ONES-clause-none : goal.returns-then-counter-lt-MOST_ONES-clause-none
returns-then-counter-lt-MOST_ONES-clause-none c = (λ none. absurd (cc), λ is_last. absurd (not_last c.args.counter c.if-counter-ge-LAST_USABLE.false is_last))

pub loop-next-init : goal.loop-next-init
loop-next-init c =
    let some : 0 < c.args.counter = some_counter c.args.counter (omega arith) in
    let step = c.shift_bit.ensures.value in
    let power = pow_pos (last_place (path_of c.args.counter)) in
    (omega arith, λ other is_usable above. let after = passed c.args.counter other some (omega arith) (omega arith) is_usable above in omega arith)

pub shift_bit-next-requires-clause-fits : goal.shift_bit-next-requires-clause-fits
shift_bit-next-requires-clause-fits c = omega (arith, c.loop-next.invariant.1 0x1F_F800 last_usable c.if-counter-ge-LAST_USABLE.false)

pub overflow_add-next-in-loop-next : goal.overflow_add-next-in-loop-next
overflow_add-next-in-loop-next c = let within = c.loop-next.invariant.1 0x1F_F800 last_usable c.if-counter-ge-LAST_USABLE.false in omega (arith, c.shift_bit-next.ensures.fits)

pub loop-next-smaller : goal.loop-next-smaller
loop-next-smaller c =
    let within = c.loop-next.invariant.1 0x1F_F800 last_usable c.if-counter-ge-LAST_USABLE.false in
    let step = c.shift_bit-next.ensures.value in
    let power = pow_pos (last_place (path_of c.loop-next.next)) in
    omega arith

pub loop-next-preserved : goal.loop-next-preserved
loop-next-preserved c = (
  omega (arith, c.loop-next.invariant.0),
  λ other is_usable above. omega (arith, c.shift_bit-next.ensures.value, pass_on c.args.counter c.loop-next.next c.if-counter-ge-LAST_USABLE.false c.loop-next.invariant.0 c.loop-next.invariant.1 (omega arith) other is_usable above),
)

pub returns-clause-found : goal.returns-clause-found
returns-clause-found c = found_next c.args.counter c.loop-next.next c.if-counter-ge-LAST_USABLE.false c.loop-next.invariant.0 c.loop-next.invariant.1 (omega arith)

pub returns-clause-none : goal.returns-clause-none
returns-clause-none c = (λ none. absurd (cc), λ is_last. absurd (not_last c.args.counter c.if-counter-ge-LAST_USABLE.false is_last))
