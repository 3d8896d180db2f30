use Rattle.std.proofs.Common.{◌≡◌, ◌≢◌, ◌||◌, ℕ, Bool, true, false, [], refl, subst, ◌∙◌, length-set, get_or, arith}
use Rattle.std.proofs.lemmas.List.{get_or-set_other, get_or_default}
use Rattle.duk_tree.specs.Serial.{Serial}
use Rattle.duk_group.specs.declared.turns.Turn.{Turn}
use Rattle.duk_group.specs.Numbers.{number_at}
use Rattle.duk_group.specs.inner.Walk.{IsNext}
use Rattle.duk_group.proofs.WrittenPlaces.{written_below, written_below_both}
use Rattle.duk_group.proofs.walk.advance.Goals as goal

-- the same step from the same place
same_step : (a b : Serial) (m n place : ℕ) (turn : Turn) → a ≡ b → m ≡ n → IsNext a m place turn → IsNext b n place turn
same_step a b m n place turn same_number same_place next =
    subst (λ number. IsNext number n place turn) same_number (subst (λ before. IsNext a before place turn) same_place next)

both_false : (a b : Bool) → (a || b) ≡ false → (a ≡ false) × (b ≡ false)
both_false false false is = (refl, refl)
both_false false true is = cc
both_false true b is = cc

pub loop-i-preserved : goal.loop-i-preserved
loop-i-preserved c =
    let numbers = c.args.numbers.now in
    let old = c.args.places.now in
    let places = c.loop-i.places in
    let turns = c.loop-i.turns in
    let i = c.loop-i.i in
    let place = c.next_node-place.result.0 in
    let turn = c.next_node-place.result.1 in
    let none : Turn = record { goes = false; block = [] } in
    let zeros : Serial = record { iksn = 0; counter = 0 } in
    let number : c.index-numbers-i.result ≡ number_at numbers i =
    c.index-numbers-i.is ∙ get_or_default numbers i c.index-numbers-i.result zeros c.loop-i-test.true in
    record {
      size = length-set places i place ∙ c.loop-i.invariant.size;
      turns_size = length-set turns i turn ∙ c.loop-i.invariant.turns_size;
      next =
          written_below_both (λ p place turn. IsNext (number_at numbers p) (get_or old p 0) place turn) places turns i place 0 turn none (omega arith) (omega arith) c.loop-i.invariant.next
          (same_step c.index-numbers-i.result (number_at numbers i) (get_or places i 0) (get_or old i 0) place turn number (c.loop-i.invariant.same i (omega arith)) c.next_node-place.ensures);
      same = λ p over. let other : p ≢ i = omega arith in get_or-set_other places i p place 0 other ∙ c.loop-i.invariant.same p (omega arith);
      any = λ is.
          let both = both_false c.loop-i.any turn.goes is in
          written_below (λ p turn. turn.goes ≡ false) turns i turn none (omega arith) (c.loop-i.invariant.any both.0) both.1;
    }
