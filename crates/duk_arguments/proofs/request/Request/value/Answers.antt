use Rattle.std.proofs.Common.{◌∙◌, ℕ, List, ap, bytes_eq, filter, map, slice_get, sym}
use Rattle.duk_arguments.specs.Request.{pair_of}
use Rattle.duk_arguments.proofs.Loops.{first_mapped}
use Rattle.duk_arguments.proofs.request.Request.value.Goals as goal

pub returns-then-eq : goal.returns-then-eq
returns-then-eq c =
    let test = λ (entry : List ℕ × List ℕ). bytes_eq entry.0 c.args.name.now in
    let first = first_mapped pair_of test c.entries-entry-items.result.now c.loop-entry.entry-index _
    c.loop-entry-test.true c.loop-entry.invariant (sym c.eq.ensures ∙ c.if-eq.true) in
    sym (ap (λ (entries : List (List ℕ × List ℕ)). slice_get (map (λ (entry : List ℕ × List ℕ). entry.1) entries) 0) first)
    ∙ ap (λ (entries : List (List ℕ × List ℕ)).
    slice_get (map (λ (entry : List ℕ × List ℕ). entry.1) (filter test entries)) 0) c.entries-entry-items.ensures
