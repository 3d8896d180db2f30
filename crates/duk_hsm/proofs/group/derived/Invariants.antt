use Rattle.std.proofs.Common.{◌≡◌, ◌<◌, ℕ, Ok, Err, IfOk, IfErr, length}
use Rattle.duk_group.specs.declared.transposed.TheConstants.{WIDTH}
use Rattle.duk_hsm.specs.Group.{place_at}
use Rattle.duk_hsm.specs.inner.Group.{base_at, prepared_at}
use Rattle.duk_hsm.proofs.group.derived.Given as goal

abbrev pub invariant-loop-i : goal.invariant-loop-i
invariant-loop-i l = record {
  size : length l.places ≡ WIDTH;
  opened : (p : ℕ) → p < l.i → IfOk (base_at l.bases p) (λ _. place_at l.places p ≡ Ok (prepared_at l.prepared p));
  refused : (p : ℕ) → p < l.i → IfErr (base_at l.bases p) (λ why. place_at l.places p ≡ Err why);
}
