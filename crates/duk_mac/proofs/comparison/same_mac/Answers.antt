use Rattle.std.proofs.Common.{ap, sym, ◌∙◌, w64}
use Rattle.std.proofs.lemmas.Bool.{eqb-true, eq-eqb}
use Rattle.std.proofs.lemmas.Nat.{be_bytes_8}
use Rattle.std.specs.Int.{from_be_bytes}
use Rattle.duk_mac.proofs.comparison.same_mac.Goals as goal

pub returns : goal.returns
returns c = (
  (λ same. sym (be_bytes_8 c.args.one.now c.from_be_bytes.result c.told-one c.fits-one c.from_be_bytes.ensures) ∙ be_bytes_8 c.args.other.now c.from_be_bytes.result c.told-other c.fits-other (eqb-true _ _ same ∙ c.from_be_bytes-2.ensures)),
  (λ equal. eq-eqb _ _ (c.from_be_bytes.ensures ∙ ap (from_be_bytes w64) equal ∙ sym c.from_be_bytes-2.ensures)),
)
