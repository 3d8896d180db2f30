use Rattle.std.proofs.Common.{◌+◌, List, ℕ, drop, refl, subst, sym}
use Rattle.std.proofs.lemmas.List.{take_rest}
use Rattle.duk_store.proofs.reading.contents_in.Goals as goal

pub returns-in-None-clause-none : goal.returns-in-None-clause-none
returns-in-None-clause-none g c = (
  refl,
  λ followers item has.
      let format = g.F.Format.meaning c.args.format.now in
      let bytes = c.args.bytes.now in
      let here = subst (λ (n : ℕ). format.says c.args.identity (n + c.args.kept) followers item (drop 1 bytes)) (sym c.headers.ensures) has in
      let found = c.in-None.ensures.every followers item (subst (λ (l : List ℕ). format.says c.args.identity (c.headers.result + c.args.kept) followers item l) (sym (take_rest bytes 1)) here) in cc,
)
