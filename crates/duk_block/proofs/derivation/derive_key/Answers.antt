use Rattle.std.proofs.Common.{◌≡◌, ℕ, List, ◌++◌, length, ap, sym, ◌∙◌, inl, inr}
use Rattle.duk_mac.specs.Cmac.{cmac_of}
use Rattle.duk_block.specs.Derived.{derivation_data, derivation_step}
use Rattle.duk_block.proofs.DerivedKeyByLength.{derived_key-double, derived_key-triple}
use Rattle.duk_block.proofs.derivation.derive_key.Goals as goal
use Rattle.duk_block.proofs.derivation.derive_key.Goals.{then-this-eq24, else-this-eq24}

pub returns-clause-derived : goal.returns-clause-derived
returns-clause-derived g c =
    let kbpk = c.args.kbpk.now in
    let usage = c.args.usage in
    let size : length kbpk ≡ g.row.N = c.tdes_key.ensures.size in
    let made : (counter : ℕ) (part : List ℕ) → part ≡ cmac_of c.new-tdes.result (derivation_data counter usage g.row.N) → part ≡ derivation_step usage kbpk counter = λ counter part is.
    is
    ∙ ap (λ key. cmac_of key (derivation_data counter usage g.row.N)) c.new-tdes.ensures
    ∙ ap (λ n. cmac_of kbpk (derivation_data counter usage n)) (sym size) in
    let two : c.append-2.new.text.items ≡ derivation_step usage kbpk 1 ++ derivation_step usage kbpk 2 =
    c.append-2.ensures
    ∙ ap (λ front. front ++ c.step-2.result) (c.append.ensures ∙ ap (λ start. start ++ c.step.result) c.new-bytes.ensures ∙ made 1 c.step.result c.step.ensures)
    ∙ ap (λ part. derivation_step usage kbpk 1 ++ part) (made 2 c.step-2.result c.step-2.ensures) in
    c.new.ensures ∙ c.array_of.ensures.bytes ∙ c.as_slice.ensures.value
    ∙ elim c.if-this-eq24.branch [
      | then-this-eq24 w ↦
          ap (λ v. v.items) w.bytes-is
          ∙ w.append-then-this-eq24.ensures
          ∙ ap (λ front. front ++ w.step-then-this-eq24.result) two
          ∙ ap (λ part. derivation_step usage kbpk 1 ++ derivation_step usage kbpk 2 ++ part) (made 3 w.step-then-this-eq24.result w.step-then-this-eq24.ensures)
          ∙ sym (derived_key-triple usage kbpk (size ∙ w.if-this-eq24.true))
      | else-this-eq24 w ↦
          ap (λ v. v.items) w.bytes-is
          ∙ two
          ∙ sym (derived_key-double usage kbpk (
          elim c.requires [
            | inl double ↦ size ∙ double
            | inr triple ↦ absurd (w.if-this-eq24.false triple)
          ]
          ))
    ]
