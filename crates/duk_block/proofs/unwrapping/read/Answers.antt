use Rattle.std.proofs.Common.{ℕ, List, length, sym, ap, subst, ◌∙◌, arith}
use Rattle.std.proofs.lemmas.Result.{err_from_is_err_and}
use Rattle.duk_tdes.specs.KeyBytes.{bytes_of}
use Rattle.duk_block.specs.Faults.{Carries}
use Rattle.duk_block.proofs.FaultOrder.{met_before_optional, met_before_payload}
use Rattle.duk_block.proofs.HeaderPieces.{block_read}
use Rattle.duk_block.proofs.unwrapping.read.Goals as goal

pub returns-in_err-header-clause-refused : goal.returns-in_err-header-clause-refused
returns-in_err-header-clause-refused g c =
    let p = err_from_is_err_and c.from_residual.result c.from_residual.ensures.1 in
    rw (p.1, p.2) (c.in_err-header.ensures.refused c.args.kbpk.now)

pub returns-in_default-clause-refused : goal.returns-in_default-clause-refused
returns-in_default-clause-refused g c = record {
  fails = λ met. c.in_default.ensures met.0 met.1;
  earlier_met = met_before_optional c.args.text.now c.args.kbpk.now c.in_ok-header.header c.in_ok-header.count c.in_ok-header.ensures.found;
}

pub key_in-requires : goal.key_in-requires
key_in-requires g c = omega (arith, c.in_ok-payload.ensures.length, ap length c.as_slice.ensures.value)

pub returns-in-Some-key_in-clause-found : goal.returns-in-Some-key_in-clause-found
returns-in-Some-key_in-clause-found g c =
    let header = c.in_ok-header.ensures.found in
    let P : List ℕ → Type 0 = λ bytes. Carries bytes (bytes_of c.in-Some-key_in.key) in
    record {
      limits = header.length_is.limits;
      block = block_read c.args.text.now c.args.kbpk.now c.in_ok-header.header c.in_ok-header.count c.in_ok-payload.payload.items (bytes_of c.in-Some-key_in.key) header c.in_ok-payload.ensures.found
          (subst P c.as_slice.ensures.value c.in-Some-key_in.ensures.found);
    }

pub returns-in-None-clause-refused : goal.returns-in-None-clause-refused
returns-in-None-clause-refused g c =
    let header = c.in_ok-header.ensures.found in
    record {
      fails = λ met.
          let P : List ℕ → Type 0 = λ bytes. Carries bytes met.1 in
          c.in-None.ensures.found met.1 (subst P (c.in_ok-payload.ensures.only met.0 met.2 ∙ sym c.as_slice.ensures.value) met.3);
      earlier_met = met_before_payload c.args.text.now c.args.kbpk.now c.in_ok-header.header c.in_ok-header.count header c.in_ok-payload.payload.items c.in_ok-payload.ensures.found;
    }
