use Rattle.std.proofs.Common.{◌≡◌, ◌≢◌, ◌↔◌, ℕ, List, length, Result, Ok, Err, IsOk, IfErr, refl, sym, subst}
use Rattle.std.proofs.lemmas.Bool.{false≢true}
use Rattle.duk_block.specs.HeaderText.{IsHeader}
use Rattle.duk_block.specs.KeyBlock.{FitsKeyBlockWith}
use Rattle.duk_block.specs.Optional.{AreOptionalBlocks}
use Rattle.duk_block.specs.declared.fault.BlockFault.{BlockFault}
use Rattle.duk_block.specs.declared.fault.BlockFault.TheVariants.{Length, Version, HeaderField, OptionalBlock, Hex, Mac, Payload, PadLength}
use Rattle.duk_block.specs.declared.header.Header.{Header}
use Rattle.duk_calls.specs.Blocks.{IsNotWrappedWith}
use Rattle.duk_calls.proofs.optional.wrap_key.Goals as goal

-- when a key block with optional blocks is not written, and for what
record Refusals {T : Type 0} (header : Header) (optional : List ℕ) (key padding : ℕ) (result : Result T BlockFault) : Type 0 where
  fields : (result ≡ Err HeaderField) ↔ ¬ IsHeader header
  blocks : (result ≡ Err OptionalBlock) ↔ (IsHeader header × ¬ AreOptionalBlocks optional)
  room : (result ≡ Err PadLength) ↔ (IsHeader header × AreOptionalBlocks optional × ¬ FitsKeyBlockWith (length optional) key padding)
  ok : IsOk result ↔ (IsHeader header × AreOptionalBlocks optional × FitsKeyBlockWith (length optional) key padding)

-- no other fault is told
no_other : {T : Type 0} (header : Header) (optional : List ℕ) (key padding : ℕ) (result : Result T BlockFault)
    → Refusals header optional key padding result
    → (result ≢ Err HeaderField)
    → (result ≢ Err OptionalBlock)
    → (result ≢ Err PadLength)
    → ¬ IsOk result
    → ⊥
no_other header optional key padding result told not_fields not_blocks not_room not_ok =
    not_fields (told.fields.1 (λ is_header.
    not_blocks (told.blocks.1 (
      is_header,
      (λ are_blocks.
          not_room (told.room.1 (
            is_header,
            are_blocks,
            (λ fits.
                not_ok (told.ok.1 (is_header, are_blocks, fits))),
          ))),
    ))))

refused_of : {T : Type 0} (header : Header) (optional : List ℕ) (key padding : ℕ) (result : Result T BlockFault)
    → Refusals header optional key padding result
    → IfErr result (IsNotWrappedWith header optional key padding)
refused_of header optional key padding (Ok text) told = tt
refused_of header optional key padding (Err HeaderField) told = told.fields.0 refl
refused_of header optional key padding (Err OptionalBlock) told = told.blocks.0 refl
refused_of header optional key padding (Err PadLength) told = told.room.0 refl
refused_of header optional key padding (Err Length) told = no_other header optional key padding (Err Length) told (λ e. cc e) (λ e. cc e) (λ e. cc e) (λ ok. false≢true ok)
refused_of header optional key padding (Err Version) told = no_other header optional key padding (Err Version) told (λ e. cc e) (λ e. cc e) (λ e. cc e) (λ ok. false≢true ok)
refused_of header optional key padding (Err Hex) told = no_other header optional key padding (Err Hex) told (λ e. cc e) (λ e. cc e) (λ e. cc e) (λ ok. false≢true ok)
refused_of header optional key padding (Err Mac) told = no_other header optional key padding (Err Mac) told (λ e. cc e) (λ e. cc e) (λ e. cc e) (λ ok. false≢true ok)
refused_of header optional key padding (Err Payload) told = no_other header optional key padding (Err Payload) told (λ e. cc e) (λ e. cc e) (λ e. cc e) (λ ok. false≢true ok)

pub returns-clause-refused : goal.returns-clause-refused
returns-clause-refused g c =
    refused_of c.args.header.now c.args.optional.now (length c.args.key.now) (length c.args.padding.now) c.wrap_with.result
    (subst (λ size. Refusals c.args.header.now c.args.optional.now size (length c.args.padding.now) c.wrap_with.result) (sym c.tdes_key.ensures.size) (record {
      fields = c.wrap_with.ensures.fields;
      blocks = c.wrap_with.ensures.optional;
      room = c.wrap_with.ensures.padding;
      ok = c.wrap_with.ensures.ok;
    }))
