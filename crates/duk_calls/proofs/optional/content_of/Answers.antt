use Rattle.std.proofs.Common.{◌≤◌, ◌↔◌, ℕ, List, length, Option, Some, None, MatchOption, Result, Ok, Err, IsOk, IfOk, refl}
use Rattle.std.specs.List.{All}
use Rattle.duk_block.specs.KeyBlock.{Wraps}
use Rattle.duk_block.specs.Optional.{HasOtherId, IsFirstContent, IsOptionalBlock}
use Rattle.duk_block.specs.declared.fault.BlockFault.{BlockFault}
use Rattle.duk_block.specs.declared.header.Header.{Header}
use Rattle.duk_calls.specs.Blocks.{HasNoOptional, IsOptionalContent}
use Rattle.duk_calls.proofs.optional.content_of.Goals as goal

-- what is found in each reading of the text is found in one
found_of : {R : Type 0} (now : R → List ℕ) (kbpk text id : List ℕ) (result : Result (Option R) BlockFault)
    → ((header : Header) (key : List ℕ) (wraps : Wraps kbpk text header key)
    → IfOk result (λ found. MatchOption found (All (HasOtherId id) wraps.block.optional_blocks) (λ content. IsFirstContent wraps.block.optional_blocks id (now content))))
    → (IsOk result ↔ ((header : Header) × (key : List ℕ) × Wraps kbpk text header key))
    → ((blocks : List (List ℕ)) (of content : List ℕ) → All IsOptionalBlock blocks → IsFirstContent blocks of content → length content ≤ 251)
    → IfOk result (λ found. MatchOption found (HasNoOptional kbpk text id) (λ content. IsOptionalContent kbpk text id (now content) × (length (now content) ≤ 251)))
found_of now kbpk text id (Err fault) found ok fit = tt
found_of now kbpk text id (Ok None) found ok fit =
    let read = ok.0 refl in
    record { header = read.0; key = read.1; wraps = read.2; others = found read.0 read.1 read.2 }
found_of now kbpk text id (Ok (Some content)) found ok fit =
    let read = ok.0 refl in
    let first = found read.0 read.1 read.2 in (
      record { header = read.0; key = read.1; wraps = read.2; is_first = first },
      fit read.2.block.optional_blocks id (now content) read.2.block.each_optional first,
    )

pub returns-clause-found : goal.returns-clause-found
returns-clause-found g c =
    found_of (λ content. content.now) c.args.kbpk.now c.args.text.now c.args.id c.unwrap_optional.result c.unwrap_optional.ensures.content c.unwrap_optional.ensures.ok c.contents_fit.ensures
