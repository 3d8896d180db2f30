-- An answer that is sound is exact, since a text has one reading and one first fault.
use Rattle.std.proofs.Common.{◌≡◌, ℕ, List, Result, Ok, Err, is_ok, sym, ap, subst, ◌∙◌}
use Rattle.std.specs.Prelude.{IfOk, IfErr, IsOk, ◌↔◌}
use Rattle.std.proofs.lemmas.Bool.{false≢true}
use Rattle.duk_tdes.specs.declared.key.KeyBytes.{KeyBytes}
use Rattle.duk_block.specs.declared.header.Header.{Header}
use Rattle.duk_block.specs.declared.fault.BlockFault.{BlockFault}
use Rattle.duk_block.specs.Faults.{IsFirstFault, Meets}
use Rattle.duk_block.specs.KeyBlock.{IsKeyBlock, Wraps}
use Rattle.duk_tdes.specs.KeyBytes.{bytes_of, key_from}
use Rattle.duk_block.specs.Unwrapped.{ReadsKeyBlocks, RefusesFirstFaults}
use Rattle.duk_block.proofs.FaultOrder.{IsFirstFault-same}

-- what the laws say of one text
pub record Exact (text protection_key : List ℕ) : Type 0 where
  pub one_reading : (header other_header : Header) (key other_key : List ℕ) → IsKeyBlock text protection_key header key → IsKeyBlock text protection_key other_header other_key
      → (header ≡ other_header) × (key ≡ other_key)
  pub no_fault : (header : Header) (key : List ℕ) → Wraps protection_key text header key
      → (fault : BlockFault) → Meets text protection_key fault

pub record Sound (text protection_key : List ℕ) (answer : Result (Header × KeyBytes) BlockFault) : Type 0 where
  pub found : IfOk answer (λ found. Wraps protection_key text found.0 (bytes_of found.1))
  pub kind : IfOk answer (λ found. found.1 ≡ key_from (bytes_of found.1))
  pub refused : IfErr answer (IsFirstFault text protection_key)

fault_same : {A : Type 0} (a b : BlockFault) → (let one : Result A BlockFault = Err a in one) ≡ Err b → a ≡ b
fault_same a b same = cc

-- an answer with the first fault has no other
pub refuses_first : {A : Type 0} (text protection_key : List ℕ) (answer : Result A BlockFault) (reported : BlockFault) → answer ≡ Err reported → IsFirstFault text protection_key reported
    → (fault : BlockFault) → (answer ≡ Err fault) ↔ IsFirstFault text protection_key fault
refuses_first text protection_key answer reported is first fault =
    let P : BlockFault → Type 0 = IsFirstFault text protection_key in (
      λ same. subst P (fault_same reported fault (sym is ∙ same)) first,
      λ other. is ∙ ap Err (IsFirstFault-same text protection_key reported fault first other),
    )

pub not_ok : {A : Type 0} (answer : Result A BlockFault) (fault : BlockFault) → answer ≡ Err fault → IsOk answer → ⊥
not_ok answer fault is ok = false≢true (sym (ap is_ok is) ∙ ok)

reads_of : (text protection_key : List ℕ) → Exact text protection_key → (answer : Result (Header × KeyBytes) BlockFault)
    → IfOk answer (λ found. Wraps protection_key text found.0 (bytes_of found.1))
    → IfOk answer (λ found. found.1 ≡ key_from (bytes_of found.1))
    → IfErr answer (IsFirstFault text protection_key)
    → ReadsKeyBlocks answer text protection_key
reads_of text protection_key exact (Ok answer) found kind refused header key wraps =
    let same = exact.one_reading answer.0 header (bytes_of answer.1) key found.block wraps.block in
    let second : answer.1 ≡ key_from key = kind ∙ ap key_from same.1 in
    ap (λ h. Ok (h, answer.1)) same.0 ∙ ap (λ k. Ok (header, k)) second
reads_of text protection_key exact (Err fault) found kind refused header key wraps =
    absurd (refused.fails (exact.no_fault header key wraps fault))

refuses_of : (text protection_key : List ℕ) → Exact text protection_key → (answer : Result (Header × KeyBytes) BlockFault)
    → IfOk answer (λ found. Wraps protection_key text found.0 (bytes_of found.1))
    → IfErr answer (IsFirstFault text protection_key)
    → RefusesFirstFaults answer text protection_key
refuses_of text protection_key exact (Ok answer) found refused fault =
    (λ same. cc, λ first. absurd (first.fails (exact.no_fault answer.0 (bytes_of answer.1) found fault)))
refuses_of text protection_key exact (Err reported) found refused fault =
    let P : BlockFault → Type 0 = IsFirstFault text protection_key in (
      λ same. subst P (fault_same reported fault same) refused,
      λ first. ap Err (IsFirstFault-same text protection_key reported fault refused first),
    )

pub reads : (text protection_key : List ℕ) (answer : Result (Header × KeyBytes) BlockFault) → Exact text protection_key → Sound text protection_key answer → ReadsKeyBlocks answer text protection_key
reads text protection_key answer exact sound = reads_of text protection_key exact answer sound.found sound.kind sound.refused

pub refuses : (text protection_key : List ℕ) (answer : Result (Header × KeyBytes) BlockFault) → Exact text protection_key → Sound text protection_key answer → RefusesFirstFaults answer text protection_key
refuses text protection_key answer exact sound = refuses_of text protection_key exact answer sound.found sound.refused
