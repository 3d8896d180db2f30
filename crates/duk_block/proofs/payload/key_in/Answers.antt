use Rattle.std.proofs.Common.{List, ℕ, sym, subst, ◌∙◌, refl, inl, inr}
use Rattle.std.proofs.lemmas.Nat.{be_bytes_2}
use Rattle.duk_block.specs.Faults.{Carries}
use Rattle.duk_block.proofs.CarriedKey.{carries}
use Rattle.duk_block.proofs.HexBytes.{IsBytes-from_All}
use Rattle.duk_block.proofs.payload.key_in.Goals as goal

pub returns-in-128-clause-found : goal.returns-in-128-clause-found
returns-in-128-clause-found c =
    let bits = c.array_of in
    let key = c.array_of-in-128 in
    let P : List ℕ → Type 0 = Carries c.args.payload.now in
    let is_128 = be_bytes_2 bits.result 128 bits.ensures.key.size_is (IsBytes-from_All bits.result bits.ensures.key.bytes_fit) (sym c.in-128.is ∙ c.from_be_bytes.ensures) in
    subst P (sym c.new.ensures)
    (carries c.args.payload.now key.result 16 (inl refl) key.ensures.key.size_is key.ensures.key.bytes_fit (sym bits.ensures.bytes ∙ sym is_128) key.ensures.bytes)

pub returns-in-192-clause-found : goal.returns-in-192-clause-found
returns-in-192-clause-found c =
    let bits = c.array_of in
    let key = c.array_of-in-192 in
    let P : List ℕ → Type 0 = Carries c.args.payload.now in
    let is_192 = be_bytes_2 bits.result 192 bits.ensures.key.size_is (IsBytes-from_All bits.result bits.ensures.key.bytes_fit) (sym c.in-192.is ∙ c.from_be_bytes.ensures) in
    subst P (sym c.new-in-192.ensures)
    (carries c.args.payload.now key.result 24 (inr refl) key.ensures.key.size_is key.ensures.key.bytes_fit (sym bits.ensures.bytes ∙ sym is_192) key.ensures.bytes)
