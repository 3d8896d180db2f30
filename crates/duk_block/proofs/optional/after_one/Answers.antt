use Rattle.std.proofs.Common.{◌≡◌, ◌∷◌, [], ℕ, List, length, take, drop, get_or, inl, inr, refl, sym, ap, subst, ◌∙◌, arith}
use Rattle.std.proofs.lemmas.List.{take_rest}
use Rattle.hex.proofs.HexLemmas.{decode_of-ok, decode_of-same}
use Rattle.duk_block.specs.Hexadecimal.{IsHexadecimal}
use Rattle.duk_block.specs.inner.Optional.{LeavesOne}
use Rattle.duk_block.proofs.OptionalBlocks.{least_length, length_at, length-LeavesOne, LeavesOne-drop}
use Rattle.duk_block.proofs.optional.after_one.Goals as goal

-- a single byte is its list
single : (bytes : List ℕ) → length bytes ≡ 1 → bytes ≡ get_or bytes 0 0 ∷ []
single [] one = absurd (omega arith)
single (byte ∷ []) one = refl
single (byte ∷ next ∷ bytes) one = absurd (omega arith)

pub returns-then-text-lt4 : goal.returns-then-text-lt4
returns-then-text-lt4 c = λ rest one. absurd (omega (arith, least_length one.block one.is_block, length-LeavesOne c.args.text.now rest one))

pub returns-then-not-read_hex : goal.returns-then-not-read_hex
returns-then-not-read_hex c = λ rest one.
    c.if-not-read_hex.ensures (decode_of-ok (take 2 (drop 2 c.args.text.now)) (length one.block ∷ []) (length_at c.args.text.now rest one)).1

pub returns-then-length-lt4 : goal.returns-then-length-lt4
returns-then-length-lt4 c = λ rest one.
    let text = c.args.text.now in
    let read : IsHexadecimal (take 2 (drop 2 text)) c.read_hex.new.bytes = c.if-not-read_hex.ensures in
    let same = decode_of-same (take 2 (drop 2 text)) c.read_hex.new.bytes (length one.block ∷ []) read (length_at text rest one) in
    let value : c.from-length.result ≡ length one.block = c.from-length.ensures ∙ ap (λ bytes. get_or bytes 0 0) same in
    elim c.then-length-lt4.either [
      | inl below ↦ absurd (omega (arith, value, least_length one.block one.is_block))
      | inr above ↦ absurd (omega (arith, value, above.1, length-LeavesOne text rest one))
    ]

pub returns : goal.returns
returns c =
    let text = c.args.text.now in
    let n = c.from-length.result in
    let read : IsHexadecimal (take 2 (drop 2 text)) c.read_hex.new.bytes = c.if-not-read_hex.ensures in
    let width : length c.read_hex.new.bytes ≡ 1 = omega (arith, c.read_hex.auto.bytes) in
    let byte : c.read_hex.new.bytes ≡ n ∷ [] = single c.read_hex.new.bytes width ∙ ap (λ b. b ∷ []) (sym c.from-length.ensures) in
    let P : List ℕ → Type 0 = IsHexadecimal (take 2 (drop 2 text)) in
    let Q : List ℕ → Type 0 = LeavesOne text in
    subst Q (sym (take_rest text n)) (LeavesOne-drop text n c.if-length-lt4.false c.if-length-text.false (subst P byte read))
