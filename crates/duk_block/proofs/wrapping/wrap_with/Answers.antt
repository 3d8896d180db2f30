use Rattle.std.proofs.Common.{◌≡◌, ◌≤◌, ◌<◌, ◌+◌, ◌++◌, ℕ, List, refl, length, codes, sym, ap, subst, ◌∙◌, append-nil, length-append, arith, rules, inl, inr}
use Rattle.std.specs.List.{concat}
use Rattle.duk_block.specs.HeaderText.{IsHeader, header_text}
use Rattle.duk_block.specs.KeyBlock.{IsWrittenKeyBlockWith, payload_of}
use Rattle.duk_block.specs.inner.KeyBlock.{IsSealed}
use Rattle.duk_block.proofs.HeaderLength.{length-header_text}
use Rattle.duk_block.proofs.SealedLength.{length-sealed}
use Rattle.duk_block.proofs.WrittenSealed.{written_sealed}
use Rattle.duk_block.proofs.wrapping.wrap_with.Goals as goal

pub returns-clause-written : goal.returns-clause-written
returns-clause-written g c =
    let kbpk = c.args.kbpk.now in
    let header = c.args.header.now in
    let optional = c.args.optional.now in
    let total = c.in-Some-text_length.total in
    let count = c.in-Some.count in
    let leaves = c.in-Some.ensures.2 in
    let blocks = leaves.optional_blocks in
    let front = c.append.new.text.items in
    let text = c.seal.result.items in
    let payload : List ℕ = payload_of c.args.key.now c.args.pad.now in
    let payload_is : c.as_slice.result.now ≡ payload = c.as_slice.ensures.value ∙ c.payload_with.ensures.payload in
    let P : List ℕ → Type 0 = λ bytes. IsSealed kbpk front bytes text in
    let sealed : IsSealed kbpk front payload text = subst P payload_is c.seal.ensures in
    let is_header : IsHeader header = search rules in
    let sixteen : length c.text-front.result.items ≡ 16 = ap length c.text-front.ensures ∙ length-header_text total header count (codes "00") is_header.widths refl in
    let front_width : length front ≡ 16 + length optional = omega (arith, ap length c.append.ensures, length-append c.text-front.result.items optional, sixteen) in
    let width : length payload ≡ 2 + length c.args.key.now + length c.args.pad.now = omega (arith, length-append c.args.key.now c.args.pad.now) in
    let length_is : length text ≡ total =
    omega (arith, length-sealed kbpk front payload text sealed, front_width, width, c.in-Some-text_length.ensures.1, c.payload_with.ensures.key_length) in
    let optional_is : concat blocks ≡ optional = sym (leaves.laid_out ∙ append-nil (concat blocks)) in
    let front_is : front ≡ header_text (length text) header (length blocks) (codes "00") ++ concat blocks =
    c.append.ensures
    ∙ ap (λ head. head ++ optional) c.text-front.ensures
    ∙ ap (λ n. header_text n header count (codes "00") ++ optional) (sym length_is)
    ∙ ap (λ n. header_text (length text) header n (codes "00") ++ optional) (sym leaves.count_is)
    ∙ ap (λ rest. header_text (length text) header (length blocks) (codes "00") ++ rest) (sym optional_is) in
    let few : length blocks < 100 = omega (arith, leaves.count_is, c.in-Some.ensures.1) in
    let short : length text < 10000 = omega (arith, length_is, c.in-Some-text_length.ensures.0.most, c.in-Some-text_length.ensures.1) in
    let W : List ℕ → Type 0 = λ blocks. IsWrittenKeyBlockWith text kbpk header blocks c.args.key.now c.args.pad.now in
    subst W optional_is
    (written_sealed kbpk front text c.args.key.now c.args.pad.now header blocks is_header c.payload_with.ensures.key leaves.each few short front_is sealed)

pub returns-clause-limits : goal.returns-clause-limits
returns-clause-limits g c =
    let kbpk = c.args.kbpk.now in
    let header = c.args.header.now in
    let optional = c.args.optional.now in
    let front = c.append.new.text.items in
    let text = c.seal.result.items in
    let is_header : IsHeader header = search rules in
    let sixteen : length c.text-front.result.items ≡ 16 =
    ap length c.text-front.ensures ∙ length-header_text c.in-Some-text_length.total header c.in-Some.count (codes "00") is_header.widths refl in
    let front_width : length front ≡ 16 + length optional = omega (arith, ap length c.append.ensures, length-append c.text-front.result.items optional, sixteen) in
    let width : length c.as_slice.result.now ≡ 2 + length c.args.key.now + length c.args.pad.now =
    ap length (c.as_slice.ensures.value ∙ c.payload_with.ensures.payload) ∙ omega (arith, length-append c.args.key.now c.args.pad.now) in
    let total = length-sealed kbpk front c.as_slice.result.now text c.seal.ensures in
    let fits = c.in-Some-text_length.ensures.0 in
    let blocks_whole = c.in-Some.ensures.0.whole in
    let least : 16 ≤ g.row.M = elim c.requires.key [ inl double ↦ omega arith | inr triple ↦ omega arith ] in
    record {
      least = omega (arith, total, front_width, width, c.payload_with.ensures.key_length, fits.whole, least);
      most = omega (arith, total, front_width, width, c.payload_with.ensures.key_length, fits.most);
      whole = omega (arith, total, front_width, width, c.payload_with.ensures.key_length, fits.whole, blocks_whole);
    }
