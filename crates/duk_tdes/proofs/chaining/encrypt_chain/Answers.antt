use Rattle.std.proofs.Common.{◌≡◌, ◌≤◌, ◌+◌, ◌-◌, ◌++◌, ℕ, List, length, take, drop, sym, ap, ◌∙◌, arith, append-nil}
use Rattle.std.proofs.lemmas.List.{drop-drop, length-drop, take_all}
use Rattle.duk_tdes.specs.Cbc.{cbc_encrypted}
use Rattle.duk_tdes.specs.Key.{xor_bytes}
use Rattle.duk_tdes.specs.Tdes.{tdes_encrypted}
use Rattle.duk_tdes.proofs.FirstBlock.{cbc_encrypted-more, cbc_encrypted-none}
use Rattle.duk_tdes.proofs.OneMoreBlockWritten.{written, length-written}
use borrow.Rule.Slice.PartMut.{put_mid}
use Rattle.duk_tdes.proofs.chaining.encrypt_chain.Goals as goal

pub loop-place-preserved : goal.loop-place-preserved
loop-place-preserved g c =
    let key = c.args.tdes.now in
    let bytes = c.loop-place.bytes in
    let before = c.loop-place.before in
    let place = c.loop-place.place in
    let room : place + 8 ≤ length bytes = omega arith in
    let width : place + 8 - place ≡ 8 = omega arith in
    let eight : length c.copy_from_slice.new.self ≡ 8 = omega (arith, c.copy_from_slice.ensures.len, length-drop place bytes, c.array_of.ensures.key.size_is) in
    let first : c.array_of.result ≡ take 8 (drop place bytes) = c.array_of.ensures.bytes ∙ ap (λ n. take n (drop place bytes)) width in
    let cipher : List ℕ = tdes_encrypted key (xor_bytes (take 8 (drop place bytes)) before) in
    let next : c.encrypt-before.result ≡ cipher = c.encrypt-before.ensures ∙ ap (tdes_encrypted key) (c.xor_bytes.ensures ∙ ap (λ block. xor_bytes block before) first) in
    let kept : length (put_mid place (place + 8 - place) bytes c.copy_from_slice.new.self) ≡ length bytes = length-written place (place + 8 - place) bytes c.copy_from_slice.new.self (omega arith) (omega arith) in
    record {
      kept = kept ∙ c.loop-place.invariant.kept;
      within = omega arith;
      whole = omega arith;
      same =
          written (λ rest. cbc_encrypted key c.encrypt-before.result rest) place (place + 8 - place) bytes c.copy_from_slice.new.self eight width (omega arith)
          ∙ ap (λ block. take place bytes ++ (block ++ cbc_encrypted key c.encrypt-before.result (drop (place + 8) bytes))) (c.copy_from_slice.ensures.after ∙ next)
          ∙ ap (λ chain. take place bytes ++ (cipher ++ cbc_encrypted key chain (drop (place + 8) bytes))) next
          ∙ ap (λ rest. take place bytes ++ (cipher ++ cbc_encrypted key cipher rest)) (sym (drop-drop 8 place bytes))
          ∙ ap (λ all. take place bytes ++ all) (sym (cbc_encrypted-more key before (drop place bytes) (omega (arith, length-drop place bytes))))
          ∙ c.loop-place.invariant.same;
    }

pub returns : goal.returns
returns g c =
    let key = c.args.tdes.now in
    let bytes = c.loop-place.bytes in
    let before = c.loop-place.before in
    let place = c.loop-place.place in
    let all : length bytes ≤ place = omega arith in
    sym (
    sym c.loop-place.invariant.same
    ∙ ap (λ front. front ++ cbc_encrypted key before (drop place bytes)) (take_all place bytes all)
    ∙ ap (λ rest. bytes ++ rest) (cbc_encrypted-none key before (drop place bytes) (omega (arith, length-drop place bytes)))
    ∙ append-nil bytes
    )
