use Rattle.std.proofs.Common.{◌≡◌, ◌≤◌, ◌+◌, ◌-◌, ◌++◌, ℕ, List, length, take, drop, sym, ap, ◌∙◌, arith, append-nil}
use Rattle.std.proofs.lemmas.List.{drop-drop, length-drop, take_all}
use Rattle.duk_tdes.specs.Cbc.{cbc_decrypted}
use Rattle.duk_tdes.specs.Key.{xor_bytes}
use Rattle.duk_tdes.specs.Tdes.{tdes_decrypted}
use Rattle.duk_tdes.proofs.FirstBlock.{cbc_decrypted-more, cbc_decrypted-none}
use Rattle.duk_tdes.proofs.OneMoreBlockWritten.{written, length-written}
use borrow.Rule.Slice.PartMut.{put_mid}
use Rattle.duk_tdes.proofs.chaining.decrypt_chain.Goals as goal

pub loop-place-preserved : goal.loop-place-preserved
loop-place-preserved g c =
    let key = c.args.tdes.now in
    let bytes = c.loop-place.bytes in
    let before = c.loop-place.before in
    let place = c.loop-place.place in
    let room : place + 8 ≤ length bytes = omega arith in
    let width : place + 8 - place ≡ 8 = omega arith in
    let eight : length c.copy_from_slice.new.self ≡ 8 = omega (arith, c.copy_from_slice.ensures.len, length-drop place bytes, c.array_of-block.ensures.key.size_is) in
    let first : c.array_of-block.result ≡ take 8 (drop place bytes) = c.array_of-block.ensures.bytes ∙ ap (λ n. take n (drop place bytes)) width in
    let plain : List ℕ = xor_bytes (tdes_decrypted key (take 8 (drop place bytes))) before in
    let next : c.xor_bytes-plain.result ≡ plain = c.xor_bytes-plain.ensures ∙ ap (λ block. xor_bytes block before) (c.decrypt.ensures ∙ ap (tdes_decrypted key) first) in
    let kept : length (put_mid place (place + 8 - place) bytes c.copy_from_slice.new.self) ≡ length bytes = length-written place (place + 8 - place) bytes c.copy_from_slice.new.self (omega arith) (omega arith) in
    record {
      kept = kept ∙ c.loop-place.invariant.kept;
      within = omega arith;
      whole = omega arith;
      same =
          written (λ rest. cbc_decrypted key c.array_of-block.result rest) place (place + 8 - place) bytes c.copy_from_slice.new.self eight width (omega arith)
          ∙ ap (λ block. take place bytes ++ (block ++ cbc_decrypted key c.array_of-block.result (drop (place + 8) bytes))) (c.copy_from_slice.ensures.after ∙ next)
          ∙ ap (λ chain. take place bytes ++ (plain ++ cbc_decrypted key chain (drop (place + 8) bytes))) first
          ∙ ap (λ rest. take place bytes ++ (plain ++ cbc_decrypted key (take 8 (drop place bytes)) rest)) (sym (drop-drop 8 place bytes))
          ∙ ap (λ all. take place bytes ++ all) (sym (cbc_decrypted-more key before (drop place bytes) (omega (arith, length-drop place bytes))))
          ∙ c.loop-place.invariant.same;
    }

pub returns : goal.returns
returns g c =
    let key = c.args.tdes.now in
    let bytes = c.loop-place.bytes in
    let before = c.loop-place.before in
    let place = c.loop-place.place in
    let all : length bytes ≤ place = omega arith in
    sym (
    sym c.loop-place.invariant.same
    ∙ ap (λ front. front ++ cbc_decrypted key before (drop place bytes)) (take_all place bytes all)
    ∙ ap (λ rest. bytes ++ rest) (cbc_decrypted-none key before (drop place bytes) (omega (arith, length-drop place bytes)))
    ∙ append-nil bytes
    )
