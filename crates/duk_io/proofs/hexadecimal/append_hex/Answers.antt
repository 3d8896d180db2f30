use Rattle.std.proofs.Common.{rules, ℕ, List, get_or, ◌/◌, ◌≡◌, ◌*◌, ◌++◌, ◌∷◌, [], length, take, sym, ap, ◌∙◌, arith, length-append, append-nil}
use Rattle.std.proofs.lemmas.List.{append_assoc}
use Rattle.hex.specs.Hex.{encode_upper, upper_digits}
use Rattle.duk_io.proofs.HexText.{encode_upper-none, encode_upper-more, length-encode_upper-take}
use Rattle.duk_io.proofs.hexadecimal.append_hex.Goals as goal

pub loop-byte-init : goal.loop-byte-init
loop-byte-init g c = sym (ap (λ digits. c.args.text.now.items ++ digits) encode_upper-none ∙ append-nil c.args.text.now.items)

pub push-requires : goal.push-requires
push-requires g c =
    let bytes = c.args.bytes.now in
    let i = c.loop-byte.byte-index in
    let width : length (encode_upper (take i bytes)) ≡ 2 * i = length-encode_upper-take bytes i (omega arith) in
    (search rules, omega (arith, ap length c.loop-byte.invariant, length-append c.args.text.now.items (encode_upper (take i bytes))))

pub push-requires-in-loop-byte : goal.push-requires-in-loop-byte
push-requires-in-loop-byte g c =
    let bytes = c.args.bytes.now in
    let i = c.loop-byte.byte-index in
    let width : length (encode_upper (take i bytes)) ≡ 2 * i = length-encode_upper-take bytes i (omega arith) in
    (search rules, omega (arith, ap length c.loop-byte.invariant, length-append c.args.text.now.items (encode_upper (take i bytes)), c.push.ensures.len))

pub loop-byte-preserved : goal.loop-byte-preserved
loop-byte-preserved g c =
    let bytes = c.args.bytes.now in
    let i = c.loop-byte.byte-index in
    let start = c.args.text.now.items in
    let done : List ℕ = encode_upper (take i bytes) in
    c.push-in-loop-byte.ensures.items
    ∙ ap (λ front. front ++ get_or upper_digits c.from-in-loop-byte.result 0 ∷ []) (c.push.ensures.items ∙ ap (λ front. front ++ get_or upper_digits c.from.result 0 ∷ []) c.loop-byte.invariant)
    ∙ append_assoc (start ++ done) (get_or upper_digits c.from.result 0 ∷ []) (get_or upper_digits c.from-in-loop-byte.result 0 ∷ [])
    ∙ append_assoc start done (get_or upper_digits c.from.result 0 ∷ get_or upper_digits c.from-in-loop-byte.result 0 ∷ [])
    ∙ ap (λ high. start ++ (done ++ get_or upper_digits high 0 ∷ get_or upper_digits c.from-in-loop-byte.result 0 ∷ [])) c.from.ensures
    ∙ ap (λ low. start ++ (done ++ get_or upper_digits (get_or bytes i 0 / 16) 0 ∷ get_or upper_digits low 0 ∷ [])) c.from-in-loop-byte.ensures
    ∙ ap (λ digits. start ++ digits) (sym (encode_upper-more bytes i (omega arith)))

pub returns-clause-len : goal.returns-clause-len
returns-clause-len g c =
    let bytes = c.args.bytes.now in
    let i = c.loop-byte.byte-index in
    let whole : i ≡ length bytes = omega arith in
    omega (arith, whole, ap length c.loop-byte.invariant, length-append c.args.text.now.items (encode_upper (take i bytes)), length-encode_upper-take bytes i (omega arith))
