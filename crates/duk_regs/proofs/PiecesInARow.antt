-- Pieces of one width, one after the other.
use Rattle.std.proofs.Common.{◌≡◌, ℕ, zero, suc, ◌+◌, ◌*◌, ◌<◌, ◌≤◌, List, [], ◌∷◌, ◌++◌, length, take, drop, map, get_or, sym, ap, ◌∙◌, arith}
use Rattle.std.proofs.lemmas.List.{append_assoc, append-nil, length-append, length-drop, length-take, length-take-le, take-take, drop-take, take_at, drop_at, drop-drop, take-append-drop}
use Rattle.std.specs.List.{concat, range_with_len}
use borrow.Rule.Slice.PartMut.{put_mid}

pub take-add : (m n : ℕ) (xs : List ℕ) → take (m + n) xs ≡ take m xs ++ take n (drop m xs)
take-add m n xs =
    let within : m ≤ m + n = omega arith in
    sym (take-append-drop m (take (m + n) xs))
    ∙ ap (λ front. front ++ drop m (take (m + n) xs)) (take-take m (m + n) xs within)
    ∙ ap (λ rest. take m xs ++ rest) (drop-take m n xs)

pub length-put_mid : (a k : ℕ) (xs ys : List ℕ) → a + k ≤ length xs → length ys ≡ k → length (put_mid a k xs ys) ≡ length xs
length-put_mid a k xs ys within size =
    simp (length-append, length-drop, length-take) (omega arith)

pub part_length : (xs : List ℕ) (start size : ℕ) → start + size ≤ length xs → length (take size (drop start xs)) ≡ size
part_length xs start size within = length-take-le size (drop start xs) (omega (arith, length-drop start xs))

pub concat-push : (xs : List (List ℕ)) (x : List ℕ) → concat (xs ++ x ∷ []) ≡ concat xs ++ x
concat-push [] x = append-nil x
concat-push (y ∷ ys) x = ap (λ rest. y ++ rest) (concat-push ys x) ∙ sym (append_assoc y (concat ys) x)

-- pieces that were read are the bytes in which they stand
pub pieces_from : (width start : ℕ) (bytes : List ℕ) (count place : ℕ)
    → concat (map (λ (place : ℕ). take width (drop (start + width * place) bytes)) (range_with_len place count)) ≡ take (width * count) (drop (start + width * place) bytes)
pieces_from width start bytes zero place =
    let none : 0 ≡ width * 0 = omega arith in
    ap (λ n. take n (drop (start + width * place) bytes)) none
pieces_from width start bytes (suc count) place =
    let from = start + width * place in
    let next : start + width * (place + 1) ≡ from + width = omega arith in
    let size : width * suc count ≡ width + width * count = omega arith in
    ap (λ rest. take width (drop from bytes) ++ rest)
    (pieces_from width start bytes count (place + 1) ∙ ap (λ n. take (width * count) (drop n bytes)) next ∙ ap (take (width * count)) (sym (drop-drop width from bytes)))
    ∙ sym (take-add width (width * count) (drop from bytes))
    ∙ ap (λ n. take n (drop from bytes)) (sym size)

-- a piece that was written is found in its place
pub piece_found : (width : ℕ) (pieces : List (List ℕ)) (rest : List ℕ) (place : ℕ) (default : List ℕ) → ((k : ℕ) → k < length pieces → length (get_or pieces k default) ≡ width)
    → place < length pieces
    → take width (drop (width * place) (concat pieces ++ rest)) ≡ get_or pieces place default
piece_found width [] rest place default are_wide within = absurd (omega arith)
piece_found width (first ∷ pieces) rest zero default are_wide within =
    let here : width * 0 ≡ 0 = omega arith in
    ap (λ n. take width (drop n ((first ++ concat pieces) ++ rest))) here
    ∙ ap (take width) (append_assoc first (concat pieces) rest)
    ∙ take_at first (concat pieces ++ rest) width (are_wide 0 (omega arith))
piece_found width (first ∷ pieces) rest (suc place) default are_wide within =
    let further : width * suc place ≡ width + width * place = omega arith in
    ap (λ n. take width (drop n ((first ++ concat pieces) ++ rest))) further
    ∙ ap (λ bytes. take width (drop (width + width * place) bytes)) (append_assoc first (concat pieces) rest)
    ∙ ap (take width) (sym (drop-drop (width * place) width (first ++ (concat pieces ++ rest))))
    ∙ ap (λ bytes. take width (drop (width * place) bytes)) (drop_at first (concat pieces ++ rest) width (are_wide 0 (omega arith)))
    ∙ piece_found width pieces rest place default (λ k inside. are_wide (suc k) (omega arith)) (omega arith)

pub length-concat : (width : ℕ) (pieces : List (List ℕ)) (default : List ℕ) → ((k : ℕ) → k < length pieces → length (get_or pieces k default) ≡ width)
    → length (concat pieces) ≡ width * length pieces
length-concat width [] default are_wide = omega arith
length-concat width (first ∷ pieces) default are_wide =
    let size : width * suc (length pieces) ≡ width + width * length pieces = omega arith in
    length-append first (concat pieces)
    ∙ (omega (arith, size, are_wide 0 (omega arith), length-concat width pieces default (λ k inside. are_wide (suc k) (omega arith))))
