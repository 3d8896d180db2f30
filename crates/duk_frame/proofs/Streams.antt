-- Frames at the front of a stream.
use Rattle.std.proofs.Common.{◌≡◌, ℕ, zero, suc, ◌+◌, ◌-◌, ◌*◌, ◌/◌, ◌%◌, ◌<◌, ◌≤◌, ◌⊎◌, List, [], ◌∷◌, ◌++◌, length, take, drop, inl, inr, refl, sym, ap, subst, ◌∙◌, arith, length-append, length-drop, append_assoc}
use Rattle.std.specs.List.{concat}
use Rattle.std.proofs.Math.Seq.{take-append-add, take-append_seam}
use Rattle.std.proofs.lemmas.List.{append_cancel_left, length-take-le, take-append-drop}
use Rattle.std.proofs.lemmas.List.Elements.{All-cons, All-head, All-nil, All-tail}
use Rattle.duk_frame.specs.Feeder.{EndsFrame}
use Rattle.duk_frame.specs.Frame.{framed}
use Rattle.duk_frame.specs.Stream.{BeginsTooLong, BeginsWith, IsFrame, IsPart, Splits, said_length}

-- a length and as much of a contents as it says are a frame
frame_of : (high low contents : ℕ) (rest : List ℕ) → contents ≡ high * 256 + low → contents ≤ 62 → contents ≤ length rest
    → IsFrame (high ∷ low ∷ take contents rest)
frame_of high low contents rest said short within =
    let size : length (take contents rest) ≡ contents = length-take-le contents rest within in
    let first : high ≡ length (take contents rest) / 256 % 256 = omega (arith, said, short, size) in
    let second : low ≡ length (take contents rest) % 256 = omega (arith, said, short, size) in
    record {
      contents = take contents rest;
      short = omega (arith, size, short);
      laid_out = ap (λ byte. byte ∷ low ∷ take contents rest) first ∙ ap (λ byte. length (take contents rest) / 256 % 256 ∷ byte ∷ take contents rest) second;
    }

-- where as much of a contents is there as the length says, the bytes begin with a frame
pub front_frame : (bytes : List ℕ) (contents : ℕ) → contents ≡ said_length bytes → contents ≤ 62 → 2 + contents ≤ length bytes
    → IsFrame (take (2 + contents) bytes)
front_frame [] contents said short within = absurd (omega (arith, within))
front_frame (high ∷ []) contents said short within = absurd (omega (arith, within))
front_frame (high ∷ low ∷ rest) contents said short within =
    let two : suc (suc contents) ≡ 2 + contents = omega arith in
    subst (λ count. IsFrame (take count (high ∷ low ∷ rest))) two (frame_of high low contents rest (omega (arith, said)) short (omega (arith, within)))

-- as many bytes of the piece as are wanting end the frame
pub ends_frame : (rest piece : List ℕ) (contents : ℕ) → contents ≡ said_length (rest ++ piece) → contents ≤ 62 → length rest < 2 + contents
    → 2 + contents - length rest ≤ length piece → EndsFrame rest piece (2 + contents - length rest)
ends_frame rest piece contents said short wanting within =
    let whole : length rest + (2 + contents - length rest) ≡ 2 + contents = omega (arith, wanting) in
    record {
      least = omega (arith, wanting);
      within = within;
      is_frame = subst IsFrame (ap (λ count. take count (rest ++ piece)) (sym whole) ∙ take-append-add rest piece (2 + contents - length rest))
          (front_frame (rest ++ piece) contents said short (omega (arith, within, wanting, length-append rest piece)));
    }

-- the part of a frame is shorter than that frame
pub part_is_short : (rest piece : List ℕ) → IsPart rest → length rest < 2 + said_length (rest ++ piece)
part_is_short rest piece (inl few) = omega (arith, few)
part_is_short [] piece (inr lacks) = omega arith
part_is_short (high ∷ []) piece (inr lacks) = omega arith
part_is_short (high ∷ low ∷ rest) piece (inr lacks) = lacks.short

said_of_framed : (contents more : List ℕ) → length contents ≤ 62 → said_length (framed contents ++ more) ≡ length contents
said_of_framed contents more short = omega (arith, short)

-- what the length of a frame says
said_of_frame : (frame more : List ℕ) → IsFrame frame → 2 + said_length (frame ++ more) ≡ length frame
said_of_frame frame more is =
    let said = said_of_framed is.contents more is.short in
    let same : said_length (frame ++ more) ≡ said_length (framed is.contents ++ more) = ap (λ bytes. said_length (bytes ++ more)) is.laid_out in
    let size : length frame ≡ length (framed is.contents) = ap length is.laid_out in
    omega (arith, said, same, size)

-- a frame has a length
frame_has_length : (frame : List ℕ) → IsFrame frame → 2 ≤ length frame
frame_has_length frame is = omega (arith, ap length is.laid_out)

frame_is_short : (frame : List ℕ) → IsFrame frame → length frame ≤ 64
frame_is_short frame is = omega (arith, ap length is.laid_out, is.short)

-- no bytes at the front of a part of a frame are a frame
pub part_has_no_frame : (frame more : List ℕ) → IsPart (frame ++ more) → ¬ IsFrame frame
part_has_no_frame frame more (inl few) is = omega (arith, few, length-append frame more, frame_has_length frame is)
part_has_no_frame frame more (inr lacks) is = omega (arith, lacks.short, length-append frame more, said_of_frame frame more is)

-- nor are any at the front of bytes that begin with a length above 62
pub too_long_has_no_frame : (frame more : List ℕ) → BeginsTooLong (frame ++ more) → ¬ IsFrame frame
too_long_has_no_frame frame more begins is = omega (arith, begins.above, said_of_frame frame more is, frame_is_short frame is)

-- bytes begin with at most one frame
one_frame : (frame other more rest : List ℕ) → IsFrame frame → IsFrame other → frame ++ more ≡ other ++ rest → frame ≡ other
one_frame frame other more rest is is_other same =
    let size : length frame ≡ length other =
    sym (said_of_frame frame more is) ∙ ap (λ bytes. 2 + said_length bytes) same ∙ said_of_frame other rest is_other in
    sym (take-append_seam frame more) ∙ ap (λ count. take count (frame ++ more)) size ∙ ap (take (length other)) same ∙ take-append_seam other rest

-- what ends a stream begins with no frame
end_has_no_frame : (frame more : List ℕ) → IsPart (frame ++ more) ⊎ BeginsTooLong (frame ++ more) → ¬ IsFrame frame
end_has_no_frame frame more (inl part) = part_has_no_frame frame more part
end_has_no_frame frame more (inr begins) = too_long_has_no_frame frame more begins

-- the frames that bytes begin with are the first of those that they are split into
pub first_frames : (bytes : List ℕ) (frames : List (List ℕ)) (rest : List ℕ) (all : List (List ℕ)) (last : List ℕ)
    → BeginsWith bytes frames rest → Splits bytes all last
    → (others : List (List ℕ)) × (all ≡ frames ++ others) × Splits rest others last
first_frames bytes [] rest all last begins splits = (all, refl, subst (λ bytes. Splits bytes all last) begins.whole splits)
first_frames bytes (frame ∷ frames) rest [] last begins splits =
    let same : last ≡ frame ++ (concat frames ++ rest) = sym splits.begins.whole ∙ begins.whole ∙ append_assoc frame (concat frames) rest in
    absurd (end_has_no_frame frame (concat frames ++ rest) (subst (λ bytes. IsPart bytes ⊎ BeginsTooLong bytes) same splits.ends) (All-head IsFrame frame frames begins.each))
first_frames bytes (frame ∷ frames) rest (other ∷ all) last begins splits =
    let first : bytes ≡ frame ++ (concat frames ++ rest) = begins.whole ∙ append_assoc frame (concat frames) rest in
    let second : bytes ≡ other ++ (concat all ++ last) = splits.begins.whole ∙ append_assoc other (concat all) last in
    let one : frame ≡ other =
    one_frame frame other (concat frames ++ rest) (concat all ++ last) (All-head IsFrame frame frames begins.each) (All-head IsFrame other all splits.begins.each) (sym first ∙ second) in
    let following : concat frames ++ rest ≡ concat all ++ last =
    append_cancel_left frame (concat frames ++ rest) (concat all ++ last) (sym first ∙ second ∙ ap (λ front. front ++ (concat all ++ last)) (sym one)) in
    let later = first_frames (concat frames ++ rest) frames rest all last
    (record { whole = refl; each = All-tail IsFrame frame frames begins.each })
    (record { begins = record { whole = following; each = All-tail IsFrame other all splits.begins.each }; ends = splits.ends }) in
    (later.0, ap (λ frame. frame ∷ all) (sym one) ∙ ap (λ all. frame ∷ all) later.1, later.2)

-- what ends a stream is split into no frame
end_is_no_frames : (rest : List ℕ) (frames : List (List ℕ)) (last : List ℕ) → IsPart rest ⊎ BeginsTooLong rest → Splits rest frames last → (frames ≡ []) × (rest ≡ last)
end_is_no_frames rest [] last ends splits = (refl, splits.begins.whole)
end_is_no_frames rest (frame ∷ frames) last ends splits =
    absurd (end_has_no_frame frame (concat frames ++ last)
    (subst (λ bytes. IsPart bytes ⊎ BeginsTooLong bytes) (splits.begins.whole ∙ append_assoc frame (concat frames) last) ends)
    (All-head IsFrame frame frames splits.begins.each))

append_none : (frames others : List (List ℕ)) → others ≡ [] → frames ++ others ≡ frames
append_none [] others none = none
append_none (frame ∷ frames) others none = ap (λ rest. frame ∷ rest) (append_none frames others none)

-- bytes are split in one way
pub one_splitting : (bytes : List ℕ) (frames : List (List ℕ)) (rest : List ℕ) (others : List (List ℕ)) (last : List ℕ)
    → Splits bytes frames rest → Splits bytes others last → (frames ≡ others) × (rest ≡ last)
one_splitting bytes frames rest others last one two =
    let more = first_frames bytes frames rest others last one.begins two in
    let none = end_is_no_frames rest more.0 last one.ends more.2 in
    (sym (append_none frames more.0 none.0) ∙ sym more.1, none.1)

less_or_not : (n m : ℕ) → (n < m) ⊎ (m ≤ n)
less_or_not n zero = inr (omega arith)
less_or_not zero (suc m) = inl (omega arith)
less_or_not (suc n) (suc m) = elim (less_or_not n m) [
  | inl less ↦ inl (omega (arith, less))
  | inr most ↦ inr (omega (arith, most))
]

-- bytes that are a frame and what is split are split
split_more : (bytes : List ℕ) (count : ℕ) → IsFrame (take count bytes) → (frames : List (List ℕ)) (rest : List ℕ) → Splits (drop count bytes) frames rest
    → Splits bytes (take count bytes ∷ frames) rest
split_more bytes count is frames rest splits = record {
  begins = record {
    whole =
        sym (take-append-drop count bytes)
        ∙ ap (λ following. take count bytes ++ following) splits.begins.whole
        ∙ sym (append_assoc (take count bytes) (concat frames) rest);
    each = All-cons IsFrame (take count bytes) frames is splits.begins.each;
  };
  ends = splits.ends;
}

split_last : (bytes : List ℕ) → IsPart bytes ⊎ BeginsTooLong bytes → Splits bytes [] bytes
split_last bytes ends = record { begins = record { whole = refl; each = All-nil IsFrame }; ends = ends }

-- so many bytes at most are split
split_within : (n : ℕ) (bytes : List ℕ) → length bytes ≤ n → (frames : List (List ℕ)) × (rest : List ℕ) × Splits bytes frames rest
split_within zero bytes within = ([], bytes, split_last bytes (inl (inl (omega (arith, within)))))
split_within (suc n) bytes within = elim (less_or_not (length bytes) 2) [
  | inl few ↦ ([], bytes, split_last bytes (inl (inl few)))
  | inr said ↦ elim (less_or_not 62 (said_length bytes)) [
    | inl above ↦ ([], bytes, split_last bytes (inr (record { said = said; above = above })))
    | inr fits ↦ elim (less_or_not (length bytes) (2 + said_length bytes)) [
      | inl short ↦ ([], bytes, split_last bytes (inl (inr (record { said = said; fits = fits; short = short }))))
      | inr whole ↦
          let count : ℕ = 2 + said_length bytes in
          let later = split_within n (drop count bytes) (omega (arith, length-drop count bytes, within)) in
          (take count bytes ∷ later.0, later.1, split_more bytes count (front_frame bytes (said_length bytes) refl fits whole) later.0 later.1 later.2)
    ]
  ]
]

-- all bytes are split
pub are_split : (bytes : List ℕ) → (frames : List (List ℕ)) × (rest : List ℕ) × Splits bytes frames rest
are_split bytes = split_within (length bytes) bytes (omega arith)
