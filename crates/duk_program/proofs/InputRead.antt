-- What is read of the input: its first line, a byte at a time, for one of the secrets in turn.
use Rattle.std.proofs.Common.{◌≡◌, ◌≢◌, ◌==◌, ◌||◌, ◌+◌, ◌<◌, ◌≤◌, ℕ, suc, Bool, true, false, List, [], ◌∷◌, ◌++◌, Option, Some, None, length, map, take, get_or, option_map, codes, inl, inr, refl, sym, subst, ap, ◌∙◌, append_assoc, append-nil, length-append, arith}
use Rattle.std.proofs.Math.Seq.{take-append_seam}
use Rattle.std.specs.Prelude.{Result, Ok, Err, IfErr, IfOk, MatchResult, bytes_eq, if◌then◌else◌}
use Rattle.std.proofs.lemmas.List.{get_or-map, length-map, map_more, take-map, take_all}
use Rattle.std.proofs.lemmas.Slice.Eq.{bytes_eq-Decides}
use Rattle.std.specs.Io.KnownBytes.{Consumes, IsAtEnd}
use Rattle.std.specs.List.{before_first, position_or_len}
use Rattle.std.specs.Str.{IsUtf8}
use Rattle.duk_program.specs.CommandLine.{row_of}
use Rattle.duk_arguments.specs.Request.{Written}
use Rattle.duk_program.specs.References.{help_name}
use Rattle.duk_host.specs.Serve.{Supply}
use Rattle.duk_io.specs.Known.{Known}
use Rattle.duk_io.specs.Source.{AreBytesRead, AreReadsMade, IsBroken}
use Rattle.duk_program.proofs.Words.{means_push}
use Rattle.duk_service.specs.Files.{FileKnown, IsLineRead, first_line, has_end, without_return}
use Rattle.duk_program.specs.InputLine.{HasLineTaken, IsLineTaken, input_file, with_input}
use Rattle.duk_program.specs.Secrets.{AreRead, IsFirstUnread, IsInputTaken, IsNextUnread, IsSecretFault, Means, RefersToInput, StandsFor, inputs_in, is_input_reference, is_of_input, names_in, reference_in, secrets_in}
use Rattle.duk_program.specs.declared.secrets.Secret.{Secret}
use Rattle.duk_program.specs.declared.secrets.SecretFault.{SecretFault}
use Rattle.duk_program.specs.declared.secrets.SecretFault.TheVariants.{NoMemory, Unread}
use Rattle.duk_program.specs.declared.secrets.Unread.TheVariants.{CannotRead, NotUtf8, TooLong}
use Rattle.duk_service.specs.declared.file_system.FileFault.{FileFault}
use Rattle.duk_service.specs.declared.file_system.FileFault.TheVariants as file
use Rattle.duk_program.specs.inner.Secrets.{IsOnceUnread, IsReadOnce, IsSecretRead, IsSecretRefused, IsTextRefused, inputs_read, line_fault}

-- ---- a line that has no end, and one that has

neither : (a b : Bool) → a || b ≡ false → (a ≡ false) × (b ≡ false)
neither true b e = absurd (grind (arith, e))
neither false b e = (refl, e)

end_place : (line rest : List ℕ) → has_end line ≡ false → position_or_len (λ byte. byte == 10) (line ++ 10 ∷ rest) ≡ length line
end_place [] rest none = refl
end_place (byte ∷ line) rest none =
    let parts = neither (byte == 10) (has_end line) none in
    rw (parts.0) (omega (arith, end_place line rest parts.1))

before_end : (line rest : List ℕ) → has_end line ≡ false → before_first (λ byte. byte == 10) (line ++ 10 ∷ rest) ≡ line
before_end line rest none = ap (λ n. take n (line ++ 10 ∷ rest)) (end_place line rest none) ∙ take-append_seam line (10 ∷ rest)

end_found : (line rest : List ℕ) → has_end (line ++ 10 ∷ rest) ≡ true
end_found [] rest = refl
end_found (byte ∷ line) rest = grind (arith, end_found line rest)

first_line_ended : (line rest : List ℕ) → has_end line ≡ false → first_line (line ++ 10 ∷ rest) ≡ without_return line
first_line_ended line rest none = rw (end_found line rest, before_end line rest none) refl

first_line_all : (line : List ℕ) → has_end line ≡ false → first_line line ≡ line
first_line_all line none = rw none refl

-- ---- a line that is read a byte at a time

-- what the laws of reading say
pub record ReadLaws : Type 0 where
  pub none : (now : Known) → AreBytesRead now now []
  pub next : (before between after : Known) (first second : List ℕ) → AreBytesRead before between first → AreBytesRead between after second → AreBytesRead before after (first ++ second)
  pub broken : (before between after : Known) (first second : List ℕ) → AreBytesRead before between first → IsBroken between after second → IsBroken before after (first ++ second)
  pub no_reads : (now : Option ℕ) → AreReadsMade now now 0
  pub more_reads : (before between after : Option ℕ) (first second : ℕ) → AreReadsMade before between first → AreReadsMade between after second → AreReadsMade before after (first + second)

-- so many bytes were read, of which none is the end of a line
pub record IsLineUnderWay (before now : Supply) (count : ℕ) (line : List ℕ) : Type 0 where
  pub read : AreBytesRead before.known now.known line
  pub made : AreReadsMade before.reads now.reads count
  pub no_end : has_end line ≡ false
  pub count_is : length line ≡ count

-- the end of the line
pub line_ends : (reads : ReadLaws) (before between after : Supply) (count : ℕ) (line : List ℕ) → IsLineUnderWay before between count line
    → AreBytesRead between.known after.known (10 ∷ []) → AreReadsMade between.reads after.reads 1 → count < 4098
    → HasLineTaken before after (without_return line)
line_ends reads before between after count line way read one few =
    let many : length (line ++ 10 ∷ []) ≡ count + 1 = omega (arith, length-append line (10 ∷ []), way.count_is) in
    record {
      bytes = line ++ 10 ∷ [];
      taken = record {
        read = reads.next before.known between.known after.known line (10 ∷ []) way.read read;
        few = omega (arith, many, few);
        stops = inl (record {
          line = line;
          bytes_are = refl;
          no_end_within = way.no_end;
          made = subst (AreReadsMade before.reads after.reads) (sym many) (reads.more_reads before.reads between.reads after.reads count 1 way.made one);
        });
      };
      line_is = sym (first_line_ended line [] way.no_end);
    }

-- ---- the line that was read is the first of the input

first_of_more : (line bytes rest all : List ℕ) → bytes ≡ line ++ 10 ∷ [] → has_end line ≡ false → all ≡ bytes ++ rest → first_line bytes ≡ first_line all
first_of_more line bytes rest all is none whole =
    let joined : all ≡ line ++ 10 ∷ rest = whole ∙ ap (λ l. l ++ rest) is ∙ append_assoc line (10 ∷ []) rest in
    ap first_line is ∙ first_line_ended line [] none ∙ sym (ap first_line joined ∙ first_line_ended line rest none)

taken_first : (before after : Supply) (bytes rest all : List ℕ) → IsLineTaken before after bytes → length (first_line bytes) ≤ 4096
    → (IsAtEnd after.known.contents → rest ≡ []) → all ≡ bytes ++ rest → first_line bytes ≡ first_line all
taken_first before after bytes rest all taken fits over whole = elim taken.stops [
  | inl ended ↦ first_of_more ended.line bytes rest all ended.bytes_are ended.no_end_within whole
  | inr (inl long) ↦ absurd (omega (arith, long.all, fits, ap length (first_line_all bytes long.no_end)))
  | inr (inr last) ↦ ap first_line (sym (whole ∙ ap (λ l. bytes ++ l) (over last.over) ∙ append-nil bytes))
]

line_read : (before after : Supply) (old new : Option (List ℕ)) (bytes : List ℕ) → after.known.contents ≡ new → IsLineTaken before after bytes
    → Consumes old new bytes → length (first_line bytes) ≤ 4096 → IsLineRead (option_map (λ b. Some b) old) 4096 (first_line bytes)
line_read before after None new bytes is taken given fits = tt
line_read before after (Some all) None bytes is taken given fits = absurd given
line_read before after (Some all) (Some rest) bytes is taken given fits =
    (taken_first before after bytes rest all taken fits (λ over. subst IsAtEnd is over) given, fits)

pub input_line_read : (before after : Supply) (line : List ℕ) → HasLineTaken before after line → length line ≤ 4096 → IsLineRead (input_file before) 4096 line
input_line_read before after line has fits =
    rw (has.line_is) (line_read before after before.known.contents after.known.contents has.bytes refl has.taken has.taken.read.given (subst (λ l. length l ≤ 4096) has.line_is fits))

-- ---- which secrets refer to the input

differ : (xs ys : List ℕ) → xs ≢ ys → bytes_eq xs ys ≡ false
differ xs ys other = grind (arith, bytes_eq-Decides xs ys)

-- a text that refers to the input is counted, and no other is
no_path_of_input : (reference : Option (List ℕ)) → reference ≢ Some (codes "-") → is_of_input reference ≡ false
no_path_of_input None other = refl
no_path_of_input (Some path) other = differ path (codes "-") (λ is. other (ap (λ p. Some p) is))

input_counted : (word : List ℕ) → RefersToInput word → inputs_in (word ∷ []) ≡ 1
input_counted word is = ap (λ reference. if is_of_input reference then 1 else 0) is

other_counted : (word : List ℕ) → ¬ RefersToInput word → inputs_in (word ∷ []) ≡ 0
other_counted word other = ap (λ b. if b then 1 else 0) (no_path_of_input (reference_in word) other)

-- what another stands for is not of the input
file_held : (held : List ℕ → FileKnown) (before : Supply) (path : List ℕ) → path ≢ codes "-" → with_input held before path ≡ held path
file_held held before path other = rw (differ path (codes "-") other) refl

stands_elsewhere : (held : List ℕ → FileKnown) (before : Supply) (reference : Option (List ℕ)) (written text : List ℕ) → reference ≢ Some (codes "-")
    → StandsFor held reference written text → StandsFor (with_input held before) reference written text
stands_elsewhere held before None written text other stands = stands
stands_elsewhere held before (Some path) written text other stands = rw (file_held held before path (λ is. other (ap (λ p. Some p) is))) stands

means_elsewhere : (held : List ℕ → FileKnown) (before : Supply) (written text : List ℕ) → ¬ RefersToInput written → Means held written text
    → Means (with_input held before) written text
means_elsewhere held before written text other means =
    stands_elsewhere held before (reference_in written) written text other means

-- ---- one secret

-- the line of the input is not read
input_cause : (was : Bool) (before after : Supply) (why : FileFault) (held : List ℕ → FileKnown) (secret : Secret) (written : List ℕ)
    → RefersToInput written → IsOnceUnread was before after why → IsSecretRefused held was before after secret written (line_fault secret why)
input_cause true before after file.CannotRead held secret written is idle = (refl, inr (record { is_input = is; cause = (refl, idle) }))
input_cause true before after file.TooLong held secret written is cause = absurd cause
input_cause true before after file.NoMemory held secret written is cause = tt
input_cause false before after file.CannotRead held secret written is broken = (refl, inr (record { is_input = is; cause = broken }))
input_cause false before after file.TooLong held secret written is long = (refl, inr (record { is_input = is; cause = long }))
input_cause false before after file.NoMemory held secret written is cause = tt

pub input_unread : (held : List ℕ → FileKnown) (was : Bool) (before after : Supply) (secret : Secret) (written : List ℕ) (why : FileFault) (told : SecretFault)
    → reference_in written ≡ Some (codes "-") → told ≡ line_fault secret why → IsOnceUnread was before after why → IsSecretRefused held was before after secret written told
input_unread held was before after secret written why told refers is cause =
    subst (IsSecretRefused held was before after secret written) (sym is) (input_cause was before after why held secret written refers cause)

-- or is no text
input_not_text : (held : List ℕ → FileKnown) (was is : Bool) (before after : Supply) (secret : Secret) (written line : List ℕ) → RefersToInput written
    → IsReadOnce was is before after line → ¬ IsUtf8 line → IsSecretRefused held was before after secret written (Unread secret NotUtf8)
input_not_text held true is before after secret written line input once no_text = absurd (grind (arith, once.unread))
input_not_text held false is before after secret written line input once no_text =
    (refl, inr (record { is_input = input; cause = record { line = line; taken = once.taken; not_utf8 = no_text } }))

pub input_no_text : (held : List ℕ → FileKnown) (was is : Bool) (before after : Supply) (secret : Secret) (written line : List ℕ) (told : SecretFault)
    → reference_in written ≡ Some (codes "-") → IsReadOnce was is before after line → IsTextRefused secret line told → IsSecretRefused held was before after secret written told
input_no_text held was is before after secret written line told refers once refused = elim refused [
  | inl memory ↦ subst (IsSecretRefused held was before after secret written) (sym memory) tt
  | inr text ↦ subst (IsSecretRefused held was before after secret written) (sym text.0)
      (input_not_text held was is before after secret written line refers once text.1)
]

pub fault_through : {T E V F : Type 0} (P : V → Type 0) (R : F → Type 0) (A : V → E → Type 0) (B : F → E → Type 0) (S : E → Type 0) (text : Result T E) (line : Result V F)
    → IfErr text (λ e. MatchResult line (λ l. A l e) (λ f. B f e)) → IfOk line P → IfErr line R
    → ((l : V) (e : E) → A l e → P l → S e) → ((f : F) (e : E) → B f e → R f → S e) → IfErr text S
fault_through P R A B S (Ok t) line same says refused of_text of_line = tt
fault_through P R A B S (Err e) (Ok l) same says refused of_text of_line = of_text l e same says
fault_through P R A B S (Err e) (Err f) same says refused of_text of_line = of_line f e same refused

-- ---- secrets that are read in turn

-- these were read, and whether one referred to the input
pub record AreReadSoFar (held : List ℕ → FileKnown) (written texts : List (List ℕ)) (before now : Supply) (is_read : Bool) : Type 0 where
  pub read : AreRead held written texts before now
  pub inputs : inputs_in written ≡ inputs_read is_read

pub none_read : (held : List ℕ → FileKnown) (now : Supply) → AreReadSoFar held [] [] now now false
none_read held now = record { read = record { means = tt; taken = refl }; inputs = refl }

counted : (b : Bool) (m n k : ℕ) → m ≡ n + k → (if b then suc m else m) ≡ (if b then suc n else n) + k
counted true m n k e = omega (arith, e)
counted false m n k e = e

one_more : (written : List (List ℕ)) (word : List ℕ) → inputs_in (written ++ word ∷ []) ≡ inputs_in written + inputs_in (word ∷ [])
one_more [] word = omega arith
one_more (other ∷ written) word = counted (is_input_reference other) _ _ _ (one_more written word)

input_more : (held : List ℕ → FileKnown) (written texts : List (List ℕ)) (before between after : Supply) (word text : List ℕ)
    → AreReadSoFar held written texts before between false → RefersToInput word → HasLineTaken between after text → length text ≤ 4096
    → AreReadSoFar held (written ++ word ∷ []) (texts ++ text ∷ []) before after true
input_more held written texts before between after word text so_far is taken fits =
    let idle : between ≡ before = subst (λ n. IsInputTaken n before between) so_far.inputs so_far.read.taken in
    let first : HasLineTaken before after text = subst (λ s. HasLineTaken s after text) idle taken in
    let this : inputs_in (word ∷ []) ≡ 1 = input_counted word is in
    let one : inputs_in (written ++ word ∷ []) ≡ 1 = omega (arith, one_more written word, this, so_far.inputs) in
    record {
      read = record {
        means = means_push (with_input held before) written texts word text so_far.read.means
            (subst (λ r. StandsFor (with_input held before) r word text) (sym is) (input_line_read before after text first fits));
        taken = subst (λ n. IsInputTaken n before after) (sym one) (first.bytes, first.taken);
      };
      inputs = one;
    }

other_more : (held : List ℕ → FileKnown) (written texts : List (List ℕ)) (before between after : Supply) (was is : Bool) (word text : List ℕ)
    → AreReadSoFar held written texts before between was → ¬ RefersToInput word → is ≡ was → after ≡ between → Means held word text
    → AreReadSoFar held (written ++ word ∷ []) (texts ++ text ∷ []) before after is
other_more held written texts before between after was is word text so_far other kept idle means =
    let this : inputs_in (word ∷ []) ≡ 0 = other_counted word other in
    let same : inputs_in (written ++ word ∷ []) ≡ inputs_in written = omega (arith, one_more written word, this) in
    record {
      read = record {
        means = means_push (with_input held before) written texts word text so_far.read.means (means_elsewhere held before word text other means);
        taken = subst (λ s. IsInputTaken (inputs_in (written ++ word ∷ [])) before s) (sym idle)
            (subst (λ n. IsInputTaken n before between) (sym same) so_far.read.taken);
      };
      inputs = same ∙ so_far.inputs ∙ ap inputs_read (sym kept);
    }

secrets_more : (held : List ℕ → FileKnown) (written texts : List (List ℕ)) (before between after : Supply) (was is : Bool) (word text : List ℕ)
    → AreReadSoFar held written texts before between was → IsSecretRead held was is between after word text
    → AreReadSoFar held (written ++ word ∷ []) (texts ++ text ∷ []) before after is
secrets_more held written texts before between after was is word text so_far read = elim read [
  | inl input ↦ subst (AreReadSoFar held (written ++ word ∷ []) (texts ++ text ∷ []) before after) (sym input.once.marked)
      (input_more held written texts before between after word text (subst (AreReadSoFar held written texts before between) input.once.unread so_far)
      input.is_input input.once.taken input.once.fits)
  | inr other ↦ other_more held written texts before between after was is word text so_far other.no_input other.kept other.idle other.means
]

module _ {A : Type 0} (text_of : A → List ℕ) (written : List A) where
  -- one secret more is read
  pub reads_more : (held : List ℕ → FileKnown) (texts : List (List ℕ)) (before between after : Supply) (was is : Bool) (place : ℕ) (d : A)
      (text : List ℕ) → place < length written → AreReadSoFar held (map text_of (take place written)) texts before between was
      → IsSecretRead held was is between after (text_of (get_or written place d)) text
      → AreReadSoFar held (map text_of (take (place + 1) written)) (texts ++ text ∷ []) before after is
  reads_more held texts before between after was is place d text inside so_far one =
      subst (λ words. AreReadSoFar held words (texts ++ text ∷ []) before after is) (sym (map_more text_of written place d inside))
      (secrets_more held (map text_of (take place written)) texts before between after was is (text_of (get_or written place d)) text so_far one)

  module _ (held : List ℕ → FileKnown) (asked : Written) (same : map text_of written ≡ secrets_in asked) where
    -- all are
    pub all_read : (texts : List (List ℕ)) (before now : Supply) (is : Bool) (place : ℕ)
        → length written ≤ place → AreReadSoFar held (map text_of (take place written)) texts before now is
        → AreRead held (secrets_in asked) texts before now
    all_read texts before now is place all so_far =
        subst (λ words. AreRead held words texts before now) (ap (map text_of) (take_all place written all) ∙ same) so_far.read

    -- a secret is not read, and those before it are
    pub first_unread : (texts : List (List ℕ)) (before between after : Supply) (was : Bool)
        (d : A) (secret : Secret) (why : SecretFault) → secret.place < length written
        → AreReadSoFar held (map text_of (take secret.place written)) texts before between was
        → secret.name.now ≡ help_name (get_or (names_in asked) secret.place []) (row_of asked.command)
        → IsSecretRefused held was between after secret (text_of (get_or written secret.place d)) why → IsSecretFault held before after asked why
    first_unread texts before between after was d secret NoMemory inside so_far named refused = tt
    first_unread texts before between after was d secret (Unread told why) inside so_far named refused =
        let place = secret.place in
        let words : map text_of (take place written) ≡ take place (secrets_in asked) = sym (take-map text_of place written) ∙ ap (take place) same in
        subst (λ (unread : Secret). IsFirstUnread held before after asked unread why) (sym refused.0) (record {
          is_there = subst (λ words. place < length words) same (subst (λ n. place < n) (sym (length-map written text_of)) inside);
          name = named;
          texts = texts;
          between = between;
          earlier = subst (λ words. AreRead held words texts before between) words so_far.read;
          cause = subst (λ word. IsNextUnread held (inputs_in (take place (secrets_in asked))) between after word why)
              (sym (get_or-map text_of written place d [] inside) ∙ ap (λ words. get_or words place []) same)
              (subst (λ n. IsNextUnread held n between after (text_of (get_or written place d)) why) (sym so_far.inputs ∙ ap inputs_in words) refused.1);
        })

    -- the same of a secret that stands at a place
    pub first_unread_at : (texts : List (List ℕ)) (before between after : Supply) (was : Bool) (d : A) (secret : Secret) (why : SecretFault) (place : ℕ)
        → secret.place ≡ place → place < length written → AreReadSoFar held (map text_of (take place written)) texts before between was
        → secret.name.now ≡ help_name (get_or (names_in asked) place []) (row_of asked.command)
        → IsSecretRefused held was between after secret (text_of (get_or written place d)) why → IsSecretFault held before after asked why
    first_unread_at texts before between after was d secret why place at inside so_far named refused =
        first_unread texts before between after was d secret why (subst (λ n. n < length written) (sym at) inside)
        (subst (λ n. AreReadSoFar held (map text_of (take n written)) texts before between was) (sym at) so_far)
        (subst (λ n. secret.name.now ≡ help_name (get_or (names_in asked) n []) (row_of asked.command)) (sym at) named)
        (subst (λ n. IsSecretRefused held was between after secret (text_of (get_or written n d)) why) (sym at) refused)
