-- The lines of tills alone: their tokens, that they are ASCII, and that no line of terminals is one.
use Rattle.std.proofs.Common.{◌≡◌, ◌<◌, ◌^◌, ℕ, zero, suc, List, [], ◌∷◌, ◌++◌, drop, get_or, codes, decimal, true, false, not, eqb, Option, Some, None, Result, Ok, Err, MatchResult, refl, sym, ap, subst, ◌∙◌, arith, rules}
use Rattle.std.proofs.lemmas.Bool.{eqb-false, false≢true}
use Rattle.std.proofs.lemmas.Fmt.{IsAscii-decimal, decimal_is_IsNumeral}
use Rattle.std.proofs.lemmas.List.Sums.{AllPass-from_list_all}
use Rattle.std.proofs.lemmas.Str.{IsUtf8-from_ascii, IsAscii-append}
use Rattle.std.proofs.lemmas.Str.Ascii.{IsAscii-cons}
use Rattle.std.proofs.lemmas.Str.Parse.{digit_at}
use Rattle.std.specs.List.{list_all}
use Rattle.std.specs.Result.{result_ok}
use Rattle.std.specs.Str.{IsAscii, IsUtf8}
use Rattle.std.specs.Str.Parse.{AllDigits}
use Rattle.duk_books.specs.declared.event.End.TheVariants as end
use Rattle.duk_books.specs.declared.event.Event as books
use Rattle.duk_books.specs.declared.event.Event.TheVariants as event
use Rattle.duk_net.specs.declared.event.End.{End}
use Rattle.duk_net.specs.declared.event.End.TheVariants.{Host, Term}
use Rattle.duk_net.specs.declared.event.Event.{Event}
use Rattle.duk_net.specs.declared.event.Event.TheVariants.{Load, Begin, Up, Down, RestartTerm, RestartHost, Arm}
use Rattle.duk_play.specs.Script as tills
use Rattle.duk_play.specs.Script.{IsArmBook, IsReverse}
use Rattle.duk_play.specs.inner.Reading.{AreArmBookTokens, event_of_tills}
use Rattle.duk_script.specs.Script.{HasNoSpace, IsArm, IsEnd, IsEventLine, IsSplit, IsTerminal, end_name, spaced, terminal_name}

-- two tokens, with a space between
spaced_two : (a b : List ℕ) → IsAscii a → IsAscii b → IsAscii (a ++ 32 ∷ b)
spaced_two a b first second = IsAscii-append a (32 ∷ b) first (IsAscii-cons 32 b (omega arith) second)

terminal_is : (t : ℕ) → IsTerminal t → IsAscii (terminal_name t)
terminal_is t is = IsAscii-cons 116 (decimal t) (omega arith) (IsAscii-decimal t (omega (arith, is.most)))

reverse_is : (line : List ℕ) (t : ℕ) → IsReverse line t → IsAscii line
reverse_is line t is = rw is.line_is (spaced_two (codes "reverse") (terminal_name t) (search rules) (terminal_is t is.terminal))

arm_is : (line : List ℕ) (t n : ℕ) → IsArmBook line t n → IsAscii line
arm_is line t n is = rw is.line_is (spaced_two (codes "arm") (terminal_name t ++ 32 ∷ (codes "book" ++ 32 ∷ decimal n)) (search rules)
    (spaced_two (terminal_name t) (codes "book" ++ 32 ∷ decimal n) (terminal_is t is.terminal) (spaced_two (codes "book") (decimal n) (search rules) (IsAscii-decimal n (omega (arith, is.number))))))

pub IsUtf8_from_reverse : (line : List ℕ) (t : ℕ) → IsReverse line t → IsUtf8 line
IsUtf8_from_reverse line t is = IsUtf8-from_ascii line (reverse_is line t is)

pub IsUtf8_from_arm : (line : List ℕ) (t n : ℕ) → IsArmBook line t n → IsUtf8 line
IsUtf8_from_arm line t n is = IsUtf8-from_ascii line (arm_is line t n is)

-- a token without a space, by its bytes
no_space_in : (token : List ℕ) → list_all (λ byte. not (eqb byte 32)) token ≡ true → HasNoSpace token
no_space_in token none i inside = λ space.
    absurd (false≢true (rw space at (AllPass-from_list_all (λ byte. not (eqb byte 32)) token none i 0 inside)))

-- no digit is a space
no_space_digits : (token : List ℕ) → AllDigits 10 token → HasNoSpace token
no_space_digits token digits i inside = let digit = digit_at token i digits inside in λ space. absurd (omega (arith, digit.0, digit.1))

no_space_decimal : (n : ℕ) → n < 2 ^ 64 → HasNoSpace (decimal n)
no_space_decimal n fits = no_space_digits (decimal n) (decimal_is_IsNumeral n fits).0.1

no_space_terminal : (t : ℕ) → IsTerminal t → HasNoSpace (terminal_name t)
no_space_terminal t is zero inside = λ space. absurd (omega arith)
no_space_terminal t is (suc i) inside = no_space_decimal t (omega (arith, is.most)) i (omega arith)

no_space_end : (which : End) → IsEnd which → HasNoSpace (end_name which)
no_space_end Host is = no_space_in (codes "host") refl
no_space_end (Term t) is = no_space_terminal t is

-- what stands after the commands
pub reverse_split : (line : List ℕ) (t : ℕ) → IsReverse line t → IsSplit line (codes "reverse") (terminal_name t)
reverse_split line t is = record { one_token = no_space_in (codes "reverse") refl; text_is = is.line_is }

abbrev pub book_tokens : ℕ → ℕ → List ℕ
book_tokens t n = spaced (terminal_name t ∷ codes "book" ∷ decimal n ∷ [])

pub arm_split : (line : List ℕ) (t n : ℕ) → IsArmBook line t n → IsSplit line (codes "arm") (book_tokens t n)
arm_split line t n is = record { one_token = no_space_in (codes "arm") refl; text_is = is.line_is }

-- the tokens of a line whose command is to arm a book
pub book_split : (t n : ℕ) → IsTerminal t → n < 2 ^ 32 → AreArmBookTokens (book_tokens t n) t n
book_split t n named number = record {
  terminal = named;
  number = number;
  rest = spaced (codes "book" ∷ decimal n ∷ []);
  split = record { one_token = no_space_terminal t named; text_is = refl };
  rest_split = record { one_token = no_space_in (codes "book") refl; text_is = refl };
}

-- the first and the third byte of a list
abbrev first_byte : List ℕ → ℕ
first_byte [] = 0
first_byte (byte ∷ bytes) = byte

abbrev third_byte : List ℕ → ℕ
third_byte (one ∷ two ∷ three ∷ bytes) = three
third_byte _ = 0

-- a list without its first item
abbrev rest_of : List ℕ → List ℕ
rest_of [] = []
rest_of (byte ∷ bytes) = bytes

-- two texts that have different bytes somewhere are not equal
apart : {A : Type 0} (a b : ℕ) → a ≡ b → eqb a b ≡ false → A
apart a b e other = absurd (omega (arith, eqb-false a b other, e))

-- no line of terminals reverses
pub reverse_alone : {A : Type 0} (line : List ℕ) (t : ℕ) → IsReverse line t → (said : Event) → IsEventLine line said → A
reverse_alone line t is (Load u iksn) other = apart 118 97 (ap third_byte (sym is.line_is ∙ other.line_is)) refl
reverse_alone line t is (Begin u purchase) other = apart 118 103 (ap third_byte (sym is.line_is ∙ other.line_is)) refl
reverse_alone line t is (Up k) other = apart 118 32 (ap third_byte (sym is.line_is ∙ other.line_is)) refl
reverse_alone line t is (Down k u) other = apart 118 119 (ap third_byte (sym is.line_is ∙ other.line_is)) refl
reverse_alone line t is (RestartTerm u) other = apart 118 115 (ap third_byte (sym is.line_is ∙ other.line_is)) refl
reverse_alone line t is RestartHost other = apart 118 115 (ap third_byte (sym is.line_is ∙ other.line_is)) refl
reverse_alone line t is (Arm which n) other = apart 118 109 (ap third_byte (sym is.line_is ∙ other.line_is)) refl

-- what stands after the first space
one_rest : (a b x y : List ℕ) → HasNoSpace a → HasNoSpace b → a ++ 32 ∷ x ≡ b ++ 32 ∷ y → x ≡ y
one_rest [] [] x y none_a none_b e = ap rest_of e
one_rest [] (byte ∷ b) x y none_a none_b e = absurd (none_b 0 (omega arith) (sym (ap first_byte e)))
one_rest (byte ∷ a) [] x y none_a none_b e = absurd (none_a 0 (omega arith) (ap first_byte e))
one_rest (one ∷ a) (two ∷ b) x y none_a none_b e =
    one_rest a b x y (λ i inside. none_a (suc i) (omega (arith, inside))) (λ i inside. none_b (suc i) (omega (arith, inside))) (ap rest_of e)

-- a number does not begin with a letter
no_number : {A : Type 0} (n : ℕ) (text : List ℕ) → n < 2 ^ 64 → 98 ∷ text ≡ decimal n → A
no_number n text fits e =
    let numeral = decimal_is_IsNumeral n fits in
    let digit = digit_at (decimal n) 0 numeral.0.1 numeral.0.0 in
    let first : 98 ≡ get_or (decimal n) 0 0 = ap (λ l. get_or l 0 0) e in
    absurd (omega (arith, first, digit.1))

-- what arms an end arms no book
arm_end_alone : {A : Type 0} (line : List ℕ) (t n : ℕ) (which : End) (steps : ℕ) → IsArmBook line t n → IsArm line which steps → A
arm_end_alone line t n which steps is other =
    let same : terminal_name t ++ 32 ∷ (codes "book" ++ 32 ∷ decimal n) ≡ end_name which ++ 32 ∷ decimal steps = ap (drop 4) (sym is.line_is ∙ other.line_is) in
    no_number steps (codes "ook" ++ 32 ∷ decimal n) (omega (arith, other.number))
    (one_rest (terminal_name t) (end_name which) (codes "book" ++ 32 ∷ decimal n) (decimal steps) (no_space_terminal t is.terminal) (no_space_end which other.named) same)

-- no line of terminals arms a book
pub arm_alone : {A : Type 0} (line : List ℕ) (t n : ℕ) → IsArmBook line t n → (said : Event) → IsEventLine line said → A
arm_alone line t n is (Load u iksn) other = apart 97 108 (ap first_byte (sym is.line_is ∙ other.line_is)) refl
arm_alone line t n is (Begin u purchase) other = apart 97 98 (ap first_byte (sym is.line_is ∙ other.line_is)) refl
arm_alone line t n is (Up k) other = apart 97 117 (ap first_byte (sym is.line_is ∙ other.line_is)) refl
arm_alone line t n is (Down k u) other = apart 97 100 (ap first_byte (sym is.line_is ∙ other.line_is)) refl
arm_alone line t n is (RestartTerm u) other = apart 97 114 (ap first_byte (sym is.line_is ∙ other.line_is)) refl
arm_alone line t n is RestartHost other = apart 97 114 (ap first_byte (sym is.line_is ∙ other.line_is)) refl
arm_alone line t n is (Arm which steps) other = arm_end_alone line t n which steps is other

-- the same event, as one of tills
abbrev as_tills : Option Event → Option books.Event
as_tills None = None
as_tills (Some read) = Some (event_of_tills read)

-- a line of terminals is its event as one of tills, and no other
pub read_some : (line : List ℕ) (read : Event) → IsEventLine line read → ((said : Event) → IsEventLine line said → Some read ≡ Some said)
    → (said : books.Event) → tills.IsEventLine line said → Some (event_of_tills read) ≡ Some said
read_some line read found every (event.Load t iksn) is = ap as_tills (every (Load t iksn) is)
read_some line read found every (event.Begin t purchase) is = ap as_tills (every (Begin t purchase) is)
read_some line read found every (event.Reverse t) is = reverse_alone line t is read found
read_some line read found every (event.Up k) is = ap as_tills (every (Up k) is)
read_some line read found every (event.Down k t) is = ap as_tills (every (Down k t) is)
read_some line read found every (event.RestartTill t) is = ap as_tills (every (RestartTerm t) is)
read_some line read found every event.RestartHost is = ap as_tills (every RestartHost is)
read_some line read found every (event.Arm end.Host n) is = ap as_tills (every (Arm Host n) is)
read_some line read found every (event.Arm (end.Terminal t) n) is = ap as_tills (every (Arm (Term t) n) is)
read_some line read found every (event.Arm (end.Book t) n) is = arm_alone line t n is read found

-- where a line is none of terminals, its event is one of tills alone
pub read_none : (P : books.Event → Type 0) (line : List ℕ) → ((said : Event) → IsEventLine line said → None ≡ Some said)
    → ((t : ℕ) → IsReverse line t → P (event.Reverse t)) → ((t n : ℕ) → IsArmBook line t n → P (event.Arm (end.Book t) n))
    → (said : books.Event) → tills.IsEventLine line said → P said
read_none P line every reverse arm (event.Load t iksn) is = absurd (cc (every (Load t iksn) is))
read_none P line every reverse arm (event.Begin t purchase) is = absurd (cc (every (Begin t purchase) is))
read_none P line every reverse arm (event.Reverse t) is = reverse t is
read_none P line every reverse arm (event.Up k) is = absurd (cc (every (Up k) is))
read_none P line every reverse arm (event.Down k t) is = absurd (cc (every (Down k t) is))
read_none P line every reverse arm (event.RestartTill t) is = absurd (cc (every (RestartTerm t) is))
read_none P line every reverse arm event.RestartHost is = absurd (cc (every RestartHost is))
read_none P line every reverse arm (event.Arm end.Host n) is = absurd (cc (every (Arm Host n) is))
read_none P line every reverse arm (event.Arm (end.Terminal t) n) is = absurd (cc (every (Arm (Term t) n) is))
read_none P line every reverse arm (event.Arm (end.Book t) n) is = arm t n is

-- bytes that were not read as text are none
pub not_utf8 : {A T E : Type 0} (read : Result T E) (P : T → Type 0) (Q : E → Type 0) (R : Type 0) → MatchResult read P (λ why. ¬ R × Q why)
    → None ≡ result_ok read → R → A
not_utf8 (Ok text) P Q R cases none is = absurd (cc none)
not_utf8 (Err why) P Q R cases none is = absurd (cases.0 is)

-- what was read as text is it
pub text_is : {T E : Type 0} (read : Result T E) (text : T) (P : T → Type 0) (Q : E → Type 0) → MatchResult read P Q → Some text ≡ result_ok read → P text
text_is (Ok was) text P Q cases same = subst P (cc same) cases
text_is (Err why) text P Q cases same = absurd (cc same)
