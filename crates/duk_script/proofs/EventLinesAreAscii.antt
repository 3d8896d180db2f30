-- The line of an event is ASCII, and so UTF-8.
use Rattle.std.proofs.Common.{◌≡◌, ◌<◌, ℕ, List, ◌∷◌, ◌++◌, codes, decimal, true, refl, Option, Some, Result, Ok, Err, IsOk, arith, rules}
use Rattle.std.proofs.lemmas.Bool.Decides.{nat_tests}
use Rattle.std.proofs.lemmas.Fmt.{IsAscii-decimal}
use Rattle.std.proofs.lemmas.Str.{IsUtf8-from_ascii, IsAscii-append}
use Rattle.std.proofs.lemmas.Str.Ascii.{IsAscii-cons, IsAscii-from_all}
use Rattle.std.specs.Char.{IsAsciiDigit}
use Rattle.std.specs.List.{All, AllPass}
use Rattle.std.specs.Option.{option_map, option_and_then}
use Rattle.std.specs.Result.{result_ok}
use Rattle.std.specs.Str.{IsAscii, IsUtf8}
use Rattle.hex.specs.Hex.{is_hex_digit, decode_sized}
use Rattle.hex.proofs.HexLemmas.{IsOk-decode_sized}
use Rattle.duk_tree.specs.Serial.{iksn_of_text}
use Rattle.duk_net.specs.declared.event.End.{End}
use Rattle.duk_net.specs.declared.event.End.TheVariants.{Host, Term}
use Rattle.duk_net.specs.declared.event.Event.{Event}
use Rattle.duk_net.specs.declared.event.Event.TheVariants.{Load, Begin, Up, Down, RestartTerm, RestartHost, Arm}
use Rattle.duk_script.specs.Script.{IsTerminal, IsEnd, IsEventLine, terminal_name, end_name}

-- two tokens, with a space between
spaced_two : (a b : List ℕ) → IsAscii a → IsAscii b → IsAscii (a ++ 32 ∷ b)
spaced_two a b first second = IsAscii-append a (32 ∷ b) first (IsAscii-cons 32 b (omega arith) second)

digits_are : (text : List ℕ) → All IsAsciiDigit text → IsAscii text
digits_are text digits = IsAscii-from_all text (λ k d inside. omega (arith, (digits k d inside).1))

hex_digit : (byte : ℕ) → is_hex_digit byte ≡ true → byte < 128
hex_digit byte is = grind (arith, nat_tests)

hex_is : (text : List ℕ) → AllPass is_hex_digit text → IsAscii text
hex_is text digits = IsAscii-from_all text (λ k d inside. hex_digit _ (digits k d inside))

decoded : {A B C E : Type 0} (f : B → Option C) (g : A → B) (read : Result A E) (x : C)
    → option_and_then f (option_map g (result_ok read)) ≡ Some x → IsOk read
decoded f g (Ok bytes) x spelled = refl
decoded f g (Err e) x spelled = absurd (cc spelled)

iksn_is : (text : List ℕ) (iksn : ℕ) → iksn_of_text text ≡ Some iksn → IsAscii text
iksn_is text iksn spelled = hex_is text ((IsOk-decode_sized text 10).0 (decoded _ _ (decode_sized text 10) iksn spelled)).1

terminal_is : (t : ℕ) → IsTerminal t → IsAscii (terminal_name t)
terminal_is t is = IsAscii-cons 116 (decimal t) (omega arith) (IsAscii-decimal t (omega (arith, is.most)))

end_is : (end : End) → IsEnd end → IsAscii (end_name end)
end_is Host is = search rules
end_is (Term t) is = terminal_is t is

line_is : (line : List ℕ) (event : Event) → IsEventLine line event → IsAscii line
line_is line (Load t iksn) is = rw is.line_is (spaced_two (codes "load") (terminal_name t ++ 32 ∷ is.text) (search rules) (spaced_two (terminal_name t) is.text (terminal_is t is.terminal) (iksn_is is.text iksn is.spelled)))
line_is line (Begin t purchase) is = rw is.line_is (spaced_two (codes "begin") (terminal_name t ++ 32 ∷ (purchase.pan ++ 32 ∷ (purchase.pin ++ 32 ∷ decimal purchase.amount))) (search rules) (spaced_two (terminal_name t) (purchase.pan ++ 32 ∷ (purchase.pin ++ 32 ∷ decimal purchase.amount)) (terminal_is t is.terminal)
    (spaced_two purchase.pan (purchase.pin ++ 32 ∷ decimal purchase.amount) (digits_are purchase.pan is.pan.digits) (spaced_two purchase.pin (decimal purchase.amount) (digits_are purchase.pin is.pin.digits) (IsAscii-decimal purchase.amount (omega (arith, is.amount)))))))
line_is line (Up k) is = rw is.line_is (spaced_two (codes "up") (decimal k) (search rules) (IsAscii-decimal k (omega (arith, is.number))))
line_is line (Down k t) is = rw is.line_is (spaced_two (codes "down") (decimal k ++ 32 ∷ terminal_name t) (search rules) (spaced_two (decimal k) (terminal_name t) (IsAscii-decimal k (omega (arith, is.number))) (terminal_is t is.terminal)))
line_is line (RestartTerm t) is = rw is.line_is (spaced_two (codes "restart") (terminal_name t) (search rules) (terminal_is t is.named))
line_is line RestartHost is = rw is.line_is (search rules)
line_is line (Arm end n) is = rw is.line_is (spaced_two (codes "arm") (end_name end ++ 32 ∷ decimal n) (search rules) (spaced_two (end_name end) (decimal n) (end_is end is.named) (IsAscii-decimal n (omega (arith, is.number)))))

pub IsUtf8_from_event : (line : List ℕ) (event : Event) → IsEventLine line event → IsUtf8 line
IsUtf8_from_event line event is = IsUtf8-from_ascii line (line_is line event is)
