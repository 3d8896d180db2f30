-- What `show` prints of a frame where a key is given (this project's own, over its frames and the
-- keys of ANSI X9.24-1:2009 annex A).
use Rattle.std.specs.Prelude.{◌≡◌, ◌≢◌, ◌⊎◌, ℕ, Bool, true, false, List, [], ◌++◌, codes, None, Some, IsSome}
use Rattle.duk_block.specs.Hexadecimal.{IsHexadecimal}
use Rattle.duk_commands.specs.KeyArgument.{initial_from, key_in}
use Rattle.duk_commands.specs.Lines.{named_line, text_line}
use Rattle.duk_commands.specs.declared.key_argument.KeyArgument.{KeyArgument}
use Rattle.duk_commands.specs.declared.key_argument.KeyArgument.TheVariants.{Base, Initial}
use Rattle.duk_frame.specs.Answer.{IsRefusal, IsReply}
use Rattle.duk_frame.specs.Frame.{mac_text_of}
use Rattle.duk_frame.specs.Request.{IsRequest}
use Rattle.duk_frame.specs.declared.answer.AnswerFrame.TheVariants as answer
use Rattle.duk_frame.specs.declared.code.Code.{Code}
use Rattle.duk_frame.specs.declared.request.Request.{Request}
use Rattle.duk_mac.specs.Retail.{retail_of}
use Rattle.duk_reversal.specs.Reply.{IsReversalReply}
use Rattle.duk_reversal.specs.Reversal.{IsReversal}
use Rattle.duk_reversal.specs.declared.reply.ReversalReply.{ReversalReply}
use Rattle.duk_reversal.specs.declared.reversal.Reversal.{Reversal}
use Rattle.duk_show.specs.Frame.{IsFrameRefused, answer_lines, request_lines, reversal_lines, reversal_reply_lines}
use Rattle.duk_show.specs.declared.fault.ShowFault.{ShowFault}
use Rattle.duk_show.specs.declared.fault.ShowFault.TheVariants.{BdkRefused, FrameRefused, InitialRefused, KsnRefused, OutOfMemory}
use Rattle.duk_tdes.specs.Tdes.{tdes_decrypted}
use Rattle.duk_tree.specs.Derivation.{pin_key_of, request_key_of, response_key_of, transaction_key_of}
use Rattle.duk_tree.specs.Path.{IsUsable}
use Rattle.duk_tree.specs.Serial.{Serial}

-- the transaction key of a number, from the key that the argument writes
abbrev pub number_key : KeyArgument → List ℕ → Serial → List ℕ
number_key given key ksn =
    transaction_key_of (initial_from given key ksn.iksn) ksn.iksn ksn.counter

-- whether a MAC is the one that is expected
abbrev pub IsVerdict : List ℕ → List ℕ → List ℕ → Type 0
IsVerdict expected mac verdict =
    (expected ≡ mac → verdict ≡ codes "right") × (expected ≢ mac → verdict ≡ codes "wrong")

-- the lines of the check of a frame's MAC: the retail MAC, under this key, of what stands between
-- the frame's length and its MAC; and whether that is its MAC
pub record IsCheck (key bytes mac check : List ℕ) : Type 0 where
  pub verdict : List ℕ
  pub verdict_is : IsVerdict (retail_of key (mac_text_of bytes)) mac verdict
  pub check_is : check ≡ named_line (codes "mac-expected") (retail_of key (mac_text_of bytes))
      ++ text_line (codes "mac-check") verdict

-- the line of the PIN block in clear, whatever it is, where it is to be shown
abbrev pub clear_lines : Bool → List ℕ → List ℕ → List ℕ
clear_lines false key block = []
clear_lines true key block =
    named_line (codes "clear-pin-block") (tdes_decrypted (pin_key_of key) block)

-- the bytes are the frame of a request of a usable number, and these are its lines and those of the
-- check under the key's variant for requests
pub record IsRequestChecked (key_of : Serial → List ℕ) (show : Bool) (bytes text : List ℕ)
    : Type 0 where
  pub request : Request
  pub check : List ℕ
  pub is_request : IsRequest bytes request
  pub usable : IsUsable request.ksn.counter
  pub checked : IsCheck (request_key_of (key_of request.ksn)) bytes request.mac check
  pub text_is : text ≡ request_lines request ++ check
      ++ clear_lines show (key_of request.ksn) request.block

-- the same of an accepted reply, under the variant for responses
pub record IsReplyChecked (key_of : Serial → List ℕ) (bytes text : List ℕ) : Type 0 where
  pub ksn : Serial
  pub code : Code
  pub mac : List ℕ
  pub check : List ℕ
  pub is_reply : IsReply bytes ksn code mac
  pub usable : IsUsable ksn.counter
  pub checked : IsCheck (response_key_of (key_of ksn)) bytes mac check
  pub text_is : text ≡ answer_lines (answer.Reply ksn code mac) ++ check

-- a refusal has no MAC, and its lines are those without a key
pub record IsRefusalShown (bytes text : List ℕ) : Type 0 where
  pub ksn : Serial
  pub reason : ℕ
  pub is_refusal : IsRefusal bytes ksn reason
  pub text_is : text ≡ answer_lines (answer.Refusal ksn reason)

-- the same of a reversal, under the variant for requests
pub record IsReversalChecked (key_of : Serial → List ℕ) (bytes text : List ℕ) : Type 0 where
  pub reversal : Reversal
  pub check : List ℕ
  pub is_reversal : IsReversal bytes reversal
  pub usable : IsUsable reversal.numbers.ksn.counter
  pub checked : IsCheck (request_key_of (key_of reversal.numbers.ksn)) bytes reversal.mac check
  pub text_is : text ≡ reversal_lines reversal ++ check

-- the same of a reversal's reply, under the variant for responses
pub record IsReversalReplyChecked (key_of : Serial → List ℕ) (bytes text : List ℕ)
    : Type 0 where
  pub reply : ReversalReply
  pub check : List ℕ
  pub is_reply : IsReversalReply bytes reply
  pub usable : IsUsable reply.numbers.ksn.counter
  pub checked : IsCheck (response_key_of (key_of reply.numbers.ksn)) bytes reply.mac check
  pub text_is : text ≡ reversal_reply_lines reply ++ check

-- the bytes are a frame of one of these kinds, and these are its lines
abbrev pub IsBytesChecked : (Serial → List ℕ) → Bool → List ℕ → List ℕ → Type 0
IsBytesChecked key_of show bytes text = (IsRequestChecked key_of show bytes text
    ⊎ (IsReplyChecked key_of bytes text ⊎ IsRefusalShown bytes text))
    ⊎ (IsReversalChecked key_of bytes text ⊎ IsReversalReplyChecked key_of bytes text)

-- the arguments give a key and a frame in hexadecimal, and these are the frame's lines
pub record IsCheckedText (given : KeyArgument) (frame : List ℕ) (show : Bool) (text : List ℕ)
    : Type 0 where
  pub key : List ℕ
  pub bytes : List ℕ
  pub key_read : key_in given ≡ Some key
  pub read : IsHexadecimal frame bytes
  pub checked : IsBytesChecked (number_key given key) show bytes text

-- the bytes are a frame with a MAC, and the counter of its number numbers no transaction
abbrev pub NumbersNothing : List ℕ → Type 0
NumbersNothing bytes = (((request : Request) × IsRequest bytes request
    × ¬ IsUsable request.ksn.counter)
    ⊎ ((ksn : Serial) × (code : Code) × (mac : List ℕ) × IsReply bytes ksn code mac
    × ¬ IsUsable ksn.counter))
    ⊎ (((reversal : Reversal) × IsReversal bytes reversal
    × ¬ IsUsable reversal.numbers.ksn.counter)
    ⊎ ((reply : ReversalReply) × IsReversalReply bytes reply
    × ¬ IsUsable reply.numbers.ksn.counter))

-- the fault of an argument that writes no key
abbrev pub show_key_fault : KeyArgument → ShowFault
show_key_fault (Base text) = BdkRefused
show_key_fault (Initial text) = InitialRefused

-- the argument writes no key
abbrev pub IsNoKey : KeyArgument → ShowFault → Type 0
IsNoKey given why = (key_in given ≡ None) × (why ≡ show_key_fault given)

-- a text is a frame in hexadecimal whose counter numbers no transaction
abbrev pub IsOfNoNumber : List ℕ → Type 0
IsOfNoNumber frame = (bytes : List ℕ) × IsHexadecimal frame bytes × NumbersNothing bytes

-- why nothing is shown: the key comes first, then the frame, then its number; memory for the bytes
-- may be refused
abbrev pub IsCheckRefused : KeyArgument → List ℕ → ShowFault → Type 0
IsCheckRefused given frame BdkRefused = IsNoKey given BdkRefused
IsCheckRefused given frame InitialRefused = IsNoKey given InitialRefused
IsCheckRefused given frame (FrameRefused place why) =
    IsSome (key_in given) × IsFrameRefused frame (FrameRefused place why)
IsCheckRefused given frame KsnRefused = IsSome (key_in given) × IsOfNoNumber frame
IsCheckRefused given frame OutOfMemory = IsSome (key_in given)
IsCheckRefused given frame why = ⊥
