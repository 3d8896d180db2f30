-- The items of a batch, each on a line of its own, and their answers (this project's own).
use Rattle.std.specs.Prelude.{◌≡◌, ◌≤◌, ◌⊎◌, ◌++◌, ℕ, Bool, true, false, List, [], codes, length, map, flat_map, All, IsUtf8}
use Rattle.duk_commands.specs.Answer.{Command}
use Rattle.duk_commands.specs.Fault.{line_end, report_line}
use Rattle.duk_commands.specs.declared.batch.items.Refused.{Refused}

-- the most bytes that an item has
abbrev pub longest_item : ℕ
longest_item = 16384

-- a line is an item: it is UTF-8, and not too long
pub record IsItem (line : List ℕ) : Type 0 where
  pub short : length line ≤ longest_item
  pub text : IsUtf8 line

-- what is written in the place of a line that is no item
abbrev pub no_item_line : List ℕ
no_item_line = codes "line refused" ++ line_end

-- what a command makes of one item: the texts that it asks for, the lines of the faults for which it
-- is refused, and what explains such a line
pub record ItemCommand : Type 1 where
  pub writes : List ℕ → Type 0
  pub refuses : List ℕ → Type 0
  pub explains : List ℕ → List ℕ → Type 0

-- an item is refused for a fault, and this is the line of that fault
pub record HasFaultLine {F : Type 0} (refuses : F → Type 0) (line_of : F → List ℕ) (line : List ℕ)
    : Type 0 where
  pub why : F
  pub cause : refuses why
  pub line_is : line ≡ line_of why

-- what is made of an item, by its texts, its faults and their lines, which nothing explains where no
-- explanation is asked for
abbrev pub item_command : {F : Type 0} → Bool → (List ℕ → Type 0) → (F → Type 0) → (F → List ℕ)
    → ItemCommand
item_command explained writes refuses line_of = record {
  writes = writes;
  refuses = HasFaultLine refuses line_of;
  explains = λ line explanation. explained ≡ false → explanation ≡ [];
}

-- a command of which an item is an argument
abbrev pub item_of_command : Bool → Command → ItemCommand
item_of_command explained command = item_command explained command.writes command.refuses report_line

-- a command refuses an item with this line, which this explains
pub record IsRefusal (command : ItemCommand) (why : Refused) : Type 0 where
  pub refused : command.refuses why.line.items
  pub explained : command.explains why.line.items why.explanation.items

-- the command, of this item alone, writes this text
pub record IsItemDone (command : List ℕ → ItemCommand) (line text : List ℕ) : Type 0 where
  pub is_item : IsItem line
  pub asked : (command line).writes text

-- the command refuses this item alone, and the text is the line of the fault, and what explains it
pub record IsItemRefused (command : List ℕ → ItemCommand) (line text : List ℕ) : Type 0 where
  pub is_item : IsItem line
  pub fault : List ℕ
  pub explanation : List ℕ
  pub refused : (command line).refuses fault
  pub explained : (command line).explains fault explanation
  pub text_is : text ≡ fault ++ explanation

-- the line is no item, and the text says so
pub record IsLineRefused (line text : List ℕ) : Type 0 where
  pub no_item : ¬ IsItem line
  pub text_is : text ≡ no_item_line

-- the answer to a line alone, by whether the command is done
abbrev pub IsItemAnswer : (List ℕ → ItemCommand) → List ℕ → List ℕ → Bool → Type 0
IsItemAnswer command line text true = IsItemDone command line text
IsItemAnswer command line text false = IsItemRefused command line text ⊎ IsLineRefused line text

-- a line, the text that answers it, and whether the command is done
pub record ItemAnswer : Type 0 where
  pub line : List ℕ
  pub text : List ℕ
  pub done : Bool

-- the answers to lines in turn: the k-th is that to the k-th line alone
pub record AreAnswers (command : List ℕ → ItemCommand) (lines : List (List ℕ))
    (answers : List ItemAnswer) : Type 0 where
  pub in_turn : map (λ answer. answer.line) answers ≡ lines
  pub each : All (λ answer. IsItemAnswer command answer.line answer.text answer.done) answers

-- their texts, one after the other
abbrev pub text_of : List ItemAnswer → List ℕ
text_of answers = flat_map (λ answer. answer.text) answers

-- the command is done for each line
abbrev pub AreDone : List ItemAnswer → Type 0
AreDone answers = All (λ answer. answer.done ≡ true) answers
