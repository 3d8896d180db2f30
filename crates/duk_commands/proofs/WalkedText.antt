-- The text of a walk, piece by piece.
use Rattle.std.proofs.Common.{◌≡◌, ◌+◌, ◌-◌, ◌<◌, ℕ, suc, inl, refl, arith, Bool, List, ◌++◌, Result, Ok, Err, OnOk, OnErr, append_assoc, ap₂, subst, ◌∙◌}
use Rattle.duk_group.specs.InOrder.{InOrder}
use Rattle.duk_io.specs.Known.{Known}
use Rattle.duk_tree.specs.Derivation.{transaction_key_of}
use Rattle.duk_tree.specs.Next.{spent_counter}
use Rattle.duk_tree.specs.Serial.{Serial}
use Rattle.duk_commands.specs.Walk.{Asked, IsPrinted, IsPassed, number_text, number_line, spent_line}
use Rattle.duk_commands.specs.inner.Walk.{IsAskedFor, Passes, IsSpentWithin, HasPrinted, HasPrintedInPart, HasWalked, HasWalkedInPart, line_of}

-- a line more is held, after what is left of the lines before
pub text_more : (written held part left line rest pushed : List ℕ) → held ≡ part ++ left → pushed ≡ left ++ line
    → written ++ held ++ (line ++ rest) ≡ (written ++ part) ++ pushed ++ rest
text_more written held part left line rest pushed split more = rw (split, more) (simp append_assoc)

-- and it is the last
pub text_last : (written held part left line pushed : List ℕ) → held ≡ part ++ left → pushed ≡ left ++ line
    → written ++ held ++ line ≡ (written ++ part) ++ pushed
text_last written held part left line pushed split more = rw (split, more) (simp append_assoc)

-- the line of the number that was used, of a terminal that is still the same
pub line_of_number : (old now : InOrder) (alone : Bool) (serial : Serial) (key : List ℕ) → now.initial ≡ old.initial → now.iksn ≡ old.iksn
    → serial ≡ record { iksn = now.iksn; counter = now.counter }
    → key ≡ transaction_key_of now.initial now.iksn now.counter
    → number_text serial key alone ≡ line_of old alone now.counter
line_of_number old now alone serial key same_initial same_iksn is_serial is_key =
    ap₂ (λ (s : Serial) (k : List ℕ). number_text s k alone) is_serial is_key
    ∙ ap₂ (λ (initial : List ℕ) (iksn : ℕ). number_line initial iksn alone now.counter) same_initial same_iksn

-- what follows where a write failed
pub on_failed : {T E : Type 0} (result : Result T E) (Q P : Type 0) → OnErr result Q → (Q → P) → OnErr result P
on_failed (Ok done) Q P cut then = tt
on_failed (Err failed) Q P cut then = then cut

pub on_err : {T E : Type 0} (result : Result T E) (P : Type 0) → P → OnErr result P
on_err (Ok done) P fact = tt
on_err (Err failed) P fact = fact

pub on_done : {T E : Type 0} (result : Result T E) (Q P : Type 0) → OnOk result Q → (Q → P) → OnOk result P
on_done (Ok done) Q P fact then = then fact
on_done (Err failed) Q P fact then = tt

-- where a terminal has passed so many numbers, its lines go on from where it stands
abbrev pub GoesOn : InOrder → InOrder → ℕ → Type 0
GoesOn old now passed = (line : ℕ → List ℕ) (more count : ℕ) (text : List ℕ) → IsPassed line now.counter more count text
    → IsPassed line old.counter (passed + more) count text

-- a terminal that is spent there is spent before it has passed all
pub spent_within : (old now : InOrder) (passed skip : ℕ) → passed < skip → now.counter ≡ spent_counter → GoesOn old now passed → IsSpentWithin old skip
spent_within old now passed skip below spent goes_on line count =
    let all : passed + suc (skip - passed - 1) ≡ skip = omega arith in
    subst (λ n. IsPassed line old.counter n count spent_line) all (goes_on line (suc (skip - passed - 1)) count spent_line (inl (spent, refl)))

-- the same terminal has the same lines
same_line : (old left : InOrder) (alone : Bool) (skip : ℕ) → Passes old skip left → line_of left alone ≡ line_of old alone
same_line old left alone skip passes =
    ap₂ (λ (initial : List ℕ) (iksn : ℕ). number_line initial iksn alone) passes.same_initial passes.same_iksn

-- the lines after the numbers that are passed
pub walked : (old left : InOrder) (alone : Bool) (skip count : ℕ) (output output' : Known)
    → Passes old skip left → HasPrinted left alone count output output' → HasWalked old alone skip count output output'
walked old left alone skip count output output' passes (text, printed, written) =
    (text, passes.lines _ count text (subst (λ (line : ℕ → List ℕ). IsPrinted line left.counter count text) (same_line old left alone skip passes) printed), written)

pub walked_in_part : (old left : InOrder) (alone : Bool) (skip count : ℕ) (output output' : Known)
    → Passes old skip left → HasPrintedInPart left alone count output output' → HasWalkedInPart old alone skip count output output'
walked_in_part old left alone skip count output output' passes (reached, text, within, printed, cut) =
    (reached, text, within, passes.lines _ reached text (subst (λ (line : ℕ → List ℕ). IsPrinted line left.counter reached text) (same_line old left alone skip passes) printed), cut)

-- the lines of the terminal that is asked for
pub as_asked : (asked : Asked) (alone : Bool) (initial : List ℕ) (iksn skip count reached : ℕ) (text : List ℕ) → IsAskedFor asked initial iksn skip count
    → IsPassed (number_line initial iksn alone) 1 skip reached text
    → IsPassed (number_line asked.initial asked.iksn alone) 1 asked.skip reached text
as_asked asked alone initial iksn skip count reached text is passed =
    let same : number_line initial iksn alone ≡ number_line asked.initial asked.iksn alone =
    ap₂ (λ (initial : List ℕ) (iksn : ℕ). number_line initial iksn alone) is.same_initial is.same_iksn in
    subst (λ n. IsPassed (number_line asked.initial asked.iksn alone) 1 n reached text) is.same_skip
    (subst (λ (line : ℕ → List ℕ). IsPassed line 1 skip reached text) same passed)
