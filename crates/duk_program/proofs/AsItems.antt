-- The lines and the fault of an item are those that are made of it.
use Rattle.std.proofs.Common.{◌≡◌, List, ℕ, Result, Ok, Err, IfErr, IfOk}
use Rattle.duk_commands.specs.Item.{HasFaultLine}
use Rattle.duk_program.specs.declared.items.ItemFault.{ItemFault}
use Rattle.duk_program.specs.inner.Items.{IsAsItem, item_line}

pub lines : {L F : Type 0} (as_fault : F → ItemFault) (P : L → Type 0) (made : Result L F) (item : Result L ItemFault)
    → IsAsItem as_fault made item → IfOk made P → IfOk item P
lines as_fault P (Ok it) item is holds = rw is holds
lines as_fault P (Err why) item is holds = rw is tt

pub refused : {L F : Type 0} (as_fault : F → ItemFault) (Refuses : F → Type 0) (line_of : F → List ℕ) (made : Result L F) (item : Result L ItemFault)
    → ((why : F) → item_line (as_fault why) ≡ line_of why) → IsAsItem as_fault made item → IfErr made Refuses
    → IfErr item (λ why. HasFaultLine Refuses line_of (item_line why))
refused as_fault Refuses line_of (Ok it) item same is holds = rw is tt
refused as_fault Refuses line_of (Err why) item same is holds = rw is (record { why = why; cause = holds; line_is = same why })
