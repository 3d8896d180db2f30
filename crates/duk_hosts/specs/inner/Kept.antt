-- What is kept of a payment, in words that the search for it uses: this project's own.
use Rattle.std.specs.Prelude.{◌≡◌, ℕ, Contains}
use Rattle.duk_frame.specs.declared.code.Code.{Code}
use Rattle.duk_frame.specs.declared.code.Code.TheVariants.{Approved}
use Rattle.duk_journal.specs.Groups.{Entries}
use Rattle.duk_journal.specs.Standing.{payment_entry}
use Rattle.duk_journal.specs.declared.entry.Entry.{Entry}
use Rattle.duk_journal_host.specs.declared.authentic.Purchase.{Purchase}
use Rattle.duk_tree.specs.Serial.{Serial}

-- an entry is the payment of a purchase, with this code and some amount
pub record IsPaymentOf (purchase : Purchase) (code : Code) (entry : Entry) : Type 0 where
  pub amount : ℕ
  pub entry_is : entry ≡ payment_entry purchase.number amount code purchase.mac

-- one of the entries is
pub record IsPaymentKept (entries : Entries) (purchase : Purchase) (code : Code) : Type 0 where
  pub amount : ℕ
  pub kept : Contains entries (payment_entry purchase.number amount code purchase.mac)

-- an entry is an approved payment of a number
pub record IsApprovalOf (number : Serial) (entry : Entry) : Type 0 where
  pub amount : ℕ
  pub entry_is : entry ≡ payment_entry number amount Approved entry.mac
