-- What a till knows of its last purchase is the host's reply.
use Rattle.std.proofs.Common.{ℕ, Some, refl, subst}
use Rattle.duk_frame.specs.declared.code.Code.{Code}
use Rattle.duk_till.specs.declared.last.Last.{Last}
use Rattle.duk_till.specs.declared.last.Last.TheVariants.{Open, Approved, Declined, Undone}
use Rattle.duk_tree.specs.Serial.{Serial}
use Rattle.duk_books.specs.AcceptedOnce.{HasReply}
use Rattle.duk_books.specs.Books.{BooksOf, Meanings}
use Rattle.duk_books.specs.Completed.{IsFromHost, KnowFromHost}
use Rattle.duk_books.specs.Reached.{Reached}
use Rattle.duk_books.specs.inner.Known.{BookLaws}
use Rattle.duk_books.proofs.accepted.EndedByHost.{told_as}
use Rattle.duk_books.proofs.accepted.EndsOnce.{reached_hold}
use Rattle.duk_books.proofs.agreement.BooksHold.{lists_of}
use Rattle.duk_books.proofs.agreement.Facts.{IsRepliedTo, Lists}
use Rattle.duk_books.proofs.agreement.Tills.{Fits}

has_reply : (lists : Lists) (ksn : Serial) (code : Code) → IsRepliedTo lists.answers ksn code → HasReply lists.answers ksn code
has_reply lists ksn code is = record { frame = is.frame; mac = is.mac; sent = is.sent; reply = is.reply }

-- what fits is from the host
from_fits : (lists : Lists) (t : ℕ) (last : Last) → Fits lists t last → IsFromHost lists.answers last
from_fits lists t (Open ksn amount) fits = tt
from_fits lists t (Approved ksn amount) fits = has_reply lists ksn _ fits.replied
from_fits lists t (Declined ksn why) fits = has_reply lists ksn why fits.1
from_fits lists t (Undone ksn) fits =
    (fits.reply.numbers.ksn, fits.reply.state, record { frame = fits.frame; sent = fits.sent; reply = told_as fits.frame.items fits.reply fits.reply.numbers.ksn ksn fits.reply.state fits.is_reply refl fits.reversed_is refl })

pub know_from_host : {C B J I : Type 0} (m : Meanings C B J I) (laws : BookLaws m) (books : BooksOf C B J I) → Reached m books → KnowFromHost m books
know_from_host m laws books reached =
    let holds = (reached_hold m laws books reached).holds in
    record {
      runs = λ t till last at runs. from_fits (lists_of books holds.0) t last ((holds.1.tills t till at).book.runs (Some last) runs).1;
      found = λ t till last body at found is.
          from_fits (lists_of books holds.0) t last ((holds.1.tills t till at).book.found last is.fields (subst (λ it. (m.book.state_of till.book).found (Some it)) is.laid_out found));
    }
