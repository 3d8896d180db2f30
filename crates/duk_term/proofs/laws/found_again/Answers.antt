use Rattle.duk_regs.specs.Registers.{HaveSixteenBytes, IsRegisterSet, RegisterSet}
use Rattle.duk_term.proofs.BodyIsFoundAgain.{IsWritten, found_again}
use Rattle.duk_term.proofs.laws.found_again.Goals as goal
use Rattle.duk_term.proofs.laws.found_again.Goals.{After-transactions}

written : After-transactions → (set : RegisterSet) → IsRegisterSet set → HaveSixteenBytes set.registers → IsWritten set
written c set is_set sizes = record {
  is_image = c.images.ensures.is_image set is_set sizes;
  is_431 = c.images.ensures.length set is_set sizes;
  read = c.images.ensures.read set is_set sizes;
  first_is_image = c.images.ensures.is_image_of_version_1 set is_set sizes;
  is_350 = c.images.ensures.length_of_version_1 set is_set sizes;
  first_read = c.images.ensures.read_of_version_1 set is_set sizes;
}

pub returns-clause-again : goal.returns-clause-again
returns-clause-again c = λ set is_set sizes. found_again set (written c set is_set sizes)

pub returns-clause-of_key : goal.returns-clause-of_key
returns-clause-of_key c = λ initial set is_key is_set future_keys. found_again set (written c set is_set (c.sixteen_bytes.ensures initial set is_key is_set future_keys))

pub returns-clause-left : goal.returns-clause-left
returns-clause-left c = λ set left key takes sizes.
    found_again left (written c left (c.transactions.ensures.set set left key takes.usable takes.taken takes.set_is) sizes)
