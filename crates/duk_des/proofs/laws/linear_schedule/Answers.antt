use Rattle.std.proofs.Common.{sym, ◌∙◌}
use Rattle.duk_des.proofs.LinearSchedule.{round_keys-xor_bits, round_keys-xor_bytes}
use Rattle.duk_des.proofs.laws.linear_schedule.Goals as goal

pub returns-clause-bits : goal.returns-clause-bits
returns-clause-bits c = λ key mask of_key of_mask. round_keys-xor_bits key mask (of_key ∙ sym of_mask)

pub returns-clause-bytes : goal.returns-clause-bytes
returns-clause-bytes c = λ key mask of_key of_mask. round_keys-xor_bytes key mask (of_key.eight ∙ sym of_mask.eight)
