use Rattle.std.proofs.Common.{refl}
use Rattle.duk_frame.proofs.laws.payments.Goals as goal

pub returns-clause-request : goal.returns-clause-request
returns-clause-request c = λ key ksn pan pin amount is_ksn is_pan fits. record {
  fields = record {
    ksn_is = is_ksn;
    pan_is = is_pan;
    amount_fits = fits;
    block_is = c.blocks-2.ensures.encrypted _ _;
    mac_is = c.retail_is_a_block.ensures _ _;
  };
  laid_out = refl;
}

pub returns-clause-reply : goal.returns-clause-reply
returns-clause-reply c = λ key ksn code is_ksn. record { fields = (is_ksn, c.retail_is_a_block.ensures _ _); laid_out = refl }
