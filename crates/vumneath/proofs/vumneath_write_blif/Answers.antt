-- `vumneath_write_blif` hands over what `write_blif` answers. Assumes nothing.
use Rattle.vumneath.proofs.Handing.{length-fits}
use Rattle.vumneath.proofs.vumneath_write_blif.Goals as goal

pub text_of-requires : goal.text_of-requires
text_of-requires c = length-fits _ _ _ _ c.write_blif-answer.ensures
