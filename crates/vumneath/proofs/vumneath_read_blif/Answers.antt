-- `vumneath_read_blif` hands over what `read_blif` answers. Assumes nothing.
use Rattle.vumneath.proofs.Handing.{counts-fit}
use Rattle.vumneath.proofs.vumneath_read_blif.Goals as goal

pub network_of-requires : goal.network_of-requires
network_of-requires c = counts-fit _ _ _ _ _ _ _ _ c.read_blif-answer.ensures
