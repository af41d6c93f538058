use Rattle.market.proofs.Alone.{told}
use Rattle.market.proofs.clearing.judging.Offer.answer.Goals as goal

pub returns : goal.returns
returns g c = told _ _ _ _ c.judged.ensures.answered c.judged.ensures.small
