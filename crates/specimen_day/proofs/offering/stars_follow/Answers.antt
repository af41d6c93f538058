use Rattle.specimen_day.proofs.Stars.{stars_follow}
use Rattle.specimen_day.proofs.offering.stars_follow.Goals as goal

pub returns : goal.returns
returns c = stars_follow
