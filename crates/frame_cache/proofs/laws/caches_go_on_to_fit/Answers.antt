use Rattle.frame_cache.proofs.Fitting.{fits_later}
use Rattle.frame_cache.proofs.laws.caches_go_on_to_fit.Goals as goal

pub returns : goal.returns
returns c = fits_later
