-- `lampgrotto_costs::both::lampgrotto_lowest` meets its contract: what is answered has a cost, so it has a word. Assumes nothing.
use Rattle.lampgrotto_costs.proofs.Fitting.{found_fits, fits_back}
use Rattle.lampgrotto_costs.proofs.both.lampgrotto_lowest.Goals as goal

pub put_found-requires : goal.put_found-requires
put_found-requires c = fits_back (found_fits c.args.place c.args.rule c.args.rules.now c.args.costs.now c.in-Ok.found c.in-Ok.ensures)
