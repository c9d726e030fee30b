-- `lampgrotto_costs::reading::lampgrotto_cost_look_up` meets its contract: what is answered is a cost, so it has a word. Assumes nothing.
use Rattle.lampgrotto_costs.proofs.Fitting.{looked_fits, fits_back}
use Rattle.lampgrotto_costs.proofs.reading.lampgrotto_cost_look_up.Goals as goal

pub put_cost-requires : goal.put_cost-requires
put_cost-requires c = fits_back (looked_fits c.args.place c.args.setting.now c.args.t.now c.in-Ok.looked c.in-Ok.ensures)
