use Rattle.lower_values.proofs.Fitting.{fits_aim}
use Rattle.lower_values.proofs.types.Emitter.aim.Goals as goal

pub returns-clause-fits : goal.returns-clause-fits
returns-clause-fits c = fits_aim c.args.at c.here-to.ensures.fits (λ t. (c.here-to.ensures.finds t).1.0) c.aim_at.ensures.fits
