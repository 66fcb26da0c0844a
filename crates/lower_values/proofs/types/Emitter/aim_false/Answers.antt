use Rattle.std.proofs.Common.{◌∙◌}
use Rattle.lower_values.proofs.Fitting.{fits_aim, fits_both}
use Rattle.lower_values.proofs.types.Emitter.aim_false.Goals as goal

pub returns-clause-fits : goal.returns-clause-fits
returns-clause-fits c =
    fits_aim c.args.at (fits_both c.here-to.ensures.fits c.sum-above.ensures.fits)
    (λ t. let s = c.sum-above.ensures.finds t in s.1.0 ∙ (c.here-to.ensures.finds s.0).1.0) c.set.ensures.fits
