use Rattle.lower_emission.specs.Scope.{mark}
use Rattle.lower_values.specs.Words.{env_of}
use Rattle.lower_values.proofs.Fitting.{fits_begin}
use Rattle.lower_values.proofs.types.Emitter.begin.Goals as goal

pub returns-clause-fits : goal.returns-clause-fits
returns-clause-fits c = fits_begin (mark (env_of c.args.env.now)) c.args.height c.gap-enter.ensures.fits (λ t. (c.gap-enter.ensures.leaps t).1.0)
    c.gap-leave.ensures.fits (λ t. ((c.gap-leave.ensures.leaps t).0, (c.gap-leave.ensures.leaps t).1.0)) c.here-head.ensures.fits c.put.ensures.fits
