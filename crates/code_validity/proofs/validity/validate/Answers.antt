use Rattle.std.proofs.Common.{arith}
use Rattle.code_validity.proofs.validity.validate.Goals as goal

pub returns : goal.returns
returns c = (
  λ h. record {
    spots = omega arith;
    main = c.has_main.ensures.0 c.if-not-has_main.false;
    instrs = c.instrs_fit.ensures.0 c.if-not-instrs_fit.false;
    sites = c.sites_fit.ensures.0 c.if-not-sites_fit.false;
    subs = c.subs_fit.ensures.0 c.if-not-subs_fit.false;
    handlers = c.handlers_fit.ensures.0 c.if-not-handlers_fit.false;
    guards = c.guards_fit.ensures.0 h;
  },
  λ v. c.guards_fit.ensures.1 v.guards,
)
