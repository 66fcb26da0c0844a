use Rattle.std.proofs.Common.{◌≡◌, length, refl}
use Rattle.std.specs.Prelude.{slice_get, Some}
use Rattle.std.proofs.lemmas.Option.{slice_get_read}
use Rattle.lower_values.specs.Words.{env_of}
use Rattle.lower_code.proofs.Missing.{missing_kept}
use Rattle.lower_code.proofs.idle.missing_forks.Goals as goal

-- a fork is written, or the construct has one
pub loop-forked-preserved : goal.loop-forked-preserved
loop-forked-preserved c = λ h.
    let look = c.in-Some.ensures.lookup in
    let e : slice_get c.args.flags.now c.loop-forked.site ≡ Some c.in-Some.forked.now = slice_get_read c.args.flags.now (length c.args.flags.now) c.loop-forked.site c.in-Some.forked.now refl look.3.0 look.1 in
    let n = c.sum-site.ensures.finds h in
    let u = c.missing_fork.ensures n.0 in
    let i = c.loop-forked.invariant u.0 in
    (i.0, missing_kept (env_of c.args.env.now) c.loop-forked.site c.sum-site.result c.in-Some.forked.now c.args.flags.now c.loop-forked.out.code c.missing_fork.new.out.code c.sum-site.new.self.code _ e n.1 u.1 i.1)
