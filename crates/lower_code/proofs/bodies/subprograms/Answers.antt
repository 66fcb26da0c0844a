use Rattle.std.proofs.Common.{◌∙◌, ap}
use Rattle.lower_emission.specs.Emits.{written}
use Rattle.lower_emission.specs.Bodies.{sub_code, sub_scope}
use Rattle.typed_tree.specs.Programs.{sub_of}
use Rattle.lower_values.specs.Words.{env_of, program_of}
use Rattle.lower_code.proofs.Programs.{subs_kept}
use Rattle.lower_code.proofs.Starting.{starts_kept}
use Rattle.lower_code.proofs.bodies.subprograms.Goals as goal

-- a subprogram is written
pub loop-sub-preserved : goal.loop-sub-preserved
loop-sub-preserved c = λ h.
    let n = c.sum-number.ensures.finds h in
    let u = c.subprogram.ensures n.0 in
    let v = c.start.ensures u.0 in
    let i = c.loop-sub.invariant v.0 in
    let w = u.1 in
    let code = subs_kept c.args.env.now.typed.now (env_of c.args.env.now) c.loop-sub.number c.sum-number.result c.in-Some.sub c.loop-sub.out.code c.subprogram.new.out.code c.sum-number.new.self.code _ c.in-Some.ensures n.1 (w ∙ ap (written (sub_code (program_of c.args.env.now.typed.now) (sub_scope (program_of c.args.env.now.typed.now) (env_of c.args.env.now) c.loop-sub.number (sub_of c.args.env.now.typed.now.nodes c.in-Some.sub)) (sub_of c.args.env.now.typed.now.nodes c.in-Some.sub))) v.1.0) i.1.0 in
    let subs = starts_kept c.args.env.now.typed.now (env_of c.args.env.now) c.loop-sub.number c.sum-number.result c.in-Some.sub c.loop-sub.out.code c.subprogram.new.out.code c.sum-number.new.self.code c.loop-sub.subs c.start.new.subs _ c.in-Some.ensures n.1 (w ∙ ap (written (sub_code (program_of c.args.env.now.typed.now) (sub_scope (program_of c.args.env.now.typed.now) (env_of c.args.env.now) c.loop-sub.number (sub_of c.args.env.now.typed.now.nodes c.in-Some.sub)) (sub_of c.args.env.now.typed.now.nodes c.in-Some.sub))) v.1.0) v.1.1 i.1.1 in
    (i.0, (code, subs))
