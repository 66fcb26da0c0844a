use Rattle.std.proofs.Common.{◌≡◌, ◌-◌, suc, Err, rules, arith}
use Rattle.command_words.proofs.Sizes.{none_left, gives_last, gives_fault, gives_more}
use Rattle.command_words.proofs.values.+push_sizes.Goals as goal

pub returns-then-most-eq0 : goal.returns-then-most-eq0
returns-then-most-eq0 t c usage = none_left c.args.most c.args.sizes.now c.args.text.now (omega (arith, c.if-most-eq0.true))

pub returns-in_default : goal.returns-in_default
returns-in_default t c =
    let less : suc (c.args.most - 1) ≡ c.args.most = omega (arith, c.if-most-eq0.false) in
    gives_last (c.args.most - 1) c.args.most c.args.sizes.now c.args.text.now c.push_size.result c.push_size.new.sizes less (rw c.in_default.is at c.parts.ensures) c.push_size.ensures

pub returns-in_err-push_size : goal.returns-in_err-push_size
returns-in_err-push_size t c =
    let less : suc (c.args.most - 1) ≡ c.args.most = omega (arith, c.if-most-eq0.false) in
    let fault = c.in_err-push_size.field-0.0 in
    let is : c.from_residual.result ≡ Err fault = search rules in
    gives_fault (c.args.most - 1) c.args.most c.args.sizes.now c.args.text.now c.in-Some.first.now c.in-Some.rest.now fault c.from_residual.result c.push_size-2.new.sizes less c.in-Some.ensures
    c.in_err-push_size.ensures is

pub returns : goal.returns
returns t c =
    let less : suc (c.args.most - 1) ≡ c.args.most = omega (arith, c.if-most-eq0.false) in
    gives_more (c.args.most - 1) c.args.most c.args.sizes.now c.push_size-2.new.sizes c.args.text.now c.in-Some.first.now c.in-Some.rest.now c.push_sizes.result c.push_sizes.new.sizes less c.in-Some.ensures
    c.in_ok-push_size.ensures.0 c.push_sizes.ensures
