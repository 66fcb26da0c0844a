use Rattle.std.proofs.Common.{◌<◌, ◌≤◌, arith, inl, inr, ⊎_elim}
use Rattle.std.specs.Prelude.{◌⊎◌}
use Rattle.std.proofs.lemmas.Bool.{cases_lt}
use Rattle.code_validity.proofs.Slacks.{guards_whole, guards_held}
use Rattle.code_validity.proofs.slack.guards.Goals as goal

pub returns-then-end-to : goal.returns-then-end-to
returns-then-end-to c =
    let w = guards_whole c.args.code.now c.args.from c.args.to c.args.number c.args.entry (omega arith) (omega arith) in
    let a = c.requires.all.admits c.args.number c.args.entry in
    (λ h. w.0 (a.0 (c.admits.ensures.0 h)), λ h. c.admits.ensures.1 (a.1 (w.1 h)))

pub returns-else-first-from : goal.returns-else-first-from
returns-else-first-from c =
    let from : (c.max-first.result ≤ c.args.from) ⊎ (c.max-first.result ≤ c.args.entry.from) = ⊎_elim (λ (l : c.args.from < c.args.entry.from). inr (omega arith)) (λ (l : c.args.entry.from ≤ c.args.from). inl (omega arith)) (cases_lt c.args.from c.args.entry.from) in
    let to : (c.args.to ≤ c.min-end.result) ⊎ (c.args.entry.to ≤ c.min-end.result) = ⊎_elim (λ (l : c.args.to < c.args.entry.to). inl (omega arith)) (λ (l : c.args.entry.to ≤ c.args.to). inr (omega arith)) (cases_lt c.args.to c.args.entry.to) in
    let w = guards_held c.args.code.now c.args.from c.args.to c.max-first.result c.min-end.result c.args.number c.args.entry (omega arith) (omega arith) from (omega arith) (omega arith) to in
    (λ h. w.0 (c.guards_each.ensures.0 h), λ h. c.guards_each.ensures.1 (w.1 h))
