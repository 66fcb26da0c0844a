use Rattle.std.proofs.Common.{◌<◌, ◌≡◌, [], reverse, vec_len, vec_capacity, Option, Box, Global, refl, sym, ap, ◌∙◌, subst, arith}
use Rattle.ada_machine.specs.declared.machine.Aside.{Aside}
use Rattle.ada_machine.specs.declared.machine.Machine.{Machine}
use Rattle.ada_machine.specs.States.{kept_of, rounds_of, IsRoomFor}
use Rattle.ada_machine.proofs.Callers.{begun}
use Rattle.ada_machine.proofs.calls.begin_body.Goals.{in-Some, in-None}
use Rattle.ada_machine.proofs.calls.begin_body.Goals as goal

pub push_reserved-requires : goal.push_reserved-requires
push_reserved-requires c = elim c.match-aside.branch [
  | in-Some w ↦ subst (λ (q : Machine). vec_len q.waiting < vec_capacity q.waiting) (sym (w.m-is ∙ w.set_aside.ensures.rest)) c.requires.room
  | in-None w ↦ subst (λ (q : Machine). vec_len q.waiting < vec_capacity q.waiting) (sym w.m-is) c.requires.room
]

pub overflow_add-m : goal.overflow_add-m
overflow_add-m c = elim c.match-aside.branch [
  | in-Some w ↦ record { fits = omega (arith, c.requires.calls, ap (λ (q : Machine). q.calls) (w.m-is ∙ w.set_aside.ensures.rest)) }
  | in-None w ↦ record { fits = omega (arith, c.requires.calls, ap (λ (q : Machine). q.calls) w.m-is) }
]

pub overflow_add-m-2 : goal.overflow_add-m-2
overflow_add-m-2 c = elim c.match-aside.branch [
  | in-Some w ↦ record { fits = omega (arith, c.requires.turns, ap (λ (q : Machine). q.turns) (w.m-is ∙ w.set_aside.ensures.rest)) }
  | in-None w ↦ record { fits = omega (arith, c.requires.turns, ap (λ (q : Machine). q.turns) w.m-is) }
]

pub returns-clause-room : goal.returns-clause-room
returns-clause-room c = elim c.match-aside.branch [
  | in-Some w ↦ ap (λ (q : Machine). vec_capacity q.stack) (w.m-is ∙ w.set_aside.ensures.rest)
  | in-None w ↦ ap (λ (q : Machine). vec_capacity q.stack) w.m-is
]

pub returns-clause-looks : goal.returns-clause-looks
returns-clause-looks c = elim c.match-aside.branch [
  | in-Some w ↦ ap (λ (q : Machine). q.looks) (w.m-is ∙ w.set_aside.ensures.rest)
  | in-None w ↦ ap (λ (q : Machine). q.looks) w.m-is
]

pub returns-clause-state : goal.returns-clause-state
returns-clause-state c = λ cells.
    let m = c.args.m.now in
    elim c.match-aside.branch [
      | in-Some w ↦ begun c.args.callee c.args.entry m c.match-aside.m c.match-aside.aside c.push_reserved.new.self.items cells (subst (λ (q : Machine). q ≡ record m { kept = q.kept; rounds = q.rounds }) (sym w.m-is) w.set_aside.ensures.rest)
          (subst (λ (q : Machine). q.kept.items ≡ []) (sym w.m-is) w.set_aside.ensures.empty.0) (subst (λ (q : Machine). q.rounds.items ≡ []) (sym w.m-is) w.set_aside.ensures.empty.1)
          (ap kept_of w.aside-is ∙ ap (λ v. reverse v.items) w.set_aside.ensures.kept) (ap rounds_of w.aside-is ∙ ap (λ v. reverse v.items) w.set_aside.ensures.rounds) c.push_reserved.ensures.items
      | in-None w ↦
          let none = subst (λ (o : Option (Box Aside Global)). IsRoomFor o m.kept.items m.rounds.items) w.in-None.is c.requires.aside in
          begun c.args.callee c.args.entry m c.match-aside.m c.match-aside.aside c.push_reserved.new.self.items cells (subst (λ (q : Machine). q ≡ record m { kept = q.kept; rounds = q.rounds }) (sym w.m-is) refl)
          (subst (λ (q : Machine). q.kept.items ≡ []) (sym w.m-is) none.0) (subst (λ (q : Machine). q.rounds.items ≡ []) (sym w.m-is) none.1)
          (ap kept_of w.aside-is ∙ ap reverse (sym none.0)) (ap rounds_of w.aside-is ∙ ap reverse (sym none.1)) c.push_reserved.ensures.items
    ]
