-- The rows of what programs do, step by step.
use Rattle.std.proofs.Common.{ℕ, ◌<◌, [], ◌∷◌, inl, inr, Some, None, true, false, refl, arith, pos}
use Rattle.ada_base.specs.declared.reason.Reason.TheVariants as reason
use Rattle.ada_base.specs.Input.{Nothing, Symbol}
use Rattle.behaviours.specs.Paths.{VariableOf, Raises, Leaves, Gives, Instance, Path, start, one_turn, one_taken, one_elaboration, Everywhere, leave, enter, joined}
use Rattle.behaviours.specs.Events.{Writes, Recalls, Keeps, Takes, Looks}
use Rattle.behaviours.specs.Joins.{Ran}
use Rattle.ada_meaning.specs.LookRows.{LookRows}

lt : 0 < 1000
lt = omega arith

lt_one : 1 < 1000
lt_one = omega arith

abbrev p : Path Instance
p = start

abbrev q : Path Instance
q = one_turn start

-- what a thread of the block did
abbrev ran : ℕ → Ran Instance (Unit {0})
ran i = record { trace = []; early = false; path = leave p (enter i p); end = Gives tt }

abbrev x : Instance
x = record { thread = []; number = 0; object = VariableOf 0 }

-- where the variable has been elaborated, one byte was asked for, and two
abbrev begun : Path Instance
begun = one_elaboration Everywhere x start

abbrev after_one : Path Instance
after_one = one_taken (one_turn begun)

abbrev after_two : Path Instance
after_two = one_taken (one_turn after_one)

pub look_rows : LookRows
look_rows = (
  (
    q,
    inr (
      inr (
        inl (
          tt,
          q,
          Looks ∷ [],
          [],
          false,
          false,
          refl,
          refl,
          inl (
            _,
            p,
            [],
            Looks ∷ [],
            false,
            false,
            refl,
            refl,
            inl (pos 1, p, [], [], false, false, refl, refl, (refl, inl (refl, refl, inl refl)), inl (pos 1, p, [], [], false, false, refl, refl, (refl, inl (refl, refl, inl refl)), inl (tt, p, [], [], false, false, refl, refl, (refl, inl (refl, refl, inl refl)), (refl, inl (refl, refl, inl refl))))),
            inr (
              inl (
                tt,
                q,
                Looks ∷ [],
                [],
                false,
                false,
                refl,
                refl,
                inl (
                  tt,
                  q,
                  Looks ∷ [],
                  [],
                  false,
                  false,
                  refl,
                  refl,
                  inl (tt, p, Looks ∷ [], [], false, false, refl, refl, (refl, inl (refl, refl, inl refl)), inl (lt, (refl, inl (refl, refl, inl refl)))),
                  inl (true, q, [], [], false, false, refl, refl, (refl, inl (refl, refl, inl refl)), (refl, inl (refl, refl, inl refl))),
                ),
                (refl, inl (refl, refl, inl refl)),
              ),
              tt,
            ),
          ),
          (refl, inl (refl, refl, inl refl)),
        ),
        tt,
      ),
      tt,
    ),
  ),
  (
    p,
    inr (
      inr (
        inl (
          tt,
          p,
          Looks ∷ [],
          [],
          false,
          false,
          refl,
          refl,
          inl (
            Raises (reason.Declared 0),
            p,
            [],
            Looks ∷ [],
            false,
            false,
            refl,
            refl,
            inr (Leaves (Raises (reason.Declared 0)), refl, (refl, inl (refl, refl, inl refl))),
            refl,
            inl (tt, p, Looks ∷ [], [], false, false, refl, refl, (refl, inl (refl, refl, inl refl)), inl (tt, p, [], [], false, false, refl, refl, (refl, inl (refl, refl, inl refl)), (refl, inl (refl, refl, inl refl)))),
          ),
          (refl, inl (refl, refl, inl refl)),
        ),
        tt,
      ),
      tt,
    ),
  ),
  (
    joined p 0,
    inr (
      inr (
        inl (
          tt,
          joined p 0,
          Looks ∷ [],
          [],
          false,
          false,
          refl,
          refl,
          inl (
            tt,
            p,
            Looks ∷ [],
            [],
            false,
            false,
            refl,
            refl,
            inl (tt, p, Looks ∷ [], [], false, false, refl, refl, (refl, inl (refl, refl, inl refl)), (refl, inl (refl, refl, inl refl))),
            inl (
              4096,
              p,
              [],
              [],
              false,
              false,
              refl,
              refl,
              (refl, inl (refl, refl, inl refl)),
              inl (
                tt ∷ tt ∷ [],
                joined p 0,
                [],
                [],
                false,
                false,
                refl,
                refl,
                inl (ran 0 ∷ ran 1 ∷ [], (ran 0, ran 1 ∷ [], refl, (enter 0 p, refl, inl (tt, enter 0 p, [], [], false, false, refl, refl, (refl, inl (refl, refl, inl refl)), (refl, inl (refl, refl, inl refl)))), (ran 1, [], refl, (enter 1 p, refl, inl (tt, enter 1 p, [], [], false, false, refl, refl, (refl, inl (refl, refl, inl refl)), (refl, inl (refl, refl, inl refl)))), refl)), (refl, (tt, tt ∷ [], refl, refl, (tt, [], refl, refl, refl))), refl, refl),
                (refl, inl (refl, refl, inl refl)),
              ),
            ),
          ),
          (refl, inl (refl, refl, inl refl)),
        ),
        tt,
      ),
      tt,
    ),
  ),
  (
    after_two,
    inr (
      inl (
        _,
        refl,
        inr (
          inl (
            tt,
            after_two,
            _,
            [],
            false,
            false,
            refl,
            refl,
            inl (
              _,
              begun,
              [],
              _,
              false,
              false,
              refl,
              refl,
              (refl, inl (refl, refl, inl refl)),
              inl (
                pos 5,
                after_two,
                Recalls Nothing ∷ Takes 0 (Some 53) ∷ Takes 1 None ∷ Keeps (Symbol None) ∷ [],
                Writes x 0 (pos 5) ∷ [],
                false,
                false,
                refl,
                refl,
                inl (
                  Nothing,
                  begun,
                  Recalls Nothing ∷ [],
                  Takes 0 (Some 53) ∷ Takes 1 None ∷ Keeps (Symbol None) ∷ [],
                  false,
                  false,
                  refl,
                  refl,
                  (Nothing, (refl, inl (refl, refl, inl refl))),
                  inl (
                    Some 53,
                    after_one,
                    Takes 0 (Some 53) ∷ [],
                    Takes 1 None ∷ Keeps (Symbol None) ∷ [],
                    false,
                    false,
                    refl,
                    refl,
                    inl (tt, one_turn begun, [], Takes 0 (Some 53) ∷ [], false, false, refl, refl, inl (lt, (refl, inl (refl, refl, inl refl))), (Some 53, (refl, inl (refl, refl, inl refl)))),
                    inl (
                      Some 53,
                      after_one,
                      [],
                      Takes 1 None ∷ Keeps (Symbol None) ∷ [],
                      false,
                      false,
                      refl,
                      refl,
                      (refl, inl (refl, refl, inl refl)),
                      inl (
                        None,
                        after_two,
                        Takes 1 None ∷ [],
                        Keeps (Symbol None) ∷ [],
                        false,
                        false,
                        refl,
                        refl,
                        inl (tt, one_turn after_one, [], Takes 1 None ∷ [], false, false, refl, refl, inl (lt_one, (refl, inl (refl, refl, inl refl))), (None, (refl, inl (refl, refl, inl refl)))),
                        inl (tt, after_two, Keeps (Symbol None) ∷ [], [], false, false, refl, refl, (refl, inl (refl, refl, inl refl)), (refl, inl (refl, refl, inl refl))),
                      ),
                    ),
                  ),
                ),
                inl (tt, after_two, [], Writes x 0 (pos 5) ∷ [], false, false, refl, refl, (refl, inl (refl, refl, inl refl)), (refl, inl (refl, refl, inl refl))),
              ),
            ),
            (refl, inl (refl, refl, inl refl)),
          ),
          tt,
        ),
      ),
      tt,
    ),
  ),
)
