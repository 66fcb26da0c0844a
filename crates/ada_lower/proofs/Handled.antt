-- The same of a block with an object, a loop and a handler.
--   declare Y : Integer := 0; begin for I in 1 .. 3 loop Y := Y + I; end loop; Put_Line (Y'Image); exception when others => Put_Line (""); end;
use Rattle.std.proofs.Common.{◌≡◌, ℕ, zero, suc, ◌+◌, slice_get, length, Option, Some, subst, pos, List, [], ◌∷◌, replicate, None, Ok, true, false, refl, arith, inl}
use Rattle.std.proofs.lemmas.Option.{none-some}
use Rattle.ada_base.specs.declared.operation.Op.TheVariants as op
use Rattle.ada_base.specs.declared.operation.Base.TheVariants as base
use Rattle.typed_tree.specs.declared.scalars.Class.TheVariants as class
use Rattle.typed_tree.specs.declared.expressions.Root.TheVariants as root
use Rattle.typed_tree.specs.Syntax.{Stmt, Expr, Static, Variable, Parameter, Range, Absent, For, Assign, Handler, Others, DeclareVariable, Binary, NoExpr, Whole, Number, OfScalar, Stmts, End, Then, Block, Put, Image, NoPiece, NoDecl, NoHandler, Program}
use Rattle.ada_meaning.specs.Meaning
use Rattle.ada_meaning.specs.Meaning.{sub_at}
use Rattle.ada_base.specs.Notes.{Schedule}
use Rattle.ada_meaning.specs.Stored as stored
use Rattle.stack_code.specs.declared.code.Code.{Code}
use Rattle.stack_code.specs.declared.code.Around.TheVariants as around
use Rattle.stack_code.specs.declared.instr.Instr.{Instr}
use Rattle.stack_code.specs.declared.instr.Instr.TheVariants as i
use Rattle.stack_code.specs.Valid.{Has, SpotFits, Lands, Holds, Guarded, GuardsIn, HandlerFits, IsValid}
use Rattle.stack_code.specs.declared.code.CodeSub.{CodeSub}
use Rattle.stack_code.specs.declared.code.Spot.{Spot}
use Rattle.stack_code.specs.declared.code.Unwind.{Unwind}
use Rattle.std.specs.Prelude.{IsSomeAnd}
use Rattle.ada_meaning.proofs.Cells.{some_same}
use Rattle.ada_base.specs.Cells.{Mine}
use Rattle.stack_code.specs.Machine.{Done, begun}
use Rattle.ada_lower.specs.Driven.{Dyn, On, Finally, Meets}
use Rattle.ada_lower.specs.Sights.{Named, Sight, Stands, own}
use Rattle.ada_lower.specs.Bodies.{main_scope, main_code}
use Rattle.ada_lower.specs.Fitted.{FittedStmt}
use Rattle.ada_lower.proofs.Example.{integer, check, none_there, none_main, text, no_threads}
use Rattle.ada_lower.proofs.ExecLeaves.{call_only}
use Rattle.ada_lower.proofs.Main.{first_dyn, program_gives}

abbrev four_each : ℕ → ℕ
four_each n = 4

abbrev no_fork : Sight → Stmt → Type 0
no_fork s t = ⊥

number : ℕ → Expr
number n = Static 0 (pos n) true NoExpr

abbrev pub main : Stmts
main = Then (Block (DeclareVariable 0 (Number check (Static 0 (pos 0) true NoExpr)) NoDecl)
    (Then (For 0 (Range 0 false (Static 0 (pos 1) true NoExpr) (Static 0 (pos 3) true NoExpr) None Absent)
    (Then (Assign 0 (root.Object 0) Whole (Number check (Binary 0 op.Add (class.Integer base.Narrow) (Variable 0 (root.Object 0) Whole integer) (Parameter 0 0)))) End))
    (Then (Put 0 0 (Image (class.Integer base.Narrow) (Variable 0 (root.Object 0) Whole integer) NoPiece) true) End))
    (Handler Others (Then (Put 0 0 NoPiece true) End) NoHandler)) End

abbrev pub program : Program
program = record {
  subtypes = OfScalar integer ∷ [];
  objects = record { name = 0; subtype = 0; constant = false; owner = 0; offset = 0; cells = 1; value = None } ∷ [];
  subs = [];
  sites = [];
  exceptions = [];
  body = record { decls = NoDecl; stmts = main; handlers = NoHandler };
  nonblocking = false;
  strict = false;
}

abbrev pub instrs : List Instr
instrs =
    i.Push (pos 0) ∷
    i.SetL 0 integer.low integer.high ∷
    i.Jump 4 ∷
    i.Jump 26 ∷
    i.Push (pos 1) ∷
    i.StoreL 1 ∷
    i.Push (pos 3) ∷
    i.StoreL 2 ∷
    i.LoadL 1 ∷
    i.LoadL 2 ∷
    i.Le ∷
    i.JFalse 20 ∷
    i.Jump 14 ∷
    i.Jump 20 ∷
    i.Turn ∷
    i.LoadL 0 ∷
    i.LoadL 1 ∷
    i.Add base.Narrow ∷
    i.SetL 0 integer.low integer.high ∷
    i.Next 1 2 14 ∷
    i.LoadL 0 ∷
    i.StoreL 1 ∷
    i.LoadL 1 ∷
    i.Img ∷
    i.SendLn ∷
    i.Jump 28 ∷
    i.StoreL 1 ∷
    i.SendLn ∷
    i.Halt ∷
    []

abbrev pub spot : ℕ → Option ℕ → Spot
spot height held = record { body = around.Sub 0; stack = height; nest = 0; held = held }

abbrev pub spots : List Spot
spots =
    spot 0 None ∷
    spot 1 None ∷
    spot 0 None ∷
    spot 1 None ∷
    spot 0 (Some 0) ∷
    spot 1 (Some 0) ∷
    spot 0 (Some 0) ∷
    spot 1 (Some 0) ∷
    spot 0 (Some 0) ∷
    spot 1 (Some 0) ∷
    spot 2 (Some 0) ∷
    spot 1 (Some 0) ∷
    spot 0 (Some 0) ∷
    spot 0 (Some 0) ∷
    spot 0 (Some 0) ∷
    spot 0 (Some 0) ∷
    spot 1 (Some 0) ∷
    spot 2 (Some 0) ∷
    spot 1 (Some 0) ∷
    spot 0 (Some 0) ∷
    spot 0 (Some 0) ∷
    spot 1 (Some 0) ∷
    spot 0 (Some 0) ∷
    spot 1 (Some 0) ∷
    spot 0 (Some 0) ∷
    spot 0 None ∷
    spot 1 None ∷
    spot 0 None ∷
    spot 0 None ∷
    []

abbrev pub code : Code
code = record {
  instrs = instrs;
  spots = spots;
  unwind = record { from = 4; to = 25; handler = 3; depth = 0; nest = 0 } ∷ [];
  sites = [];
  subs = record { entry = 0; frame = 8; stack = 2; takes = 0; gives = false } ∷ [];
  texts = [];
}

met : Meets code 3 3
met = record { place = 3; first = 0; second = 0; here = refl; there = refl }

stands : Stands code (main_code program none_there none_main [] text four_each (main_scope program none_there none_main [] text four_each 8).scope) 0 29
unfolding Rattle.ada_lower.specs.Emission.emit Rattle.ada_lower.specs.Emission.stmt Rattle.ada_lower.specs.Emission.back_code Rattle.ada_lower.specs.Emission.piece_values
stands = (record { is = inl refl; held = tt }, (record { is = inl refl; held = tt }, (record { is = inl refl; held = tt }, (record { is = inl refl; held = tt }, (record { is = inl refl; held = (met, refl, refl) }, (record { is = inl refl; held = (met, refl, refl) }, (record { is = inl refl; held = (met, refl, refl) }, (record { is = inl refl; held = (met, refl, refl) }, (record { is = inl refl; held = (met, refl, refl) }, (record { is = inl refl; held = (met, refl, refl) }, (record { is = inl refl; held = (met, refl, refl) }, (record { is = inl refl; held = (met, refl, refl) }, (record { is = inl refl; held = (met, refl, refl) }, (record { is = inl refl; held = (met, refl, refl) }, (record { is = inl refl; held = (met, refl, refl) }, (record { is = inl refl; held = (met, refl, refl) }, (record { is = inl refl; held = (met, refl, refl) }, (record { is = inl refl; held = (met, refl, refl) }, (record { is = inl refl; held = (met, refl, refl) }, (record { is = inl refl; held = (met, refl, refl) }, (record { is = inl refl; held = (met, refl, refl) }, (record { is = inl refl; held = (met, refl, refl) }, (record { is = inl refl; held = (met, refl, refl) }, (record { is = inl refl; held = (met, refl, refl) }, (record { is = inl refl; held = (met, refl, refl) }, (record { is = inl refl; held = tt }, (record { is = inl refl; held = tt }, (record { is = inl refl; held = tt }, (record { is = inl refl; held = tt }, refl)))))))))))))))))))))))))))))

fitted : FittedStmt program none_there none_main no_threads no_fork (main_scope program none_there none_main [] text four_each 8) (Block NoDecl main NoHandler)
fitted = ((refl, omega arith, (refl, tt), (omega arith, (λ h. ((omega arith, tt, tt, (λ exit. (tt, ((named, refl, omega arith, tt, (((named, refl, omega arith), tt), (own 1, refl))), tt)))), ((omega arith, (((named, refl, omega arith), tt), tt)), tt))), ((omega arith, tt), tt), tt)), tt)
  where
    named : Named
    named = record { through = false; place = own 0; cells = 1 }

-- where the stored run of the program gives a value, the machine ends with its output
pub comes : (limit : ℕ) (cuts : ℕ → ℕ → List ℕ) (slots : ℕ) (input before : List ℕ) (notes : Schedule) → let r = (Meaning.main (stored.noted_operations limit cuts) limit program).does (stored.noted_outset slots input before notes) in r.end ≡ Ok tt
    → (d : Dyn) × Finally limit code (On (record { state = begun 0 0 [] 0 0 0 None (replicate 8 (Mine (pos 0))); world = (first_dyn notes cuts 8 input before).world })) (record { how = Done None; dyn = d }) × (d.world.output ≡ r.state.output) × (d.turns ≡ r.state.turns)
comes limit cuts slots input before notes e = let (d, a, b, g, w) = program_gives None limit cuts program code none_there none_main no_threads [] text four_each no_fork slots 8 tt refl (call_only limit cuts program (λ n sub e. absurd (none-some sub e)) 1000) (λ f fa depth all. record { forked = (λ rs e from to g env x s h st k en w l. absurd w); parallel = (λ t from to g env x s k u w l. absurd w) }) (λ n unit q. absurd (none-some unit q)) 0 29 stands fitted input before notes tt e in (d, a, b, g)

-- its spots, as they are emitted beside, fit
abbrev AllFrom : {A : Type 0} → (ℕ → A → Type 0) → ℕ → List A → Type 0
AllFrom P n [] = Unit {0}
AllFrom P n (x ∷ xs) = P n x × AllFrom P (n + 1) xs

each_of : {A : Type 0} (P : ℕ → A → Type 0) (n : ℕ) (xs : List A) → AllFrom P n xs → (k : ℕ) (x : A) → slice_get xs k ≡ Some x → P (n + k) x
each_of P n [] all k x e = absurd (none-some x e)
each_of P n (y ∷ xs) (p, all) zero x e = let z : n ≡ n + 0 = omega arith in subst (λ m. P m x) z (subst (λ x. P n x) (some_same y x e) p)
each_of P n (y ∷ xs) (p, all) (suc k) x e = let z : n + 1 + k ≡ n + suc k = omega arith in subst (λ m. P m x) z (each_of P (n + 1) xs all k x e)

spots_fit : AllFrom (λ at i. Has code.spots at (SpotFits code at i)) 0 code.instrs
spots_fit = (
  record { height = omega arith; operands = omega arith; begun = omega arith; leads = (refl, refl, refl); belongs = tt; held = tt },
  (
    record { height = omega arith; operands = omega arith; begun = omega arith; leads = (refl, refl, refl); belongs = omega arith; held = tt },
    (
      record { height = omega arith; operands = omega arith; begun = omega arith; leads = (refl, refl, refl); belongs = tt; held = tt },
      (
        record { height = omega arith; operands = omega arith; begun = omega arith; leads = (refl, refl, refl); belongs = tt; held = tt },
        (
          record { height = omega arith; operands = omega arith; begun = omega arith; leads = (refl, refl, refl); belongs = tt; held = (omega arith, omega arith) },
          (
            record { height = omega arith; operands = omega arith; begun = omega arith; leads = (refl, refl, refl); belongs = omega arith; held = (omega arith, omega arith) },
            (
              record { height = omega arith; operands = omega arith; begun = omega arith; leads = (refl, refl, refl); belongs = tt; held = (omega arith, omega arith) },
              (
                record { height = omega arith; operands = omega arith; begun = omega arith; leads = (refl, refl, refl); belongs = omega arith; held = (omega arith, omega arith) },
                (
                  record { height = omega arith; operands = omega arith; begun = omega arith; leads = (refl, refl, refl); belongs = omega arith; held = (omega arith, omega arith) },
                  (
                    record { height = omega arith; operands = omega arith; begun = omega arith; leads = (refl, refl, refl); belongs = omega arith; held = (omega arith, omega arith) },
                    (
                      record { height = omega arith; operands = omega arith; begun = omega arith; leads = (refl, refl, refl); belongs = tt; held = (omega arith, omega arith) },
                      (
                        record { height = omega arith; operands = omega arith; begun = omega arith; leads = ((refl, refl, refl), (refl, refl, refl)); belongs = tt; held = (omega arith, omega arith) },
                        (
                          record { height = omega arith; operands = omega arith; begun = omega arith; leads = (refl, refl, refl); belongs = tt; held = (omega arith, omega arith) },
                          (
                            record { height = omega arith; operands = omega arith; begun = omega arith; leads = (refl, refl, refl); belongs = tt; held = (omega arith, omega arith) },
                            (
                              record { height = omega arith; operands = omega arith; begun = omega arith; leads = (refl, refl, refl); belongs = tt; held = (omega arith, omega arith) },
                              (
                                record { height = omega arith; operands = omega arith; begun = omega arith; leads = (refl, refl, refl); belongs = omega arith; held = (omega arith, omega arith) },
                                (
                                  record { height = omega arith; operands = omega arith; begun = omega arith; leads = (refl, refl, refl); belongs = omega arith; held = (omega arith, omega arith) },
                                  (
                                    record { height = omega arith; operands = omega arith; begun = omega arith; leads = (refl, refl, refl); belongs = tt; held = (omega arith, omega arith) },
                                    (
                                      record { height = omega arith; operands = omega arith; begun = omega arith; leads = (refl, refl, refl); belongs = omega arith; held = (omega arith, omega arith) },
                                      (
                                        record { height = omega arith; operands = omega arith; begun = omega arith; leads = ((refl, refl, refl), (refl, refl, refl)); belongs = (omega arith, omega arith); held = (omega arith, omega arith) },
                                        (
                                          record { height = omega arith; operands = omega arith; begun = omega arith; leads = (refl, refl, refl); belongs = omega arith; held = (omega arith, omega arith) },
                                          (
                                            record { height = omega arith; operands = omega arith; begun = omega arith; leads = (refl, refl, refl); belongs = omega arith; held = (omega arith, omega arith) },
                                            (
                                              record { height = omega arith; operands = omega arith; begun = omega arith; leads = (refl, refl, refl); belongs = omega arith; held = (omega arith, omega arith) },
                                              (
                                                record { height = omega arith; operands = omega arith; begun = omega arith; leads = (refl, refl, refl); belongs = tt; held = (omega arith, omega arith) },
                                                (
                                                  record { height = omega arith; operands = omega arith; begun = omega arith; leads = (refl, refl, refl); belongs = tt; held = (omega arith, omega arith) },
                                                  (
                                                    record { height = omega arith; operands = omega arith; begun = omega arith; leads = (refl, refl, refl); belongs = tt; held = tt },
                                                    (
                                                      record { height = omega arith; operands = omega arith; begun = omega arith; leads = (refl, refl, refl); belongs = omega arith; held = tt },
                                                      (
                                                        record { height = omega arith; operands = omega arith; begun = omega arith; leads = (refl, refl, refl); belongs = tt; held = tt },
                                                        (
                                                          record { height = omega arith; operands = omega arith; begun = omega arith; leads = tt; belongs = refl; held = tt },
                                                          tt,
                                                        ),
                                                      ),
                                                    ),
                                                  ),
                                                ),
                                              ),
                                            ),
                                          ),
                                        ),
                                      ),
                                    ),
                                  ),
                                ),
                              ),
                            ),
                          ),
                        ),
                      ),
                    ),
                  ),
                ),
              ),
            ),
          ),
        ),
      ),
    ),
  ),
)

instrs_fit : (k : ℕ) (i : Instr) → slice_get code.instrs k ≡ Some i → Has code.spots k (SpotFits code k i)
instrs_fit k i e = let z : 0 + k ≡ k = omega arith in subst (λ m. Has code.spots m (SpotFits code m i)) z (each_of (λ at i. Has code.spots at (SpotFits code at i)) 0 code.instrs spots_fit k i e)

abbrev entry : Unwind
entry = record { from = 4; to = 25; handler = 3; depth = 0; nest = 0 }

guarded : AllFrom (λ at i. Has code.spots at (λ s. Holds entry at → Guarded code 0 entry i s)) 0 code.instrs
guarded = (
  (λ h. absurd (let a = h.0 in let b = h.1 in omega (arith, a, b))),
  (
    (λ h. absurd (let a = h.0 in let b = h.1 in omega (arith, a, b))),
    (
      (λ h. absurd (let a = h.0 in let b = h.1 in omega (arith, a, b))),
      (
        (λ h. absurd (let a = h.0 in let b = h.1 in omega (arith, a, b))),
        (
          (λ h. record { same_body = refl; nest = omega arith; depth = omega arith; first = omega arith }),
          (
            (λ h. record { same_body = refl; nest = omega arith; depth = omega arith; first = omega arith }),
            (
              (λ h. record { same_body = refl; nest = omega arith; depth = omega arith; first = omega arith }),
              (
                (λ h. record { same_body = refl; nest = omega arith; depth = omega arith; first = omega arith }),
                (
                  (λ h. record { same_body = refl; nest = omega arith; depth = omega arith; first = omega arith }),
                  (
                    (λ h. record { same_body = refl; nest = omega arith; depth = omega arith; first = omega arith }),
                    (
                      (λ h. record { same_body = refl; nest = omega arith; depth = omega arith; first = omega arith }),
                      (
                        (λ h. record { same_body = refl; nest = omega arith; depth = omega arith; first = omega arith }),
                        (
                          (λ h. record { same_body = refl; nest = omega arith; depth = omega arith; first = omega arith }),
                          (
                            (λ h. record { same_body = refl; nest = omega arith; depth = omega arith; first = omega arith }),
                            (
                              (λ h. record { same_body = refl; nest = omega arith; depth = omega arith; first = omega arith }),
                              (
                                (λ h. record { same_body = refl; nest = omega arith; depth = omega arith; first = omega arith }),
                                (
                                  (λ h. record { same_body = refl; nest = omega arith; depth = omega arith; first = omega arith }),
                                  (
                                    (λ h. record { same_body = refl; nest = omega arith; depth = omega arith; first = omega arith }),
                                    (
                                      (λ h. record { same_body = refl; nest = omega arith; depth = omega arith; first = omega arith }),
                                      (
                                        (λ h. record { same_body = refl; nest = omega arith; depth = omega arith; first = omega arith }),
                                        (
                                          (λ h. record { same_body = refl; nest = omega arith; depth = omega arith; first = omega arith }),
                                          (
                                            (λ h. record { same_body = refl; nest = omega arith; depth = omega arith; first = omega arith }),
                                            (
                                              (λ h. record { same_body = refl; nest = omega arith; depth = omega arith; first = omega arith }),
                                              (
                                                (λ h. record { same_body = refl; nest = omega arith; depth = omega arith; first = omega arith }),
                                                (
                                                  (λ h. record { same_body = refl; nest = omega arith; depth = omega arith; first = omega arith }),
                                                  (
                                                    (λ h. absurd (let a = h.0 in let b = h.1 in omega (arith, a, b))),
                                                    (
                                                      (λ h. absurd (let a = h.0 in let b = h.1 in omega (arith, a, b))),
                                                      (
                                                        (λ h. absurd (let a = h.0 in let b = h.1 in omega (arith, a, b))),
                                                        (
                                                          (λ h. absurd (let a = h.0 in let b = h.1 in omega (arith, a, b))),
                                                          tt,
                                                        ),
                                                      ),
                                                    ),
                                                  ),
                                                ),
                                              ),
                                            ),
                                          ),
                                        ),
                                      ),
                                    ),
                                  ),
                                ),
                              ),
                            ),
                          ),
                        ),
                      ),
                    ),
                  ),
                ),
              ),
            ),
          ),
        ),
      ),
    ),
  ),
)

guards : (at : ℕ) (i : Instr) (s : Spot) → slice_get code.instrs at ≡ Some i → slice_get code.spots at ≡ Some s → Holds entry at → Guarded code 0 entry i s
guards at i s e e' = subst (λ o. IsSomeAnd o (λ s. Holds entry at → Guarded code 0 entry i s)) e'
    (let z : 0 + at ≡ at = omega arith in subst (λ m. Has code.spots m (λ s. Holds entry m → Guarded code 0 entry i s)) z (each_of (λ at i. Has code.spots at (λ s. Holds entry at → Guarded code 0 entry i s)) 0 code.instrs guarded at i e))

-- the code is valid
pub valid : IsValid code
valid = record {
  spots = refl;
  main = refl;
  instrs = instrs_fit;
  sites = λ k s e. absurd (none-some s e);
  subs = subs;
  handlers = handlers;
  guards = held;
}
  where
    subs : (k : ℕ) (s : CodeSub) → slice_get code.subs k ≡ Some s → Lands code (around.Sub k) s.takes 0 s.entry
    subs zero s e = subst (λ s. Lands code (around.Sub 0) s.takes 0 s.entry) (some_same _ s e) (refl, refl, refl)
    subs (suc k) s e = absurd (none-some s e)

    handlers : (k : ℕ) (u : Unwind) → slice_get code.unwind k ≡ Some u → HandlerFits code u
    handlers zero u e = subst (λ u. HandlerFits code u) (some_same entry u e) (refl, refl)
    handlers (suc k) u e = absurd (none-some u e)

    held : (k : ℕ) (u : Unwind) → slice_get code.unwind k ≡ Some u → GuardsIn code 0 (length code.instrs) k u
    held zero u e = subst (λ u. GuardsIn code 0 (length code.instrs) 0 u) (some_same entry u e) (λ at i s low high. guards at i s)
    held (suc k) u e = absurd (none-some u e)
