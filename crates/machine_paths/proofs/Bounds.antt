-- What a bound of looks changes.
use Rattle.std.proofs.Common.{◌≡◌, ◌≢◌, ℕ, zero, suc, ◌+◌, ◌-◌, ◌⊎◌, inl, inr, ℤ, Bool, true, false, cond, List, [], ◌∷◌, length, Option, Some, None, refl, sym, ap, subst}
use Rattle.std.specs.Prelude.{slice_get, nat_eq, nat_lt}
use Rattle.ada_base.specs.declared.reason.Reason.{Reason}
use Rattle.ada_base.specs.declared.reason.Reason.TheVariants.{ConstraintError, StorageError}
use Rattle.stack_code.specs.declared.instr.Instr.{Instr}
use Rattle.stack_code.specs.declared.path.Round.{Round}
use Rattle.stack_code.specs.declared.code.Code.{Code}
use Rattle.stack_code.specs.declared.code.CodeSub.{CodeSub}
use Rattle.stack_code.specs.declared.code.Unwind.{Unwind}
use Rattle.ada_base.specs.Cells.{seen, written}
use Rattle.stack_code.specs.Deeds.{Deed, Lacks, GoesOn, Fails, Loads, Stores, Points, Turns, Calls, CallsAt, Combines, Draws, Repeats, Rounds, Ends, Leaves, Forks, Nests, Unnests, Writes, Sends, Gets, Gives, deed_of}
use Rattle.stack_code.specs.Machine.{Frame, State, Stop, Spent, Cut, Went, Goes, Stops, look, with_value, with_cells, points, if_pointing, cut, on, moved_to, failed, entered, entered_at, entry_of, handled, unwound, raised, turned, entering, calling, entering_at, calling_at, combining, drawing, another, rounding, ending, nesting, done, acted, stepped, step, going, run}
use Rattle.machine_paths.proofs.Bounded.{with_left, Bounded}

cut_too : (w y : Went) (u : State) → Bounded w y → Bounded w (Stops Cut u)
cut_too (Goes t) y u h = (h.0, inr (u, refl))
cut_too (Stops x t) y u h = (h.0, h.1, inr (u, refl))

module _ (s : State) where
  abbrev free : State
  free = with_left s None

  abbrev bound : ℕ → State
  bound j = with_left s (Some j)

  goes : (j : ℕ) → Bounded (Goes free) (Goes (bound j))
  goes j = (refl, inl (j, refl))

  stops : (x : Stop) → x ≢ Cut → (j : ℕ) → Bounded (Stops x free) (Stops x (bound j))
  stops x ne j = (ne, refl, inl (j, refl))

  looks : (f : State → Went) → ((i : ℕ) → Bounded (f free) (f (bound i))) → (j : ℕ) → Bounded (look free f) (look (bound j) f)
  looks f h zero = cut_too (f free) (f (bound 0)) (bound 0) (h 0)
  looks f h (suc j) = h j

  turns : (limit : ℕ) (f : State → Went) → ((n i : ℕ) → Bounded (f (record free { turns = n })) (f (record (bound i) { turns = n }))) → (j : ℕ) → Bounded (turned limit free f) (turned limit (bound j) f)
  turns limit f h = looks (λ t. cond (nat_lt t.turns limit) (f (record t { turns = t.turns + 1 })) (Stops Spent t)) (λ i.
      elim (nat_lt s.turns limit) as (λ y. Bounded (cond y (f (record free { turns = s.turns + 1 })) (Stops Spent free)) (cond y (f (record (bound i) { turns = s.turns + 1 })) (Stops Spent (bound i)))) [
        | true ↦ h (s.turns + 1) i
        | false ↦ (λ e. cc, refl, inl (i, refl))
      ])

  enters : (limit : ℕ) (f : CodeSub) (to : ℕ) (kept : List ℤ) (n i : ℕ) → Bounded (entering limit f to kept (record free { turns = n })) (entering limit f to kept (record (bound i) { turns = n }))
  enters limit f to kept n i =
      elim (nat_lt s.calls 1000) as (λ y. Bounded
      (cond y (Goes (entered f to kept (record free { turns = n }))) (Goes (failed StorageError (cut (length s.stack - f.takes) s.stack) (record free { turns = n }))))
      (cond y (Goes (entered f to kept (record (bound i) { turns = n }))) (Goes (failed StorageError (cut (length s.stack - f.takes) s.stack) (record (bound i) { turns = n }))))) [
        | true ↦ (refl, inl (i, refl))
        | false ↦ (refl, inl (i, refl))
      ]

  calls : (limit : ℕ) (f : CodeSub) (to : ℕ) (kept : List ℤ) (j : ℕ) → Bounded (calling limit f to kept free) (calling limit f to kept (bound j))
  calls limit f to kept = turns limit (λ x. entering limit f to kept x) (λ n i. enters limit f to kept n i)

  fits_at : (f : CodeSub) (cell to : ℕ) (fit : Bool) (n i : ℕ) → Bounded
      (cond fit (Goes (entered_at f cell to (record free { turns = n }))) (Goes (failed ConstraintError s.stack (record free { turns = n }))))
      (cond fit (Goes (entered_at f cell to (record (bound i) { turns = n }))) (Goes (failed ConstraintError s.stack (record (bound i) { turns = n }))))
  fits_at f cell to true n i = (refl, inl (i, refl))
  fits_at f cell to false n i = (refl, inl (i, refl))

  enters_at : (limit : ℕ) (f : CodeSub) (cell to : ℕ) (fit : Bool) (n i : ℕ) → Bounded (entering_at limit f cell to fit (record free { turns = n })) (entering_at limit f cell to fit (record (bound i) { turns = n }))
  enters_at limit f cell to fit n i =
      elim (nat_lt s.calls 1000) as (λ y. Bounded
      (cond y (cond fit (Goes (entered_at f cell to (record free { turns = n }))) (Goes (failed ConstraintError s.stack (record free { turns = n })))) (Goes (failed StorageError s.stack (record free { turns = n }))))
      (cond y (cond fit (Goes (entered_at f cell to (record (bound i) { turns = n }))) (Goes (failed ConstraintError s.stack (record (bound i) { turns = n })))) (Goes (failed StorageError s.stack (record (bound i) { turns = n }))))) [
        | true ↦ fits_at f cell to fit n i
        | false ↦ (refl, inl (i, refl))
      ]

  nests : (limit j : ℕ) → Bounded (look free (nesting limit)) (look (bound j) (nesting limit))
  nests limit = looks (nesting limit) (λ i.
      elim (nat_lt s.nested 16) as (λ y. Bounded
      (cond y (Goes (on s.stack (record free { nest = s.nest + 1; nested = s.nested + 1 }))) (Goes (failed StorageError s.stack free)))
      (cond y (Goes (on s.stack (record (bound i) { nest = s.nest + 1; nested = s.nested + 1 }))) (Goes (failed StorageError s.stack (bound i))))) [
        | true ↦ (refl, inl (i, refl))
        | false ↦ (refl, inl (i, refl))
      ])

  raises : (r : Reason) (u : Option Unwind) (j : ℕ) → Bounded (raised r u free) (raised r u (bound j))
  raises r (Some u) j = looks (λ t. Goes (handled u r t)) (λ i. (refl, inl (i, refl))) j
  raises r None j = by_frames s.waiting where
    by_frames : (fs : List Frame) → Bounded (unwound r fs free) (unwound r fs (bound j))
    by_frames [] = (λ e. cc, refl, inl (j, refl))
    by_frames (f ∷ fs) = (refl, inl (j, refl))

  endings : (limit : ℕ) (v : Option ℤ) (st : List ℤ) (fs : List Frame) (j : ℕ) → Bounded (ending limit v st fs free) (ending limit v st fs (bound j))
  endings limit v st [] j = (λ e. cc, refl, inl (j, refl))
  endings limit v st (f ∷ fs) j = (refl, inl (j, refl))

calls_at : (limit : ℕ) (f : CodeSub) (cell to : ℕ) (fit : Bool) (st : List ℤ) (s : State) (j : ℕ) → Bounded (calling_at limit f cell to fit st (with_left s None)) (calling_at limit f cell to fit st (with_left s (Some j)))
calls_at limit f cell to fit st s j = turns s limit (λ x. entering_at limit f cell to fit (record x { stack = st })) (λ n i. enters_at (record s { stack = st }) limit f cell to fit n i) j

draws : (limit : ℕ) (parts : List ℤ) (s : State) (j : ℕ) → Bounded (drawing limit parts (with_left s None)) (drawing limit parts (with_left s (Some j)))
draws limit [] s j = (refl, inl (j, refl))
draws limit (part ∷ parts) s j = (refl, inl (j, refl))

another_bounded : (limit to head more : ℕ) (rs : List Round) (s : State) (j : ℕ) → Bounded (another limit to head more rs (with_left s None)) (another limit to head more rs (with_left s (Some j)))
another_bounded limit to head zero rs s j = (refl, inl (j, refl))
another_bounded limit to head (suc n) rs s j =
    elim (nat_eq head to) as (λ y. Bounded
    (cond y (Goes (moved_to to s.stack (record (with_left s None) { rounds = record { more = n; head = head } ∷ rs }))) (Goes (on s.stack (record (with_left s None) { rounds = rs }))))
    (cond y (Goes (moved_to to s.stack (record (with_left s (Some j)) { rounds = record { more = n; head = head } ∷ rs }))) (Goes (on s.stack (record (with_left s (Some j)) { rounds = rs }))))) [
      | true ↦ (refl, inl (j, refl))
      | false ↦ (refl, inl (j, refl))
    ]

rounds_bounded : (limit to : ℕ) (rs : List Round) (s : State) (j : ℕ) → Bounded (rounding limit to rs (with_left s None)) (rounding limit to rs (with_left s (Some j)))
rounds_bounded limit to [] s j = (refl, inl (j, refl))
rounds_bounded limit to (r ∷ rs) s j = another_bounded limit to r.head r.more rs s j

combines : (limit : ℕ) (f : CodeSub) (acc : ℤ) (st parts : List ℤ) (s : State) (j : ℕ) → Bounded (combining limit f acc st parts (with_left s None)) (combining limit f acc st parts (with_left s (Some j)))
combines limit f acc st [] s j = (refl, inl (j, refl))
combines limit f acc st (part ∷ parts) s j = turns s limit (λ x. entering limit f x.pc parts (record x { stack = part ∷ acc ∷ st })) (λ n i. enters (record s { stack = part ∷ acc ∷ st }) limit f s.pc parts n i) j

does : (limit : ℕ) (d : Deed) (s : State) (j : ℕ) → Bounded (done limit d (with_left s None)) (done limit d (with_left s (Some j)))
does limit Lacks s j = (λ e. cc, refl, inl (j, refl))
does limit (GoesOn to st) s j = (refl, inl (j, refl))
does limit (Fails r st) s j = (refl, inl (j, refl))
does limit (Loads a h) s j =
    elim (seen s.cells a) as (λ o. Bounded (with_value o (with_left s None) (λ v. done limit (h v) (with_left s None))) (with_value o (with_left s (Some j)) (λ v. done limit (h v) (with_left s (Some j))))) [
      | None ↦ (λ e. cc, refl, inl (j, refl))
      | Some v ↦ does limit (h v) s j
    ]
does limit (Stores a v d) s j =
    elim (written s.cells a v) as (λ o. Bounded (with_cells o (with_left s None) (λ t. done limit d t)) (with_cells o (with_left s (Some j)) (λ t. done limit d t))) [
      | None ↦ (λ e. cc, refl, inl (j, refl))
      | Some ds ↦ does limit d (record s { cells = ds }) j
    ]
does limit (Points a d) s j =
    elim (points s.cells a) as (λ o. Bounded (if_pointing o (with_left s None) (done limit d (with_left s None))) (if_pointing o (with_left s (Some j)) (done limit d (with_left s (Some j))))) [
      | false ↦ (λ e. cc, refl, inl (j, refl))
      | true ↦ does limit d s j
    ]
does limit Turns s j = turns s limit (λ t. Goes (on t.stack t)) (λ n i. (refl, inl (i, refl))) j
does limit (Calls f) s j = calls s limit f (s.pc + 1) s.kept j
does limit (CallsAt f cell to fit st) s j = calls_at limit f cell to fit st s j
does limit Draws s j = draws limit s.kept s j
does limit (Repeats n) s j = (refl, inl (j, refl))
does limit (Rounds to) s j = rounds_bounded limit to s.rounds s j
does limit (Combines f acc st) s j = combines limit f acc st s.kept s j
does limit (Ends v st) s j = endings s limit v st s.waiting j
does limit (Leaves l st) s j = (λ e. cc, refl, inl (j, refl))
does limit (Forks q st) s j = (λ e. cc, refl, inl (j, refl))
does limit Nests s j = nests s limit j
does limit Unnests s j = (refl, inl (j, refl))
does limit (Writes text st) s j = (refl, inl (j, refl))
does limit (Sends feed) s j = (λ e. cc, refl, inl (j, refl))
does limit Gets s j = (λ e. cc, refl, inl (j, refl))
does limit (Gives v st) s j = (λ e. cc, refl, inl (j, refl))

pub steps_bounded : (limit : ℕ) (code : Code) (s : State) (j : ℕ) → Bounded (step limit code (with_left s None)) (step limit code (with_left s (Some j)))
steps_bounded limit code s j = by_raise s.raising where
  by_instr : (i : Option Instr) → Bounded (acted limit code i (with_left s None)) (acted limit code i (with_left s (Some j)))
  by_instr None = (λ e. cc, refl, inl (j, refl))
  by_instr (Some i) = does limit (deed_of code s.pc s.stack s.base s.outward i) s j

  by_raise : (r : Option Reason) → Bounded (stepped limit code r (with_left s None)) (stepped limit code r (with_left s (Some j)))
  by_raise None = by_instr (slice_get code.instrs s.pc)
  by_raise (Some r) = raises s r (entry_of code.unwind s.pc) j

pub runs_bounded : (limit : ℕ) (code : Code) (n : ℕ) (s : State) (j : ℕ) → Bounded (run limit code n (with_left s None)) (run limit code n (with_left s (Some j)))
runs_bounded limit code zero s j = (refl, inl (j, refl))
runs_bounded limit code (suc n) s j =
    elim (step limit code (with_left s None)) as (λ w. Bounded w (step limit code (with_left s (Some j))) → Bounded (going limit code w (λ t. run limit code n t)) (run limit code (suc n) (with_left s (Some j)))) [
      | Goes t ↦ λ h.
          let same : with_left t None ≡ t = λ i. with_left t (sym h.0 i) in
          elim h.1 as (λ _. Bounded (run limit code n t) (run limit code (suc n) (with_left s (Some j)))) [
            | inl g ↦ subst (λ y. Bounded (run limit code n t) (going limit code y (λ t. run limit code n t))) (sym g.1) (subst (λ z. Bounded (run limit code n z) (run limit code n (with_left t (Some g.0)))) same (runs_bounded limit code n t g.0))
            | inr g ↦ subst (λ y. Bounded (run limit code n t) (going limit code y (λ t. run limit code n t))) (sym g.1) (cut_too (run limit code n t) (run limit code n (with_left t (Some 0))) g.0 (subst (λ z. Bounded (run limit code n z) (run limit code n (with_left t (Some 0)))) same (runs_bounded limit code n t 0)))
          ]
      | Stops x t ↦ λ h. (
        h.0,
        h.1,
        elim h.2 as (λ _. ((i : ℕ) × (run limit code (suc n) (with_left s (Some j)) ≡ Stops x (with_left t (Some i)))) ⊎ ((u : State) × (run limit code (suc n) (with_left s (Some j)) ≡ Stops Cut u))) [
          | inl g ↦ inl (g.0, ap (λ y. going limit code y (λ t. run limit code n t)) g.1)
          | inr g ↦ inr (g.0, ap (λ y. going limit code y (λ t. run limit code n t)) g.1)
        ],
      )
    ] (steps_bounded limit code s j)
