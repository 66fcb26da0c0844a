-- The runs of a program's text: the language's operations as behaviours.
use Rattle.std.specs.Prelude.{ℕ, ℤ, List, [], ◌∷◌, Option, Bool, true, false, IsTrue}
use Rattle.ada_base.specs.declared.reason.Reason.TheVariants as reason
use Rattle.typed_tree.specs.declared.scalars.Scalar.{Scalar}
use Rattle.typed_tree.specs.declared.expressions.Reducer.{Reducer}
use Rattle.behaviours.specs.Doings.{through, onto, folded}
use Rattle.behaviours.specs.Paths.{Raises, Entity, Instance}
use Rattle.behaviours.specs.Events.{Keeps, Puts, Looks}
use Rattle.behaviours.specs.Joins.{Site, Share, deal}
use Rattle.behaviours.specs.Behaviours
use Rattle.behaviours.specs.Behaviours.{Behaviour, Asks, doings, ret, ◌>>=◌, leaves, spent, emits, writes, apart, turn, handles, recalls, takes, within, elaborates, par}
use Rattle.ada_meaning.specs.Values.{is_in}
use Rattle.ada_meaning.specs.Operations.{CheckKind, Cut, chunk_of, ByPlan, Sized, Operations, reduce}

abbrev pub checks : {P : Type 0} → CheckKind → ℕ → Bool → Behaviour P (Unit {0})
checks kind at true = ret tt
checks kind at false = leaves (Raises reason.ConstraintError)

-- what a thread of a loop or block does, and one of a reduction
abbrev pub loop_thread : {P : Type 0} → (ℕ → ℕ → Behaviour P (Unit {0})) → Share → Behaviour P (Unit {0})
loop_thread {P} body c = within c.number (through (doings P) c.first c.size tt (λ i _. body c.number i))

abbrev pub fold_thread : {P : Type 0} → Reducer → ℕ → ℤ → (ℕ → ℕ → Behaviour P (Option ℤ)) → (ℤ → ℤ → Behaviour P ℤ) → Share → Behaviour P ℤ
fold_thread {P} by at initial value call c = within c.number (through (doings P) c.first c.size initial (λ i so_far. value c.number i >>= folded (doings P) (reduce (doings P) checks by at call) so_far))

-- what a read may give: a value of the cell's subtype (3.5), or any. A consistent run reads what the memory has
abbrev pub of_subtype : Scalar → ℤ → Type 0
of_subtype cell v = IsTrue (is_in cell v)

abbrev pub anything : Scalar → ℤ → Type 0
anything cell v = Unit {0}

-- any value that is admitted for a cell of the subtype
abbrev pub reads : {P : Type 0} → (Scalar → ℤ → Type 0) → Entity → ℕ → Scalar → Behaviour P ℤ
reads admits object i cell = Behaviours.reads (admits cell) object i

module _ (P : Type 0) (new : Instance → P) (admits : Scalar → ℤ → Type 0) (asks : Asks P) (limit : ℕ) (cuts : ℕ → ℕ → List ℕ) (one : Bool) where
  abbrev pub sizes_of : Cut → List ℕ
  sizes_of (ByPlan most n) = cuts most n
  sizes_of (Sized sizes) = sizes

  abbrev pub loops : Site → Cut → (ℕ → ℕ → Behaviour P (Unit {0})) → Behaviour P (Unit {0})
  loops site cut body = par asks one site (deal 0 0 (sizes_of cut)) (loop_thread (λ j. body (chunk_of cut j))) >>= λ _. ret tt

  -- the accumulators are combined from left to right; where there is none it is the initial value
  abbrev pub combined : ℤ → List ℤ → (ℤ → ℤ → Behaviour P ℤ) → Behaviour P ℤ
  combined initial [] f = ret initial
  combined initial (a ∷ more) f = onto (doings P) a more f

  abbrev pub reduces : Site → Cut → Reducer → ℕ → ℤ → (ℕ → ℕ → Behaviour P (Option ℤ)) → (ℤ → ℤ → Behaviour P ℤ) → (ℤ → ℤ → Behaviour P ℤ) → Behaviour P ℤ
  reduces site cut by at initial value call combine =
      par asks one site (deal 0 0 (sizes_of cut)) (fold_thread by at initial (λ j. value (chunk_of cut j)) call)
      >>= λ accumulators. combined initial accumulators (reduce (doings P) checks by at combine)

  abbrev pub operations : Operations {1}
  operations = record {
    doings = doings P;
    reads = reads admits;
    writes = writes;
    elaborates = elaborates new;
    apart = apart;
    turn = turn limit;
    look = emits Looks;
    checks = checks;
    leaves = leaves;
    spent = spent;
    handles = handles;
    puts = λ piece. emits (Puts piece);
    recalls = recalls;
    keeps = λ h. emits (Keeps h);
    takes = takes;
    loops = loops;
    reduces = reduces;
  }
