-- The one run that takes the threads of each construct in order.
use Rattle.std.specs.Prelude.{length, ℕ, max, ℤ, nat_lt, List, [], ◌∷◌, ◌++◌, Option, Some, None, Bool, true, false, ◌||◌, cond}
use Rattle.ada_base.specs.declared.reason.Reason.TheVariants as reason
use Rattle.typed_tree.specs.declared.scalars.Scalar.{Scalar}
use Rattle.typed_tree.specs.declared.expressions.Reducer.{Reducer}
use Rattle.ada_base.specs.Input.{Held}
use Rattle.behaviours.specs.Doings.{Doings, through, onto, folded}
use Rattle.behaviours.specs.Paths.{Leave, Raises, Entity, VariableOf, Region, Instance, End, Gives, Leaves, Spent, Stopped, Path, Scope, find, declares, apart_of, one_turn, one_taken, one_elaboration, enter, leave, joined}
use Rattle.behaviours.specs.Memory.{Memory, put, put_all, hold}
use Rattle.behaviours.specs.Joins.{Site, Share, deal}
use Rattle.ada_meaning.specs.Operations.{CheckKind, Cut, chunk_of, ByPlan, Sized, Operations, reduce}

-- a parallel reduction that was done
pub record Noted : Type 0 where
  pub by : Reducer
  pub initial : ℤ
  pub values : List ℤ

-- what a run comes to: also whether a construct was left by one of its threads, and its reductions
pub record Result (A : Type 0) : Type 0 where
  pub path : Path Instance
  pub memory : Memory
  pub output : List ℕ
  pub early : Bool
  pub noted : List Noted
  pub end : End A

abbrev pub Planned : Type 0 → Type 0
Planned A = Scope Instance → Path Instance → Memory → Result A

abbrev pub plain : {A : Type 0} → Path Instance → Memory → End A → Result A
plain p m e = record { path = p; memory = m; output = []; early = false; noted = []; end = e }

-- the same with another end
abbrev pub ending : {A B : Type 0} → Result A → End B → Result B
ending r e = record { path = r.path; memory = r.memory; output = r.output; early = r.early; noted = r.noted; end = e }

-- one result and then another
abbrev pub continued : {A B : Type 0} → Result A → Result B → Result B
continued r s = record { path = s.path; memory = s.memory; output = r.output ++ s.output; early = r.early || s.early; noted = r.noted ++ s.noted; end = s.end }

abbrev pub next : {A B : Type 0} → Scope Instance → Result A → End A → (A → Planned B) → Result B
next s r (Gives a) k = continued r (k a s r.path r.memory)
next s r (Leaves x) k = ending r (Leaves x)
next s r Spent k = ending r Spent
next s r Stopped k = ending r Stopped

abbrev pub ret : {A : Type 0} → A → Planned A
ret a s p m = plain p m (Gives a)

infixl 10 ◌>>=◌
abbrev pub ◌>>=◌ : {A B : Type 0} → Planned A → (A → Planned B) → Planned B
◌>>=◌ g k s p m = let r = g s p m in next s r r.end k

abbrev pub leaves : {A : Type 0} → Leave → Planned A
leaves x s p m = plain p m (Leaves x)

abbrev pub spent : {A : Type 0} → Planned A
spent s p m = plain p m Spent

-- an object that isn't visible, and a cell that it hasn't, can't be named
abbrev pub where_found : {A : Type 0} → (Instance → Planned A) → Option Instance → Planned A
where_found f None = leaves (Raises reason.ProgramError)
where_found f (Some x) = f x

abbrev pub reads : Entity → ℕ → Scalar → Planned ℤ
reads object i cell s = where_found (λ x t p m. plain p m (Gives (m.cells x i))) (find s object i) s

abbrev pub writes : ℕ → ℕ → ℤ → Planned (Unit {0})
writes object i v s = where_found (λ x t p m. plain p (put m x i v) (Gives tt)) (find s (VariableOf object) i) s

abbrev pub here : Entity → Path Instance → Instance
here object p = record { thread = p.name; number = p.elaborations; object = object }

abbrev pub elaborates : {A : Type 0} → Region → Entity → List ℤ → Planned A → Planned A
elaborates region object cells g s p m = let x = here object p in g (declares region object x (length cells) s) (one_elaboration region x p) (put_all m x 0 cells)

abbrev pub apart : {A : Type 0} → Planned A → Planned A
apart g s = g (apart_of s)

abbrev pub turn : ℕ → Planned (Unit {0})
turn limit s p m = cond (nat_lt p.turns limit) (plain (one_turn p) m (Gives tt)) (plain p m Spent)

abbrev pub look : Planned (Unit {0})
look s p m = plain p m (Gives tt)

abbrev pub checks : CheckKind → ℕ → Bool → Planned (Unit {0})
checks kind at true = ret tt
checks kind at false = leaves (Raises reason.ConstraintError)

abbrev pub handled : {A : Type 0} → Scope Instance → Result A → End A → (Leave → Bool) → (Leave → Planned A) → Result A
handled s r (Gives a) takes h = r
handled s r (Leaves x) takes h = cond (takes x) (continued r (h x s r.path r.memory)) r
handled s r Spent takes h = r
handled s r Stopped takes h = r

abbrev pub handles : {A : Type 0} → Planned A → (Leave → Bool) → (Leave → Planned A) → Planned A
handles g takes h s p m = let r = g s p m in handled s r r.end takes h

abbrev pub puts : List ℕ → Planned (Unit {0})
puts piece s p m = record { path = p; memory = m; output = piece; early = false; noted = []; end = Gives tt }

abbrev pub recalls : Planned Held
recalls s p m = plain p m (Gives m.held)

abbrev pub keeps : Held → Planned (Unit {0})
keeps h s p m = plain p (hold m h) (Gives tt)

abbrev pub takes : Planned (Option ℕ)
takes s p m = plain (one_taken p) m (Gives (m.input p.taken))

-- threads

-- the end of a thread before those of others
abbrev pub before : {A : Type 0} → End A → End (List A) → End (List A)
before (Gives a) (Gives more) = Gives (a ∷ more)
before (Gives a) (Leaves x) = Leaves x
before (Gives a) Spent = Spent
before (Gives a) Stopped = Stopped
before (Leaves x) e = Leaves x
before Spent (Gives more) = Spent
before Spent (Leaves x) = Leaves x
before Spent Spent = Spent
before Spent Stopped = Stopped
before Stopped e = Stopped

abbrev pub with_turns : Path Instance → ℕ → Path Instance
with_turns p n = record p { turns = n }

abbrev pub both : {A : Type 0} → Result A → Result (List A) → Result (List A)
both r s = record {
  path = with_turns r.path (max r.path.turns s.path.turns);
  memory = s.memory;
  output = r.output ++ s.output;
  early = r.early || s.early;
  noted = r.noted ++ s.noted;
  end = before r.end s.end;
}

-- the threads after one that was left aren't begun
abbrev pub follow : {A : Type 0} → Path Instance → Result A → End A → (Memory → Result (List A)) → Result (List A)
follow p r (Gives a) rest = both r (rest r.memory)
follow p r (Leaves x) rest = record { path = with_turns r.path (max r.path.turns p.turns); memory = r.memory; output = r.output; early = true; noted = r.noted; end = Leaves x }
follow p r Spent rest = both r (rest r.memory)
follow p r Stopped rest = record { path = r.path; memory = r.memory; output = r.output; early = true; noted = r.noted; end = Stopped }

abbrev pub threads : {A : Type 0} → (Share → Path Instance → Memory → Result A) → Path Instance → List Share → Memory → Result (List A)
threads body p [] m = plain p m (Gives [])
threads body p (j ∷ js) m = let r = body j p m in follow p r r.end (λ m'. threads body p js m')

abbrev pub closed : {A : Type 0} → Path Instance → Result A → Result A
closed p r = record { path = joined p r.path.turns; memory = r.memory; output = r.output; early = r.early; noted = r.noted; end = r.end }

abbrev pub par : {A : Type 0} → List Share → (Share → Planned A) → Planned (List A)
par js body s p m = closed p (threads (λ j. body j s) p js m)

abbrev pub back_in : {A : Type 0} → Path Instance → Result A → Result A
back_in p r = record { path = leave p r.path; memory = r.memory; output = r.output; early = r.early; noted = r.noted; end = r.end }

abbrev pub within : {A : Type 0} → ℕ → Planned A → Planned A
within i g s p m = back_in p (g s (enter i p) m)

abbrev pub doings : Doings {0}
doings = record { Doing = Planned; ret = ret; ◌>>=◌ = ◌>>=◌ }

-- what a thread of a loop or block does, and one of a reduction
abbrev pub loop_thread : (ℕ → ℕ → Planned (Unit {0})) → Share → Planned (Unit {0})
loop_thread body c = within c.number (through doings c.first c.size tt (λ i _. body c.number i))

abbrev pub fold_thread : Reducer → ℕ → ℤ → (ℕ → ℕ → Planned (Option ℤ)) → (ℤ → ℤ → Planned ℤ) → Share → Planned ℤ
fold_thread by at initial value call c = within c.number (through doings c.first c.size initial (λ i so_far. value c.number i >>= folded doings (reduce doings checks by at call) so_far))

module _ (limit : ℕ) (cuts : ℕ → ℕ → List ℕ) where
  abbrev pub sizes_of : Cut → List ℕ
  sizes_of (ByPlan most n) = cuts most n
  sizes_of (Sized sizes) = sizes

  abbrev pub loops : Site → Cut → (ℕ → ℕ → Planned (Unit {0})) → Planned (Unit {0})
  loops site cut body = par (deal 0 0 (sizes_of cut)) (loop_thread (λ j. body (chunk_of cut j))) >>= λ _. ret tt

  abbrev pub combined : ℤ → List ℤ → (ℤ → ℤ → Planned ℤ) → Planned ℤ
  combined initial [] f = ret initial
  combined initial (a ∷ more) f = onto doings a more f

  abbrev pub reduces : Site → Cut → Reducer → ℕ → ℤ → (ℕ → ℕ → Planned (Option ℤ)) → (ℤ → ℤ → Planned ℤ) → (ℤ → ℤ → Planned ℤ) → Planned ℤ
  reduces site cut by at initial value call combine =
      par (deal 0 0 (sizes_of cut)) (fold_thread by at initial (λ j. value (chunk_of cut j)) call)
      >>= λ accumulators. combined initial accumulators (reduce doings checks by at combine)

  abbrev pub operations : Operations {0}
  operations = record {
    doings = doings;
    reads = reads;
    writes = writes;
    elaborates = elaborates;
    apart = apart;
    turn = turn limit;
    look = look;
    checks = checks;
    leaves = leaves;
    spent = spent;
    handles = handles;
    puts = puts;
    recalls = recalls;
    keeps = keeps;
    takes = takes;
    loops = loops;
    reduces = reduces;
  }
