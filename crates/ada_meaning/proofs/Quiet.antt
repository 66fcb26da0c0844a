-- Behaviours that take no input and put nothing out.
use Rattle.std.proofs.Common.{ℕ, zero, suc, ℤ, List, [], ◌∷◌, ◌++◌, sym, ◌⊎◌, inl, inr, ⊎_elim, Option, Some, None, Bool, true, false, subst}
use Rattle.ada_base.specs.declared.reason.Reason.TheVariants as reason
use Rattle.typed_tree.specs.declared.scalars.Scalar.{Scalar}
use Rattle.behaviours.specs.Doings.{through, onto}
use Rattle.behaviours.specs.Paths.{Leave, Raises, Entity, VariableOf, Region, Instance, End, Path, Scope, find, enter}
use Rattle.behaviours.specs.Events.{Event, Writes, Trace, Has, IsInputOutput}
use Rattle.behaviours.specs.Behaviours.{Behaviour, Did}
use Rattle.ada_meaning.specs.Operations.{CheckKind}
use Rattle.behaviours.specs.Behaviours
use Rattle.ada_meaning.specs.Runs
use Rattle.ada_meaning.specs.Runs.{anything}
use Rattle.ada_meaning.specs.Programs.{this}

abbrev pub Quiet : {A : Type 0} → Behaviour Instance A → Type 0
Quiet {A} b = (s : Scope Instance) (p : Path Instance) (tr : Trace Instance) (y : Bool) (p' : Path Instance) (e : End A) → b.runs s p tr y p' e → Has IsInputOutput tr → ⊥

has_append : (F : Event Instance → Type 0) (t u : Trace Instance) → Has F (t ++ u) → Has F t ⊎ Has F u
has_append F [] u h = inr h
has_append F (a ∷ t) u (inl h) = inl (inl h)
has_append F (a ∷ t) u (inr h) = ⊎_elim (λ k. inl (inr k)) inr (has_append F t u h)

pub did_quiet : {A : Type 0} (p : Path Instance) (act : Trace Instance) (q : Path Instance) (end : End A) (tr : Trace Instance) (y : Bool) (p' : Path Instance) (e : End A) → (Has IsInputOutput act → ⊥) → Did p act q end tr y p' e → Has IsInputOutput tr → ⊥
did_quiet p act q end tr y p' e none (z, inl d) h = none (subst (λ z. Has IsInputOutput z) d.0 h)
did_quiet p act q end tr y p' e none (z, inr d) h = subst (λ z. Has IsInputOutput z) d.0 h

pub bind_quiet : {A B : Type 0} (b : Behaviour Instance A) (k : A → Behaviour Instance B) → Quiet b → ((a : A) → Quiet (k a)) → Quiet (Behaviours.◌>>=◌ b k)
bind_quiet b k q r s p tr y p' e (inl (a, mid, front, back, x, z, eq, ey, one, two)) h = ⊎_elim (q s p front x mid _ one) (r a s mid back z p' e two) (has_append IsInputOutput front back (subst (λ z. Has IsInputOutput z) eq h))
bind_quiet b k q r s p tr y p' e (inr (end, c, one)) h = q s p tr y p' end one h

pub handles_quiet : {A : Type 0} (b : Behaviour Instance A) (takes : Leave → Bool) (k : Leave → Behaviour Instance A) → Quiet b → ((x : Leave) → Quiet (k x)) → Quiet (Behaviours.handles b takes k)
handles_quiet b takes k q r s p tr y p' e (inl (how, mid, front, back, x, z, eq, ey, one, t, two)) h = ⊎_elim (q s p front x mid _ one) (r how s mid back z p' e two) (has_append IsInputOutput front back (subst (λ z. Has IsInputOutput z) eq h))
handles_quiet b takes k q r s p tr y p' e (inr (one, u)) h = q s p tr y p' e one h

pub turn_quiet : (limit : ℕ) → Quiet (Behaviours.turn limit)
turn_quiet limit s p tr y p' e (inl (lt, d)) h = did_quiet p [] _ _ tr y p' e (λ k. k) d h
turn_quiet limit s p tr y p' e (inr (le, d)) h = did_quiet p [] _ _ tr y p' e (λ k. k) d h

pub within_quiet : {A : Type 0} (i : ℕ) (b : Behaviour Instance A) → Quiet b → Quiet (Behaviours.within i b)
within_quiet i b q s p tr y p' e (r, eq, one) h = q s (enter i p) tr y r e one h

pub ret_quiet : {A : Type 0} (a : A) → Quiet (Behaviours.ret a)
ret_quiet a s p tr y p' e d h = did_quiet p [] p _ tr y p' e (λ k. k) d h

pub through_quiet : {A : Type 0} (first size : ℕ) (a : A) (f : ℕ → A → Behaviour Instance A) → ((i : ℕ) (b : A) → Quiet (f i b)) → Quiet (through (Behaviours.doings Instance) first size a f)
through_quiet first zero a f q = ret_quiet a
through_quiet first (suc size) a f q = bind_quiet (f first a) (λ b. through (Behaviours.doings Instance) (suc first) size b f) (q first a) (λ b. through_quiet (suc first) size b f q)

pub onto_quiet : (a : ℤ) (more : List ℤ) (f : ℤ → ℤ → Behaviour Instance ℤ) → ((b c : ℤ) → Quiet (f b c)) → Quiet (onto (Behaviours.doings Instance) a more f)
onto_quiet a [] f q = ret_quiet a
onto_quiet a (b ∷ more) f q = bind_quiet (f a b) (λ c. onto (Behaviours.doings Instance) c more f) (q a b) (λ c. onto_quiet c more f q)

pub leaves_quiet : {A : Type 0} (x : Leave) → Quiet (Behaviours.leaves {P = Instance} {A = A} x)
leaves_quiet x s p tr y p' e d h = did_quiet p [] p _ tr y p' e (λ k. k) d h

pub spent_quiet : {A : Type 0} → Quiet (Behaviours.spent {P = Instance} {A = A})
spent_quiet s p tr y p' e d h = did_quiet p [] p _ tr y p' e (λ k. k) d h

pub emits_quiet : (a : Event Instance) → (IsInputOutput a → ⊥) → Quiet (Behaviours.emits a)
emits_quiet a none s p tr y p' e d h = did_quiet p (a ∷ []) p _ tr y p' e (λ k. ⊎_elim none (λ z. z) k) d h

pub where_quiet : {A : Type 0} (f : Instance → Behaviour Instance A) → ((x : Instance) → Quiet (f x)) → (x : Option Instance) → Quiet (Behaviours.where_found f x)
where_quiet f q None = leaves_quiet (Raises reason.ProgramError)
where_quiet f q (Some x) = q x

pub checks_quiet : (kind : CheckKind) (at : ℕ) (holds : Bool) → Quiet (Runs.checks {P = Instance} kind at holds)
checks_quiet kind at true = ret_quiet tt
checks_quiet kind at false = leaves_quiet (Raises reason.ConstraintError)

pub reads_quiet : (x : Entity) (i : ℕ) (cell : Scalar) → Quiet (Runs.reads anything x i cell)
reads_quiet x i cell s = where_quiet _ (λ l t p tr y p' e d h. ⊎_elim (λ r. did_quiet p _ p _ tr y p' e (λ k. ⊎_elim (λ z. z) (λ z. z) k) r.2 h) (λ u. subst (λ z. Has IsInputOutput z) u.0 h) d) (find s x i) s

pub writes_quiet : (x i : ℕ) (v : ℤ) → Quiet (Behaviours.writes {P = Instance} x i v)
writes_quiet x i v s = where_quiet _ (λ l. emits_quiet (Writes l i v) (λ z. z)) (find s (VariableOf x) i) s

fillings_quiet : (x : Instance) (i : ℕ) (vs : List ℤ) → Has IsInputOutput (Behaviours.fillings x i vs) → ⊥
fillings_quiet x i [] h = h
fillings_quiet x i (v ∷ vs) (inl h) = h
fillings_quiet x i (v ∷ vs) (inr h) = fillings_quiet x (suc i) vs h

pub has_front : (F : Event Instance → Type 0) (t u : Trace Instance) → Has F t → Has F (t ++ u)
has_front F [] u h = absurd h
has_front F (a ∷ t) u (inl h) = inl h
has_front F (a ∷ t) u (inr h) = inr (has_front F t u h)

pub elaborates_quiet : {A : Type 0} (limit : ℕ) (cuts : ℕ → ℕ → List ℕ) (one : Bool) (region : Region) (x : Entity) (vs : List ℤ) (b : Behaviour Instance A) → Quiet b → Quiet (Behaviours.elaborates this region x vs b)
elaborates_quiet limit cuts one region x vs b q s p tr y p' e (inl (rest, eq, run)) h =
    ⊎_elim (fillings_quiet _ 0 vs) (q _ _ rest y p' e run) (has_append IsInputOutput (Behaviours.fillings _ 0 vs) rest (subst (λ z. Has IsInputOutput z) eq h))
elaborates_quiet limit cuts one region x vs b q s p tr y p' e (inr (ey, ep, ee, (rest, eq))) h =
    fillings_quiet _ 0 vs (subst (λ z. Has IsInputOutput z) (sym eq) (has_front IsInputOutput tr rest h))
