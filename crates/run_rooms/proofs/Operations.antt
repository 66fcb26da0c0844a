-- What is done with tables of so many slots keeps their lengths, and lacks no slot.
use Rattle.std.proofs.Common.{◌≡◌, ℕ, zero, suc, ◌+◌, ◌<◌, ◌≤◌, ℤ, nat_lt, List, [], ◌∷◌, length, set, Option, Some, None, Result, Ok, Err, Bool, true, false, cond, sym, subst, arith}
use Rattle.std.proofs.lemmas.Bool.{lt-ltb}
use Rattle.std.proofs.lemmas.List.{length-set}
use Rattle.ada_base.specs.declared.reason.Reason.TheVariants as reason
use Rattle.behaviours.specs.Paths.{Leave, Raises, Entity, VariableOf, Region, Everywhere, Here}
use Rattle.ada_meaning.specs.Operations.{CheckKind}
use Rattle.ada_meaning.specs.declared.slots.Slot.{Slot}
use Rattle.ada_meaning.specs.Stored
use Rattle.ada_meaning.specs.Stored.{State, Cause, Left, OutOfTurns, NoRoom, CutOff, Misnoted, After, at, Address, Kept, Stacked, Stored, cell_at, next, handled, begun, ended, has_room, place_of, written_at, read_at, value_read, taken_from, slot_at, key}

-- both tables have as many slots, or more
abbrev pub Long : ℕ → State → Type 0
Long n s = (n ≤ length s.here) × (n ≤ length s.everywhere)

-- an end for which no slot was lacking; of a value that is told
abbrev pub Ends : {A : Type 0} → (A → Type 0) → Result A Cause → Type 0
Ends P (Ok a) = P a
Ends P (Err (Left x)) = Unit {0}
Ends P (Err OutOfTurns) = Unit {0}
Ends P (Err NoRoom) = ⊥
Ends P (Err CutOff) = Unit {0}
Ends P (Err Misnoted) = Unit {0}

abbrev pub Any : {A : Type 0} → A → Type 0
Any a = Unit {0}

abbrev pub Fits : {A : Type 0} → ℕ → (A → Type 0) → After A → Type 0
Fits n P r = Long n r.state × Ends P r.end

-- from tables with so many slots on it lacks none
pub record Has {A : Type 0} (n : ℕ) (P : A → Type 0) (m : Stored A) : Type 0 where
  pub fits : (s : State) → Long n s → Fits n P (m.does s)

pub loosely : {A : Type 0} {n : ℕ} {P : A → Type 0} {m : Stored A} → Has n P m → Has n Any m
loosely {A} {n} {P} {m} h = record { fits = λ s l. let k = h.fits s l in (k.0, go (m.does s).end k.1) }
  where
    go : (e : Result A Cause) → Ends P e → Ends Any e
    go (Ok a) p = tt
    go (Err (Left x)) p = tt
    go (Err OutOfTurns) p = tt
    go (Err NoRoom) p = p
    go (Err CutOff) p = tt
    go (Err Misnoted) p = tt

-- what is done at once

pub ret_has : {A : Type 0} {n : ℕ} {P : A → Type 0} (a : A) → P a → Has n P (Stored.ret a)
unfolding Stored.ret
ret_has a p = record { fits = λ s l. (l, p) }

pub leaves_has : {A : Type 0} {n : ℕ} {P : A → Type 0} (x : Leave) → Has n P (Stored.leaves {A = A} x)
unfolding Stored.leaves
leaves_has x = record { fits = λ s l. (l, tt) }

pub spent_has : {A : Type 0} {n : ℕ} {P : A → Type 0} → Has n P (Stored.spent {A = A})
unfolding Stored.spent
spent_has = record { fits = λ s l. (l, tt) }

pub misnoted_has : {A : Type 0} {n : ℕ} {P : A → Type 0} → Has n P (Stored.misnoted {A = A})
unfolding Stored.misnoted
misnoted_has = record { fits = λ s l. (l, tt) }

pub checks_has : {n : ℕ} (kind : CheckKind) (token : ℕ) (holds : Bool) → Has n Any (Stored.checks kind token holds)
checks_has kind token true = ret_has tt tt
checks_has kind token false = leaves_has (Raises reason.ConstraintError)

pub turn_has : {n : ℕ} (limit : ℕ) → Has n Any (Stored.turn limit)
unfolding Stored.turn
turn_has {n} limit = record { fits = λ s l. go s l (nat_lt s.turns limit) }
  where
    go : (s : State) → Long n s → (c : Bool) → let r : After (Unit {0}) = cond c (at (record s { turns = s.turns + 1 }) (Ok tt)) (at s (Err OutOfTurns)) in Fits n Any r
    go s l true = (l, tt)
    go s l false = (l, tt)

pub look_has : {n : ℕ} → Has n Any Stored.look
unfolding Stored.look
look_has {n} = record { fits = λ s l. go s l s.left }
  where
    go : (s : State) → Long n s → (left : Option ℕ) → Fits n Any (Stored.looked s left)
    go s l None = (l, tt)
    go s l (Some zero) = (l, tt)
    go s l (Some (suc k)) = (l, tt)

pub reads_has : {n : ℕ} (x : Entity) (i : ℕ) → Has n Any (Stored.reads x i)
unfolding Stored.reads
reads_has {n} x i = record { fits = λ s l. go s l (place_of s x i) }
  where
    of_value : (s : State) → Long n s → (v : Option ℤ) → Fits n Any (value_read s v)
    of_value s l None = (l, tt)
    of_value s l (Some v) = (l, tt)

    go : (s : State) → Long n s → (a : Option Address) → Fits n Any (read_at s a)
    go s l None = (l, tt)
    go s l (Some a) = of_value s l (cell_at s a)

pub writes_has : {n : ℕ} (x i : ℕ) (v : ℤ) → Has n Any (Stored.writes x i v)
unfolding Stored.writes
writes_has {n} x i v = record { fits = λ s l. go s l (place_of s (VariableOf x) i) }
  where
    go : (s : State) → Long n s → (a : Option Address) → Fits n Any (written_at s a v)
    go s l None = (l, tt)
    go s l (Some (Kept a)) = (l, tt)
    go s l (Some (Stacked a)) = (l, tt)

pub puts_has : {n : ℕ} (piece : List ℕ) → Has n Any (Stored.puts piece)
unfolding Stored.puts
puts_has piece = record { fits = λ s l. (l, tt) }

pub recalls_has : {n : ℕ} → Has n Any Stored.recalls
unfolding Stored.recalls
recalls_has = record { fits = λ s l. (l, tt) }

pub keeps_has : {n : ℕ} (h : _) → Has n Any (Stored.keeps h)
unfolding Stored.keeps
keeps_has h = record { fits = λ s l. (l, tt) }

pub takes_has : {n : ℕ} → Has n Any Stored.takes
unfolding Stored.takes
takes_has {n} = record { fits = λ s l. go s l s.input }
  where
    go : (s : State) → Long n s → (input : List ℕ) → Fits n Any (taken_from s input)
    go s l [] = (l, tt)
    go s l (b ∷ rest) = (l, tt)

pub rewinds_has : {n : ℕ} (k : ℕ) → Has n Any (Stored.rewinds k)
unfolding Stored.rewinds
rewinds_has k = record { fits = λ s l. (l, tt) }

pub renotes_has : {n : ℕ} (notes : _) → Has n Any (Stored.renotes notes)
unfolding Stored.renotes
renotes_has notes = record { fits = λ s l. (l, tt) }

-- put together

pub bind_has : {A B : Type 0} {n : ℕ} {P : A → Type 0} {Q : B → Type 0} {m : Stored A} {k : A → Stored B} → Has n P m → ((a : A) → P a → Has n Q (k a)) → Has n Q (Stored.bind m k)
unfolding Stored.bind
bind_has {A} {B} {n} {P} {Q} {m} {k} first rest = record { fits = λ s l. let h = first.fits s l in go (m.does s).state (m.does s).end h.0 h.1 }
  where
    go : (u : State) (e : Result A Cause) → Long n u → Ends P e → Fits n Q (next u e k)
    go u (Ok a) l p = (rest a p).fits u l
    go u (Err (Left x)) l p = (l, tt)
    go u (Err OutOfTurns) l p = (l, tt)
    go u (Err NoRoom) l p = absurd p
    go u (Err CutOff) l p = (l, tt)
    go u (Err Misnoted) l p = (l, tt)

pub then_has : {A B : Type 0} {n : ℕ} {Q : B → Type 0} {m : Stored A} {k : A → Stored B} → Has n Any m → ((a : A) → Has n Q (k a)) → Has n Q (Stored.bind m k)
then_has first rest = bind_has first (λ a p. rest a)

pub choose : {A : Type 0} {n : ℕ} {P : A → Type 0} (c : Bool) {m k : Stored A} → Has n P m → Has n P k → Has n P (cond c m k)
choose true h g = h
choose false h g = g

pub handles_has : {A : Type 0} {n : ℕ} {P : A → Type 0} {m : Stored A} (takes : Leave → Bool) {k : Leave → Stored A} → Has n P m → ((x : Leave) → Has n P (k x)) → Has n P (Stored.handles m takes k)
unfolding Stored.handles
handles_has {A} {n} {P} {m} takes {k} first rest = record { fits = λ s l. let h = first.fits s l in go (m.does s).state (m.does s).end h.0 h.1 }
  where
    taken : (u : State) (x : Leave) → Long n u → (c : Bool) → Fits n P (cond c ((k x).does u) (at u (Err (Left x))))
    taken u x l true = (rest x).fits u l
    taken u x l false = (l, tt)

    go : (u : State) (e : Result A Cause) → Long n u → Ends P e → Fits n P (handled u e takes k)
    go u (Ok a) l p = (l, p)
    go u (Err (Left x)) l p = taken u x l (takes x)
    go u (Err OutOfTurns) l p = (l, tt)
    go u (Err NoRoom) l p = absurd p
    go u (Err CutOff) l p = (l, tt)
    go u (Err Misnoted) l p = (l, tt)

pub apart_has : {A : Type 0} {n : ℕ} {P : A → Type 0} {m : Stored A} → Has n P m → Has n P (Stored.apart m)
unfolding Stored.apart
apart_has h = record { fits = λ s l. h.fits (record s { frame = s.frame + 1 }) l }

-- an object whose slot is among those
pub elaborates_has : {A : Type 0} {n : ℕ} {P : A → Type 0} (region : Region) (x : Entity) (vs : List ℤ) {m : Stored A} → key x < n → Has n P m → Has n P (Stored.elaborates region x vs m)
unfolding Stored.elaborates
elaborates_has {A} {n} {P} region x vs {m} lt h = record { fits = λ s l. subst (λ c. Fits n P (cond c (at (ended region x s (m.does (begun region x vs s)).state) (m.does (begun region x vs s)).end) (at s (Err NoRoom)))) (sym (roomy region s l)) (inside region s l) }
  where
    roomy : (r : Region) (s : State) → Long n s → has_room r x s ≡ true
    roomy Here s l = lt-ltb (key x) (length s.here) (omega (arith, lt, l.0))
    roomy Everywhere s l = lt-ltb (key x) (length s.everywhere) (omega (arith, lt, l.1))

    still : (slots : List Slot) (k : ℕ) (v : Slot) → n ≤ length slots → n ≤ length (set slots k v)
    still slots k v l = subst (λ z. n ≤ z) (sym (length-set slots k v)) l

    begins : (r : Region) (s : State) → Long n s → Long n (begun r x vs s)
    begins Here s l = (still s.here (key x) (record { frame = s.frame; address = length s.cells; cells = length vs }) l.0, l.1)
    begins Everywhere s l = (l.0, still s.everywhere (key x) (record { frame = 1; address = length s.kept; cells = length vs }) l.1)

    closes : (r : Region) (s u : State) → Long n u → Long n (ended r x s u)
    closes Here s u l = (still u.here (key x) (slot_at s.here (key x)) l.0, l.1)
    closes Everywhere s u l = (l.0, still u.everywhere (key x) (slot_at s.everywhere (key x)) l.1)

    inside : (r : Region) (s : State) → Long n s → Fits n P (at (ended r x s (m.does (begun r x vs s)).state) (m.does (begun r x vs s)).end)
    inside r s l = let k = h.fits (begun r x vs s) (begins r s l) in (closes r s (m.does (begun r x vs s)).state k.0, k.1)
