-- Cells that aren't written keep their values, operation by operation.
use Rattle.std.proofs.Common.{◌≡◌, ℕ, zero, suc, ◌+◌, ◌≤◌, ℤ, nat_eq, nat_lt, List, [], ◌∷◌, ◌++◌, length, Option, Some, None, Result, Ok, Err, inl, inr, Bool, true, false, cond, not, is_some, ◌||◌, refl, sym, subst, ap, ◌∙◌, arith, le_refl, length-set, set}
use Rattle.std.proofs.lemmas.List.{length-take-le, length-append}
use Rattle.ada_base.specs.Cuts.{cuts_of}
use Rattle.ada_base.specs.declared.reason.Reason.TheVariants as reason
use Rattle.typed_tree.specs.declared.expressions.Reducer.{Reducer}
use Rattle.typed_tree.specs.declared.expressions.Reducer.TheVariants.{Operator, Function}
use Rattle.behaviours.specs.Doings.{through, onto, folded}
use Rattle.behaviours.specs.Paths.{Leave, Raises, Entity, VariableOf, Region, Everywhere, Here}
use Rattle.behaviours.specs.Joins.{Share, Site, deal}
use Rattle.ada_meaning.specs.Values.{result, divides, overflows, is_zero, value_or_zero}
use Rattle.ada_meaning.specs.Operations.{CheckKind, ZeroCheck, OverflowCheck, chunk_of, Operations, reduce, zero_checked, overflow_checked}
use Rattle.ada_meaning.specs.Stored
use Rattle.ada_base.specs.Notes.{InOrder, Schedule, ByNotes, ThreadNote, Whole, NotBegun, CutAfter}
use Rattle.ada_meaning.specs.Stored.{State, slot_at, put_at, Cause, Left, OutOfTurns, NoRoom, CutOff, Misnoted, After, at, Address, Kept, Stacked, Touch, Stored, cell_at, next, next_touches, handled, handled_touches, begun, ended, has_room, place_of, touched, written_at, read_at, value_read, taken_from, looked, took}
use Rattle.ada_meaning.specs.Touched.{Before, WrittenIn, LeavesOthers, FrameLaw, SameCells}
use Rattle.ada_meaning.proofs.Cells.{get_left, get_within}
use Rattle.ada_meaning.proofs.Lays.{Same, same_refl, same_trans, rest_same, put_rest, cell_same, cell_cut, put_at_other}
use Rattle.ada_meaning.proofs.Elaborated.{same_ended}
use Rattle.ada_meaning.proofs.Stops.{nothing}
use Rattle.ada_meaning.proofs.Induction
use Rattle.ada_meaning.proofs.Induction.{Relates}

pub written_left : (ts us : List Touch) (a : Address) → WrittenIn ts a → WrittenIn (ts ++ us) a
written_left [] us a w = absurd w
written_left (t ∷ ts) us a (inl w) = inl w
written_left (t ∷ ts) us a (inr w) = inr (written_left ts us a w)

pub written_right : (ts us : List Touch) (a : Address) → WrittenIn us a → WrittenIn (ts ++ us) a
written_right [] us a w = w
written_right (t ∷ ts) us a w = inr (written_right ts us a w)

-- how long the lists of cells are
pub record Grown (s u : State) : Type 0 where
  pub height : length u.cells ≡ length s.cells
  pub kept : length s.kept ≤ length u.kept

grown_refl : (s : State) → Grown s s
grown_refl s = record { height = refl; kept = le_refl (length s.kept) }

grown_same : (s u : State) → u.cells ≡ s.cells → u.kept ≡ s.kept → Grown s u
grown_same s u c k = record { height = ap length c; kept = let e = ap length k in omega arith }

grown_then : (s t u : State) → Grown s t → Grown t u → Grown s u
grown_then s t u g h = record { height = h.height ∙ g.height; kept = let a = g.kept in let b = h.kept in omega arith }

pub before_grown : (s u : State) → Grown s u → (a : Address) → Before s a → Before u a
before_grown s u g (Kept a) b = let k = g.kept in omega arith
before_grown s u g (Stacked a) b = let k = g.height in omega arith

pub record Framed {A : Type 0} (m : Stored A) : Type 0 where
  pub grown : (s : State) → Grown s (m.does s).state
  pub slots : (s : State) → Same s (m.does s).state
  pub same : LeavesOthers m

-- cells are let alone
pub slots_same : (s u : State) → SameCells s u → Same s u
slots_same s u h = record { here = λ k. ap (λ z. slot_at z k) h.here; everywhere = λ k. ap (λ z. slot_at z k) h.everywhere; frame = h.frame; room = ap length h.here; everywhere_room = ap length h.everywhere }

still : {A : Type 0} (m : Stored A) → ((s : State) → SameCells s (m.does s).state) → Framed m
still m h = record {
  grown = λ s. grown_same s (m.does s).state (h s).cells (h s).kept;
  slots = λ s. slots_same s (m.does s).state (h s);
  same = λ s a b n. cell_same s (m.does s).state a (h s).cells (h s).kept;
}

pub ret_framed : {A : Type 0} (a : A) → Framed (Stored.ret a)
unfolding Stored.ret
ret_framed a = still (Stored.ret a) (λ s. record { cells = refl; kept = refl; here = refl; everywhere = refl; frame = refl })

pub leaves_framed : {A : Type 0} (x : Leave) → Framed (Stored.leaves {A = A} x)
unfolding Stored.leaves
leaves_framed {A} x = still (Stored.leaves {A = A} x) (λ s. record { cells = refl; kept = refl; here = refl; everywhere = refl; frame = refl })

pub spent_framed : {A : Type 0} → Framed (Stored.spent {A = A})
unfolding Stored.spent
spent_framed {A} = still (Stored.spent {A = A}) (λ s. record { cells = refl; kept = refl; here = refl; everywhere = refl; frame = refl })

pub misnoted_framed : {A : Type 0} → Framed (Stored.misnoted {A = A})
unfolding Stored.misnoted
misnoted_framed {A} = still (Stored.misnoted {A = A}) (λ s. record { cells = refl; kept = refl; here = refl; everywhere = refl; frame = refl })

pub checks_framed : (kind : CheckKind) (token : ℕ) (holds : Bool) → Framed (Stored.checks kind token holds)
checks_framed kind token true = ret_framed tt
checks_framed kind token false = leaves_framed (Raises reason.ConstraintError)

pub turn_framed : (limit : ℕ) → Framed (Stored.turn limit)
unfolding Stored.turn
turn_framed limit = still (Stored.turn limit) (λ s. go s (nat_lt s.turns limit))
  where
    go : (s : State) (c : Bool) → let r : After (Unit {0}) = cond c (at (record s { turns = s.turns + 1 }) (Ok tt)) (at s (Err OutOfTurns)) in SameCells s r.state
    go s true = record { cells = refl; kept = refl; here = refl; everywhere = refl; frame = refl }
    go s false = record { cells = refl; kept = refl; here = refl; everywhere = refl; frame = refl }

pub look_framed : Framed Stored.look
unfolding Stored.look
look_framed = still Stored.look (λ s. go s s.left)
  where
    go : (s : State) (left : Option ℕ) → SameCells s (looked s left).state
    go s None = record { cells = refl; kept = refl; here = refl; everywhere = refl; frame = refl }
    go s (Some zero) = record { cells = refl; kept = refl; here = refl; everywhere = refl; frame = refl }
    go s (Some (suc n)) = record { cells = refl; kept = refl; here = refl; everywhere = refl; frame = refl }

pub reads_framed : (x : Entity) (i : ℕ) → Framed (Stored.reads x i)
unfolding Stored.reads
reads_framed x i = still (Stored.reads x i) (λ s. go s (place_of s x i))
  where
    of_value : (s : State) (v : Option ℤ) → SameCells s (value_read s v).state
    of_value s None = record { cells = refl; kept = refl; here = refl; everywhere = refl; frame = refl }
    of_value s (Some v) = record { cells = refl; kept = refl; here = refl; everywhere = refl; frame = refl }

    go : (s : State) (a : Option Address) → SameCells s (read_at s a).state
    go s None = record { cells = refl; kept = refl; here = refl; everywhere = refl; frame = refl }
    go s (Some a) = of_value s (cell_at s a)

pub writes_framed : (x i : ℕ) (v : ℤ) → Framed (Stored.writes x i v)
unfolding Stored.writes
writes_framed x i v = record { grown = λ s. grows s (place_of s (VariableOf x) i); slots = λ s. at_slots s (place_of s (VariableOf x) i); same = λ s a b n. keeps s a (place_of s (VariableOf x) i) n }
  where
    grows : (s : State) (o : Option Address) → Grown s (written_at s o v).state
    grows s None = grown_refl s
    grows s (Some (Kept a)) = record { height = refl; kept = let e = length-set s.kept a v in omega arith }
    grows s (Some (Stacked a)) = record { height = length-set s.cells a v; kept = le_refl (length s.kept) }

    at_slots : (s : State) (o : Option Address) → Same s (written_at s o v).state
    at_slots s None = same_refl s
    at_slots s (Some a) = rest_same s (put_at s a v) (put_rest s a v)

    keeps : (s : State) (a : Address) (o : Option Address) → (WrittenIn (touched true o) a → ⊥) → cell_at (written_at s o v).state a ≡ cell_at s a
    keeps s a None n = refl
    keeps s a (Some b) n = put_at_other s b a v (λ e. n (inl (refl, e)))

pub puts_framed : (piece : List ℕ) → Framed (Stored.puts piece)
unfolding Stored.puts
puts_framed piece = still (Stored.puts piece) (λ s. record { cells = refl; kept = refl; here = refl; everywhere = refl; frame = refl })

pub recalls_framed : Framed Stored.recalls
unfolding Stored.recalls
recalls_framed = still Stored.recalls (λ s. record { cells = refl; kept = refl; here = refl; everywhere = refl; frame = refl })

pub keeps_framed : (h : _) → Framed (Stored.keeps h)
unfolding Stored.keeps
keeps_framed h = still (Stored.keeps h) (λ s. record { cells = refl; kept = refl; here = refl; everywhere = refl; frame = refl })

pub takes_framed : Framed Stored.takes
unfolding Stored.takes
takes_framed = still Stored.takes (λ s. go s s.input)
  where
    go : (s : State) (input : List ℕ) → SameCells s (taken_from s input).state
    go s [] = record { cells = refl; kept = refl; here = refl; everywhere = refl; frame = refl }
    go s (b ∷ rest) = record { cells = refl; kept = refl; here = refl; everywhere = refl; frame = refl }

-- put together

pub bind_framed : {A B : Type 0} (m : Stored A) (k : A → Stored B) → Framed m → ((a : A) → Framed (k a)) → Framed (Stored.bind m k)
unfolding Stored.bind
bind_framed {A} {B} m k first rest = record {
  grown = λ s. grown_then s (m.does s).state (next (m.does s).state (m.does s).end k).state (first.grown s) (grows (m.does s).state (m.does s).end);
  slots = λ s. same_trans s (m.does s).state (next (m.does s).state (m.does s).end k).state (first.slots s) (at_slots (m.does s).state (m.does s).end);
  same = λ s a b n.
      keeps a (m.does s).state (m.does s).end (before_grown s (m.does s).state (first.grown s) a b) (λ w. n (written_right (m.touches s) (next_touches (m.does s).state (m.does s).end k) a w))
      ∙ first.same s a b (λ w. n (written_left (m.touches s) (next_touches (m.does s).state (m.does s).end k) a w));
}
  where
    at_slots : (u : State) (e : Result A Cause) → Same u (next u e k).state
    at_slots u (Ok x) = (rest x).slots u
    at_slots u (Err c) = same_refl u

    grows : (u : State) (e : Result A Cause) → Grown u (next u e k).state
    grows u (Ok x) = (rest x).grown u
    grows u (Err c) = grown_refl u

    keeps : (a : Address) (u : State) (e : Result A Cause) → Before u a → (WrittenIn (next_touches u e k) a → ⊥) → cell_at (next u e k).state a ≡ cell_at u a
    keeps a u (Ok x) b n = (rest x).same u a b n
    keeps a u (Err c) b n = refl

pub handles_framed : {A : Type 0} (m : Stored A) (takes : Leave → Bool) (k : Leave → Stored A) → Framed m → ((x : Leave) → Framed (k x)) → Framed (Stored.handles m takes k)
unfolding Stored.handles
handles_framed {A} m takes k first rest = record {
  grown = λ s. grown_then s (m.does s).state (handled (m.does s).state (m.does s).end takes k).state (first.grown s) (grows (m.does s).state (m.does s).end);
  slots = λ s. same_trans s (m.does s).state (handled (m.does s).state (m.does s).end takes k).state (first.slots s) (at_slots (m.does s).state (m.does s).end);
  same = λ s a b n.
      keeps a (m.does s).state (m.does s).end (before_grown s (m.does s).state (first.grown s) a b) (λ w. n (written_right (m.touches s) (handled_touches (m.does s).state (m.does s).end takes k) a w))
      ∙ first.same s a b (λ w. n (written_left (m.touches s) (handled_touches (m.does s).state (m.does s).end takes k) a w));
}
  where
    slots_taken : (u : State) (x : Leave) (c : Bool) → Same u (cond c ((k x).does u) (at u (Err (Left x)))).state
    slots_taken u x true = (rest x).slots u
    slots_taken u x false = same_refl u

    at_slots : (u : State) (e : Result A Cause) → Same u (handled u e takes k).state
    at_slots u (Ok x) = same_refl u
    at_slots u (Err (Left x)) = slots_taken u x (takes x)
    at_slots u (Err OutOfTurns) = same_refl u
    at_slots u (Err NoRoom) = same_refl u
    at_slots u (Err CutOff) = same_refl u
    at_slots u (Err Misnoted) = same_refl u

    grows_taken : (u : State) (x : Leave) (c : Bool) → Grown u (cond c ((k x).does u) (at u (Err (Left x)))).state
    grows_taken u x true = (rest x).grown u
    grows_taken u x false = grown_refl u

    grows : (u : State) (e : Result A Cause) → Grown u (handled u e takes k).state
    grows u (Ok x) = grown_refl u
    grows u (Err (Left x)) = grows_taken u x (takes x)
    grows u (Err OutOfTurns) = grown_refl u
    grows u (Err NoRoom) = grown_refl u
    grows u (Err CutOff) = grown_refl u
    grows u (Err Misnoted) = grown_refl u

    keeps_taken : (a : Address) (u : State) (x : Leave) → Before u a → (c : Bool) → (WrittenIn (cond c ((k x).touches u) []) a → ⊥) → cell_at (cond c ((k x).does u) (at u (Err (Left x)))).state a ≡ cell_at u a
    keeps_taken a u x b true n = (rest x).same u a b n
    keeps_taken a u x b false n = refl

    keeps : (a : Address) (u : State) (e : Result A Cause) → Before u a → (WrittenIn (handled_touches u e takes k) a → ⊥) → cell_at (handled u e takes k).state a ≡ cell_at u a
    keeps a u (Ok x) b n = refl
    keeps a u (Err (Left x)) b n = keeps_taken a u x b (takes x) n
    keeps a u (Err OutOfTurns) b n = refl
    keeps a u (Err NoRoom) b n = refl
    keeps a u (Err CutOff) b n = refl
    keeps a u (Err Misnoted) b n = refl

pub apart_framed : {A : Type 0} (m : Stored A) → Framed m → Framed (Stored.apart m)
unfolding Stored.apart
apart_framed m first = record {
  grown = λ s. let s1 = record s { frame = s.frame + 1 } in let g = first.grown s1 in record { height = g.height; kept = g.kept };
  slots = λ s. let g = first.slots (record s { frame = s.frame + 1 }) in record { here = g.here; everywhere = g.everywhere; frame = refl; room = g.room; everywhere_room = g.everywhere_room };
  same = λ s a b n.
      let s1 = record s { frame = s.frame + 1 } in
      cell_same (m.does s1).state (record (m.does s1).state { frame = s.frame }) a refl refl ∙ first.same s1 a (before_grown s s1 (grown_same s s1 refl refl) a b) n ∙ cell_same s s1 a refl refl;
}

-- a cell that was there is one behind a new object too
cell_begun : (region : Region) (x : Entity) (vs : List ℤ) (s : State) (a : Address) → Before s a → cell_at (begun region x vs s) a ≡ cell_at s a
cell_begun Here x vs s (Kept a) b = refl
cell_begun Here x vs s (Stacked a) b = let v = get_within s.cells a b in get_left s.cells vs a v.0 v.1 ∙ sym v.1
cell_begun Everywhere x vs s (Kept a) b = let v = get_within s.kept a b in get_left s.kept vs a v.0 v.1 ∙ sym v.1
cell_begun Everywhere x vs s (Stacked a) b = refl

before_begun : (region : Region) (x : Entity) (vs : List ℤ) (s : State) (a : Address) → Before s a → Before (begun region x vs s) a
before_begun Here x vs s (Kept a) b = b
before_begun Here x vs s (Stacked a) b = let e = length-append s.cells vs in omega arith
before_begun Everywhere x vs s (Kept a) b = let e = length-append s.kept vs in omega arith
before_begun Everywhere x vs s (Stacked a) b = b

grown_ended : (region : Region) (x : Entity) (vs : List ℤ) (s u : State) → Grown (begun region x vs s) u → Grown s (ended region x s u)
grown_ended Here x vs s u g = record { height = length-take-le (length s.cells) u.cells (let e = length-append s.cells vs in let h = g.height in omega arith); kept = g.kept }
grown_ended Everywhere x vs s u g = record { height = g.height; kept = let e = length-append s.kept vs in let h = g.kept in omega arith }

cell_ended : (region : Region) (x : Entity) (s u : State) (a : Address) → Before s a → cell_at (ended region x s u) a ≡ cell_at u a
cell_ended Here x s u (Kept a) b = refl
cell_ended Here x s u (Stacked a) b = cell_cut x s u (Stacked a) b
cell_ended Everywhere x s u a b = cell_same u (ended Everywhere x s u) a refl refl

pub elaborates_framed : {A : Type 0} (region : Region) (x : Entity) (vs : List ℤ) (m : Stored A) → Framed m → Framed (Stored.elaborates region x vs m)
unfolding Stored.elaborates
elaborates_framed {A} region x vs m first = record { grown = λ s. grows s (has_room region x s); slots = λ s. at_slots s (has_room region x s) refl; same = λ s a b n. keeps s a b (has_room region x s) n }
  where
    made : State → After A
    made s = m.does (begun region x vs s)

    at_slots : (s : State) (c : Bool) → has_room region x s ≡ c → Same s (cond c (at (ended region x s (m.does (begun region x vs s)).state) (m.does (begun region x vs s)).end) (at s (Err NoRoom))).state
    at_slots s true room = same_ended region x vs s (m.does (begun region x vs s)).state room (first.slots (begun region x vs s))
    at_slots s false room = same_refl s

    grows : (s : State) (c : Bool) → Grown s (cond c (at (ended region x s (m.does (begun region x vs s)).state) (m.does (begun region x vs s)).end) (at s (Err NoRoom))).state
    grows s true = grown_ended region x vs s (m.does (begun region x vs s)).state (first.grown (begun region x vs s))
    grows s false = grown_refl s

    keeps : (s : State) (a : Address) → Before s a → (c : Bool) → (WrittenIn (cond c (m.touches (begun region x vs s)) []) a → ⊥)
        → cell_at (cond c (at (ended region x s (m.does (begun region x vs s)).state) (m.does (begun region x vs s)).end) (at s (Err NoRoom))).state a ≡ cell_at s a
    keeps s a b true n = cell_ended region x s (m.does (begun region x vs s)).state a b ∙ first.same (begun region x vs s) a (before_begun region x vs s a b) n ∙ cell_begun region x vs s a b
    keeps s a b false n = refl

-- threads

rewinds_framed : (n : ℕ) → Framed (Stored.rewinds n)
unfolding Stored.rewinds
rewinds_framed n = still (Stored.rewinds n) (λ s. record { cells = refl; kept = refl; here = refl; everywhere = refl; frame = refl })

renotes_framed : (notes : Schedule) → Framed (Stored.renotes notes)
unfolding Stored.renotes
renotes_framed notes = still (Stored.renotes notes) (λ s. record { cells = refl; kept = refl; here = refl; everywhere = refl; frame = refl })

pub took_same : {A : Type 0} (most : ℕ) (u : State) (e : Result A Cause) → SameCells u (took most u e).state
took_same most u (Ok a) = record { cells = refl; kept = refl; here = refl; everywhere = refl; frame = refl }
took_same most u (Err (Left x)) = record { cells = refl; kept = refl; here = refl; everywhere = refl; frame = refl }
took_same most u (Err OutOfTurns) = record { cells = refl; kept = refl; here = refl; everywhere = refl; frame = refl }
took_same most u (Err NoRoom) = record { cells = refl; kept = refl; here = refl; everywhere = refl; frame = refl }
took_same most u (Err CutOff) = record { cells = refl; kept = refl; here = refl; everywhere = refl; frame = refl }
took_same most u (Err Misnoted) = record { cells = refl; kept = refl; here = refl; everywhere = refl; frame = refl }

-- the same cells as another part, in states that have the same cells
alike : {A B : Type 0} (m : Stored A) (n : Stored B) (f : State → State) → ((s : State) → SameCells s (f s)) → ((s : State) → SameCells (m.does (f s)).state (n.does s).state) → ((s : State) → n.touches s ≡ m.touches (f s)) → Framed m → Framed n
alike m n f into out touches first = record {
  grown = λ s. grown_then s (f s) (n.does s).state (grown_same s (f s) (into s).cells (into s).kept) (grown_then (f s) (m.does (f s)).state (n.does s).state (first.grown (f s)) (grown_same (m.does (f s)).state (n.does s).state (out s).cells (out s).kept));
  slots = λ s. same_trans s (f s) (n.does s).state (slots_same s (f s) (into s)) (same_trans (f s) (m.does (f s)).state (n.does s).state (first.slots (f s)) (slots_same (m.does (f s)).state (n.does s).state (out s)));
  same = λ s a b none.
      cell_same (m.does (f s)).state (n.does s).state a (out s).cells (out s).kept
      ∙ first.same (f s) a (before_grown s (f s) (grown_same s (f s) (into s).cells (into s).kept) a b) (λ w. none (subst (λ z. WrittenIn z a) (sym (touches s)) w))
      ∙ cell_same s (f s) a (into s).cells (into s).kept;
}

thread_framed : {A : Type 0} (most : ℕ) (m : Stored A) → Framed m → Framed (Stored.thread most m)
unfolding Stored.thread
thread_framed most m first = alike m (Stored.thread most m) (λ s. s) (λ s. record { cells = refl; kept = refl; here = refl; everywhere = refl; frame = refl }) (λ s. took_same most (m.does s).state (m.does s).end) (λ s. refl) first

noted_thread_framed : {A B : Type 0} (from : ℕ) (left : Option ℕ) (fits : Result A Cause → Result B Cause) (m : Stored A) → Framed m → Framed (Stored.noted_thread from left fits m)
unfolding Stored.noted_thread
noted_thread_framed from left fits m first = alike m (Stored.noted_thread from left fits m) (λ s. record s { turns = from; left = left; notes = InOrder }) (λ s. record { cells = refl; kept = refl; here = refl; everywhere = refl; frame = refl }) (λ s. record { cells = refl; kept = refl; here = refl; everywhere = refl; frame = refl }) (λ s. refl) first

none_chosen_framed : {B : Type 0} (m : Stored B) → Framed m → Framed (Stored.none_chosen m)
unfolding Stored.none_chosen
none_chosen_framed m first = alike m (Stored.none_chosen m) (λ s. record s { notes = InOrder }) (λ s. record { cells = refl; kept = refl; here = refl; everywhere = refl; frame = refl }) (λ s. record { cells = refl; kept = refl; here = refl; everywhere = refl; frame = refl }) (λ s. refl) first

unhalted_framed : {A : Type 0} (m : Stored A) → Framed m → Framed (Stored.unhalted m)
unhalted_framed m first = record { grown = first.grown; slots = first.slots; same = first.same }

choose : {A : Type 0} (c : Bool) (m n : Stored A) → Framed m → Framed n → Framed (cond c m n)
choose true m n h g = h
choose false m n h g = g

module _ {A B : Type 0} (f : B → A → B) (body : Share → Stored A) (each : (j : Share) → Framed (body j)) where
  threads_framed : (from : ℕ) (js : List Share) (most : ℕ) (over : Bool) (b : B) → Framed (Stored.threads f body from js most over b)
  threads_framed from [] most over b = bind_framed (Stored.rewinds most) (λ _. cond over Stored.spent (Stored.ret b)) (rewinds_framed most) (λ _. choose over Stored.spent (Stored.ret b) spent_framed (ret_framed b))
  threads_framed from (j ∷ js) most over b =
      bind_framed (Stored.rewinds from) (λ _. Stored.bind (Stored.thread most (body j)) (λ k. Stored.threads f body from js k.most (over || Stored.is_spent k.value) (Stored.gathered f b k.value))) (rewinds_framed from)
      (λ _. bind_framed (Stored.thread most (body j)) (λ k. Stored.threads f body from js k.most (over || Stored.is_spent k.value) (Stored.gathered f b k.value)) (thread_framed most (body j) (each j))
      (λ k. threads_framed from js k.most (over || Stored.is_spent k.value) (Stored.gathered f b k.value)))

  par_framed : (b : B) (js : List Share) → Framed (Stored.par f b js body)
  unfolding Stored.par
  par_framed b js = record { grown = λ s. (threads_framed s.turns js s.turns false b).grown s; slots = λ s. (threads_framed s.turns js s.turns false b).slots s; same = λ s. (threads_framed s.turns js s.turns false b).same s }

  by_thread_framed : (c : Bool) (note : ThreadNote) (from : ℕ) (j : Share) → Framed (Stored.by_thread_note c note from (body j))
  by_thread_framed true Whole from j = noted_thread_framed from None Stored.fits_chosen (body j) (each j)
  by_thread_framed true NotBegun from j = misnoted_framed
  by_thread_framed true (CutAfter looks) from j = misnoted_framed
  by_thread_framed false Whole from j = noted_thread_framed from None Stored.fits_whole (body j) (each j)
  by_thread_framed false NotBegun from j = ret_framed None
  by_thread_framed false (CutAfter looks) from j = noted_thread_framed from (Some looks) Stored.fits_cut (body j) (each j)

  left_by_framed : (how : Option Leave) → Framed (Stored.left_by {B = B} how)
  left_by_framed None = misnoted_framed
  left_by_framed (Some x) = leaves_framed x

  chosen_framed : (from chosen : ℕ) (js : List Share) (ns : List ThreadNote) (how : Option Leave) → Framed (Stored.chosen_threads {B = B} body from chosen js ns how)
  chosen_framed from chosen [] [] how = left_by_framed how
  chosen_framed from chosen [] (n ∷ ns) how = misnoted_framed
  chosen_framed from chosen (j ∷ js) [] how = misnoted_framed
  chosen_framed from chosen (j ∷ js) (n ∷ ns) how =
      bind_framed (Stored.by_thread_note (nat_eq j.number chosen) n from (body j)) (λ x. Stored.chosen_threads body from chosen js ns (Stored.or_else x how)) (by_thread_framed (nat_eq j.number chosen) n from j) (λ x. chosen_framed from chosen js ns (Stored.or_else x how))

  by_note_framed : (b : B) (js : List Share) (chosen : Option ℕ) (ns : List ThreadNote) → Framed (Stored.by_note f b js body chosen ns)
  by_note_framed b js None ns = none_chosen_framed (Stored.par f b js body) (par_framed b js)
  by_note_framed b js (Some chosen) ns = record { grown = λ s. (chosen_framed s.turns chosen js ns None).grown s; slots = λ s. (chosen_framed s.turns chosen js ns None).slots s; same = λ s. (chosen_framed s.turns chosen js ns None).same s }

  by_notes_framed : (b : B) (js : List Share) (notes : Schedule) → Framed (Stored.by_notes f b js body notes)
  by_notes_framed b js InOrder = par_framed b js
  by_notes_framed b js (ByNotes []) = misnoted_framed
  by_notes_framed b js (ByNotes (c ∷ cs)) =
      unhalted_framed (Stored.bind (Stored.renotes (ByNotes cs)) (λ _. Stored.by_note f b js body c.chosen c.threads))
      (bind_framed (Stored.renotes (ByNotes cs)) (λ _. Stored.by_note f b js body c.chosen c.threads) (renotes_framed (ByNotes cs)) (λ _. by_note_framed b js c.chosen c.threads))

  noted_par_framed : (b : B) (js : List Share) → Framed (Stored.noted_par f b js body)
  unfolding Stored.noted_par
  noted_par_framed b js = record { grown = λ s. (by_notes_framed b js s.notes).grown s; slots = λ s. (by_notes_framed b js s.notes).slots s; same = λ s. (by_notes_framed b js s.notes).same s }

pub visited_framed : {A : Type 0} (j : Share) (m : Stored A) → Framed m → Framed (Stored.visited j m)
visited_framed j m first = record { grown = first.grown; slots = first.slots; same = first.same }

pub noted_team_framed : {A B : Type 0} (site : Site) (f : B → A → B) (body : Share → Stored A) → ((j : Share) → Framed (body j)) → (b : B) (js : List Share) → Framed (Stored.noted_team site f b js body)
unfolding Stored.noted_team
noted_team_framed site f body each b js = let m = noted_par_framed f (λ j. Stored.visited j (body j)) (λ j. visited_framed j (body j) (each j)) b js in record { grown = m.grown; slots = m.slots; same = m.same }

-- constructs

through_framed : {A : Type 0} (first n : ℕ) (a : A) (f : ℕ → A → Stored A) → ((i : ℕ) (b : A) → Framed (f i b)) → Framed (through Stored.doings first n a f)
through_framed first zero a f h = ret_framed a
through_framed first (suc n) a f h = bind_framed (f first a) (λ b. through Stored.doings (suc first) n b f) (h first a) (λ b. through_framed (suc first) n b f h)

onto_framed : (a : ℤ) (more : List ℤ) (f : ℤ → ℤ → Stored ℤ) → ((b c : ℤ) → Framed (f b c)) → Framed (onto Stored.doings a more f)
onto_framed a [] f h = ret_framed a
onto_framed a (b ∷ more) f h = bind_framed (f a b) (λ c. onto Stored.doings c more f) (h a b) (λ c. onto_framed c more f h)

folded_framed : (f : ℤ → ℤ → Stored ℤ) → ((b c : ℤ) → Framed (f b c)) → (a : ℤ) (v : Option ℤ) → Framed (folded Stored.doings f a v)
folded_framed f h a None = ret_framed a
folded_framed f h a (Some v) = h a v

reduce_framed : (by : Reducer) (token : ℕ) (f : ℤ → ℤ → Stored ℤ) → ((b c : ℤ) → Framed (f b c)) → (a b : ℤ) → Framed (reduce Stored.doings Stored.checks by token f a b)
reduce_framed (Operator t op class) token f h a b =
    bind_framed (zero_checked Stored.doings Stored.checks op token b) (λ _. Stored.bind (overflow_checked Stored.doings Stored.checks op token (result op class a b)) (λ _. Stored.ret (value_or_zero (result op class a b))))
    (choose (divides op) (Stored.checks ZeroCheck token (not (is_zero b))) (Stored.ret tt) (checks_framed ZeroCheck token (not (is_zero b))) (ret_framed tt))
    (λ _. bind_framed (overflow_checked Stored.doings Stored.checks op token (result op class a b)) (λ _. Stored.ret (value_or_zero (result op class a b)))
    (choose (overflows op) (Stored.checks OverflowCheck token (is_some (result op class a b))) (Stored.ret tt) (checks_framed OverflowCheck token (is_some (result op class a b))) (ret_framed tt)) (λ _. ret_framed (value_or_zero (result op class a b))))
reduce_framed (Function t s x y) token f h a b = h a b

module _ (limit : ℕ) (cuts : ℕ → ℕ → List ℕ) where
  abbrev ops : Operations {1}
  ops = Stored.noted_operations limit cuts

  pub loop_framed : (f : ℕ → ℕ → Stored (Unit {0})) → ((j i : ℕ) → Framed (f j i)) → (c : Share) → Framed (Stored.loop_thread f c)
  loop_framed f h c = through_framed c.first c.size tt (λ i _. f c.number i) (λ i _. h c.number i)

  pub fold_framed : (by : Reducer) (token : ℕ) (v : ℤ) (f : ℕ → ℕ → Stored (Option ℤ)) (call : ℤ → ℤ → Stored ℤ) → ((j i : ℕ) → Framed (f j i)) → ((a b : ℤ) → Framed (call a b)) → (c : Share) → Framed (Stored.fold_thread by token v f call c)
  fold_framed by token v f call h g c = through_framed c.first c.size v (λ i so_far. Stored.bind (f c.number i) (folded Stored.doings (reduce Stored.doings Stored.checks by token call) so_far))
      (λ i so_far. bind_framed (f c.number i) (folded Stored.doings (reduce Stored.doings Stored.checks by token call) so_far) (h c.number i) (folded_framed (reduce Stored.doings Stored.checks by token call) (reduce_framed by token call g) so_far))

  combined_framed : (v : ℤ) (values : List ℤ) (f : ℤ → ℤ → Stored ℤ) → ((b c : ℤ) → Framed (f b c)) → Framed (Stored.combined limit cuts v values f)
  combined_framed v [] f h = ret_framed v
  combined_framed v (a ∷ more) f h = onto_framed a more f h

  pub framed : Relates {1, 0, 0} ops nothing
  framed = record {
    World = Unit {0};
    Open = λ w. Unit {0};
    inner = λ w. tt;
    R = λ w m n. Framed m;
    ret = λ w a. ret_framed a;
    bind = λ {A} {B} w {m} {n} {k} {l} r f. bind_framed m k r f;
    reads = λ w x i cell. reads_framed x i;
    writes = λ w x i v. writes_framed x i v;
    elaborates = λ {A} w region u x vs {m} {n} r. elaborates_framed region x vs m r;
    apart = λ {A} w {m} {n} r. apart_framed m r;
    turn = λ w. turn_framed limit;
    look = λ w. look_framed;
    checks = λ w kind at holds. checks_framed kind at holds;
    leaves = λ {A} w x. leaves_framed x;
    spent = λ {A} w. spent_framed;
    handles = λ {A} w {m} {n} takes {h} {g} r f. handles_framed m takes h r f;
    puts = λ w allowed bytes. puts_framed bytes;
    recalls = λ w allowed. recalls_framed;
    keeps = λ w allowed h. keeps_framed h;
    takes = λ w allowed. takes_framed;
    loops = λ w site cut {f} {g} r. bind_framed (Stored.noted_team site Stored.first_of_both tt (deal 0 0 (Stored.sizes_of limit cuts cut)) (Stored.loop_thread (λ j. f (chunk_of cut j)))) (λ _. Stored.ret tt)
        (noted_team_framed site Stored.first_of_both (Stored.loop_thread (λ j. f (chunk_of cut j))) (loop_framed (λ j. f (chunk_of cut j)) (λ j. r (chunk_of cut j))) tt (deal 0 0 (Stored.sizes_of limit cuts cut))) (λ _. ret_framed tt);
    reduces = λ w site cut by at v {f} {g} {c} {c'} {d} {d'} r t u.
        bind_framed (Stored.noted_team site Stored.after_all [] (deal 0 0 (Stored.sizes_of limit cuts cut)) (Stored.fold_thread by at v (λ j. f (chunk_of cut j)) c)) (λ values. Stored.combined limit cuts v values (reduce Stored.doings Stored.checks by at c'))
        (noted_team_framed site Stored.after_all (Stored.fold_thread by at v (λ j. f (chunk_of cut j)) c) (fold_framed by at v (λ j. f (chunk_of cut j)) c (λ j. r (chunk_of cut j)) t) [] (deal 0 0 (Stored.sizes_of limit cuts cut)))
        (λ values. combined_framed v values (reduce Stored.doings Stored.checks by at c') (reduce_framed by at c' u));
  }

pub frame_law : FrameLaw
unfolding framed
frame_law program set depth stmts env blocking keeps kept =
    let rel = framed set.limit (cuts_of set.plan) in
    (Induction.exec_all rel set.limit program (Rattle.ada_meaning.specs.Nonblocking.nonblocking_of program.subs)
    (Rattle.ada_meaning.specs.Meaning.call (Stored.noted_operations set.limit (cuts_of set.plan)) set.limit program depth) (Rattle.ada_meaning.specs.Meaning.call nothing set.limit program depth)
    (Induction.calls rel set.limit program keeps depth) stmts env (record { world = tt; blocking = blocking; fine = λ e. tt }) kept).same
