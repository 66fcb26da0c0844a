-- Statements and loops, a part at a time.
use Rattle.std.proofs.Common.{◌≡◌, ℕ, suc, ◌+◌, ◌-◌, ◌<◌, ◌≤◌, ℤ, List, Bool, true, false, cond, Option, refl, sym, subst, ap, ◌∙◌, arith, inl, inr}
use Rattle.std.specs.Prelude.{Result, Ok, Err}
use Rattle.behaviours.specs.Paths as paths
use Rattle.typed_tree.specs.Syntax.{Stmt, Stmts, End, Then, Optional, Iteration, Value}
use Rattle.typed_tree.specs.declared.expressions.Iterated.{Iterated}
use Rattle.ada_meaning.specs.Values.{laid}
use Rattle.ada_meaning.specs.Meaning.{Env, Course}
use Rattle.ada_meaning.specs.Stored.{Stored, After, Left, Outage, Stops, at, State, ret, bind, spent, handles, handled, handled_halts}
use Rattle.ada_meaning.proofs.Computing.{through_more, through_done}
use Rattle.run_outside.specs.Outside.{Outside}
use Rattle.run_store.specs.Shows.{Image, facing, Goes, Shows, leave_of}
use Rattle.run_values.specs.declared.ends.End as ends
use Rattle.run_values.specs.declared.ends.End.TheVariants as end
use Rattle.run_values.specs.declared.ends.Leave as ends-leave
use Rattle.run_store.proofs.Going.{goes_refl, goes_instead, goes_then, goes_ends, goes_gives, goes_shows}
use Rattle.run_parts.specs.declared.work.Work.{Work}
use Rattle.run_parts.specs.Words.{turned}
use Rattle.run_walk.specs.Walk as walk

module _ {Tells : List ℕ → Outside → Type 0} (whole : Stored (Unit {0})) (s t u : Image) (w : Work) (d : ℕ) (env : Env) where
  module _ (ss : Stmts) (st : Stmt) (rest : Stmts) (is : ss ≡ Then st rest) (g : Goes Tells whole s (walk.exec_all w d ss env) t) where
    all_more : Goes Tells whole s (bind (walk.exec w d st env) (λ _. walk.exec_all w d rest env)) t
    unfolding walk.exec_all walk.exec
    all_more = subst (λ z. Goes Tells whole s (walk.exec_all w d z env) t) is g

    pub all_step : Shows Tells (walk.exec w d st env) (Ok tt) t u → Goes Tells whole s (walk.exec_all w d rest env) u
    all_step h = goes_then (λ a. a) (λ a. a) whole (walk.exec w d st env) (λ _. walk.exec_all w d rest env) s t u tt all_more h

    pub all_ends : (e : ends.End) (r : Result (Unit {0}) ends.End) → r ≡ Err e → Shows Tells (walk.exec w d st env) (Err e) t u → Shows Tells whole r s u
    all_ends e r q h = subst (λ z. Shows Tells whole z s u) (sym q) (goes_ends (λ a. a) (λ a. a) whole (walk.exec w d st env) (λ _. walk.exec_all w d rest env) s t u e all_more h)

pub all_done : {Tells : List ℕ → Outside → Type 0} (whole : Stored (Unit {0})) (s t : Image) (w : Work) (d : ℕ) (env : Env) (ss : Stmts) → ss ≡ End → Goes Tells whole s (walk.exec_all w d ss env) t → Shows Tells whole (Ok tt) s t
unfolding walk.exec_all
all_done {Tells = Tells} whole s t w d env ss e g = goes_gives (λ a. a) whole tt s t (subst (λ z. Goes Tells whole s (walk.exec_all w d z env) t) e g)

-- ---- loops

module _ {Tells : List ℕ → Outside → Type 0} (whole : Stored (Unit {0})) (s t u : Image) (w : Work) (d n more : ℕ) (e : Optional) (ss : Stmts) (env : Env) (is : n ≡ suc more) (g : Goes Tells whole s (walk.while_left w d n e ss env) t) where
  body : Bool → Stored (Unit {0})
  body goes_on = cond goes_on (bind (turned w) (λ _. bind (walk.exec_all w d ss env) (λ _. walk.while_left w d more e ss env))) (ret tt)

  while_more : Goes Tells whole s (bind (walk.holds w d e env) (λ goes_on. cond goes_on (bind (turned w) (λ _. bind (walk.exec_all w d ss env) (λ _. walk.while_left w d more e ss env))) (ret tt))) t
  while_more = subst (λ z. Goes Tells whole s (walk.while_left w d z e ss env) t) is g

  pub while_test_ends : (x : ends.End) (r : Result (Unit {0}) ends.End) → r ≡ Err x → Shows Tells (walk.holds w d e env) (Err x) t u → Shows Tells whole r s u
  while_test_ends x r q h =
      subst (λ z. Shows Tells whole z s u) (sym q) (goes_ends (λ a. a) (λ a. a) whole (walk.holds w d e env) (λ goes_on. cond goes_on (bind (turned w) (λ _. bind (walk.exec_all w d ss env) (λ _. walk.while_left w d more e ss env))) (ret tt)) s t u x while_more h)

  while_tested : (b : Bool) → Shows Tells (walk.holds w d e env) (Ok b) t u → Goes Tells whole s (cond b (bind (turned w) (λ _. bind (walk.exec_all w d ss env) (λ _. walk.while_left w d more e ss env))) (ret tt)) u
  while_tested b h = goes_then (λ a. a) (λ a. a) whole (walk.holds w d e env) (λ goes_on. cond goes_on (bind (turned w) (λ _. bind (walk.exec_all w d ss env) (λ _. walk.while_left w d more e ss env))) (ret tt)) s t u b while_more h

  pub while_stops : (b : Bool) → b ≡ false → Shows Tells (walk.holds w d e env) (Ok b) t u → Shows Tells whole (Ok tt) s u
  while_stops b q h = goes_gives (λ a. a) whole tt s u (subst (λ z. Goes Tells whole s (cond z (bind (turned w) (λ _. bind (walk.exec_all w d ss env) (λ _. walk.while_left w d more e ss env))) (ret tt)) u) q (while_tested b h))

  module _ (b : Bool) (yes : b ≡ true) (h : Shows Tells (walk.holds w d e env) (Ok b) t u) (v : Image) where
    while_goes : Goes Tells whole s (bind (turned w) (λ _. bind (walk.exec_all w d ss env) (λ _. walk.while_left w d more e ss env))) u
    while_goes = subst (λ z. Goes Tells whole s (cond z (bind (turned w) (λ _. bind (walk.exec_all w d ss env) (λ _. walk.while_left w d more e ss env))) (ret tt)) u) yes (while_tested b h)

    pub while_turn_ends : (x : ends.End) (r : Result (Unit {0}) ends.End) → r ≡ Err x → Shows Tells (turned w) (Err x) u v → Shows Tells whole r s v
    while_turn_ends x r q k = subst (λ z. Shows Tells whole z s v) (sym q) (goes_ends (λ a. a) (λ a. a) whole (turned w) (λ _. bind (walk.exec_all w d ss env) (λ _. walk.while_left w d more e ss env)) s u v x while_goes k)

    module _ (k : Shows Tells (turned w) (Ok tt) u v) (x : Image) where
      while_in : Goes Tells whole s (bind (walk.exec_all w d ss env) (λ _. walk.while_left w d more e ss env)) v
      while_in = goes_then (λ a. a) (λ a. a) whole (turned w) (λ _. bind (walk.exec_all w d ss env) (λ _. walk.while_left w d more e ss env)) s u v tt while_goes k

      pub while_body_ends : (c : ends.End) (r : Result (Unit {0}) ends.End) → r ≡ Err c → Shows Tells (walk.exec_all w d ss env) (Err c) v x → Shows Tells whole r s x
      while_body_ends c r q l = subst (λ z. Shows Tells whole z s x) (sym q) (goes_ends (λ a. a) (λ a. a) whole (walk.exec_all w d ss env) (λ _. walk.while_left w d more e ss env) s v x c while_in l)

      pub while_step : Shows Tells (walk.exec_all w d ss env) (Ok tt) v x → Goes Tells whole s (walk.while_left w d more e ss env) x
      while_step l = goes_then (λ a. a) (λ a. a) whole (walk.exec_all w d ss env) (λ _. walk.while_left w d more e ss env) s v x tt while_in l

pub while_spent : {Tells : List ℕ → Outside → Type 0} (whole : Stored (Unit {0})) (s t : Image) (w : Work) (d n : ℕ) (e : Optional) (ss : Stmts) (env : Env) → n ≡ 0 → Goes Tells whole s (walk.while_left w d n e ss env) t → Shows Tells whole (Err end.Spent) s t
unfolding spent
while_spent {Tells = Tells} whole s t w d n e ss env q g = let k = subst (λ z. Goes Tells whole s (walk.while_left w d z e ss env) t) q g in (k.faults, k.keeps, k.same)

module _ {Tells : List ℕ → Outside → Type 0} (whole : Stored (Unit {0})) (s t u : Image) (w : Work) (d i : ℕ) (c : Course) (it : Iteration) (ss : Stmts) (env : Env) (lt : i < c.count) (g : Goes Tells whole s (walk.for_left w d i (c.count - i) c it ss env) t) where
  for_more : Goes Tells whole s (bind (walk.iterate w d it ss (c.bound i env)) (λ _. walk.for_left w d (i + 1) (c.count - (i + 1)) c it ss env)) t
  for_more = goes_instead whole _ _ s t (through_more i c.count tt (λ i _. walk.iterate w d it ss (c.bound i env)) lt) g

  pub for_step : Shows Tells (walk.iterate w d it ss (c.bound i env)) (Ok tt) t u → Goes Tells whole s (walk.for_left w d (i + 1) (c.count - (i + 1)) c it ss env) u
  for_step h = goes_then (λ a. a) (λ a. a) whole (walk.iterate w d it ss (c.bound i env)) (λ _. walk.for_left w d (i + 1) (c.count - (i + 1)) c it ss env) s t u tt for_more h

  pub for_ends : (e : ends.End) (r : Result (Unit {0}) ends.End) → r ≡ Err e → Shows Tells (walk.iterate w d it ss (c.bound i env)) (Err e) t u → Shows Tells whole r s u
  for_ends e r q h = subst (λ z. Shows Tells whole z s u) (sym q) (goes_ends (λ a. a) (λ a. a) whole (walk.iterate w d it ss (c.bound i env)) (λ _. walk.for_left w d (i + 1) (c.count - (i + 1)) c it ss env) s t u e for_more h)

pub for_done : {Tells : List ℕ → Outside → Type 0} (whole : Stored (Unit {0})) (s t : Image) (w : Work) (d i : ℕ) (c : Course) (it : Iteration) (ss : Stmts) (env : Env) → c.count ≤ i → Goes Tells whole s (walk.for_left w d i (c.count - i) c it ss env) t → Shows Tells whole (Ok tt) s t
for_done whole s t w d i c it ss env le g = goes_gives (λ a. a) whole tt s t (goes_instead whole _ _ s t (through_done i c.count tt (λ i _. walk.iterate w d it ss (c.bound i env)) le) g)

pub for_begins : {Tells : List ℕ → Outside → Type 0} (s : Image) (w : Work) (d : ℕ) (c : Course) (it : Iteration) (ss : Stmts) (env : Env) → Goes Tells (walk.for_loop w d c it ss env) s (walk.for_left w d 0 (c.count - 0) c it ss env) s
unfolding walk.for_loop
for_begins {Tells = Tells} s w d c it ss env = let e : c.count - 0 ≡ c.count = omega arith in subst (λ z. Goes Tells (walk.for_loop w d c it ss env) s (walk.for_left w d 0 z c it ss env) s) (sym e) (goes_refl _ s)

pub while_begins : {Tells : List ℕ → Outside → Type 0} (s : Image) (w : Work) (d : ℕ) (e : Optional) (ss : Stmts) (env : Env) → Goes Tells (walk.while_loop w d e ss env) s (walk.while_left w d (suc w.limit - 0) e ss env) s
unfolding walk.while_loop
while_begins {Tells = Tells} s w d e ss env = let q : suc w.limit - 0 ≡ suc w.limit = omega arith in subst (λ z. Goes Tells (walk.while_loop w d e ss env) s (walk.while_left w d z e ss env) s) (sym q) (goes_refl _ s)

-- ---- components of an aggregate

module _ {Tells : List ℕ → Outside → Type 0} (whole : Stored (List ℤ)) (s t u : Image) (w : Work) (d k n first stride : ℕ) (turns : Bool) (iterated : Option Iterated) (v : Value) (env : Env) (cells : List ℤ) (lt : k < n) (g : Goes Tells whole s (walk.run_values w d k (n - k) first stride turns iterated v env cells) t) where
  run_more : Goes Tells whole s (bind (walk.given w d turns iterated k v env) (λ cs. walk.run_values w d (k + 1) (n - (k + 1)) (first + stride) stride turns iterated v env (laid cells first cs))) t
  unfolding walk.run_values
  run_more = let e : n - k ≡ suc (n - (k + 1)) = omega arith in subst (λ z. Goes Tells whole s (walk.run_values w d k z first stride turns iterated v env cells) t) e g

  pub run_step : (cs more : List ℤ) (next : ℕ) → Shows Tells (walk.given w d turns iterated k v env) (Ok cs) t u → more ≡ laid cells first cs → next ≡ first + stride → Goes Tells whole s (walk.run_values w d (k + 1) (n - (k + 1)) next stride turns iterated v env more) u
  run_step cs more next h p q =
      subst (λ z. Goes Tells whole s (walk.run_values w d (k + 1) (n - (k + 1)) z stride turns iterated v env more) u) (sym q) (subst (λ z. Goes Tells whole s (walk.run_values w d (k + 1) (n - (k + 1)) (first + stride) stride turns iterated v env z) u) (sym p)
      (goes_then (λ a. a) (λ a. a) whole (walk.given w d turns iterated k v env) (λ cs. walk.run_values w d (k + 1) (n - (k + 1)) (first + stride) stride turns iterated v env (laid cells first cs)) s t u cs run_more h))

  pub run_ends : (e : ends.End) (r : Result (List ℤ) ends.End) → r ≡ Err e → Shows Tells (walk.given w d turns iterated k v env) (Err e) t u → Shows Tells whole r s u
  run_ends e r q h =
      subst (λ z. Shows Tells whole z s u) (sym q) (goes_ends (λ a. a) (λ a. a) whole (walk.given w d turns iterated k v env) (λ cs. walk.run_values w d (k + 1) (n - (k + 1)) (first + stride) stride turns iterated v env (laid cells first cs)) s t u e run_more h)

pub run_begins : {Tells : List ℕ → Outside → Type 0} (s : Image) (w : Work) (d n first stride : ℕ) (turns : Bool) (iterated : Option Iterated) (v : Value) (env : Env) (out : List ℤ) → Goes Tells (walk.run_values w d 0 n first stride turns iterated v env out) s (walk.run_values w d 0 (n - 0) first stride turns iterated v env out) s
run_begins {Tells = Tells} s w d n first stride turns iterated v env out = let q : n - 0 ≡ n = omega arith in subst (λ z. Goes Tells (walk.run_values w d 0 n first stride turns iterated v env out) s (walk.run_values w d 0 z first stride turns iterated v env out) s) (sym q) (goes_refl _ s)

pub run_done : {Tells : List ℕ → Outside → Type 0} (whole : Stored (List ℤ)) (s t : Image) (w : Work) (d k n first stride : ℕ) (turns : Bool) (iterated : Option Iterated) (v : Value) (env : Env) (cells : List ℤ) → n ≤ k → Goes Tells whole s (walk.run_values w d k (n - k) first stride turns iterated v env cells) t → Shows Tells whole (Ok cells) s t
unfolding walk.run_values
run_done {Tells = Tells} whole s t w d k n first stride turns iterated v env cells le g =
    let e : n - k ≡ 0 = omega arith in goes_gives (λ a. a) whole cells s t (subst (λ z. Goes Tells whole s (walk.run_values w d k z first stride turns iterated v env cells) t) e g)

-- ---- ways to be left

module _ (m : Stored (Unit {0})) (takes : paths.Leave → Bool) (h : paths.Leave → Stored (Unit {0})) (s t : State) where
  stops_so : (y : paths.Leave) (c : Outage) (v : State) → takes y ≡ true → m.does s ≡ at t (Err (Left y)) → Stops (h y) t c v → Stops (handles m takes h) s c v
  unfolding handles
  stops_so y c v q k l = inr (inr (subst (λ (z : After _). handled_halts z.state z.end takes h c v) (sym k) (subst (λ b. cond b (Stops (h y) t c v) ⊥) (sym q) l)))

  does_so : (y : paths.Leave) → takes y ≡ true → m.does s ≡ at t (Err (Left y)) → (handles m takes h).does s ≡ (h y).does t
  unfolding handles
  does_so y q k = ap (λ (z : After _). handled z.state z.end takes h) k ∙ ap (λ b. cond b ((h y).does t) (at t (Err (Left y)))) q

module _ {Tells : List ℕ → Outside → Type 0} (m : Stored (Unit {0})) (takes : paths.Leave → Bool) (h : paths.Leave → Stored (Unit {0})) (s t : Image) where
  -- what isn't handled
  pub handles_not : (r : Result (Unit {0}) ends.End) → ((x : paths.Leave) (y : ends-leave.Leave) → r ≡ Err (end.Left y) → leave_of y ≡ x → takes x ≡ false) → Shows Tells m r s t → Shows Tells (handles m takes h) r s t
  unfolding handles
  handles_not (Ok a) n k = (k.0, k.1, λ input told. ap (λ (z : After _). handled z.state z.end takes h) (k.2 input told))
  handles_not (Err (end.Left y)) n k =
      (k.0, k.1, λ input told. ap (λ (z : After _). handled z.state z.end takes h) (k.2 input told) ∙ ap (λ b. cond b ((h (leave_of y)).does (facing input t.state)) (at (facing input t.state) (Err (Left (leave_of y))))) (n (leave_of y) y refl refl))
  handles_not (Err end.Spent) n k = (k.0, k.1, λ input told. ap (λ (z : After _). handled z.state z.end takes h) (k.2 input told))
  handles_not (Err end.NoMemory) n k = (k.0, k.1, λ input told. inr (inl (k.2 input told)))
  handles_not (Err end.ReadFault) n k = (k.0, k.1, λ input told. inr (inl (k.2 input told)))
  handles_not (Err end.WriteFault) n k = (k.0, k.1, λ input told. inr (inl (k.2 input told)))

  -- what is left in a way that is handled
  pub handles_so : (y : ends-leave.Leave) (r : Result (Unit {0}) ends.End) (u : Image) → takes (leave_of y) ≡ true → Shows Tells m (Err (end.Left y)) s t → Shows Tells (h (leave_of y)) r t u → Shows Tells (handles m takes h) r s u
  handles_so y r u q k l = goes_shows (λ a. a) (handles m takes h) (h (leave_of y)) s t u r goes l
    where
      goes : Goes Tells (handles m takes h) s (h (leave_of y)) t
      goes = record {
        faults = k.0;
        keeps = k.1;
        same = λ input told. does_so m takes h (facing input s.state) (facing input t.state) (leave_of y) q (k.2 input told);
        stops = λ input told c v j. stops_so m takes h (facing input s.state) (facing input t.state) (leave_of y) c v q (k.2 input told) j;
      }
