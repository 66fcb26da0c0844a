-- The loops that exits of a text name: those around it, of which a construct is left by some.
use Rattle.std.proofs.Common.{◌≡◌, ℕ, List, [], ◌∷◌, ◌++◌, ◌⊎◌, inl, inr, ⊎_elim, refl}
use Rattle.typed_tree.specs.Syntax.{Stmt, Null, Assign, CallProcedure, Exit, Return, ReturnValue, Raise, Reraise, IfThen, Case, Loop, For, ParallelFor, Parallel, Block, Put, Get, Stmts, End, Then, Alternatives, NoAlternative, Alternative, Arms, NoArm, Arm, Handlers, NoHandler, Handler}
use Rattle.ada_lower.specs.Sights.{Amid}
use Rattle.ada_lower.specs.Emission.{arm_exits, case_exits, exits_of, handler_exits, stmt_exits}
use Rattle.typed_scopes.specs.Outs.{OutAll, OutArms, OutCases, OutHandlers, OutStmt}

own_or : {A B : ℕ → Type 0} (number : ℕ) → ((n : ℕ) → A n → B n) → (n : ℕ) → (n ≡ number) ⊎ A n → (n ≡ number) ⊎ B n
own_or number h n (inl e) = inl e
own_or number h n (inr a) = inr (h n a)

mutual
  pub out_more : {A B : ℕ → Type 0} (t : Stmt) → ((n : ℕ) → A n → B n) → OutStmt A t → OutStmt B t
  out_more (Exit loop condition) h o = h loop o
  out_more (IfThen condition stmts otherwise) h o = (all_more stmts h o.0, all_more otherwise h o.1)
  out_more (Case e alternatives) h o = cases_more alternatives h o
  out_more (Loop number condition stmts) h o = all_more stmts (own_or number h) o
  out_more (For number iteration stmts) h o = all_more stmts (own_or number h) o
  out_more (ParallelFor number site chunk iteration stmts) h o = all_more stmts (own_or number h) o
  out_more (Parallel site count arms) h o = arms_more arms h o
  out_more (Block decls stmts handlers) h o = (all_more stmts h o.0, handlers_more handlers h o.1)
  out_more Null h o = tt
  out_more (Assign at r selections value) h o = tt
  out_more (CallProcedure at callee sub actuals) h o = tt
  out_more Return h o = tt
  out_more (ReturnValue value) h o = tt
  out_more (Raise r) h o = tt
  out_more Reraise h o = tt
  out_more (Put at callee pieces line) h o = tt
  out_more (Get at callee first r selections scalar) h o = tt

  pub all_more : {A B : ℕ → Type 0} (ts : Stmts) → ((n : ℕ) → A n → B n) → OutAll A ts → OutAll B ts
  all_more End h o = tt
  all_more (Then first more) h o = (out_more first h o.0, all_more more h o.1)

  pub cases_more : {A B : ℕ → Type 0} (ts : Alternatives) → ((n : ℕ) → A n → B n) → OutCases A ts → OutCases B ts
  cases_more NoAlternative h o = tt
  cases_more (Alternative others choices mentions stmts rest) h o = (all_more stmts h o.0, cases_more rest h o.1)

  pub arms_more : {A B : ℕ → Type 0} (ts : Arms) → ((n : ℕ) → A n → B n) → OutArms A ts → OutArms B ts
  arms_more NoArm h o = tt
  arms_more (Arm stmts rest) h o = (all_more stmts h o.0, arms_more rest h o.1)

  pub handlers_more : {A B : ℕ → Type 0} (ts : Handlers) → ((n : ℕ) → A n → B n) → OutHandlers A ts → OutHandlers B ts
  handlers_more NoHandler h o = tt
  handlers_more (Handler handled stmts rest) h o = (all_more stmts h o.0, handlers_more rest h o.1)

-- ---- lists of loops

pub amid_left : (n : ℕ) (ms ns : List ℕ) → Amid n ms → Amid n (ms ++ ns)
amid_left n [] ns h = absurd h
amid_left n (m ∷ ms) ns (inl e) = inl e
amid_left n (m ∷ ms) ns (inr h) = inr (amid_left n ms ns h)

pub amid_right : (n : ℕ) (ms ns : List ℕ) → Amid n ns → Amid n (ms ++ ns)
amid_right n [] ns h = h
amid_right n (m ∷ ms) ns h = inr (amid_right n ms ns h)

amid_both : {C : Type 0} (n : ℕ) (ms ns : List ℕ) → (Amid n ms → C) → (Amid n ns → C) → Amid n (ms ++ ns) → C
amid_both n [] ns f g h = g h
amid_both n (m ∷ ms) ns f g (inl e) = f (inl e)
amid_both n (m ∷ ms) ns f g (inr h) = amid_both n ms ns (λ a. f (inr a)) g h

abbrev pub Every : (ℕ → Type 0) → List ℕ → Type 0
Every B [] = Unit {0}
Every B (n ∷ ns) = B n × Every B ns

every_both : (B : ℕ → Type 0) (ms ns : List ℕ) → Every B ms → Every B ns → Every B (ms ++ ns)
every_both B [] ns f g = g
every_both B (m ∷ ms) ns f g = (f.0, every_both B ms ns f.1 g)

pub every_at : (B : ℕ → Type 0) (ns : List ℕ) → ((n : ℕ) → Amid n ns → B n) → Every B ns
every_at B [] h = tt
every_at B (n ∷ ns) h = (h n (inl refl), every_at B ns (λ m a. h m (inr a)))

-- ---- of exits that are inner ones or lead out, the loops of those that lead out

pub record Gathered (A B : ℕ → Type 0) (exits : List ℕ) (Out : (ℕ → Type 0) → Type 0) : Type 0 where
  pub loops : List ℕ
  pub among : (n : ℕ) → Amid n loops → Amid n exits
  pub every : Every B loops
  pub outs : Out (λ n. A n ⊎ Amid n loops)

none_gathered : (A B : ℕ → Type 0) (exits : List ℕ) (Out : (ℕ → Type 0) → Type 0) → ((M : ℕ → Type 0) → Out M) → Gathered A B exits Out
none_gathered A B exits Out h = record { loops = []; among = λ n a. absurd a; every = tt; outs = h _ }

-- of two parts
two_gathered : (A B : ℕ → Type 0) (ms ns : List ℕ) (O P : (ℕ → Type 0) → Type 0) → ((M N : ℕ → Type 0) → ((n : ℕ) → M n → N n) → O M → O N) → ((M N : ℕ → Type 0) → ((n : ℕ) → M n → N n) → P M → P N)
    → Gathered A B ms O → Gathered A B ns P → Gathered A B (ms ++ ns) (λ M. O M × P M)
two_gathered A B ms ns O P o p f g = record {
  loops = f.loops ++ g.loops;
  among = λ n a. amid_both n f.loops g.loops (λ z. amid_left n ms ns (f.among n z)) (λ z. amid_right n ms ns (g.among n z)) a;
  every = every_both B f.loops g.loops f.every g.every;
  outs = (
    o _ _ (λ n s. ⊎_elim (λ a. inl a) (λ z. inr (amid_left n f.loops g.loops z)) s) f.outs,
    p _ _ (λ n s. ⊎_elim (λ a. inl a) (λ z. inr (amid_right n f.loops g.loops z)) s) g.outs,
  );
}

to_right : (A B : ℕ → Type 0) (number : ℕ) (n : ℕ) → (n ≡ number) ⊎ (A n ⊎ B n) → ((n ≡ number) ⊎ A n) ⊎ B n
to_right A B number n (inl e) = inl (inl e)
to_right A B number n (inr (inl a)) = inl (inr a)
to_right A B number n (inr (inr b)) = inr b

to_left : (A B : ℕ → Type 0) (number : ℕ) (n : ℕ) → ((n ≡ number) ⊎ A n) ⊎ B n → (n ≡ number) ⊎ (A n ⊎ B n)
to_left A B number n (inl (inl e)) = inl e
to_left A B number n (inl (inr a)) = inr (inl a)
to_left A B number n (inr b) = inr (inr b)

loop_gathered : (A B : ℕ → Type 0) (number : ℕ) (ts : Stmts) → Gathered (λ n. (n ≡ number) ⊎ A n) B (exits_of ts) (λ M. OutAll M ts) → Gathered A B (exits_of ts) (λ M. OutAll (λ n. (n ≡ number) ⊎ M n) ts)
loop_gathered A B number ts g = record { loops = g.loops; among = g.among; every = g.every; outs = all_more ts (to_left A (λ n. Amid n g.loops) number) g.outs }

mutual
  gather : (A B : ℕ → Type 0) (t : Stmt) → OutStmt (λ n. A n ⊎ B n) t → Gathered A B (stmt_exits t) (λ M. OutStmt M t)
  gather A B (Exit loop condition) (inl a) = record { loops = []; among = λ n z. absurd z; every = tt; outs = inl a }
  gather A B (Exit loop condition) (inr b) = record { loops = loop ∷ []; among = λ n z. z; every = (b, tt); outs = inr (inl refl) }
  gather A B (IfThen condition stmts otherwise) o =
      two_gathered A B (exits_of stmts) (exits_of otherwise) (λ M. OutAll M stmts) (λ M. OutAll M otherwise) (λ M N h. all_more stmts h) (λ M N h. all_more otherwise h) (gather_all A B stmts o.0) (gather_all A B otherwise o.1)
  gather A B (Case e alternatives) o = gather_cases A B alternatives o
  gather A B (Loop number condition stmts) o = loop_gathered A B number stmts (gather_all (λ n. (n ≡ number) ⊎ A n) B stmts (all_more stmts (to_right A B number) o))
  gather A B (For number iteration stmts) o = loop_gathered A B number stmts (gather_all (λ n. (n ≡ number) ⊎ A n) B stmts (all_more stmts (to_right A B number) o))
  gather A B (ParallelFor number site chunk iteration stmts) o = loop_gathered A B number stmts (gather_all (λ n. (n ≡ number) ⊎ A n) B stmts (all_more stmts (to_right A B number) o))
  gather A B (Parallel site count arms) o = gather_arms A B arms o
  gather A B (Block decls stmts handlers) o =
      two_gathered A B (exits_of stmts) (handler_exits handlers) (λ M. OutAll M stmts) (λ M. OutHandlers M handlers) (λ M N h. all_more stmts h) (λ M N h. handlers_more handlers h) (gather_all A B stmts o.0) (gather_handlers A B handlers o.1)
  gather A B Null o = none_gathered A B [] _ (λ M. tt)
  gather A B (Assign at r selections value) o = none_gathered A B [] _ (λ M. tt)
  gather A B (CallProcedure at callee sub actuals) o = none_gathered A B [] _ (λ M. tt)
  gather A B Return o = none_gathered A B [] _ (λ M. tt)
  gather A B (ReturnValue value) o = none_gathered A B [] _ (λ M. tt)
  gather A B (Raise r) o = none_gathered A B [] _ (λ M. tt)
  gather A B Reraise o = none_gathered A B [] _ (λ M. tt)
  gather A B (Put at callee pieces line) o = none_gathered A B [] _ (λ M. tt)
  gather A B (Get at callee first r selections scalar) o = none_gathered A B [] _ (λ M. tt)

  pub gather_all : (A B : ℕ → Type 0) (ts : Stmts) → OutAll (λ n. A n ⊎ B n) ts → Gathered A B (exits_of ts) (λ M. OutAll M ts)
  gather_all A B End o = none_gathered A B [] _ (λ M. tt)
  gather_all A B (Then first more) o =
      two_gathered A B (stmt_exits first) (exits_of more) (λ M. OutStmt M first) (λ M. OutAll M more) (λ M N h. out_more first h) (λ M N h. all_more more h) (gather A B first o.0) (gather_all A B more o.1)

  gather_cases : (A B : ℕ → Type 0) (ts : Alternatives) → OutCases (λ n. A n ⊎ B n) ts → Gathered A B (case_exits ts) (λ M. OutCases M ts)
  gather_cases A B NoAlternative o = none_gathered A B [] _ (λ M. tt)
  gather_cases A B (Alternative others choices mentions stmts rest) o =
      two_gathered A B (exits_of stmts) (case_exits rest) (λ M. OutAll M stmts) (λ M. OutCases M rest) (λ M N h. all_more stmts h) (λ M N h. cases_more rest h) (gather_all A B stmts o.0) (gather_cases A B rest o.1)

  pub gather_arms : (A B : ℕ → Type 0) (ts : Arms) → OutArms (λ n. A n ⊎ B n) ts → Gathered A B (arm_exits ts) (λ M. OutArms M ts)
  gather_arms A B NoArm o = none_gathered A B [] _ (λ M. tt)
  gather_arms A B (Arm stmts rest) o =
      two_gathered A B (exits_of stmts) (arm_exits rest) (λ M. OutAll M stmts) (λ M. OutArms M rest) (λ M N h. all_more stmts h) (λ M N h. arms_more rest h) (gather_all A B stmts o.0) (gather_arms A B rest o.1)

  gather_handlers : (A B : ℕ → Type 0) (ts : Handlers) → OutHandlers (λ n. A n ⊎ B n) ts → Gathered A B (handler_exits ts) (λ M. OutHandlers M ts)
  gather_handlers A B NoHandler o = none_gathered A B [] _ (λ M. tt)
  gather_handlers A B (Handler handled stmts rest) o =
      two_gathered A B (exits_of stmts) (handler_exits rest) (λ M. OutAll M stmts) (λ M. OutHandlers M rest) (λ M N h. all_more stmts h) (λ M N h. handlers_more rest h) (gather_all A B stmts o.0) (gather_handlers A B rest o.1)
