-- By what statements may be left: raises, returns, and exits of the loops around that they name; calls by raises only.
use Rattle.std.proofs.Common.{◌≡◌, ℕ, zero, suc, ℤ, pos, List, [], ◌∷◌, Option, Some, None, Bool, true, false, refl, sym, true≢false, ◌⊎◌, ⊎_elim}
use Rattle.ada_base.specs.Input
use Rattle.ada_base.specs.Input.{Held, Nothing, Symbol}
use Rattle.ada_base.specs.declared.reason.Reason.{Reason}
use Rattle.ada_base.specs.declared.reason.Reason.TheVariants as reason
use Rattle.behaviours.specs.Paths.{Leave, Exits, Returns, Raises, Entity, Region, Here}
use Rattle.typed_tree.specs.declared.scalars.Check.{Check}
use Rattle.typed_tree.specs.declared.scalars.Scalar.{Scalar}
use Rattle.typed_tree.specs.Syntax.{Expr, Optional, Absent, Present, Iteration, Chunk, Pieces, NoPiece, Text, Image, Padded, Decls, NoDecl, DeclareDefault, DeclareVariable, DeclareConstant, Mentions, Stmt, Null, Assign, CallProcedure, Exit, Return, ReturnValue, Raise, Reraise, IfThen, Case, Loop, For, ParallelFor, Parallel, Block, Put, Get, Stmts, End, Then, Alternatives, NoAlternative, Alternative, Arms, NoArm, Arm, Handlers, NoHandler, Handler, Sub, Program}
use Rattle.ada_meaning.specs.Operations.{RangeCheck, Operations}
use Rattle.ada_meaning.specs.Stored as stored
use Rattle.ada_meaning.specs.Stored.{Stored, Cause, Left}
use Rattle.ada_meaning.specs.Meaning
use Rattle.ada_meaning.specs.Meaning.{Env, ObjectPart, Passed, Returned, Back, inside, sub_at}
use Rattle.typed_scopes.specs.Outs.{Out, OutStmt, OutAll, OutCases, OutArms, OutHandlers, AllClosed}
use Rattle.ada_lower.proofs.EvalLeaves.{Closed, closed_weak, Raised, c_ret, c_leaves, c_bind, c_cond, c_look, c_turn, c_through, c_spent, c_puts, c_recalls, c_keeps, c_takes, c_elaborates, c_apart, c_noted, c_handles, c_raise, c_writes, c_checks, c_turned, c_write_all, c_read_all, c_checked, c_unless, c_opened, c_most, c_while, c_iterate, c_eval, c_holds, c_select, c_pass, c_cells, c_course, c_filtered, c_chunking}

-- a list of loops that are exited, which among others

pub out_more : {may may' : ℕ → Type 0} → ((n : ℕ) → may n → may' n) → (l : Leave) → Out may l → Out may' l
out_more h (Exits n) m = h n m
out_more h (Returns v) m = tt
out_more h (Raises r) m = tt

pub raised_out : (may : ℕ → Type 0) (l : Leave) → Raised l → Out may l
raised_out may (Exits n) m = absurd m
raised_out may (Returns v) m = tt
raised_out may (Raises r) m = tt

module _ (limit : ℕ) (cuts : ℕ → ℕ → List ℕ) where
  abbrev ops : Operations {1}
  ops = stored.noted_operations limit cuts

  -- input
  module _ (may : Leave → Type 0) (raises : (r : Reason) → may (Raises r)) where
    asks : Closed may (Input.Reading.asks (Meaning.reading ops))
    asks = c_bind may (c_turn may limit) (λ _. c_takes may)

    fails : {A : Type 0} (s : Option ℕ) (r : Reason) → Closed may (Input.fails_at (Meaning.reading ops) {A = A} s r)
    fails s r = c_bind may (c_keeps may (Symbol s)) (λ _. c_raise may raises r)

    skips : (n : ℕ) (s : Option ℕ) → Closed may (Input.skip_blanks (Meaning.reading ops) n s)
    skips zero s = c_spent may
    skips (suc n) s = c_cond may _ (c_bind may asks (λ t. skips n t)) (c_ret may s)

    number_ends : (negative : Bool) (m : ℕ) (s : Option ℕ) → Closed may (Input.number_ends (Meaning.reading ops) negative m s)
    number_ends negative m s = c_cond may _ (fails s reason.DataError) (c_bind may (c_keeps may (Symbol s)) (λ _. c_ret may _))

    digits : (k : ℕ) (negative : Bool) (n : ℕ) (s : Option ℕ) → Closed may (Input.digits (Meaning.reading ops) k negative n s)
    digits zero negative n s = c_spent may
    digits (suc k) negative n s = c_bind may asks (λ t. c_cond may _ (digits k negative _ t) (c_cond may _ (c_bind may asks (λ u. c_cond may _ (digits k negative _ u) (fails u reason.DataError))) (number_ends negative _ t)))

    number_from : (k : ℕ) (negative : Bool) (s : Option ℕ) → Closed may (Input.number_from (Meaning.reading ops) k negative s)
    number_from k negative s = c_cond may _ (digits k negative 0 s) (fails s reason.DataError)

    unsigned : (k : ℕ) (s : Option ℕ) → Closed may (Input.unsigned_number (Meaning.reading ops) k s)
    unsigned k None = fails None reason.EndError
    unsigned k (Some b) = number_from k false (Some b)

    first_symbol : (h : Held) → Closed may (Input.first_symbol (Meaning.reading ops) h)
    first_symbol Nothing = asks
    first_symbol (Symbol s) = c_ret may s

    pub c_got : Closed may (Meaning.got ops limit)
    c_got = c_bind may (c_recalls may) (λ h. c_bind may (first_symbol h) (λ s. c_bind may (skips (suc limit) s) (λ t.
        c_cond may _ (c_bind may asks (λ u. number_from (suc limit) true u)) (c_cond may _ (c_bind may asks (λ u. number_from (suc limit) false u)) (unsigned (suc limit) t)))))

  module _ (program : Program) (calls : ℕ → ℕ → Stored (Unit {0}) → List Passed → Stored Returned) (calls_only : (n s : ℕ) (passed : List Passed) → Closed Raised (calls n s (stored.ret (tt {0})) passed)) (reducers_only : (n s : ℕ) (before : Stored (Unit {0})) (passed : List Passed) → Closed Raised before → Closed Raised (calls n s before passed)) where
    evals : (e : Expr) (env : Env) → Closed Raised (Meaning.eval ops limit program calls e env)
    evals e env = c_eval Raised (λ r. tt) limit cuts program calls reducers_only e env

    module _ (may : ℕ → Type 0) where
      up : {A : Type 0} {m : Stored A} → Closed Raised m → Closed (Out may) m
      up h = closed_weak (raised_out may) h

      pub o_holds : (o : Optional) (env : Env) → Closed (Out may) (Meaning.holds ops limit program calls o env)
      o_holds o env = up (c_holds Raised (λ r. tt) limit cuts program calls reducers_only o env)

      o_filtered : (it : Iteration) (env : Env) → Closed (Out may) (Meaning.filtered ops limit program calls it env)
      o_filtered it env = up (c_filtered Raised (λ r. tt) limit cuts program calls reducers_only it env)

      o_course : (it : Iteration) (env : Env) → Closed (Out may) (Meaning.course ops limit program calls it env)
      o_course it env = up (c_course Raised (λ r. tt) limit cuts program calls reducers_only it env)

      o_chunking : (k : Chunk) (env : Env) → Closed (Out may) (Meaning.chunking ops limit program calls k env)
      o_chunking k env = up (c_chunking Raised (λ r. tt) limit cuts program calls reducers_only k env)

      threads_of : (o : Optional) (env : Env) → Closed (Out may) (Meaning.threads_of ops limit program calls o env)
      threads_of Absent env = c_ret (Out may) _
      threads_of (Present e) env = c_bind (Out may) (up (evals e env)) (λ v. c_most (Out may) (λ r. tt) limit cuts v)

      written : (ps : Pieces) (env : Env) (so_far : List ℕ) → Closed (Out may) (Meaning.written ops limit program calls ps env so_far)
      written NoPiece env so_far = c_ret (Out may) so_far
      written (Text bytes rest) env so_far = written rest env _
      written (Image class e rest) env so_far = c_bind (Out may) (up (evals e env)) (λ v. written rest env _)
      written (Padded class e width rest) env so_far = c_bind (Out may) (up (evals e env)) (λ v. c_bind (Out may) (up (evals width env)) (λ w. written rest env _))

      pub declared : {A : Type 0} (ds : Decls) (region : Region) (env : Env) {rest : Stored A} → Closed (Out may) rest → Closed (Out may) (Meaning.declared ops limit program calls ds region env rest)
      declared NoDecl region env h = h
      declared (DeclareDefault y more) region env h = c_elaborates (Out may) region _ _ (declared more region env h)
      declared (DeclareVariable y initial more) region env h = c_bind (Out may) (up (c_cells Raised (λ r. tt) limit cuts program calls reducers_only initial env)) (λ cs. c_elaborates (Out may) region _ cs (declared more region env h))
      declared (DeclareConstant y initial more) region env h = c_bind (Out may) (up (c_cells Raised (λ r. tt) limit cuts program calls reducers_only initial env)) (λ cs. c_elaborates (Out may) region _ cs (declared more region env h))
      declared (Mentions es more) region env h = declared more region env h

      back_checked : (o : Option Check) (vs : List ℤ) → Closed (Out may) (Meaning.back_checked ops limit program calls o vs)
      back_checked None vs = c_ret (Out may) tt
      back_checked (Some k) [] = c_ret (Out may) tt
      back_checked (Some k) (v ∷ vs) = c_checked (Out may) (λ r. tt) limit cuts k v

      copied_back : (b : Option Back) (vs : List ℤ) → Closed (Out may) (Meaning.copied_back ops limit program calls b vs)
      copied_back None vs = c_ret (Out may) tt
      copied_back (Some b) vs = c_bind (Out may) (back_checked b.check vs) (λ _. c_write_all (Out may) (λ r. tt) limit cuts _ _ vs)

      all_back : (ps : List Passed) (vss : List (List ℤ)) → Closed (Out may) (Meaning.all_copied_back ops limit program calls ps vss)
      all_back [] vss = c_ret (Out may) tt
      all_back (p ∷ ps) [] = c_ret (Out may) tt
      all_back (p ∷ ps) (vs ∷ vss) = c_bind (Out may) (copied_back p.back vs) (λ _. all_back ps vss)

      -- a loop's own exits go no further
      own_exit : (number : ℕ) (m : Stored (Unit {0})) → Closed (Out (λ n. (n ≡ number) ⊎ may n)) m → Closed (Out may) (stored.handles m (Meaning.exits number) (λ _. stored.ret (tt {0})))
      own_exit number m h = c_handles (Out may) (Out (λ n. (n ≡ number) ⊎ may n)) m (Meaning.exits number) (λ _. stored.ret (tt {0})) h (λ w e. c_ret (Out may) tt) past
        where
          past : (w : Leave) → Meaning.exits number w ≡ false → Out (λ n. (n ≡ number) ⊎ may n) w → Out may w
          past (Exits n) e m = ⊎_elim (λ z. absurd (Rattle.std.proofs.lemmas.Bool.eqb-false number n e (sym z))) (λ z. z) m
          past (Returns v) e m = tt
          past (Raises r) e m = tt

      pub guarded : (hs : Handlers) (body : Stored (Unit {0})) (handler : Reason → Stored (Unit {0})) → Closed (Out may) body → ((r : Reason) → Closed (Out may) (handler r)) → Closed (Out may) (Meaning.guarded ops hs body handler)
      guarded hs body handler h k = c_handles (Out may) (Out may) body _ _ h (λ w e. c_bind (Out may) (c_look (Out may)) (λ _. k _)) (λ w e m. m)

    mutual
      pub o_exec : (may : ℕ → Type 0) (t : Stmt) (env : Env) → OutStmt may t → Closed (Out may) (Meaning.exec ops limit program calls t env)
      o_exec may Null env o = c_ret (Out may) tt
      o_exec may (Assign at r selections value) env o =
          c_bind (Out may) (up may (c_select Raised (λ r. tt) limit cuts program calls reducers_only selections env _)) (λ p. c_bind (Out may) (up may (c_cells Raised (λ r. tt) limit cuts program calls reducers_only value _)) (λ cs. c_write_all (Out may) (λ r. tt) limit cuts _ _ cs))
      o_exec may (CallProcedure at callee s actuals) env o =
          c_bind (Out may) (up may (c_pass Raised (λ r. tt) limit cuts program calls reducers_only actuals env [])) (λ passed. c_bind (Out may) (up may (calls_only env.nested s passed)) (λ r. all_back may passed r.cells))
      o_exec may (Exit loop condition) env o = c_bind (Out may) (o_holds may condition env) (λ b. c_cond (Out may) b (c_leaves (Out may) (Exits loop) o) (c_ret (Out may) tt))
      o_exec may Return env o = c_leaves (Out may) (Returns None) tt
      o_exec may (ReturnValue value) env o = c_bind (Out may) (up may (c_cells Raised (λ r. tt) limit cuts program calls reducers_only value env)) (λ cs. c_leaves (Out may) (Returns _) tt)
      o_exec may (Raise r) env o = c_leaves (Out may) (Raises r) tt
      o_exec may Reraise env o = c_leaves (Out may) (Raises _) tt
      o_exec may (IfThen condition stmts otherwise) env o = c_bind (Out may) (up may (evals condition env)) (λ v. c_cond (Out may) _ (o_all may stmts env o.0) (o_all may otherwise env o.1))
      o_exec may (Case e alternatives) env o = c_bind (Out may) (up may (evals e env)) (λ v. o_cases may alternatives v env o)
      o_exec may (Loop number condition stmts) env o = own_exit may number _ (c_while (Out (λ n. (n ≡ number) ⊎ may n)) (λ r. tt) limit cuts (suc limit) _ _ (o_holds (λ n. (n ≡ number) ⊎ may n) condition env) (o_all (λ n. (n ≡ number) ⊎ may n) stmts env o))
      o_exec may (For number iteration stmts) env o = c_bind (Out may) (o_course may iteration env) (λ k. own_exit may number _
          (c_through (Out (λ n. (n ≡ number) ⊎ may n)) _ (λ i u. c_iterate (Out (λ n. (n ≡ number) ⊎ may n)) (λ r. tt) limit cuts _ _ (o_filtered (λ n. (n ≡ number) ⊎ may n) iteration (k.bound i env)) (o_all (λ n. (n ≡ number) ⊎ may n) stmts (k.bound i env) o)) 0 k.count tt))
      o_exec may (ParallelFor number site chunk iteration stmts) env o =
          c_bind (Out may) (c_opened (Out may) (λ r. tt) limit cuts env) (λ _. c_bind (Out may) (o_chunking may chunk (inside env)) (λ j. c_bind (Out may) (o_course may iteration (inside env)) (λ k. c_bind (Out may) (c_unless (Out may) (λ r. tt) limit cuts _ _) (λ _.
          own_exit may number _ (c_bind (Out (λ n. (n ≡ number) ⊎ may n)) (c_noted (Out (λ n. (n ≡ number) ⊎ may n)) _ _ _ (λ share. c_through (Out (λ n. (n ≡ number) ⊎ may n)) _ (λ i u. c_iterate (Out (λ n. (n ≡ number) ⊎ may n)) (λ r. tt) limit cuts _ _ (o_filtered (λ n. (n ≡ number) ⊎ may n) iteration _) (o_all (λ n. (n ≡ number) ⊎ may n) stmts _ o)) share.first share.size tt) tt _) (λ _. c_ret (Out (λ n. (n ≡ number) ⊎ may n)) tt))))))
      o_exec may (Parallel site number arms) env o =
          c_bind (Out may) (c_opened (Out may) (λ r. tt) limit cuts env) (λ _. c_bind (Out may) (threads_of may number (inside env)) (λ most.
          c_bind (Out may) (c_noted (Out may) _ _ _ (λ share. c_through (Out may) _ (λ i u. o_arm may arms i (inside env) o) share.first share.size tt) tt _) (λ _. c_ret (Out may) tt)))
      o_exec may (Block decls stmts handlers) env o = declared may decls Here env (guarded may handlers _ _ (o_all may stmts env o.0) (λ r. o_handler may handlers r env o.1))
      o_exec may (Put at callee pieces line) env o = c_bind (Out may) (written may pieces env []) (λ bytes. c_puts (Out may) _)
      o_exec may (Get at callee first r selections scalar) env o =
          c_bind (Out may) (up may (c_select Raised (λ r. tt) limit cuts program calls reducers_only selections env _)) (λ p. c_bind (Out may) (c_got (Out may) (λ r. tt)) (λ v. c_bind (Out may) (c_checks (Out may) (λ r. tt) RangeCheck first _) (λ _. c_writes (Out may) (λ r. tt) _ _ v)))

      pub o_all : (may : ℕ → Type 0) (ts : Stmts) (env : Env) → OutAll may ts → Closed (Out may) (Meaning.exec_all ops limit program calls ts env)
      o_all may End env o = c_ret (Out may) tt
      o_all may (Then first more) env o = c_bind (Out may) (o_exec may first env o.0) (λ _. o_all may more env o.1)

      o_cases : (may : ℕ → Type 0) (as' : Alternatives) (v : ℤ) (env : Env) → OutCases may as' → Closed (Out may) (Meaning.exec_chosen ops limit program calls as' v env)
      o_cases may NoAlternative v env o = c_leaves (Out may) (Raises reason.ConstraintError) tt
      o_cases may (Alternative others choices mentions stmts rest) v env o = c_cond (Out may) _ (o_all may stmts env o.0) (o_cases may rest v env o.1)

      pub o_arm : (may : ℕ → Type 0) (arms : Arms) (i : ℕ) (env : Env) → OutArms may arms → Closed (Out may) (Meaning.exec_arm ops limit program calls arms i env)
      o_arm may NoArm i env o = c_ret (Out may) tt
      o_arm may (Arm stmts rest) zero env o = o_all may stmts env o.0
      o_arm may (Arm stmts rest) (suc i) env o = o_arm may rest i env o.1

      o_handler : (may : ℕ → Type 0) (hs : Handlers) (r : Reason) (env : Env) → OutHandlers may hs → Closed (Out may) (Meaning.exec_handler ops limit program calls hs r env)
      o_handler may NoHandler r env o = c_leaves (Out may) (Raises r) tt
      o_handler may (Handler handled stmts rest) r env o = c_cond (Out may) _ (o_all may stmts _ o.0) (o_handler may rest r env o.1)

  -- ---- calls

  module _ (program : Program) (closed : AllClosed program) where
    with_formals : {A : Type 0} (ps : List Passed) {m : Stored A} → Closed Raised m → Closed Raised (Meaning.with_formals ops limit program ps m)
    with_formals [] h = h
    with_formals (p ∷ ps) h = c_elaborates Raised Here _ _ (with_formals ps h)

    cells_back : (y : Entity) (b : Option Back) → Closed Raised (Meaning.cells_back ops limit program y b)
    cells_back y None = c_ret Raised []
    cells_back y (Some b) = c_read_all Raised (λ r. tt) limit cuts y 0 [] b.cells

    back_cells : (ps : List Passed) (so_far : List (List ℤ)) → Closed Raised (Meaning.back_cells ops limit program ps so_far)
    back_cells [] so_far = c_ret Raised so_far
    back_cells (p ∷ ps) so_far = c_bind Raised (cells_back p.formal p.back) (λ vs. back_cells ps _)

    ended : (o : Option Scalar) → Closed (Out (λ n. ⊥)) (Meaning.ended ops limit program o)
    ended None = c_ret (Out (λ n. ⊥)) (pos 0)
    ended (Some k) = c_leaves (Out (λ n. ⊥)) (Raises reason.ProgramError) tt

    returned : (w : Leave) → Meaning.returns w ≡ false → Out (λ n. ⊥) w → Raised w
    returned (Exits n) e m = absurd m
    returned (Returns v) e m = absurd (true≢false e)
    returned (Raises r) e m = tt

    sub_only : (depth : ℕ) → ((n s : ℕ) (before : Stored (Unit {0})) (passed : List Passed) → Closed Raised before → Closed Raised (Meaning.call ops limit program depth n s before passed))
        → (o : Option Sub) → ((sub : Sub) → o ≡ Some sub → OutStmt (λ n. ⊥) (Block sub.body.decls sub.body.stmts sub.body.handlers)) → (n : ℕ) (passed : List Passed) → Closed Raised (Meaning.exec_sub ops limit program (Meaning.call ops limit program depth) o n passed)
    sub_only depth ih None outs n passed = c_leaves Raised (Raises reason.ProgramError) tt
    sub_only depth ih (Some sub) outs n passed =
        c_apart Raised (with_formals passed (c_bind Raised
        (c_handles Raised (Out (λ n. ⊥)) _ Meaning.returns _
        (c_bind (Out (λ n. ⊥)) (o_exec program (Meaning.call ops limit program depth) (λ n s ps. ih n s (stored.ret tt) ps (c_ret Raised tt)) ih (λ n. ⊥) (Block sub.body.decls sub.body.stmts sub.body.handlers) (Meaning.outset n) (outs sub refl)) (λ _. ended sub.result))
        (λ w e. c_ret Raised _) returned)
        (λ v. c_bind Raised (back_cells passed []) (λ vss. c_ret Raised _))))

    -- calls are left by raises alone
    pub call_only : (depth n s : ℕ) (before : Stored (Unit {0})) (passed : List Passed) → Closed Raised before → Closed Raised (Meaning.call ops limit program depth n s before passed)
    call_only zero n s before passed h = c_bind Raised (c_turned Raised (λ r. tt) limit cuts) (λ _. c_leaves Raised (Raises reason.StorageError) tt)
    call_only (suc depth) n s before passed h = c_bind Raised (c_turned Raised (λ r. tt) limit cuts) (λ _. c_bind Raised h (λ _.
        sub_only depth (call_only depth) (sub_at program.subs s) (λ sub e. closed s sub e) n passed))
