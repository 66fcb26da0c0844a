-- A construct stands no more often among those that are listed than its number stands in the text.
use Rattle.std.proofs.Common.{◌≡◌, ℕ, ◌+◌, ◌≤◌, List, [], ◌∷◌, ◌++◌, inl, inr, Option, Some, None, Bool, true, cond, refl, sym, ap, ◌∙◌, arith, eq-eqb}
use Rattle.typed_tree.specs.Syntax.{Expr, Static, Variable, Constant, Parameter, Target, Group, Unary, Binary, AndThen, OrElse, Relation, Membership, If, Call, Convert, Reduction, Optional, Absent, Present, Selections, Whole, Field, Index, Actuals, NoActual, In, InOut, Out, CompositeInOut, CompositeOut, Value, Number, Cells, Composite, WholeVariable, WholeConstant, WholeTarget, CompositeIf, Aggregate, Associations, NoAssociation, Association, Iteration, Range, Components, Chunk, NoChunk, Count, Each, Pieces, NoPiece, Text, Image, Padded, Decls, NoDecl, DeclareDefault, DeclareVariable, DeclareConstant, Mentions, Stmt, Null, Assign, CallProcedure, Exit, Return, ReturnValue, Raise, Reraise, IfThen, Case, Loop, For, ParallelFor, Parallel, Block, Put, Get, Stmts, End, Then, Alternatives, NoAlternative, Alternative, Arms, NoArm, Arm, Handlers, NoHandler, Handler, Sub, Program}
use Rattle.typed_sites.specs.Sites.{in_number, in_site, in_expr, in_exprs, in_optional, in_selections, in_actuals, in_value, in_composite, in_associations, in_iteration, in_chunk, in_pieces, in_decls, in_stmt, in_stmts, in_alternatives, in_arms, in_handlers, in_subs, in_program, SitesAreDistinct}
use Rattle.ada_lower.specs.declared.types.Standing.{Standing}
use Rattle.ada_lower.specs.Standings.{depth_in, goes_through_range, standings_of, subs_standings, with_site}
use Rattle.ada_lower.specs.Standings.{actuals_standings, arm_standings, associations_standings, case_standings, chunk_standings, composite_standings, decls_standings, expr_standings, handler_standings, iteration_standings, optional_standings, pieces_standings, selections_standings, stmt_standings, stmts_standings, value_standings}
use Rattle.ada_lower.specs.Lending.{Among}
use Rattle.lower_laws.specs.Granted.{StandingsAreDistinct}

module _ (site : ℕ) where
  -- how many of them are of that number
  abbrev of_number : List Standing → ℕ
  of_number [] = 0
  of_number (t ∷ ts) = in_number site t.site + of_number ts

  more : (ts : List Standing) (t : Standing) → of_number (ts ++ t ∷ []) ≤ of_number ts + in_number site t.site
  more [] t = let z : ℕ = in_number site t.site in let e : z + 0 ≤ 0 + z = omega arith in e
  more (x ∷ ts) t = let h = more ts t in let a : ℕ = in_number site x.site in let b : ℕ = of_number ts in let c : ℕ = in_number site t.site in let w : ℕ = of_number (ts ++ t ∷ []) in let k : w ≤ b + c = h in let e : a + w ≤ a + b + c = omega (arith, k) in e

  two : (a b c x y : ℕ) → a ≤ b + x → b ≤ c + y → a ≤ c + (x + y)
  two a b c x y f g = omega (arith, f, g)

  turned : (a b c x y : ℕ) → a ≤ b + x → b ≤ c + y → a ≤ c + (y + x)
  turned a b c x y f g = omega (arith, f, g)

  three : (a b c d x y z : ℕ) → a ≤ b + z → b ≤ c + y → c ≤ d + x → a ≤ d + (x + (y + z))
  three a b c d x y z f g h = omega (arith, f, g, h)

  none : (a : ℕ) → a ≤ a + 0
  none a = omega arith

  wider : (a b x y : ℕ) → x ≤ y → a ≤ b + x → a ≤ b + y
  wider a b x y f g = omega (arith, f, g)

  few_site : (d : ℕ) (s : Option ℕ) (ranges : Bool) (o : List Standing) → of_number (with_site d s ranges o) ≤ of_number o + in_site site s
  few_site d None ranges o = none (of_number o)
  few_site d (Some n) ranges o = more o (record { site = n; depth = d; ranges = ranges })

  mutual
    unfolding expr_standings

    few_expr : (d : ℕ) (e : Expr) (o : List Standing) → of_number (expr_standings d e o) ≤ of_number o + in_expr site e
    few_expr d (Static at value literal mentions) o = wider _ _ 0 (in_exprs site mentions) (let z : ℕ = in_exprs site mentions in let e : 0 ≤ z = omega arith in e) (none (of_number o))
    few_expr d (Variable at from g scalar) o = few_select d g o
    few_expr d (Constant at from g scalar) o = few_select d g o
    few_expr d (Parameter at k) o = none (of_number o)
    few_expr d (Target at scalar) o = none (of_number o)
    few_expr d (Group e) o = few_expr d e o
    few_expr d (Unary at s class e) o = few_expr d e o
    few_expr d (Binary at s class e f) o = two _ _ _ _ _ (few_expr d e _) (few_expr d f o)
    few_expr d (AndThen e f) o = two _ _ _ _ _ (few_expr d e _) (few_expr d f o)
    few_expr d (OrElse e f) o = two _ _ _ _ _ (few_expr d e _) (few_expr d f o)
    few_expr d (Relation class s e f) o = two _ _ _ _ _ (few_expr d e _) (few_expr d f o)
    few_expr d (Membership class negated e low high) o = three _ _ _ _ _ _ _ (few_expr d high _) (few_expr d low _) (few_expr d e o)
    few_expr d (If c v w) o = three _ _ _ _ _ _ _ (few_expr d w _) (few_expr d v _) (few_expr d c o)
    few_expr d (Call at callee s a) o = few_actuals d a o
    few_expr d (Convert check e) o = few_expr d e o
    few_expr d (Reduction at a by initial s chunk it value) o =
        turned _ _ _ (in_expr site initial + (in_chunk site chunk + (in_iteration site it + in_expr site value))) _
        (turned _ _ _ _ _ (turned _ _ _ _ _ (turned _ _ _ _ _ (few_expr (depth_in d s) value _) (few_iteration d (depth_in d s) it _)) (few_chunk d chunk _)) (few_expr d initial _)) (few_site d s _ o)

    few_optional : (d : ℕ) (e : Optional) (o : List Standing) → of_number (optional_standings d e o) ≤ of_number o + in_optional site e
    few_optional d Absent o = none (of_number o)
    few_optional d (Present e) o = few_expr d e o

    few_select : (d : ℕ) (g : Selections) (o : List Standing) → of_number (selections_standings d g o) ≤ of_number o + in_selections site g
    few_select d Whole o = none (of_number o)
    few_select d (Field n f g) o = few_select d g o
    few_select d (Index at e low high stride g) o = turned _ _ _ _ _ (few_select d g _) (few_expr d e o)

    few_actuals : (d : ℕ) (a : Actuals) (o : List Standing) → of_number (actuals_standings d a o) ≤ of_number o + in_actuals site a
    few_actuals d NoActual o = none (of_number o)
    few_actuals d (In f v a) o = turned _ _ _ _ _ (few_actuals d a _) (few_value d v o)
    few_actuals d (InOut f at from g x y a) o = turned _ _ _ _ _ (few_actuals d a _) (few_select d g o)
    few_actuals d (Out f at from g x y a) o = turned _ _ _ _ _ (few_actuals d a _) (few_select d g o)
    few_actuals d (CompositeInOut f at from g u a) o = turned _ _ _ _ _ (few_actuals d a _) (few_select d g o)
    few_actuals d (CompositeOut f at from g u a) o = turned _ _ _ _ _ (few_actuals d a _) (few_select d g o)

    few_value : (d : ℕ) (v : Value) (o : List Standing) → of_number (value_standings d v o) ≤ of_number o + in_value site v
    few_value d (Number c e) o = few_expr d e o
    few_value d (Cells c) o = few_composite d c o

    few_composite : (d : ℕ) (c : Composite) (o : List Standing) → of_number (composite_standings d c o) ≤ of_number o + in_composite site c
    few_composite d (WholeVariable at from g u) o = few_select d g o
    few_composite d (WholeConstant at from g u) o = few_select d g o
    few_composite d (WholeTarget at u) o = none (of_number o)
    few_composite d (CompositeIf c v w) o = three _ _ _ _ _ _ _ (few_composite d w _) (few_composite d v _) (few_expr d c o)
    few_composite d (Aggregate at size a) o = few_associations d a o

    few_associations : (d : ℕ) (a : Associations) (o : List Standing) → of_number (associations_standings d a o) ≤ of_number o + in_associations site a
    few_associations d NoAssociation o = none (of_number o)
    few_associations d (Association [] it es v a) o =
        wider _ _ (in_associations site a) _ (let x : ℕ = in_exprs site es in let y : ℕ = in_value site v in let z : ℕ = in_associations site a in let e : z ≤ x + y + z = omega arith in e) (few_associations d a o)
    few_associations d (Association (r ∷ rs) it es v a) o =
        wider _ _ (in_value site v + in_associations site a) _ (let x : ℕ = in_exprs site es in let y : ℕ = in_value site v in let z : ℕ = in_associations site a in let e : y + z ≤ x + y + z = omega arith in e) (turned _ _ _ _ _ (few_associations d a _) (few_value d v o))

    few_iteration : (d i : ℕ) (it : Iteration) (o : List Standing) → of_number (iteration_standings d i it o) ≤ of_number o + in_iteration site it
    few_iteration d i (Range k reverse low high check filter) o = three _ _ _ _ _ _ _ (few_optional i filter _) (few_expr d high _) (few_expr d low o)
    few_iteration d i (Components k constant at from g count stride dimensions filter) o = turned _ _ _ _ _ (few_optional i filter _) (few_select d g o)

    few_chunk : (d : ℕ) (c : Chunk) (o : List Standing) → of_number (chunk_standings d c o) ≤ of_number o + in_chunk site c
    few_chunk d NoChunk o = none (of_number o)
    few_chunk d (Count e) o = few_expr d e o
    few_chunk d (Each k low high check) o = turned _ _ _ _ _ (few_expr d high _) (few_expr d low o)

  few_pieces : (d : ℕ) (p : Pieces) (o : List Standing) → of_number (pieces_standings d p o) ≤ of_number o + in_pieces site p
  unfolding pieces_standings
  few_pieces d NoPiece o = none (of_number o)
  few_pieces d (Text bytes p) o = few_pieces d p o
  few_pieces d (Image class e p) o = turned _ _ _ _ _ (few_pieces d p _) (few_expr d e o)
  few_pieces d (Padded class e w p) o =
      wider _ _ (in_expr site e + in_pieces site p) _ (let x : ℕ = in_expr site e in let y : ℕ = in_expr site w in let z : ℕ = in_pieces site p in let e : x + z ≤ x + y + z = omega arith in e) (turned _ _ _ _ _ (few_pieces d p _) (few_expr d e o))

  few_decls : (d : ℕ) (x : Decls) (o : List Standing) → of_number (decls_standings d x o) ≤ of_number o + in_decls site x
  unfolding decls_standings
  few_decls d NoDecl o = none (of_number o)
  few_decls d (DeclareDefault x ds) o = few_decls d ds o
  few_decls d (DeclareVariable x v ds) o = turned _ _ _ _ _ (few_decls d ds _) (few_value d v o)
  few_decls d (DeclareConstant x v ds) o = turned _ _ _ _ _ (few_decls d ds _) (few_value d v o)
  few_decls d (Mentions es ds) o = wider _ _ (in_decls site ds) _ (let x : ℕ = in_exprs site es in let y : ℕ = in_decls site ds in let e : y ≤ x + y = omega arith in e) (few_decls d ds o)

  mutual
    unfolding stmt_standings

    few_stmt : (d : ℕ) (s : Stmt) (o : List Standing) → of_number (stmt_standings d s o) ≤ of_number o + in_stmt site s
    few_stmt d Null o = none (of_number o)
    few_stmt d (Assign at from g v) o = turned _ _ _ _ _ (few_value d v _) (few_select d g o)
    few_stmt d (CallProcedure at callee s a) o = few_actuals d a o
    few_stmt d (Exit n c) o = few_optional d c o
    few_stmt d Return o = none (of_number o)
    few_stmt d (ReturnValue v) o = few_value d v o
    few_stmt d (Raise x) o = none (of_number o)
    few_stmt d Reraise o = none (of_number o)
    few_stmt d (IfThen c s u) o = three _ _ _ _ _ _ _ (few_all d u _) (few_all d s _) (few_expr d c o)
    few_stmt d (Case e a) o = turned _ _ _ _ _ (few_cases d a _) (few_expr d e o)
    few_stmt d (Loop n c s) o = turned _ _ _ _ _ (few_all d s _) (few_optional d c o)
    few_stmt d (For n it s) o = turned _ _ _ _ _ (few_all d s _) (few_iteration d d it o)
    few_stmt d (ParallelFor n k chunk it s) o =
        turned _ _ _ (in_chunk site chunk + (in_iteration site it + in_stmts site s)) _ (turned _ _ _ _ _ (turned _ _ _ _ _ (few_all (d + 1) s _) (few_iteration d (d + 1) it _)) (few_chunk d chunk _)) (more o (record { site = k; depth = d; ranges = goes_through_range it }))
    few_stmt d (Parallel k count a) o = turned _ _ _ (in_optional site count + in_arms site a) _ (turned _ _ _ _ _ (few_arms (d + 1) a _) (few_optional d count _)) (more o (record { site = k; depth = d; ranges = true }))
    few_stmt d (Block x s hs) o = three _ _ _ _ _ _ _ (few_handlers d hs _) (few_all d s _) (few_decls d x o)
    few_stmt d (Put at callee p line) o = few_pieces d p o
    few_stmt d (Get at callee first from g scalar) o = few_select d g o

    few_all : (d : ℕ) (s : Stmts) (o : List Standing) → of_number (stmts_standings d s o) ≤ of_number o + in_stmts site s
    few_all d End o = none (of_number o)
    few_all d (Then s ss) o = turned _ _ _ _ _ (few_all d ss _) (few_stmt d s o)

    few_cases : (d : ℕ) (a : Alternatives) (o : List Standing) → of_number (case_standings d a o) ≤ of_number o + in_alternatives site a
    few_cases d NoAlternative o = none (of_number o)
    few_cases d (Alternative x c es s a) o =
        wider _ _ (in_stmts site s + in_alternatives site a) _ (let x : ℕ = in_exprs site es in let y : ℕ = in_stmts site s in let z : ℕ = in_alternatives site a in let e : y + z ≤ x + y + z = omega arith in e) (turned _ _ _ _ _ (few_cases d a _) (few_all d s o))

    few_arms : (d : ℕ) (a : Arms) (o : List Standing) → of_number (arm_standings d a o) ≤ of_number o + in_arms site a
    few_arms d NoArm o = none (of_number o)
    few_arms d (Arm s a) o = turned _ _ _ _ _ (few_arms d a _) (few_all d s o)

    few_handlers : (d : ℕ) (hs : Handlers) (o : List Standing) → of_number (handler_standings d hs o) ≤ of_number o + in_handlers site hs
    few_handlers d NoHandler o = none (of_number o)
    few_handlers d (Handler x s hs) o = turned _ _ _ _ _ (few_handlers d hs _) (few_all d s o)

  few_subs : (us : List Sub) (o : List Standing) → of_number (subs_standings us o) ≤ of_number o + in_subs site us
  unfolding stmt_standings handler_standings
  few_subs [] o = none (of_number o)
  few_subs (u ∷ us) o = turned _ _ _ _ _ (few_subs us _) (few_stmt 0 (Block u.body.decls u.body.stmts u.body.handlers) o)

  few_program : (program : Program) → of_number (standings_of program) ≤ in_program site program
  unfolding stmt_standings handler_standings
  few_program program =
      let h = two _ _ _ _ _ (few_subs program.subs _) (few_stmt 0 (Block program.body.decls program.body.stmts program.body.handlers) []) in
      let a : ℕ = of_number (standings_of program) in let b : ℕ = in_program site program in let e : a ≤ 0 + b = h in let z : a ≤ b = omega (arith, e) in z

  -- ---- one of a number

  self : (t : Standing) → t.site ≡ site → in_number site t.site ≡ 1
  self t e = ap (λ s. in_number site s) e ∙ ap (λ b. cond b 1 0) (eq-eqb site site refl)

  at_least : (t : Standing) (ts : List Standing) → Among t ts → t.site ≡ site → 1 ≤ of_number ts
  at_least t [] i e = absurd i
  at_least t (x ∷ ts) (inl is) e = let z = self x (ap (λ (s : Standing). s.site) (sym is) ∙ e) in let a : ℕ = in_number site x.site in let b : ℕ = of_number ts in let y : a ≡ 1 = z in let w : 1 ≤ a + b = omega (arith, y) in w
  at_least t (x ∷ ts) (inr i) e = let h = at_least t ts i e in let a : ℕ = in_number site x.site in let b : ℕ = of_number ts in let y : 1 ≤ b = h in let w : 1 ≤ a + b = omega (arith, y) in w

  alone : (t j : Standing) (ts : List Standing) → Among t ts → Among j ts → t.site ≡ site → j.site ≡ site → of_number ts ≤ 1 → t ≡ j
  alone t j [] i k e f le = absurd i
  alone t j (x ∷ ts) (inl is) (inl same) e f le = is ∙ sym same
  alone t j (x ∷ ts) (inl is) (inr k) e f le =
      let z = self x (ap (λ (s : Standing). s.site) (sym is) ∙ e) in let h = at_least j ts k f in
      let a : ℕ = in_number site x.site in let b : ℕ = of_number ts in let y : a ≡ 1 = z in let w : 1 ≤ b = h in let v : a + b ≤ 1 = le in absurd (omega (arith, y, w, v))
  alone t j (x ∷ ts) (inr i) (inl same) e f le =
      let z = self x (ap (λ (s : Standing). s.site) (sym same) ∙ f) in let h = at_least t ts i e in
      let a : ℕ = in_number site x.site in let b : ℕ = of_number ts in let y : a ≡ 1 = z in let w : 1 ≤ b = h in let v : a + b ≤ 1 = le in absurd (omega (arith, y, w, v))
  alone t j (x ∷ ts) (inr i) (inr k) e f le = alone t j ts i k e f (let a : ℕ = in_number site x.site in let b : ℕ = of_number ts in let v : a + b ≤ 1 = le in let w : b ≤ 1 = omega (arith, v) in w)

pub standings_distinct : (program : Program) → SitesAreDistinct program → StandingsAreDistinct program
standings_distinct program distinct t j i k e =
    let few = few_program t.site program in let one = distinct t.site in
    alone t.site t j (standings_of program) i k refl (sym e) (let a : ℕ = of_number t.site (standings_of program) in let b : ℕ = in_program t.site program in let y : a ≤ b = few in let w : b ≤ 1 = one in let z : a ≤ 1 = omega (arith, y, w) in z)
