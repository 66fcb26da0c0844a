-- A variable is listed with a home no more often than it is declared.
use Rattle.std.proofs.Common.{◌≡◌, refl, sym, ap, ◌∙◌, ℕ, ◌+◌, ◌≤◌, List, [], ◌∷◌, ◌++◌, ◌⊎◌, inl, inr, Bool, true, false, length, arith}
use Rattle.behaviours.specs.Paths.{Entity, VariableOf, ConstantOf}
use Rattle.typed_tree.specs.declared.program.Formal.{Formal}
use Rattle.typed_tree.specs.declared.program.Mode.{Mode}
use Rattle.typed_tree.specs.declared.program.Mode.TheVariants as mode
use Rattle.typed_tree.specs.Syntax.{Alternatives, NoAlternative, Alternative, Arms, NoArm, Arm, Decls, NoDecl, DeclareDefault, DeclareVariable, DeclareConstant, Mentions, Stmt, Null, Assign, CallProcedure, Exit, Return, ReturnValue, Raise, Reraise, IfThen, Case, Loop, For, ParallelFor, Parallel, Block, Put, Get, Stmts, End, Then, Handlers, NoHandler, Handler, Sub, Program}
use Rattle.typed_objects.specs.Objects.{arm_objects, block_objects, case_objects, decl_objects, formal_objects, handler_objects, objects_of, stmt_objects, stmts_objects, sub_objects, subs_objects, times}
use Rattle.ada_meaning.specs.Meaning.{object_layout}
use Rattle.lower_emission.specs.Emission.{lead, shape_by, shapes, shapes_cells, width}
use Rattle.ada_lower.specs.declared.types.Home.{Home}
use Rattle.ada_lower.specs.Homes.{arm_homes, behind, block_homes, case_homes, decl_homes, formal_home, formal_homes, handler_homes, homes_of, main_homes, stmt_homes, stmts_homes, subs_homes, turn_cells, with_home}
use Rattle.ada_lower.specs.Lending.{Among}
use Rattle.ada_lower.specs.HomesLaw.{HomesLaw}
use Rattle.ada_lower.proofs.Times.{hit, hit-self, times-first, times-join}

module _ (x : ℕ) where
  -- how many homes are of that object
  abbrev of_object : List Home → ℕ
  of_object [] = 0
  of_object (h ∷ hs) = hit x h.object + of_object hs

  more : (hs : List Home) (h : Home) → of_object (hs ++ h ∷ []) ≤ of_object hs + hit x h.object
  more [] h = omega arith
  more (k ∷ hs) h = omega (arith, more hs h)

  -- what is found behind what was found before
  two : (a b c : ℕ) (xs ys : List ℕ) → a ≤ b + times x ys → b ≤ c + times x xs → a ≤ c + times x (xs ++ ys)
  two a b c xs ys f g = omega (arith, f, g, times-join x xs ys)

  none : (a : ℕ) → a ≤ a + times x []
  none a = omega arith

  first : (a b c : ℕ) (y : ℕ) (ys : List ℕ) → a ≤ b + times x ys → b ≤ c + hit x y → a ≤ c + times x (y ∷ ys)
  first a b c y ys f g = omega (arith, f, g, times-first x y ys)

  passed : (a c y : ℕ) (ys : List ℕ) → a ≤ c + times x ys → a ≤ c + times x (y ∷ ys)
  passed a c y ys f = omega (arith, f, times-first x y ys)

  few_formal : (n cells : ℕ) (e : Entity) (y : ℕ) (o : List Home) → (e ≡ VariableOf y) ⊎ (e ≡ ConstantOf y) → of_object (formal_home n e cells o) ≤ of_object o + hit x y
  few_formal n cells (VariableOf z) y o (inl same) = let e : z ≡ y = cc in let h = more o (record { object = z; main = false; depth = 0; cell = n; cells = cells }) in omega (arith, h, ap (hit x) e)
  few_formal n cells (ConstantOf z) y o (inl same) = absurd cc
  few_formal n cells (VariableOf z) y o (inr same) = absurd cc
  few_formal n cells (ConstantOf z) y o (inr same) = omega arith

  module _ (program : Program) where
    few_decls : (main : Bool) (d n : ℕ) (ds : Decls) (o : List Home) → of_object (decl_homes program main d n ds o) ≤ of_object o + times x (decl_objects ds)
    few_decls main d n NoDecl o = none (of_object o)
    few_decls main d n (DeclareDefault y ds) o =
        let w = length (object_layout program y) in
        first _ (of_object (with_home main d n y w o)) (of_object o) y (decl_objects ds) (few_decls main d (n + w) ds (with_home main d n y w o)) (more o (record { object = y; main = main; depth = d; cell = n; cells = w }))
    few_decls main d n (DeclareVariable y v ds) o =
        let w = width program v in
        first _ (of_object (with_home main d n y w o)) (of_object o) y (decl_objects ds) (few_decls main d (n + w) ds (with_home main d n y w o)) (more o (record { object = y; main = main; depth = d; cell = n; cells = w }))
    few_decls main d n (DeclareConstant y v ds) o = passed _ (of_object o) y (decl_objects ds) (few_decls main d (n + width program v) ds o)
    few_decls main d n (Mentions es ds) o = few_decls main d n ds o

    mutual
      unfolding stmt_homes

      few_stmt : (d n : ℕ) (s : Stmt) (o : List Home) → of_object (stmt_homes program d n s o) ≤ of_object o + times x (stmt_objects s)
      few_stmt d n (IfThen c s u) o = two _ _ _ (stmts_objects s) (stmts_objects u) (few_all d n u _) (few_all d n s o)
      few_stmt d n (Case e a) o = few_cases d (n + 1) a o
      few_stmt d n (Loop k c s) o = few_all d n s o
      few_stmt d n (For k it s) o = few_all d (n + turn_cells it) s o
      few_stmt d n (ParallelFor k site chunk it s) o = few_all (d + 1) (2 + turn_cells it) s o
      few_stmt d n (Parallel site count a) o = few_arms (d + 1) 4 a o
      few_stmt d n (Block ds s hs) o =
          two _ _ _ (decl_objects ds) (stmts_objects s ++ handler_objects hs)
          (two _ _ _ (stmts_objects s) (handler_objects hs) (few_handlers d (behind program n ds + 1) hs _) (few_all d (behind program n ds) s _)) (few_decls false d n ds o)
      few_stmt d n Null o = none (of_object o)
      few_stmt d n (Assign at from g v) o = none (of_object o)
      few_stmt d n (CallProcedure at callee s a) o = none (of_object o)
      few_stmt d n (Exit k c) o = none (of_object o)
      few_stmt d n Return o = none (of_object o)
      few_stmt d n (ReturnValue v) o = none (of_object o)
      few_stmt d n (Raise r) o = none (of_object o)
      few_stmt d n Reraise o = none (of_object o)
      few_stmt d n (Put at callee p line) o = none (of_object o)
      few_stmt d n (Get at callee k from g scalar) o = none (of_object o)

      few_all : (d n : ℕ) (s : Stmts) (o : List Home) → of_object (stmts_homes program d n s o) ≤ of_object o + times x (stmts_objects s)
      few_all d n End o = none (of_object o)
      few_all d n (Then s ss) o = two _ _ _ (stmt_objects s) (stmts_objects ss) (few_all d n ss _) (few_stmt d n s o)

      few_cases : (d n : ℕ) (a : Alternatives) (o : List Home) → of_object (case_homes program d n a o) ≤ of_object o + times x (case_objects a)
      few_cases d n NoAlternative o = none (of_object o)
      few_cases d n (Alternative others choices es s a) o = two _ _ _ (stmts_objects s) (case_objects a) (few_cases d n a _) (few_all d n s o)

      few_arms : (d n : ℕ) (a : Arms) (o : List Home) → of_object (arm_homes program d n a o) ≤ of_object o + times x (arm_objects a)
      few_arms d n NoArm o = none (of_object o)
      few_arms d n (Arm s a) o = two _ _ _ (stmts_objects s) (arm_objects a) (few_arms d n a _) (few_all d n s o)

      few_handlers : (d n : ℕ) (hs : Handlers) (o : List Home) → of_object (handler_homes program d n hs o) ≤ of_object o + times x (handler_objects hs)
      few_handlers d n NoHandler o = none (of_object o)
      few_handlers d n (Handler handled s hs) o = two _ _ _ (stmts_objects s) (handler_objects hs) (few_handlers d n hs _) (few_all d n s o)

    few_block : (d n : ℕ) (ds : Decls) (s : Stmts) (hs : Handlers) (o : List Home) → of_object (block_homes program d n ds s hs o) ≤ of_object o + times x (block_objects ds s hs)
    few_block d n ds s hs o =
        two _ _ _ (decl_objects ds) (stmts_objects s ++ handler_objects hs)
        (two _ _ _ (stmts_objects s) (handler_objects hs) (few_handlers d (behind program n ds + 1) hs _) (few_all d (behind program n ds) s _)) (few_decls false d n ds o)

    formal_is : (y : ℕ) (m : Mode) → ((shape_by program y m).formal ≡ VariableOf y) ⊎ ((shape_by program y m).formal ≡ ConstantOf y)
    formal_is y mode.In = inr refl
    formal_is y mode.InOut = inl refl
    formal_is y mode.Out = inl refl

    few_formals : (n : ℕ) (fs : List Formal) (o : List Home) → of_object (formal_homes n (shapes program fs) o) ≤ of_object o + times x (formal_objects fs)
    few_formals n [] o = none (of_object o)
    few_formals n (f ∷ fs) o =
        let h = shape_by program f.object f.mode in
        first _ (of_object (formal_home (n + lead h.back) h.formal h.cells o)) (of_object o) f.object (formal_objects fs)
        (few_formals (n + lead h.back + h.cells) fs (formal_home (n + lead h.back) h.formal h.cells o)) (few_formal (n + lead h.back) h.cells h.formal f.object o (formal_is f.object f.mode))

    few_subs : (us : List Sub) (o : List Home) → of_object (subs_homes program us o) ≤ of_object o + times x (subs_objects us)
    few_subs [] o = none (of_object o)
    few_subs (u ∷ us) o =
        two _ _ _ (sub_objects u) (subs_objects us) (few_subs us _)
        (two _ _ _ (formal_objects u.formals) (block_objects u.body.decls u.body.stmts u.body.handlers) (few_block 0 (shapes_cells (shapes program u.formals)) u.body.decls u.body.stmts u.body.handlers _) (few_formals 0 u.formals o))

    few_program : of_object (homes_of program) ≤ times x (objects_of program)
    few_program =
        let ds = decl_objects program.body.decls in
        let us = subs_objects program.subs in
        let ss = stmts_objects program.body.stmts ++ handler_objects program.body.handlers in
        let a = few_decls true 0 0 program.body.decls [] in
        let b = few_block 0 (behind program 0 program.body.decls) NoDecl program.body.stmts program.body.handlers (decl_homes program true 0 0 program.body.decls []) in
        let c = few_subs program.subs (main_homes program []) in
        omega (arith, a, b, c, times-join x ds (us ++ ss), times-join x us ss)

  -- ---- one of an object

  at_least : (h : Home) (hs : List Home) → Among h hs → h.object ≡ x → 1 ≤ of_object hs
  at_least h [] i e = absurd i
  at_least h (k ∷ hs) (inl is) e = omega (arith, hit-self x k.object (ap (λ (s : Home). s.object) (sym is) ∙ e))
  at_least h (k ∷ hs) (inr i) e = omega (arith, at_least h hs i e)

  alone : (h j : Home) (hs : List Home) → Among h hs → Among j hs → h.object ≡ x → j.object ≡ x → of_object hs ≤ 1 → h ≡ j
  alone h j [] i k e f l = absurd i
  alone h j (y ∷ hs) (inl is) (inl same) e f l = is ∙ sym same
  alone h j (y ∷ hs) (inl is) (inr k) e f l = absurd (omega (arith, hit-self x y.object (ap (λ (s : Home). s.object) (sym is) ∙ e), at_least j hs k f, l))
  alone h j (y ∷ hs) (inr i) (inl same) e f l = absurd (omega (arith, hit-self x y.object (ap (λ (s : Home). s.object) (sym same) ∙ f), at_least h hs i e, l))
  alone h j (y ∷ hs) (inr i) (inr k) e f l = alone h j hs i k e f (omega (arith, l))

pub homes_law : HomesLaw
homes_law program distinct h j i k e = alone h.object h j (homes_of program) i k refl (sym e) (omega (arith, few_program h.object program, distinct h.object))
