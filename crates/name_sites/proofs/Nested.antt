-- Where each number counts at most once, and not at all where it isn't greater than that of the construct around, constructs
-- are numbered from the outside in.
use Rattle.std.proofs.Common.{Bool, None, Option, Some, List, [], arith, eq-eqb, false, if◌then◌else◌, leb-false, nat_le, refl, true, ℕ, ◌+◌, ◌<◌, ◌==◌, ◌∷◌, ◌≡◌, ◌≤◌}
use Rattle.typed_tree.specs.Syntax.{Expr, Static, Variable, Constant, Parameter, Target, Group, Unary, Binary, AndThen, OrElse, Relation, Membership, If, Call, Convert, Reduction, Optional, Absent, Present, Selections, Whole, Field, Index, Actuals, NoActual, In, InOut, Out, CompositeInOut, CompositeOut, Value, Number, Cells, Composite, WholeVariable, WholeConstant, WholeTarget, CompositeIf, Aggregate, Associations, NoAssociation, Association, Iteration, Range, Components, Chunk, NoChunk, Count, Each, Pieces, NoPiece, Text, Image, Padded, Decls, NoDecl, DeclareDefault, DeclareVariable, DeclareConstant, Mentions, Stmt, Assign, CallProcedure, Exit, ReturnValue, IfThen, Case, Loop, For, ParallelFor, Parallel, Block, Put, Get, Stmts, End, Then, Alternatives, NoAlternative, Alternative, Arms, NoArm, Arm, Handlers, NoHandler, Handler, Body, Sub, Program}
use Rattle.typed_sites.specs.Sites.{in_number}
use Rattle.typed_sites.specs.Nesting.{Follows, NestedActuals, NestedAll, NestedAlternatives, NestedArms, NestedAssociations, NestedBody, NestedChunk, NestedComposite, NestedDecls, NestedExpr, NestedHandlers, NestedIteration, NestedOptional, NestedPieces, NestedSelections, NestedStmt, NestedSubs, NestedValue, SitesAreNested}
use Rattle.name_sites.proofs.Counts.{again, again-more, in_actuals, in_alternatives, in_arms, in_associations, in_body, in_chunk, in_composite, in_decls, in_expr, in_filter, in_handlers, in_iteration, in_optional, in_pieces, in_program, in_selections, in_stmt, in_stmts, in_subs, in_value}
use Rattle.name_sites.proofs.Parts.{n-filter}

abbrev pub Fine : Option ℕ → (ℕ → ℕ) → Type 0
Fine o c = (s : ℕ) → c s + again s o (c s) ≤ 1

fine-part : (o : Option ℕ) (c d : ℕ → ℕ) → Fine o c → ((s : ℕ) → d s ≤ c s) → Fine o d
fine-part o c d h l = λ s. omega (arith, h s, l s, again-more s o (d s) (c s) (l s))

fine-inside : (o : Option ℕ) (site : ℕ) (c d : ℕ → ℕ) → Fine o c → ((s : ℕ) → d s + again s (Some site) (d s) ≤ c s) → Fine (Some site) d
fine-inside o site c d h l = λ s. omega (arith, h s, l s)

own-by : (b : Bool) → b ≡ true → 1 ≤ (if b then 1 else 0)
own-by true e = omega arith
own-by false e = absurd (let z : false ≡ true = e in cc)

in-own : (n : ℕ) → 1 ≤ in_number n n
in-own n = own-by (n == n) (eq-eqb n n refl)

fine-follows : (o : Option ℕ) (site : ℕ) (c : ℕ → ℕ) → Fine o c → 1 ≤ c site → Follows o site
fine-follows None site c h l = tt
fine-follows (Some outer) site c h l = by (nat_le site outer) refl (h site)
  where
    by : (b : Bool) → nat_le site outer ≡ b → c site + (if b then c site else 0) ≤ 1 → outer < site
    by true e k = absurd (omega (arith, k, l))
    by false e k = leb-false site outer e

mutual
  pub nested-expr : (o : Option ℕ) (x : Expr) → Fine o (λ s. in_expr s x) → NestedExpr o x
  nested-expr o (Static at value literal mentions) h = tt
  nested-expr o (Variable at r selections scalar) h = nested-selections o selections (fine-part o (λ s. in_expr s (Variable at r selections scalar)) (λ s. in_selections s selections) h (λ s. omega arith))
  nested-expr o (Constant at r selections scalar) h = nested-selections o selections (fine-part o (λ s. in_expr s (Constant at r selections scalar)) (λ s. in_selections s selections) h (λ s. omega arith))
  nested-expr o (Parameter at k) h = tt
  nested-expr o (Target at scalar) h = tt
  nested-expr o (Group e) h = nested-expr o e (fine-part o (λ s. in_expr s (Group e)) (λ s. in_expr s e) h (λ s. omega arith))
  nested-expr o (Unary at sign class e) h = nested-expr o e (fine-part o (λ s. in_expr s (Unary at sign class e)) (λ s. in_expr s e) h (λ s. omega arith))
  nested-expr o (Binary at op class e f) h = (nested-expr o e (fine-part o (λ s. in_expr s (Binary at op class e f)) (λ s. in_expr s e) h (λ s. omega arith)), nested-expr o f (fine-part o (λ s. in_expr s (Binary at op class e f)) (λ s. in_expr s f) h (λ s. omega arith)))
  nested-expr o (AndThen e f) h = (nested-expr o e (fine-part o (λ s. in_expr s (AndThen e f)) (λ s. in_expr s e) h (λ s. omega arith)), nested-expr o f (fine-part o (λ s. in_expr s (AndThen e f)) (λ s. in_expr s f) h (λ s. omega arith)))
  nested-expr o (OrElse e f) h = (nested-expr o e (fine-part o (λ s. in_expr s (OrElse e f)) (λ s. in_expr s e) h (λ s. omega arith)), nested-expr o f (fine-part o (λ s. in_expr s (OrElse e f)) (λ s. in_expr s f) h (λ s. omega arith)))
  nested-expr o (Relation class comparison e f) h = (nested-expr o e (fine-part o (λ s. in_expr s (Relation class comparison e f)) (λ s. in_expr s e) h (λ s. omega arith)), nested-expr o f (fine-part o (λ s. in_expr s (Relation class comparison e f)) (λ s. in_expr s f) h (λ s. omega arith)))
  nested-expr o (Membership class negated e low high) h = (nested-expr o e (fine-part o (λ s. in_expr s (Membership class negated e low high)) (λ s. in_expr s e) h (λ s. omega arith)), nested-expr o low (fine-part o (λ s. in_expr s (Membership class negated e low high)) (λ s. in_expr s low) h (λ s. omega arith)), nested-expr o high (fine-part o (λ s. in_expr s (Membership class negated e low high)) (λ s. in_expr s high) h (λ s. omega arith)))
  nested-expr o (If condition value otherwise) h = (nested-expr o condition (fine-part o (λ s. in_expr s (If condition value otherwise)) (λ s. in_expr s condition) h (λ s. omega arith)), nested-expr o value (fine-part o (λ s. in_expr s (If condition value otherwise)) (λ s. in_expr s value) h (λ s. omega arith)), nested-expr o otherwise (fine-part o (λ s. in_expr s (If condition value otherwise)) (λ s. in_expr s otherwise) h (λ s. omega arith)))
  nested-expr o (Call at callee sub actuals) h = nested-actuals o actuals (fine-part o (λ s. in_expr s (Call at callee sub actuals)) (λ s. in_actuals s actuals) h (λ s. omega arith))
  nested-expr o (Convert check e) h = nested-expr o e (fine-part o (λ s. in_expr s (Convert check e)) (λ s. in_expr s e) h (λ s. omega arith))
  nested-expr o (Reduction at attribute by initial None chunk iteration value) h = (nested-expr o initial (fine-part o (λ s. in_expr s (Reduction at attribute by initial None chunk iteration value)) (λ s. in_expr s initial) h (λ s. omega arith)), nested-iteration o o iteration (fine-part o (λ s. in_expr s (Reduction at attribute by initial None chunk iteration value)) (λ s. in_iteration s iteration) h (λ s. omega arith)) (fine-part o (λ s. in_expr s (Reduction at attribute by initial None chunk iteration value)) (λ s. in_filter s iteration) h (λ s. omega (arith, n-filter s iteration))), nested-expr o value (fine-part o (λ s. in_expr s (Reduction at attribute by initial None chunk iteration value)) (λ s. in_expr s value) h (λ s. omega arith)))
  nested-expr o (Reduction at attribute by initial (Some site) chunk iteration value) h =
      let inside = fine-inside o site (λ s. in_expr s (Reduction at attribute by initial (Some site) chunk iteration value)) (λ s. in_filter s iteration + in_expr s value) h (λ s. omega (arith, n-filter s iteration)) in
      (fine-follows o site (λ s. in_expr s (Reduction at attribute by initial (Some site) chunk iteration value)) h (omega (arith, in-own site)), nested-expr o initial (fine-part o (λ s. in_expr s (Reduction at attribute by initial (Some site) chunk iteration value)) (λ s. in_expr s initial) h (λ s. omega arith)), nested-chunk o chunk (fine-part o (λ s. in_expr s (Reduction at attribute by initial (Some site) chunk iteration value)) (λ s. in_chunk s chunk) h (λ s. omega arith)), nested-iteration o (Some site) iteration (fine-part o (λ s. in_expr s (Reduction at attribute by initial (Some site) chunk iteration value)) (λ s. in_iteration s iteration) h (λ s. omega arith)) (fine-part (Some site) (λ s. in_filter s iteration + in_expr s value) (λ s. in_filter s iteration) inside (λ s. omega arith)), nested-expr (Some site) value (fine-part (Some site) (λ s. in_filter s iteration + in_expr s value) (λ s. in_expr s value) inside (λ s. omega arith)))

  pub nested-optional : (o : Option ℕ) (x : Optional) → Fine o (λ s. in_optional s x) → NestedOptional o x
  nested-optional o Absent h = tt
  nested-optional o (Present e) h = nested-expr o e (fine-part o (λ s. in_optional s (Present e)) (λ s. in_expr s e) h (λ s. omega arith))

  pub nested-selections : (o : Option ℕ) (x : Selections) → Fine o (λ s. in_selections s x) → NestedSelections o x
  nested-selections o Whole h = tt
  nested-selections o (Field number offset rest) h = nested-selections o rest (fine-part o (λ s. in_selections s (Field number offset rest)) (λ s. in_selections s rest) h (λ s. omega arith))
  nested-selections o (Index at e low high stride rest) h = (nested-expr o e (fine-part o (λ s. in_selections s (Index at e low high stride rest)) (λ s. in_expr s e) h (λ s. omega arith)), nested-selections o rest (fine-part o (λ s. in_selections s (Index at e low high stride rest)) (λ s. in_selections s rest) h (λ s. omega arith)))

  pub nested-actuals : (o : Option ℕ) (x : Actuals) → Fine o (λ s. in_actuals s x) → NestedActuals o x
  nested-actuals o NoActual h = tt
  nested-actuals o (In formal value rest) h = (nested-value o value (fine-part o (λ s. in_actuals s (In formal value rest)) (λ s. in_value s value) h (λ s. omega arith)), nested-actuals o rest (fine-part o (λ s. in_actuals s (In formal value rest)) (λ s. in_actuals s rest) h (λ s. omega arith)))
  nested-actuals o (InOut formal at r selections inner outer rest) h = (nested-selections o selections (fine-part o (λ s. in_actuals s (InOut formal at r selections inner outer rest)) (λ s. in_selections s selections) h (λ s. omega arith)), nested-actuals o rest (fine-part o (λ s. in_actuals s (InOut formal at r selections inner outer rest)) (λ s. in_actuals s rest) h (λ s. omega arith)))
  nested-actuals o (Out formal at r selections inner outer rest) h = (nested-selections o selections (fine-part o (λ s. in_actuals s (Out formal at r selections inner outer rest)) (λ s. in_selections s selections) h (λ s. omega arith)), nested-actuals o rest (fine-part o (λ s. in_actuals s (Out formal at r selections inner outer rest)) (λ s. in_actuals s rest) h (λ s. omega arith)))
  nested-actuals o (CompositeInOut formal at r selections subtype rest) h = (nested-selections o selections (fine-part o (λ s. in_actuals s (CompositeInOut formal at r selections subtype rest)) (λ s. in_selections s selections) h (λ s. omega arith)), nested-actuals o rest (fine-part o (λ s. in_actuals s (CompositeInOut formal at r selections subtype rest)) (λ s. in_actuals s rest) h (λ s. omega arith)))
  nested-actuals o (CompositeOut formal at r selections subtype rest) h = (nested-selections o selections (fine-part o (λ s. in_actuals s (CompositeOut formal at r selections subtype rest)) (λ s. in_selections s selections) h (λ s. omega arith)), nested-actuals o rest (fine-part o (λ s. in_actuals s (CompositeOut formal at r selections subtype rest)) (λ s. in_actuals s rest) h (λ s. omega arith)))

  pub nested-value : (o : Option ℕ) (x : Value) → Fine o (λ s. in_value s x) → NestedValue o x
  nested-value o (Number check e) h = nested-expr o e (fine-part o (λ s. in_value s (Number check e)) (λ s. in_expr s e) h (λ s. omega arith))
  nested-value o (Cells c) h = nested-composite o c (fine-part o (λ s. in_value s (Cells c)) (λ s. in_composite s c) h (λ s. omega arith))

  pub nested-composite : (o : Option ℕ) (x : Composite) → Fine o (λ s. in_composite s x) → NestedComposite o x
  nested-composite o (WholeVariable at r selections subtype) h = nested-selections o selections (fine-part o (λ s. in_composite s (WholeVariable at r selections subtype)) (λ s. in_selections s selections) h (λ s. omega arith))
  nested-composite o (WholeConstant at r selections subtype) h = nested-selections o selections (fine-part o (λ s. in_composite s (WholeConstant at r selections subtype)) (λ s. in_selections s selections) h (λ s. omega arith))
  nested-composite o (WholeTarget at subtype) h = tt
  nested-composite o (CompositeIf condition value otherwise) h = (nested-expr o condition (fine-part o (λ s. in_composite s (CompositeIf condition value otherwise)) (λ s. in_expr s condition) h (λ s. omega arith)), nested-composite o value (fine-part o (λ s. in_composite s (CompositeIf condition value otherwise)) (λ s. in_composite s value) h (λ s. omega arith)), nested-composite o otherwise (fine-part o (λ s. in_composite s (CompositeIf condition value otherwise)) (λ s. in_composite s otherwise) h (λ s. omega arith)))
  nested-composite o (Aggregate at size associations) h = nested-associations o associations (fine-part o (λ s. in_composite s (Aggregate at size associations)) (λ s. in_associations s associations) h (λ s. omega arith))

  pub nested-associations : (o : Option ℕ) (x : Associations) → Fine o (λ s. in_associations s x) → NestedAssociations o x
  nested-associations o NoAssociation h = tt
  nested-associations o (Association runs iterated mentions value rest) h = (nested-value o value (fine-part o (λ s. in_associations s (Association runs iterated mentions value rest)) (λ s. in_value s value) h (λ s. omega arith)), nested-associations o rest (fine-part o (λ s. in_associations s (Association runs iterated mentions value rest)) (λ s. in_associations s rest) h (λ s. omega arith)))

  pub nested-iteration : (o i : Option ℕ) (x : Iteration) → Fine o (λ s. in_iteration s x) → Fine i (λ s. in_filter s x) → NestedIteration o i x
  nested-iteration o i (Range k reverse low high check filter) h inner = (nested-expr o low (fine-part o (λ s. in_iteration s (Range k reverse low high check filter)) (λ s. in_expr s low) h (λ s. omega arith)), nested-expr o high (fine-part o (λ s. in_iteration s (Range k reverse low high check filter)) (λ s. in_expr s high) h (λ s. omega arith)), nested-optional i filter inner)
  nested-iteration o i (Components k constant at r selections count stride dimensions filter) h inner = (nested-selections o selections (fine-part o (λ s. in_iteration s (Components k constant at r selections count stride dimensions filter)) (λ s. in_selections s selections) h (λ s. omega arith)), nested-optional i filter inner)

  pub nested-chunk : (o : Option ℕ) (x : Chunk) → Fine o (λ s. in_chunk s x) → NestedChunk o x
  nested-chunk o NoChunk h = tt
  nested-chunk o (Count e) h = nested-expr o e (fine-part o (λ s. in_chunk s (Count e)) (λ s. in_expr s e) h (λ s. omega arith))
  nested-chunk o (Each k low high check) h = (nested-expr o low (fine-part o (λ s. in_chunk s (Each k low high check)) (λ s. in_expr s low) h (λ s. omega arith)), nested-expr o high (fine-part o (λ s. in_chunk s (Each k low high check)) (λ s. in_expr s high) h (λ s. omega arith)))

pub nested-pieces : (o : Option ℕ) (x : Pieces) → Fine o (λ s. in_pieces s x) → NestedPieces o x
nested-pieces o NoPiece h = tt
nested-pieces o (Text bytes rest) h = nested-pieces o rest (fine-part o (λ s. in_pieces s (Text bytes rest)) (λ s. in_pieces s rest) h (λ s. omega arith))
nested-pieces o (Image class e rest) h = (nested-expr o e (fine-part o (λ s. in_pieces s (Image class e rest)) (λ s. in_expr s e) h (λ s. omega arith)), nested-pieces o rest (fine-part o (λ s. in_pieces s (Image class e rest)) (λ s. in_pieces s rest) h (λ s. omega arith)))
nested-pieces o (Padded class e width rest) h = (nested-expr o e (fine-part o (λ s. in_pieces s (Padded class e width rest)) (λ s. in_expr s e) h (λ s. omega arith)), nested-pieces o rest (fine-part o (λ s. in_pieces s (Padded class e width rest)) (λ s. in_pieces s rest) h (λ s. omega arith)))

pub nested-decls : (o : Option ℕ) (x : Decls) → Fine o (λ s. in_decls s x) → NestedDecls o x
nested-decls o NoDecl h = tt
nested-decls o (DeclareDefault x more) h = nested-decls o more (fine-part o (λ s. in_decls s (DeclareDefault x more)) (λ s. in_decls s more) h (λ s. omega arith))
nested-decls o (DeclareVariable x initial more) h = (nested-value o initial (fine-part o (λ s. in_decls s (DeclareVariable x initial more)) (λ s. in_value s initial) h (λ s. omega arith)), nested-decls o more (fine-part o (λ s. in_decls s (DeclareVariable x initial more)) (λ s. in_decls s more) h (λ s. omega arith)))
nested-decls o (DeclareConstant x initial more) h = (nested-value o initial (fine-part o (λ s. in_decls s (DeclareConstant x initial more)) (λ s. in_value s initial) h (λ s. omega arith)), nested-decls o more (fine-part o (λ s. in_decls s (DeclareConstant x initial more)) (λ s. in_decls s more) h (λ s. omega arith)))
nested-decls o (Mentions es more) h = nested-decls o more (fine-part o (λ s. in_decls s (Mentions es more)) (λ s. in_decls s more) h (λ s. omega arith))

mutual
  pub nested-stmt : (o : Option ℕ) (x : Stmt) → Fine o (λ s. in_stmt s x) → NestedStmt o x
  nested-stmt o (Assign at r selections value) h = (nested-selections o selections (fine-part o (λ s. in_stmt s (Assign at r selections value)) (λ s. in_selections s selections) h (λ s. omega arith)), nested-value o value (fine-part o (λ s. in_stmt s (Assign at r selections value)) (λ s. in_value s value) h (λ s. omega arith)))
  nested-stmt o (CallProcedure at callee sub actuals) h = nested-actuals o actuals (fine-part o (λ s. in_stmt s (CallProcedure at callee sub actuals)) (λ s. in_actuals s actuals) h (λ s. omega arith))
  nested-stmt o (Exit loop condition) h = nested-optional o condition (fine-part o (λ s. in_stmt s (Exit loop condition)) (λ s. in_optional s condition) h (λ s. omega arith))
  nested-stmt o (ReturnValue value) h = nested-value o value (fine-part o (λ s. in_stmt s (ReturnValue value)) (λ s. in_value s value) h (λ s. omega arith))
  nested-stmt o (IfThen condition stmts otherwise) h = (nested-expr o condition (fine-part o (λ s. in_stmt s (IfThen condition stmts otherwise)) (λ s. in_expr s condition) h (λ s. omega arith)), nested-stmts o stmts (fine-part o (λ s. in_stmt s (IfThen condition stmts otherwise)) (λ s. in_stmts s stmts) h (λ s. omega arith)), nested-stmts o otherwise (fine-part o (λ s. in_stmt s (IfThen condition stmts otherwise)) (λ s. in_stmts s otherwise) h (λ s. omega arith)))
  nested-stmt o (Case e alternatives) h = (nested-expr o e (fine-part o (λ s. in_stmt s (Case e alternatives)) (λ s. in_expr s e) h (λ s. omega arith)), nested-alternatives o alternatives (fine-part o (λ s. in_stmt s (Case e alternatives)) (λ s. in_alternatives s alternatives) h (λ s. omega arith)))
  nested-stmt o (Loop number condition stmts) h = (nested-optional o condition (fine-part o (λ s. in_stmt s (Loop number condition stmts)) (λ s. in_optional s condition) h (λ s. omega arith)), nested-stmts o stmts (fine-part o (λ s. in_stmt s (Loop number condition stmts)) (λ s. in_stmts s stmts) h (λ s. omega arith)))
  nested-stmt o (For number iteration stmts) h = (nested-iteration o o iteration (fine-part o (λ s. in_stmt s (For number iteration stmts)) (λ s. in_iteration s iteration) h (λ s. omega arith)) (fine-part o (λ s. in_stmt s (For number iteration stmts)) (λ s. in_filter s iteration) h (λ s. omega (arith, n-filter s iteration))), nested-stmts o stmts (fine-part o (λ s. in_stmt s (For number iteration stmts)) (λ s. in_stmts s stmts) h (λ s. omega arith)))
  nested-stmt o (ParallelFor number site chunk iteration stmts) h =
      let inside = fine-inside o site (λ s. in_stmt s (ParallelFor number site chunk iteration stmts)) (λ s. in_filter s iteration + in_stmts s stmts) h (λ s. omega (arith, n-filter s iteration)) in
      (fine-follows o site (λ s. in_stmt s (ParallelFor number site chunk iteration stmts)) h (omega (arith, in-own site)), nested-chunk o chunk (fine-part o (λ s. in_stmt s (ParallelFor number site chunk iteration stmts)) (λ s. in_chunk s chunk) h (λ s. omega arith)), nested-iteration o (Some site) iteration (fine-part o (λ s. in_stmt s (ParallelFor number site chunk iteration stmts)) (λ s. in_iteration s iteration) h (λ s. omega arith)) (fine-part (Some site) (λ s. in_filter s iteration + in_stmts s stmts) (λ s. in_filter s iteration) inside (λ s. omega arith)), nested-stmts (Some site) stmts (fine-part (Some site) (λ s. in_filter s iteration + in_stmts s stmts) (λ s. in_stmts s stmts) inside (λ s. omega arith)))
  nested-stmt o (Parallel site count arms) h =
      let inside = fine-inside o site (λ s. in_stmt s (Parallel site count arms)) (λ s. in_arms s arms) h (λ s. omega arith) in
      (fine-follows o site (λ s. in_stmt s (Parallel site count arms)) h (omega (arith, in-own site)), nested-optional o count (fine-part o (λ s. in_stmt s (Parallel site count arms)) (λ s. in_optional s count) h (λ s. omega arith)), nested-arms (Some site) arms inside)
  nested-stmt o (Block decls stmts handlers) h = (nested-decls o decls (fine-part o (λ s. in_stmt s (Block decls stmts handlers)) (λ s. in_decls s decls) h (λ s. omega arith)), nested-stmts o stmts (fine-part o (λ s. in_stmt s (Block decls stmts handlers)) (λ s. in_stmts s stmts) h (λ s. omega arith)), nested-handlers o handlers (fine-part o (λ s. in_stmt s (Block decls stmts handlers)) (λ s. in_handlers s handlers) h (λ s. omega arith)))
  nested-stmt o (Put at callee pieces line) h = nested-pieces o pieces (fine-part o (λ s. in_stmt s (Put at callee pieces line)) (λ s. in_pieces s pieces) h (λ s. omega arith))
  nested-stmt o (Get at callee first r selections scalar) h = nested-selections o selections (fine-part o (λ s. in_stmt s (Get at callee first r selections scalar)) (λ s. in_selections s selections) h (λ s. omega arith))
  nested-stmt o x h = tt

  pub nested-stmts : (o : Option ℕ) (x : Stmts) → Fine o (λ s. in_stmts s x) → NestedAll o x
  nested-stmts o End h = tt
  nested-stmts o (Then first more) h = (nested-stmt o first (fine-part o (λ s. in_stmts s (Then first more)) (λ s. in_stmt s first) h (λ s. omega arith)), nested-stmts o more (fine-part o (λ s. in_stmts s (Then first more)) (λ s. in_stmts s more) h (λ s. omega arith)))

  pub nested-alternatives : (o : Option ℕ) (x : Alternatives) → Fine o (λ s. in_alternatives s x) → NestedAlternatives o x
  nested-alternatives o NoAlternative h = tt
  nested-alternatives o (Alternative others choices mentions stmts rest) h = (nested-stmts o stmts (fine-part o (λ s. in_alternatives s (Alternative others choices mentions stmts rest)) (λ s. in_stmts s stmts) h (λ s. omega arith)), nested-alternatives o rest (fine-part o (λ s. in_alternatives s (Alternative others choices mentions stmts rest)) (λ s. in_alternatives s rest) h (λ s. omega arith)))

  pub nested-arms : (o : Option ℕ) (x : Arms) → Fine o (λ s. in_arms s x) → NestedArms o x
  nested-arms o NoArm h = tt
  nested-arms o (Arm stmts rest) h = (nested-stmts o stmts (fine-part o (λ s. in_arms s (Arm stmts rest)) (λ s. in_stmts s stmts) h (λ s. omega arith)), nested-arms o rest (fine-part o (λ s. in_arms s (Arm stmts rest)) (λ s. in_arms s rest) h (λ s. omega arith)))

  pub nested-handlers : (o : Option ℕ) (x : Handlers) → Fine o (λ s. in_handlers s x) → NestedHandlers o x
  nested-handlers o NoHandler h = tt
  nested-handlers o (Handler handled stmts rest) h = (nested-stmts o stmts (fine-part o (λ s. in_handlers s (Handler handled stmts rest)) (λ s. in_stmts s stmts) h (λ s. omega arith)), nested-handlers o rest (fine-part o (λ s. in_handlers s (Handler handled stmts rest)) (λ s. in_handlers s rest) h (λ s. omega arith)))

nested-body : (x : Body) → Fine None (λ s. in_body s x) → NestedBody x
nested-body x h = (
  nested-decls None x.decls (fine-part None (λ s. in_body s x) (λ s. in_decls s x.decls) h (λ s. omega arith)),
  nested-stmts None x.stmts (fine-part None (λ s. in_body s x) (λ s. in_stmts s x.stmts) h (λ s. omega arith)),
  nested-handlers None x.handlers (fine-part None (λ s. in_body s x) (λ s. in_handlers s x.handlers) h (λ s. omega arith)),
)

nested-subs : (us : List Sub) → Fine None (λ s. in_subs s us) → NestedSubs us
nested-subs [] h = tt
nested-subs (u ∷ us) h = (
  nested-body u.body (fine-part None (λ s. in_subs s (u ∷ us)) (λ s. in_body s u.body) h (λ s. omega arith)),
  nested-subs us (fine-part None (λ s. in_subs s (u ∷ us)) (λ s. in_subs s us) h (λ s. omega arith)),
)

pub nested-program : (p : Program) → ((s : ℕ) → in_program s p ≤ 1) → SitesAreNested p
nested-program p h = (
  nested-body p.body (fine-part None (λ s. in_program s p) (λ s. in_body s p.body) (λ s. omega (arith, h s)) (λ s. omega arith)),
  nested-subs p.subs (fine-part None (λ s. in_program s p) (λ s. in_subs s p.subs) (λ s. omega (arith, h s)) (λ s. omega arith)),
)
