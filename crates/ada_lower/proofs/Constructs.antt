-- The constructs of a program are where its table has them, in the order of their numbers, and so are its texts.
use Rattle.std.proofs.Common.{◌≡◌, ℕ, ◌<◌, ◌≤◌, ◌==◌, List, [], ◌∷◌, ◌++◌, length, Option, Some, None, Bool, true, false, if◌then◌else◌, inl, inr, refl, arith, eq-eqb}
use Rattle.std.proofs.lemmas.Option.{slice_get_within}
use Rattle.typed_tree.specs.Syntax.{Expr, Static, Variable, Constant, Parameter, Target, Group, Unary, Binary, AndThen, OrElse, Relation, Membership, If, Call, Convert, Reduction, Optional, Absent, Present, Selections, Whole, Field, Index, Actuals, NoActual, In, InOut, Out, CompositeInOut, CompositeOut, Value, Number, Cells, Composite, WholeVariable, WholeConstant, WholeTarget, CompositeIf, Aggregate, Associations, NoAssociation, Association, Iteration, Range, Components, Chunk, NoChunk, Count, Each, Pieces, NoPiece, Text, Image, Padded, Decls, NoDecl, DeclareDefault, DeclareVariable, DeclareConstant, Mentions, Stmt, Assign, CallProcedure, Exit, ReturnValue, IfThen, Case, Loop, For, ParallelFor, Parallel, Block, Put, Get, Stmts, End, Then, Alternatives, NoAlternative, Alternative, Arms, NoArm, Arm, Handlers, NoHandler, Handler, Body, Sub, Program}
use Rattle.typed_sites.specs.Sites.{SitesAreListed, in_number, in_body, in_subs, in_expr, in_optional, in_selections, in_actuals, in_value, in_composite, in_associations, in_iteration, in_chunk, in_pieces, in_decls, in_stmt, in_stmts, in_alternatives, in_arms, in_handlers}
use Rattle.typed_sites.specs.Nesting.{Follows, NestedBody, NestedSubs, SitesAreNested, NestedExpr, NestedOptional, NestedSelections, NestedActuals, NestedValue, NestedComposite, NestedAssociations, NestedIteration, NestedChunk, NestedPieces, NestedDecls, NestedStmt, NestedAll, NestedAlternatives, NestedArms, NestedHandlers}
use Rattle.lower_emission.specs.Programs.{text_in}
use Rattle.lower_emission.specs.Texts.{arm_texts, body_texts, case_texts, handler_texts, pieces_texts, stmt_texts, subs_texts, texts_in, texts_of}
use Rattle.ada_lower.proofs.Sited.{Inner, IsSited, SitedBody, SitedSubs, SitedExpr, SitedOptional, SitedSelections, SitedActuals, SitedValue, SitedComposite, SitedAssociations, SitedIteration, SitedChunk, SitedPieces, SitedDecls, SitedStmt, SitedAll, SitedAlternatives, SitedArms, SitedHandlers}
use Rattle.ada_lower.proofs.Strings.{IsOne, among_stands, one_left, one_right}

own-by : (b : Bool) → b ≡ true → 1 ≤ (if b then 1 else 0)
own-by true e = omega arith
own-by false e = absurd (let z : false ≡ true = e in cc)

in-own : (n : ℕ) → 1 ≤ in_number n n
in-own n = own-by (n == n) (eq-eqb n n refl)

module _ (program : Program) where
  -- numbers that stand in a part are those of lines of the table
  abbrev Rowed : (ℕ → ℕ) → Type 0
  Rowed c = (s : ℕ) → 1 ≤ c s → s < length program.sites

  -- texts are in the table
  abbrev Held : List (List ℕ) → Type 0
  Held ts = (bytes : List ℕ) → IsOne bytes ts → text_in program bytes < length (texts_of program)

  inner : (o : Option ℕ) (site : ℕ) → Follows o site → site < length program.sites → Inner program o site
  inner None site h l = l
  inner (Some outer) site h l = (h, l)

  mutual
    pub sited-expr : (o : Option ℕ) (x : Expr) → NestedExpr o x → Rowed (λ s. in_expr s x) → SitedExpr program o x
    sited-expr o (Static at value literal mentions) nest rows = tt
    sited-expr o (Variable at r selections scalar) nest rows = sited-selections o selections nest (λ s l. rows s (omega (arith, l)))
    sited-expr o (Constant at r selections scalar) nest rows = sited-selections o selections nest (λ s l. rows s (omega (arith, l)))
    sited-expr o (Parameter at k) nest rows = tt
    sited-expr o (Target at scalar) nest rows = tt
    sited-expr o (Group e) nest rows = sited-expr o e nest (λ s l. rows s (omega (arith, l)))
    sited-expr o (Unary at sign class e) nest rows = sited-expr o e nest (λ s l. rows s (omega (arith, l)))
    sited-expr o (Binary at op class e f) nest rows = (sited-expr o e nest.0 (λ s l. rows s (omega (arith, l))), sited-expr o f nest.1 (λ s l. rows s (omega (arith, l))))
    sited-expr o (AndThen e f) nest rows = (sited-expr o e nest.0 (λ s l. rows s (omega (arith, l))), sited-expr o f nest.1 (λ s l. rows s (omega (arith, l))))
    sited-expr o (OrElse e f) nest rows = (sited-expr o e nest.0 (λ s l. rows s (omega (arith, l))), sited-expr o f nest.1 (λ s l. rows s (omega (arith, l))))
    sited-expr o (Relation class comparison e f) nest rows = (sited-expr o e nest.0 (λ s l. rows s (omega (arith, l))), sited-expr o f nest.1 (λ s l. rows s (omega (arith, l))))
    sited-expr o (Membership class negated e low high) nest rows = (sited-expr o e nest.0 (λ s l. rows s (omega (arith, l))), sited-expr o low nest.1 (λ s l. rows s (omega (arith, l))), sited-expr o high nest.2 (λ s l. rows s (omega (arith, l))))
    sited-expr o (If condition value otherwise) nest rows = (sited-expr o condition nest.0 (λ s l. rows s (omega (arith, l))), sited-expr o value nest.1 (λ s l. rows s (omega (arith, l))), sited-expr o otherwise nest.2 (λ s l. rows s (omega (arith, l))))
    sited-expr o (Call at callee sub actuals) nest rows = sited-actuals o actuals nest (λ s l. rows s (omega (arith, l)))
    sited-expr o (Convert check e) nest rows = sited-expr o e nest (λ s l. rows s (omega (arith, l)))
    sited-expr o (Reduction at attribute by initial None chunk iteration value) nest rows = (sited-expr o initial nest.0 (λ s l. rows s (omega (arith, l))), sited-iteration o o iteration nest.1 (λ s l. rows s (omega (arith, l))), sited-expr o value nest.2 (λ s l. rows s (omega (arith, l))))
    sited-expr o (Reduction at attribute by initial (Some site) chunk iteration value) nest rows = (inner o site nest.0 (rows site (omega (arith, in-own site))), sited-expr o initial nest.1 (λ s l. rows s (omega (arith, l))), sited-chunk o chunk nest.2 (λ s l. rows s (omega (arith, l))), sited-iteration o (Some site) iteration nest.3 (λ s l. rows s (omega (arith, l))), sited-expr (Some site) value nest.4 (λ s l. rows s (omega (arith, l))))

    pub sited-optional : (o : Option ℕ) (x : Optional) → NestedOptional o x → Rowed (λ s. in_optional s x) → SitedOptional program o x
    sited-optional o Absent nest rows = tt
    sited-optional o (Present e) nest rows = sited-expr o e nest (λ s l. rows s (omega (arith, l)))

    pub sited-selections : (o : Option ℕ) (x : Selections) → NestedSelections o x → Rowed (λ s. in_selections s x) → SitedSelections program o x
    sited-selections o Whole nest rows = tt
    sited-selections o (Field number offset rest) nest rows = sited-selections o rest nest (λ s l. rows s (omega (arith, l)))
    sited-selections o (Index at e low high stride rest) nest rows = (sited-expr o e nest.0 (λ s l. rows s (omega (arith, l))), sited-selections o rest nest.1 (λ s l. rows s (omega (arith, l))))

    pub sited-actuals : (o : Option ℕ) (x : Actuals) → NestedActuals o x → Rowed (λ s. in_actuals s x) → SitedActuals program o x
    sited-actuals o NoActual nest rows = tt
    sited-actuals o (In formal value rest) nest rows = (sited-value o value nest.0 (λ s l. rows s (omega (arith, l))), sited-actuals o rest nest.1 (λ s l. rows s (omega (arith, l))))
    sited-actuals o (InOut formal at r selections inner outer rest) nest rows = (sited-selections o selections nest.0 (λ s l. rows s (omega (arith, l))), sited-actuals o rest nest.1 (λ s l. rows s (omega (arith, l))))
    sited-actuals o (Out formal at r selections inner outer rest) nest rows = (sited-selections o selections nest.0 (λ s l. rows s (omega (arith, l))), sited-actuals o rest nest.1 (λ s l. rows s (omega (arith, l))))
    sited-actuals o (CompositeInOut formal at r selections subtype rest) nest rows = (sited-selections o selections nest.0 (λ s l. rows s (omega (arith, l))), sited-actuals o rest nest.1 (λ s l. rows s (omega (arith, l))))
    sited-actuals o (CompositeOut formal at r selections subtype rest) nest rows = (sited-selections o selections nest.0 (λ s l. rows s (omega (arith, l))), sited-actuals o rest nest.1 (λ s l. rows s (omega (arith, l))))

    pub sited-value : (o : Option ℕ) (x : Value) → NestedValue o x → Rowed (λ s. in_value s x) → SitedValue program o x
    sited-value o (Number check e) nest rows = sited-expr o e nest (λ s l. rows s (omega (arith, l)))
    sited-value o (Cells c) nest rows = sited-composite o c nest (λ s l. rows s (omega (arith, l)))

    pub sited-composite : (o : Option ℕ) (x : Composite) → NestedComposite o x → Rowed (λ s. in_composite s x) → SitedComposite program o x
    sited-composite o (WholeVariable at r selections subtype) nest rows = sited-selections o selections nest (λ s l. rows s (omega (arith, l)))
    sited-composite o (WholeConstant at r selections subtype) nest rows = sited-selections o selections nest (λ s l. rows s (omega (arith, l)))
    sited-composite o (WholeTarget at subtype) nest rows = tt
    sited-composite o (CompositeIf condition value otherwise) nest rows = (sited-expr o condition nest.0 (λ s l. rows s (omega (arith, l))), sited-composite o value nest.1 (λ s l. rows s (omega (arith, l))), sited-composite o otherwise nest.2 (λ s l. rows s (omega (arith, l))))
    sited-composite o (Aggregate at size associations) nest rows = sited-associations o associations nest (λ s l. rows s (omega (arith, l)))

    pub sited-associations : (o : Option ℕ) (x : Associations) → NestedAssociations o x → Rowed (λ s. in_associations s x) → SitedAssociations program o x
    sited-associations o NoAssociation nest rows = tt
    sited-associations o (Association runs iterated mentions value rest) nest rows = (sited-value o value nest.0 (λ s l. rows s (omega (arith, l))), sited-associations o rest nest.1 (λ s l. rows s (omega (arith, l))))

    pub sited-iteration : (o i : Option ℕ) (x : Iteration) → NestedIteration o i x → Rowed (λ s. in_iteration s x) → SitedIteration program o i x
    sited-iteration o i (Range k reverse low high check filter) nest rows = (sited-expr o low nest.0 (λ s l. rows s (omega (arith, l))), sited-expr o high nest.1 (λ s l. rows s (omega (arith, l))), sited-optional i filter nest.2 (λ s l. rows s (omega (arith, l))))
    sited-iteration o i (Components k constant at r selections count stride dimensions filter) nest rows = (sited-selections o selections nest.0 (λ s l. rows s (omega (arith, l))), sited-optional i filter nest.1 (λ s l. rows s (omega (arith, l))))

    pub sited-chunk : (o : Option ℕ) (x : Chunk) → NestedChunk o x → Rowed (λ s. in_chunk s x) → SitedChunk program o x
    sited-chunk o NoChunk nest rows = tt
    sited-chunk o (Count e) nest rows = sited-expr o e nest (λ s l. rows s (omega (arith, l)))
    sited-chunk o (Each k low high check) nest rows = (sited-expr o low nest.0 (λ s l. rows s (omega (arith, l))), sited-expr o high nest.1 (λ s l. rows s (omega (arith, l))))

  pub sited-pieces : (o : Option ℕ) (x : Pieces) → NestedPieces o x → Rowed (λ s. in_pieces s x) → Held (pieces_texts x) → SitedPieces program o x
  sited-pieces o NoPiece nest rows texts = tt
  sited-pieces o (Text bytes rest) nest rows texts = (texts bytes (inl refl), sited-pieces o rest nest (λ s l. rows s (omega (arith, l))) (λ b z. texts b (inr z)))
  sited-pieces o (Image class e rest) nest rows texts = (sited-expr o e nest.0 (λ s l. rows s (omega (arith, l))), sited-pieces o rest nest.1 (λ s l. rows s (omega (arith, l))) texts)
  sited-pieces o (Padded class e width rest) nest rows texts = (sited-expr o e nest.0 (λ s l. rows s (omega (arith, l))), sited-pieces o rest nest.1 (λ s l. rows s (omega (arith, l))) texts)

  pub sited-decls : (o : Option ℕ) (x : Decls) → NestedDecls o x → Rowed (λ s. in_decls s x) → SitedDecls program o x
  sited-decls o NoDecl nest rows = tt
  sited-decls o (DeclareDefault x more) nest rows = sited-decls o more nest (λ s l. rows s (omega (arith, l)))
  sited-decls o (DeclareVariable x initial more) nest rows = (sited-value o initial nest.0 (λ s l. rows s (omega (arith, l))), sited-decls o more nest.1 (λ s l. rows s (omega (arith, l))))
  sited-decls o (DeclareConstant x initial more) nest rows = (sited-value o initial nest.0 (λ s l. rows s (omega (arith, l))), sited-decls o more nest.1 (λ s l. rows s (omega (arith, l))))
  sited-decls o (Mentions es more) nest rows = sited-decls o more nest (λ s l. rows s (omega (arith, l)))

  mutual
    unfolding stmt_texts

    pub sited-stmt : (o : Option ℕ) (x : Stmt) → NestedStmt o x → Rowed (λ s. in_stmt s x) → Held (stmt_texts x) → SitedStmt program o x
    sited-stmt o (Assign at r selections value) nest rows texts = (sited-selections o selections nest.0 (λ s l. rows s (omega (arith, l))), sited-value o value nest.1 (λ s l. rows s (omega (arith, l))))
    sited-stmt o (CallProcedure at callee sub actuals) nest rows texts = sited-actuals o actuals nest (λ s l. rows s (omega (arith, l)))
    sited-stmt o (Exit loop condition) nest rows texts = sited-optional o condition nest (λ s l. rows s (omega (arith, l)))
    sited-stmt o (ReturnValue value) nest rows texts = sited-value o value nest (λ s l. rows s (omega (arith, l)))
    sited-stmt o (IfThen condition stmts otherwise) nest rows texts = (sited-expr o condition nest.0 (λ s l. rows s (omega (arith, l))), sited-stmts o stmts nest.1 (λ s l. rows s (omega (arith, l))) (λ b z. texts b (one_left b (texts_in stmts) (texts_in otherwise) z)), sited-stmts o otherwise nest.2 (λ s l. rows s (omega (arith, l))) (λ b z. texts b (one_right b (texts_in stmts) (texts_in otherwise) z)))
    sited-stmt o (Case e alternatives) nest rows texts = (sited-expr o e nest.0 (λ s l. rows s (omega (arith, l))), sited-alternatives o alternatives nest.1 (λ s l. rows s (omega (arith, l))) texts)
    sited-stmt o (Loop number condition stmts) nest rows texts = (sited-optional o condition nest.0 (λ s l. rows s (omega (arith, l))), sited-stmts o stmts nest.1 (λ s l. rows s (omega (arith, l))) texts)
    sited-stmt o (For number iteration stmts) nest rows texts = (sited-iteration o o iteration nest.0 (λ s l. rows s (omega (arith, l))), sited-stmts o stmts nest.1 (λ s l. rows s (omega (arith, l))) texts)
    sited-stmt o (ParallelFor number site chunk iteration stmts) nest rows texts = (inner o site nest.0 (rows site (omega (arith, in-own site))), sited-chunk o chunk nest.1 (λ s l. rows s (omega (arith, l))), sited-iteration o (Some site) iteration nest.2 (λ s l. rows s (omega (arith, l))), sited-stmts (Some site) stmts nest.3 (λ s l. rows s (omega (arith, l))) texts)
    sited-stmt o (Parallel site count arms) nest rows texts = (inner o site nest.0 (rows site (omega (arith, in-own site))), sited-optional o count nest.1 (λ s l. rows s (omega (arith, l))), sited-arms (Some site) arms nest.2 (λ s l. rows s (omega (arith, l))) texts)
    sited-stmt o (Block decls stmts handlers) nest rows texts = (sited-decls o decls nest.0 (λ s l. rows s (omega (arith, l))), sited-stmts o stmts nest.1 (λ s l. rows s (omega (arith, l))) (λ b z. texts b (one_left b (texts_in stmts) (handler_texts handlers) z)), sited-handlers o handlers nest.2 (λ s l. rows s (omega (arith, l))) (λ b z. texts b (one_right b (texts_in stmts) (handler_texts handlers) z)))
    sited-stmt o (Put at callee pieces line) nest rows texts = sited-pieces o pieces nest (λ s l. rows s (omega (arith, l))) texts
    sited-stmt o (Get at callee first r selections scalar) nest rows texts = sited-selections o selections nest (λ s l. rows s (omega (arith, l)))
    sited-stmt o x nest rows texts = tt

    pub sited-stmts : (o : Option ℕ) (x : Stmts) → NestedAll o x → Rowed (λ s. in_stmts s x) → Held (texts_in x) → SitedAll program o x
    sited-stmts o End nest rows texts = tt
    sited-stmts o (Then first more) nest rows texts = (sited-stmt o first nest.0 (λ s l. rows s (omega (arith, l))) (λ b z. texts b (one_left b (stmt_texts first) (texts_in more) z)), sited-stmts o more nest.1 (λ s l. rows s (omega (arith, l))) (λ b z. texts b (one_right b (stmt_texts first) (texts_in more) z)))

    pub sited-alternatives : (o : Option ℕ) (x : Alternatives) → NestedAlternatives o x → Rowed (λ s. in_alternatives s x) → Held (case_texts x) → SitedAlternatives program o x
    sited-alternatives o NoAlternative nest rows texts = tt
    sited-alternatives o (Alternative others choices mentions stmts rest) nest rows texts = (sited-stmts o stmts nest.0 (λ s l. rows s (omega (arith, l))) (λ b z. texts b (one_left b (texts_in stmts) (case_texts rest) z)), sited-alternatives o rest nest.1 (λ s l. rows s (omega (arith, l))) (λ b z. texts b (one_right b (texts_in stmts) (case_texts rest) z)))

    pub sited-arms : (o : Option ℕ) (x : Arms) → NestedArms o x → Rowed (λ s. in_arms s x) → Held (arm_texts x) → SitedArms program o x
    sited-arms o NoArm nest rows texts = tt
    sited-arms o (Arm stmts rest) nest rows texts = (sited-stmts o stmts nest.0 (λ s l. rows s (omega (arith, l))) (λ b z. texts b (one_left b (texts_in stmts) (arm_texts rest) z)), sited-arms o rest nest.1 (λ s l. rows s (omega (arith, l))) (λ b z. texts b (one_right b (texts_in stmts) (arm_texts rest) z)))

    pub sited-handlers : (o : Option ℕ) (x : Handlers) → NestedHandlers o x → Rowed (λ s. in_handlers s x) → Held (handler_texts x) → SitedHandlers program o x
    sited-handlers o NoHandler nest rows texts = tt
    sited-handlers o (Handler handled stmts rest) nest rows texts = (sited-stmts o stmts nest.0 (λ s l. rows s (omega (arith, l))) (λ b z. texts b (one_left b (texts_in stmts) (handler_texts rest) z)), sited-handlers o rest nest.1 (λ s l. rows s (omega (arith, l))) (λ b z. texts b (one_right b (texts_in stmts) (handler_texts rest) z)))

  sited-body : (x : Body) → NestedBody x → Rowed (λ s. in_body s x) → Held (body_texts x) → SitedBody program x
  sited-body x h r t = (
    sited-decls None x.decls h.0 (λ s l. r s (omega (arith, l))),
    sited-stmts None x.stmts h.1 (λ s l. r s (omega (arith, l))) (λ b z. t b (one_left b (texts_in x.stmts) (handler_texts x.handlers) z)),
    sited-handlers None x.handlers h.2 (λ s l. r s (omega (arith, l))) (λ b z. t b (one_right b (texts_in x.stmts) (handler_texts x.handlers) z)),
  )

  sited-subs : (us : List Sub) → NestedSubs us → Rowed (λ s. in_subs s us) → Held (subs_texts us) → SitedSubs program us
  sited-subs [] h r t = tt
  sited-subs (u ∷ us) h r t = (
    sited-body u.body h.0 (λ s l. r s (omega (arith, l))) (λ b z. t b (one_left b (body_texts u.body) (subs_texts us) z)),
    sited-subs us h.1 (λ s l. r s (omega (arith, l))) (λ b z. t b (one_right b (body_texts u.body) (subs_texts us) z)),
  )

  -- a text of the program has its number in the table
  held : Held (body_texts program.body ++ subs_texts program.subs)
  held bytes h = slice_get_within (texts_of program) (text_in program bytes) bytes (among_stands program bytes h)

  pub sited_law : SitesAreNested program → SitesAreListed program → IsSited program
  sited_law h r = (
    sited-body program.body h.0 (λ s l. r s (omega (arith, l))) (λ b z. held b (one_left b (body_texts program.body) (subs_texts program.subs) z)),
    sited-subs program.subs h.1 (λ s l. r s (omega (arith, l))) (λ b z. held b (one_right b (body_texts program.body) (subs_texts program.subs) z)),
  )
