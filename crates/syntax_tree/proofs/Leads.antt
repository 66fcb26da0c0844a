-- The first token of a part is the first that it spells.
use Rattle.std.proofs.Common.{◌≡◌, ℕ, suc, List, [], ◌∷◌, ◌++◌, refl, sym, ap, ◌∙◌}
use Rattle.std.specs.Prelude.{Option, Some, None}
use Rattle.ada_base.specs.Symbols.{Nested, Word}
use Rattle.syntax_tree.specs.Syntax.{Expr, Single, Joined, Rel, Alone, Compared, Within, OfMark, Simple, Sum, Term, Product, Factor, Operand, Power, Abs, Not, Primary, Number, Text, Target, Named, Group, If, Round, Square, OneValue, Reduction, Name, name, Arg, arg, Range, Bounded, Whole, Constrained, Choice, Value, Span, Others, Many, Positions, PositionsOthers, FirstOthers, Associations, Assoc, Chosen, Each, Parallel, Unchunked, Counted, Chunked, Iter, InRange, OfName, Indic, Mark, RangeMark, ObjectType, Indicated, Anonymous, Decl, ObjectDecl, NumberDecl, ExceptionDecl, TypeDecl, SubtypeDecl, Scheme, While, For, Handled, AnyOther, These, Stmt, Null, Assign, CallStmt, Exit, Return, Raise, IfStmt, Case, Loop, Block, ParallelBlock, Stmts, stmts, Body, body, NoHandler, AlsoHandler, Sub, Procedure, Function, ExprFunction, Unit', DeclUnit, SubUnit, Policy, Clause, Main, Program}
use Rattle.syntax_tree.specs.FirstTokens.{of_name, of_primary, of_factor, of_term, of_simple, of_rel, of_expr, of_arg, of_range, of_choice, of_assoc, of_many, of_parallel, of_iter, of_indic, of_object_type, of_decl, of_mode, of_scheme, of_handled, of_stmt, of_stmts, of_body, of_sub, of_unit, of_clauses, of_policy, of_program}
use Rattle.syntax_tree.specs.Patterns.{Pattern, Nothing, Held, Free, Both, words_of, Spelling, Lead, Unspelled, Unheld, HeldFirst, before, lead, ◌then◌, each_of, optional_of}
use Rattle.syntax_tree.specs.Productions as spelled
use Rattle.syntax_tree.specs.declared.operators.Sign.TheVariants as sign
use Rattle.syntax_tree.specs.declared.operators.Mode.{Mode}
use Rattle.syntax_tree.specs.declared.operators.Mode.TheVariants as mode'

-- ---- what a lead says of the words

pub unspelled-words : (p : Pattern) → lead p ≡ Unspelled → (w : Word) → words_of p w → w ≡ []
unspelled-words Nothing e w h = h
unspelled-words (Held d k n) e w h = absurd (cc)
unspelled-words (Free d k) e w h = absurd (cc)
unspelled-words (Both p q) e w h = go (lead p) refl (λ f. unspelled-words p f h.0 h.3) (λ f. unspelled-words q f h.1 h.4)
  where
    go : (l : Lead) → lead p ≡ l → (lead p ≡ Unspelled → h.0 ≡ []) → (lead q ≡ Unspelled → h.1 ≡ []) → w ≡ []
    go Unspelled f ip iq = h.2 ∙ ap (λ x. x ++ h.1) (ip f) ∙ iq (sym (ap (λ l. before l (lead q)) f) ∙ e)
    go Unheld f ip iq = let g = sym (ap (λ l. before l (lead q)) f) ∙ e in absurd (cc)
    go (HeldFirst n) f ip iq = let g = sym (ap (λ l. before l (lead q)) f) ∙ e in absurd (cc)

-- the words begin with the token of this number
abbrev pub BeginsAt : ℕ → Word → Type 0
BeginsAt n w = (c : Nested) × (v : Word) × (w ≡ c ∷ v) × (c.symbol.number ≡ n)

held-inj : {m n : ℕ} → HeldFirst m ≡ HeldFirst n → m ≡ n
held-inj e = cc

pub held-words : (p : Pattern) (n : ℕ) → lead p ≡ HeldFirst n → (w : Word) → words_of p w → BeginsAt n w
held-words Nothing n e w h = absurd (cc)
held-words (Held d k m) n e w h = (_, [], h, held-inj e)
held-words (Free d k) n e w h = absurd (cc)
held-words (Both p q) n e w h =
    go (lead p) refl (λ f. unspelled-words p f h.0 h.3) (λ m f. held-words p m f h.0 h.3) (λ f. held-words q n f h.1 h.4)
  where
    go : (l : Lead) → lead p ≡ l → (lead p ≡ Unspelled → h.0 ≡ []) → ((m : ℕ) → lead p ≡ HeldFirst m → BeginsAt m h.0)
        → (lead q ≡ HeldFirst n → BeginsAt n h.1) → BeginsAt n w
    go Unspelled f none ip iq =
        let v = iq (sym (ap (λ l. before l (lead q)) f) ∙ e) in
        (v.0, v.1, h.2 ∙ ap (λ x. x ++ h.1) (none f) ∙ v.2, v.3)
    go Unheld f none ip iq = let g = sym (ap (λ l. before l (lead q)) f) ∙ e in absurd (cc)
    go (HeldFirst m) f none ip iq =
        let g : HeldFirst m ≡ HeldFirst n = sym (ap (λ l. before l (lead q)) f) ∙ e in
        let v = ip m f in
        (v.0, v.1 ++ h.1, h.2 ∙ ap (λ x. x ++ h.1) v.2, v.3 ∙ held-inj g)

-- ---- the parts

-- a part spells first the token of this number, at whatever depth
abbrev pub Leads : Spelling → ℕ → Type 0
Leads s n = (depth : ℕ) → lead (s depth) ≡ HeldFirst n

pub lead-name : (t : Name) → Leads (spelled.name' t) (of_name t)
unfolding spelled.expr
lead-name (name f ps) depth = refl

pub lead-primary : (t : Primary) → Leads (spelled.primary t) (of_primary t)
unfolding spelled.expr
lead-primary (Number n) depth = refl
lead-primary (Text n) depth = refl
lead-primary (Target n) depth = refl
lead-primary (Named n) depth = lead-name n depth
lead-primary (Group b e) depth = refl
lead-primary (If b n c v m o) depth = refl
lead-primary (Round b m) depth = refl
lead-primary (Square b m) depth = refl
lead-primary (OneValue b e) depth = refl
lead-primary (Reduction b p n i v a e z) depth = refl

pub lead-factor : (t : Factor) → Leads (spelled.factor t) (of_factor t)
unfolding spelled.expr
lead-factor (Operand p) depth = lead-primary p depth
lead-factor (Power b n e) depth = rw (lead-primary b depth) refl
lead-factor (Abs n p) depth = refl
lead-factor (Not n p) depth = refl

pub lead-term : (t : Term) → Leads (spelled.term t) (of_term t)
unfolding spelled.expr
lead-term (Product f ms) depth = rw (lead-factor f depth) refl

pub lead-simple : (t : Simple) → Leads (spelled.simple t) (of_simple t)
unfolding spelled.expr
lead-simple (Sum None t us) depth = rw (lead-term t depth) refl
lead-simple (Sum (Some (sign.Plus n)) t us) depth = refl
lead-simple (Sum (Some (sign.Minus n)) t us) depth = refl

pub lead-rel : (t : Rel) → Leads (spelled.rel t) (of_rel t)
unfolding spelled.expr
lead-rel (Alone s) depth = lead-simple s depth
lead-rel (Compared l by n x) depth = rw (lead-simple l depth) refl
lead-rel (Within v g n l h) depth = rw (lead-simple v depth) refl
lead-rel (OfMark v g n m) depth = rw (lead-simple v depth) refl

pub lead-expr : (t : Expr) → Leads (spelled.expr t) (of_expr t)
unfolding spelled.expr
lead-expr (Single x) depth = lead-rel x depth
lead-expr (Joined by x n y cs) depth = rw (lead-rel x depth) refl

pub lead-arg : (t : Arg) → Leads (spelled.arg' t) (of_arg t)
unfolding spelled.expr
lead-arg (arg None e) depth = lead-expr e depth
lead-arg (arg (Some n) e) depth = refl

pub lead-range : (t : Range) → Leads (spelled.range t) (of_range t)
unfolding spelled.expr
lead-range (Bounded l h) depth = rw (lead-simple l depth) refl
lead-range (Whole n) depth = lead-name n depth
lead-range (Constrained n l h) depth = rw (lead-name n depth) refl

pub lead-choice : (t : Choice) → Leads (spelled.choice t) (of_choice t)
unfolding spelled.expr
lead-choice (Value s) depth = lead-simple s depth
lead-choice (Span l h) depth = rw (lead-simple l depth) refl
lead-choice (Others n) depth = refl

pub lead-assoc : (t : Assoc) → Leads (spelled.assoc t) (of_assoc t)
unfolding spelled.expr
lead-assoc (Chosen c cs v) depth = rw (lead-choice c depth) refl
lead-assoc (Each n i x v) depth = refl

pub lead-many : (t : Many) → Leads (spelled.many t) (of_many t)
unfolding spelled.expr
lead-many (Positions a b es) depth = rw (lead-expr a depth) refl
lead-many (PositionsOthers a b es n o) depth = rw (lead-expr a depth) refl
lead-many (FirstOthers a n o) depth = rw (lead-expr a depth) refl
lead-many (Associations a us) depth = rw (lead-assoc a depth) refl

pub lead-parallel : (t : Parallel) → Leads (spelled.parallel t) (of_parallel t)
unfolding spelled.expr
lead-parallel (Unchunked n) depth = refl
lead-parallel (Counted n c) depth = refl
lead-parallel (Chunked n i x) depth = refl

pub lead-iter : (t : Iter) → Leads (spelled.iter t) (of_iter t)
unfolding spelled.expr
lead-iter (InRange i v x f) depth = refl
lead-iter (OfName i n f) depth = refl

pub lead-indic : (t : Indic) → Leads (spelled.indic t) (of_indic t)
lead-indic (Mark n) depth = refl
lead-indic (RangeMark n l h) depth = refl

pub lead-object_type : (t : ObjectType) → Leads (spelled.object_type t) (of_object_type t)
lead-object_type (Indicated i) depth = lead-indic i depth
lead-object_type (Anonymous a) depth = refl

pub lead-decl : (t : Decl) → Leads (spelled.decl t) (of_decl t)
lead-decl (ObjectDecl is c t v) depth = refl
lead-decl (NumberDecl is n v) depth = refl
lead-decl (ExceptionDecl is) depth = refl
lead-decl (TypeDecl n d t) depth = refl
lead-decl (SubtypeDecl n d i) depth = refl

pub lead-mode : (t : Mode) → Leads (spelled.mode t) (of_mode t)
lead-mode (mode'.In n) depth = refl
lead-mode (mode'.Out n) depth = refl
lead-mode (mode'.InOut n) depth = refl

pub lead-scheme : (t : Scheme) → Leads (spelled.scheme t) (of_scheme t)
unfolding spelled.expr
lead-scheme (While n c) depth = refl
lead-scheme (For None n i) depth = refl
lead-scheme (For (Some p) n i) depth = rw (lead-parallel p depth) refl

pub lead-handled : (t : Handled) → Leads (spelled.handled t) (of_handled t)
lead-handled (AnyOther n) depth = refl
lead-handled (These a us) depth = refl

pub lead-stmt : (t : Stmt) → Leads (spelled.stmt t) (of_stmt t)
unfolding spelled.stmt
lead-stmt (Null n) depth = refl
lead-stmt (Assign t v) depth = rw (lead-name t (suc depth)) refl
lead-stmt (CallStmt t) depth = rw (lead-name t (suc depth)) refl
lead-stmt (Exit n g c) depth = refl
lead-stmt (Return n v) depth = refl
lead-stmt (Raise n e) depth = refl
lead-stmt (IfStmt n c x us o) depth = refl
lead-stmt (Case n v a us) depth = refl
lead-stmt (Loop (Some g) b n x l m) depth = refl
lead-stmt (Loop None (Some b) n x l m) depth = rw (lead-scheme b (suc depth)) refl
lead-stmt (Loop None None n x l m) depth = refl
lead-stmt (Block (Some d) n b) depth = refl
lead-stmt (Block None n b) depth = refl
lead-stmt (ParallelBlock n c x y us) depth = refl

pub lead-stmts : (t : Stmts) → Leads (spelled.stmts' t) (of_stmts t)
unfolding spelled.stmt
lead-stmts (stmts x us) depth = rw (lead-stmt x depth) refl

pub lead-body : (t : Body) → Leads (spelled.body' t) (of_body t)
unfolding spelled.stmt
lead-body (body x NoHandler) depth = lead-stmts x depth
lead-body (body x (AlsoHandler h hs)) depth = rw (lead-stmts x depth) refl

pub lead-sub : (t : Sub) → Leads (spelled.sub t) (of_sub t)
lead-sub (Procedure n d f a ds b l) depth = refl
lead-sub (Function n d f x a ds b l) depth = refl
lead-sub (ExprFunction n d f x g v a) depth = refl

pub lead-unit : (t : Unit') → Leads (spelled.unit t) (of_unit t)
lead-unit (DeclUnit d) depth = lead-decl d depth
lead-unit (SubUnit x) depth = lead-sub x depth

lead-clauses : (cs : List Clause) (m : Main) → Leads (each_of spelled.clause cs then spelled.main m) (of_clauses cs m.at)
lead-clauses [] m depth = refl
lead-clauses (c ∷ cs) m depth = refl

lead-policy : (p : Option Policy) (cs : List Clause) (m : Main)
    → Leads (optional_of spelled.policy p then each_of spelled.clause cs then spelled.main m) (of_policy p (of_clauses cs m.at))
lead-policy None cs m depth = lead-clauses cs m depth
lead-policy (Some p) cs m depth = refl

pub lead-program : (t : Program) → Leads (spelled.program t) (of_program t)
lead-program t depth = lead-policy t.policy t.clauses t.main depth
