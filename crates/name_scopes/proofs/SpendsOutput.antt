-- Judging that is counted: output.
use Rattle.ada_base.specs.declared.operation.Base.TheVariants.{Narrow}
use Rattle.name_rules.specs.Expressions.{Inside, expr, judged_alone}
use Rattle.syntax_tree.specs.FirstTokens as first_token
use Rattle.name_rules.specs.Found.{Found}
use Rattle.name_rules.specs.Judging.{breaks, fault, given, joined, pure, some, unless, ◌>>=◌}
use Rattle.name_rules.specs.Symbols.{symbol, width_name}
use Rattle.name_rules.specs.Types.{same, typed_scalar}
use Rattle.name_rules.specs.Values.{asked, first_of, literal, mentions_of, static_of_kind, suits}
use Rattle.name_rules.specs.declared.found.Denoted.TheVariants as denoted
use Rattle.name_rules.specs.declared.found.Found.TheVariants as known
use Rattle.name_rules.specs.declared.found.Found.{Found as Known}
use Rattle.name_rules.specs.declared.found.ObjectName.{ObjectName}
use Rattle.name_rules.specs.declared.found.Put.TheVariants as put
use Rattle.name_rules.specs.declared.found.Put.{Put}
use Rattle.name_rules.specs.declared.found.Reach.{Reach}
use Rattle.name_rules.specs.declared.log.Rule.TheVariants.{NotVisible, StaticRange, Twice, Unknown, WrongType}
use Rattle.name_rules.specs.declared.scope.Context.{Context}
use Rattle.name_rules.specs.declared.scope.Names.{Names}
use Rattle.name_rules.specs.declared.types.Kind.TheVariants as kind
use Rattle.name_rules.specs.declared.types.Subtype.TheVariants as subtype
use Rattle.name_rules.specs.declared.types.Subtype.{Subtype}
use Rattle.name_rules.specs.declared.types.Wanted.TheVariants as wanted
use Rattle.syntax_tree.specs.Syntax as syntax
use Rattle.syntax_tree.specs.Syntax.{Args, Expr}
use Rattle.typed_tree.specs.Decoded as part
use Rattle.typed_tree.specs.Syntax as typed
use Rattle.typed_tree.specs.Syntax.{Selections, Stmt as TypedStmt}
use Rattle.typed_tree.specs.declared.scalars.Class.TheVariants as class
use Rattle.std.specs.Prelude.{Bool, None, Option, Some, false, if◌then◌else◌, int_le, nat_le, not, option_map, pos, true, ℕ, ℤ, ◌&&◌, ◌+◌, ◌==◌, ◌≡◌}
use Rattle.name_rules.specs.TypedParts.{selections_of}
use Rattle.typed_tree.specs.Decoded.{TypedPart, as_expr, as_pieces}
use Rattle.typed_tree.specs.Latest.{turned}
use Rattle.name_rules.specs.Output.{Putting, alone_given, by_procedure, done_by, get_of, get_place, in_width, io_call, is_number_put, is_text, item_of, judged_arguments, no_name, nothing_put, others_alone, put_argument, put_arguments, put_by, put_complete, put_number, put_of_text, put_text, text_call, text_only, width_argument, width_of, width_or, with_count, with_width, without_arguments}
use Rattle.std.proofs.Common.{ap, arith, refl}
use Rattle.name_laws.proofs.KeepsExpressions.{k-judged_alone}
use Rattle.name_laws.proofs.KeepsOutput.{k-no_name, k-others_alone}
use Rattle.name_laws.proofs.KeepsValues.{k-static_of_kind}
use Rattle.name_laws.proofs.Walk.{k-breaks, k-unless}
use Rattle.name_scopes.proofs.SpendsExpressions.{s-expr}
use Rattle.name_scopes.proofs.SpendsFound.{z-denote}
use Rattle.name_scopes.proofs.SpendsValues.{s-asked, z-literal, z-mentions_of}
use Rattle.name_scopes.proofs.Leaving.{leaving}
use Rattle.name_scopes.proofs.Measures.{Measure, counted-by, maybe-known, maybe-part, option-of, part-measure, part-size, with-part}
use Rattle.name_scopes.proofs.Parts.{n-expr, n-pieces, n-selections_of, n-turned, w-turned}
use Rattle.name_scopes.proofs.Records.{SpendsInside, putting-of}
use Rattle.name_scopes.proofs.Spends.{Holds, Spends, h-if, h-joined, h-map, s-bind, s-fault, s-given, s-given-any, s-if, s-le, s-pure, s-some, s-then, s-where_clean}
use Rattle.name_scopes.proofs.Tallies.{Tally, in_selections, in_stmt}

pub z-done_by : (which : Tally) (x0 : ℕ) (x1 : TypedStmt) → (counted-by (λ x. in_stmt which x)).Whole x1 → Holds (with-part which) (in_stmt which x1) (done_by x0 x1)
z-done_by which first s h1 =
    let made1 = z-denote which (denoted.Done first) (part.AStmt s) tt in
    (made1.0, omega (arith, made1.1))

pub s-text_only : (which : Tally) (x0 : Known) (x1 : TypedPart) → (part-measure which).Whole x1 → Spends which (maybe-part which) (part-size which x1) (text_only x0 x1)
s-text_only which (known.Text first) x h1 = s-some which (part-measure which) _ x (h1, omega arith)
s-text_only which f x h1 = s-fault which (part-measure which) _ (first_of f) WrongType

pub s-alone_given : (which : Tally) {A : Type 0} (m : Measure A) (n at : ℕ) (as' : Args) (x : A) → Holds m n x → Spends which (option-of m) n (alone_given at as' x)
s-alone_given which m n at syntax.NoArg x h = s-some which m n x h
s-alone_given which m n at as' x h = s-fault which m n at WrongType

pub z-put_text : (which : Tally) (x0 : ℕ) (x1 : ℕ) (x2 : Bool) (x3 : TypedPart) → (part-measure which).Whole x3 → Holds (with-part which) (part-size which x3) (put_text x0 x1 x2 x3)
z-put_text which first last line ps h3 =
    let made1 = z-done_by which first (typed.Put first last (as_pieces (turned ps)) line) tt in
    (made1.0, omega (arith, made1.1, n-pieces which (turned ps) (w-turned which ps h3), n-turned which ps))

pub s-text_call : (which : Tally) (x0 : ℕ) (x1 : ℕ) (x2 : ℕ) (x3 : Bool) (x4 : Args) (x5 : Found) → (with-part which).Whole x5 → Spends which (maybe-known which) (part-size which x5.part) (text_call x0 x1 x2 x3 x4 x5)
s-text_call which at first last line more f h5 =
    s-bind which (maybe-known which) (maybe-known which) (part-size which f.part) 0 _ (alone_given at more f) _ (s-alone_given which (with-part which) _ at more f (h5, omega arith)) (omega arith) (λ g held1.
    s-given which (with-part which) (with-part which) 0 _ g _ held1 (omega arith) (λ h held2.
    s-bind which (maybe-part which) (maybe-known which) (part-size which h.part) 0 _ (text_only h.known h.part) _ (s-le which (maybe-part which) _ _ _ (s-text_only which h.known h.part held2) (omega arith)) (omega arith) (λ ps held3.
    s-pure which (maybe-known which) _ (option_map (put_text first last line) ps) (let made6 = h-map (part-measure which) (with-part which) 0 (put_text first last line) ps held3 (λ item held4. let made5 = z-put_text which first last line item held4 in
    (made5.0, omega (arith, made5.1))) in
    (made6.0, omega (arith, made6.1))))))

pub s-in_width : (which : Tally) (x0 : Found) (x1 : ℤ) → (with-part which).Whole x0 → Spends which (maybe-part which) (part-size which x0.part) (in_width x0 x1)
s-in_width which f z h0 =
    s-if which (maybe-part which) _ (int_le (pos 0) z && int_le z (pos 255)) (some (literal (first_of f.known) z false (mentions_of f))) (fault (first_of f.known) StaticRange)
    (s-some which (part-measure which) _ (literal (first_of f.known) z false (mentions_of f)) (let made1 = z-mentions_of which f h0 in
    let made2 = z-literal which (first_of f.known) z false (mentions_of f) made1.0 in
    (made2.0, omega (arith, made2.1, made1.1))))
    (s-fault which (part-measure which) _ (first_of f.known) StaticRange)

pub s-width_of : (which : Tally) (x0 : Found) → (with-part which).Whole x0 → Spends which (maybe-part which) (part-size which x0.part) (width_of x0)
unfolding width_of
s-width_of which f h0 =
    s-then which (maybe-part which) _ (static_of_kind kind.Integer f) _ (k-static_of_kind leaving kind.Integer f) (λ v.
    s-given-any which (part-measure which) _ v _ (λ item.
    s-le which (maybe-part which) _ _ _ (s-in_width which f item h0) (omega arith)))

pub s-item_of : (which : Tally) (x0 : Bool) (x1 : Found) → (with-part which).Whole x1 → Spends which (maybe-part which) (part-size which x1.part) (item_of x0 x1)
s-item_of which integer_io f h1 =
    s-if which (maybe-part which) _ (suits kind.Integer f.known && integer_io) (asked kind.Integer f) (fault (first_of f.known) WrongType)
    (s-le which (maybe-part which) _ _ _ (s-asked which kind.Integer f h1) (omega arith))
    (s-fault which (part-measure which) _ (first_of f.known) WrongType)

pub z-with_width : (which : Tally) (x0 : Putting) (x1 : Option TypedPart) → (maybe-part which).Whole x0.item → (maybe-part which).Whole x1 → Holds (putting-of which) ((maybe-part which).size x0.item + (maybe-part which).size x1) (with_width x0 x1)
z-with_width which p w h0-item h1 = ((h0-item, h1), omega arith)

pub s-width_argument : (which : Tally) (x0 : Names) (x1 : Inside) (x2 : Context) (x3 : Putting) (x4 : Expr) → SpendsInside which x1 → (maybe-part which).Whole x3.item → Spends which (putting-of which) ((maybe-part which).size x3.item) (width_argument x0 x1 x2 x3 x4)
s-width_argument which names inside here p e h1 h3-item =
    s-bind which (maybe-known which) (putting-of which) 0 ((maybe-part which).size p.item) _ (expr names inside here wanted.Other e) _ (s-le which (maybe-known which) _ _ _ (s-expr which names inside here wanted.Other e h1) (omega arith)) (omega arith) (λ x held1.
    s-bind which (maybe-part which) (putting-of which) ((maybe-known which).size x) ((maybe-part which).size p.item) _ (given x width_of) _ (s-given which (with-part which) (part-measure which) 0 _ x _ held1 (omega arith) (λ item held4.
    s-le which (maybe-part which) _ _ _ (s-width_of which item held4) (omega arith))) (omega arith) (λ w held2.
    s-pure which (putting-of which) _ (with_width p w) (let made3 = z-with_width which p w h3-item held2 in
    (made3.0, omega (arith, made3.1)))))

pub z-with_count : (which : Tally) (x0 : Putting) (x1 : ℕ) → (maybe-part which).Whole x0.item → (maybe-part which).Whole x0.width → Holds (putting-of which) ((maybe-part which).size x0.item + (maybe-part which).size x0.width) (with_count x0 x1)
z-with_count which p n h0-item h0-width = ((h0-item, h0-width), omega arith)

pub s-put_argument : (which : Tally) (x0 : Names) (x1 : Inside) (x2 : Context) (x3 : Putting) (x4 : Option ℕ) (x5 : Expr) (x6 : ℕ) → SpendsInside which x1 → (maybe-part which).Whole x3.item → (maybe-part which).Whole x3.width → Spends which (putting-of which) ((maybe-part which).size x3.item + (maybe-part which).size x3.width) (put_argument x0 x1 x2 x3 x4 x5 x6)
s-put_argument which names inside here p (Some name) e first h1 h3-item h3-width =
    s-if which (putting-of which) _ (symbol names name == width_name) ((unless (not p.has_width) first Twice) >>= λ u. width_argument names inside here p e) ((breaks name Unknown) >>= λ u. (judged_alone names inside here e) >>= λ v. pure (with_count p 1))
    (s-then which (putting-of which) _ (unless (not p.has_width) first Twice) _ (k-unless leaving (not p.has_width) first Twice) (λ u.
    s-le which (putting-of which) _ _ _ (s-width_argument which names inside here p e h1 h3-item) (omega arith)))
    (s-then which (putting-of which) _ (breaks name Unknown) _ (k-breaks leaving name Unknown) (λ u.
    s-then which (putting-of which) _ (judged_alone names inside here e) _ (k-judged_alone leaving names inside here e tt h1.keeps) (λ v.
    s-pure which (putting-of which) _ (with_count p 1) (let made4 = z-with_count which p 1 h3-item h3-width in
    (made4.0, omega (arith, made4.1))))))
s-put_argument which names inside here p None e first h1 h3-item h3-width =
    s-if which (putting-of which) _ (p.count == 1 && not p.has_width) (width_argument names inside here p e) ((judged_alone names inside here e) >>= λ v. pure (with_count p 2))
    (s-le which (putting-of which) _ _ _ (s-width_argument which names inside here p e h1 h3-item) (omega arith))
    (s-then which (putting-of which) _ (judged_alone names inside here e) _ (k-judged_alone leaving names inside here e tt h1.keeps) (λ v.
    s-pure which (putting-of which) _ (with_count p 2) (let made2 = z-with_count which p 2 h3-item h3-width in
    (made2.0, omega (arith, made2.1)))))

pub s-put_arguments : (which : Tally) (x0 : Names) (x1 : Inside) (x2 : Context) (x3 : Putting) (x4 : Args) → SpendsInside which x1 → (maybe-part which).Whole x3.item → (maybe-part which).Whole x3.width → Spends which (putting-of which) ((maybe-part which).size x3.item + (maybe-part which).size x3.width) (put_arguments x0 x1 x2 x3 x4)
s-put_arguments which names inside here p syntax.NoArg h1 h3-item h3-width = s-pure which (putting-of which) _ p ((h3-item, h3-width), omega arith)
s-put_arguments which names inside here p (syntax.AlsoArg (syntax.arg name e) as') h1 h3-item h3-width =
    s-bind which (putting-of which) (putting-of which) ((maybe-part which).size p.item + (maybe-part which).size p.width) 0 _ (put_argument names inside here p name e (first_token.of_arg (syntax.arg name e))) _ (s-le which (putting-of which) _ _ _ (s-put_argument which names inside here p name e (first_token.of_arg (syntax.arg name e)) h1 h3-item h3-width) (omega arith)) (omega arith) (λ q held1.
    s-le which (putting-of which) _ _ _ (s-put_arguments which names inside here q as' h1 held1.0 held1.1) (omega arith))

pub z-put_number : (which : Tally) (x0 : ℕ) (x1 : ℕ) (x2 : TypedPart) (x3 : TypedPart) → (part-measure which).Whole x2 → (part-measure which).Whole x3 → Holds (with-part which) (part-size which x2 + part-size which x3) (put_number x0 x1 x2 x3)
z-put_number which first last e w h2 h3 =
    let made1 = z-done_by which first (typed.Put first last (typed.Padded (class.Integer Narrow) (as_expr e) (as_expr w) typed.NoPiece) false) tt in
    (made1.0, omega (arith, made1.1, n-expr which e, n-expr which w))

pub z-width_or : (which : Tally) (x0 : ℕ) (x1 : Putting) → (maybe-part which).Whole x1.width → Holds (maybe-part which) ((maybe-part which).size x1.width) (width_or x0 x1)
z-width_or which first p h1-width =
    h-if (maybe-part which) _ p.has_width p.width (Some (literal first (pos 11) false part.Nothing)) (h1-width, omega arith) (let made1 = z-literal which first (pos 11) false part.Nothing tt in
    (made1.0, omega (arith, made1.1)))

pub s-put_complete : (which : Tally) (x0 : ℕ) (x1 : ℕ) (x2 : ℕ) (x3 : Putting) → (maybe-part which).Whole x3.item → (maybe-part which).Whole x3.width → Spends which (maybe-known which) ((maybe-part which).size x3.item + (maybe-part which).size x3.width) (put_complete x0 x1 x2 x3)
s-put_complete which at first last p h3-item h3-width =
    s-if which (maybe-known which) _ (nat_le p.count 2) (pure (joined (put_number first last) p.item (width_or first p))) (fault at WrongType)
    (s-pure which (maybe-known which) _ (joined (put_number first last) p.item (width_or first p)) (let made4 = z-width_or which first p h3-width in
    let made5 = h-joined (part-measure which) (part-measure which) (with-part which) 0 (put_number first last) p.item (width_or first p) h3-item made4.0 (λ one held1 other held2. let made3 = z-put_number which first last one other held1 held2 in
    (made3.0, omega (arith, made3.1))) in
    (made5.0, omega (arith, made5.1, made4.1))))
    (s-fault which (with-part which) _ at WrongType)

pub z-nothing_put : (which : Tally) (x0 : ℕ) (x1 : Option TypedPart) → (maybe-part which).Whole x1 → Holds (putting-of which) ((maybe-part which).size x1) (nothing_put x0 x1)
z-nothing_put which n x h1 = ((h1, tt), omega arith)

-- what is put is a number or a string, and the argument is used as the one or the other
abbrev pub put-of : Tally → Put → Measure (Option Found × Putting)
put-of which p = record {
  size = λ r. if is_number_put p r.0 then (putting-of which).size r.1 else (maybe-known which).size r.0;
  Whole = λ r. (maybe-known which).Whole r.0 × (putting-of which).Whole r.1;
}

put-chosen : (which : Tally) (p : Put) (r : Option Found × Putting) (b : Bool) → is_number_put p r.0 ≡ b → (put-of which p).size r ≡ (if b then (putting-of which).size r.1 else (maybe-known which).size r.0)
put-chosen which p r b e = ap (λ c. if c then (putting-of which).size r.1 else (maybe-known which).size r.0) e

pub s-judged_arguments : (which : Tally) (names : Names) (level : Inside) (here : Context) (reach : Reach) (p : Put) (more : Args) (x : Option Found) → SpendsInside which level → (maybe-known which).Whole x → Spends which (put-of which p) ((maybe-known which).size x) (judged_arguments names level here reach p more x)
s-judged_arguments which names level here reach p more x h i = by (is_number_put p x) refl
  where
    by : (b : Bool) → is_number_put p x ≡ b → Spends which (put-of which p) ((maybe-known which).size x) (if b then (given x (item_of reach.integer_io) >>= λ e. put_arguments names level here (nothing_put 1 e) more >>= λ r. pure (x, r)) else (others_alone names level here more >>= λ u. pure (x, nothing_put 1 None)))
    by true e =
        s-bind which (maybe-part which) (put-of which p) ((maybe-known which).size x) 0 _ (given x (item_of reach.integer_io)) _
        (s-given which (with-part which) (part-measure which) 0 _ x _ i (omega arith) (λ f held. s-le which (maybe-part which) _ _ _ (s-item_of which reach.integer_io f held) (omega arith))) (omega arith)
        (λ v held.
        s-bind which (putting-of which) (put-of which p) ((maybe-part which).size v) 0 _ (put_arguments names level here (nothing_put 1 v) more) _
        (s-le which (putting-of which) _ _ _ (s-put_arguments which names level here (nothing_put 1 v) more h held tt) (omega arith)) (omega arith)
        (λ r held'. s-pure which (put-of which p) _ (x, r) ((i, held'), omega (arith, put-chosen which p (x, r) true e))))
    by false e =
        s-then which (put-of which p) _ (others_alone names level here more) _ (k-others_alone leaving names level here more tt h.keeps)
        (λ u. s-pure which (put-of which p) _ (x, nothing_put 1 None) ((i, (tt, tt)), omega (arith, put-chosen which p (x, nothing_put 1 None) false e)))

pub s-put_of_text : (which : Tally) (x0 : ℕ) (x1 : ℕ) (x2 : ℕ) (x3 : Reach) (x4 : Args) (x5 : Found) → (with-part which).Whole x5 → Spends which (maybe-known which) (part-size which x5.part) (put_of_text x0 x1 x2 x3 x4 x5)
s-put_of_text which at first last reach more f h5 =
    s-if which (maybe-known which) _ reach.text_io (text_call at first last false more f) (if reach.expanded then fault (first_of f.known) WrongType else fault first NotVisible)
    (s-le which (maybe-known which) _ _ _ (s-text_call which at first last false more f h5) (omega arith))
    (s-if which (maybe-known which) _ reach.expanded (fault (first_of f.known) WrongType) (fault first NotVisible)
    (s-fault which (with-part which) _ (first_of f.known) WrongType)
    (s-fault which (with-part which) _ first NotVisible))

pub s-get_place : (which : Tally) (x0 : ℕ) (x1 : ℕ) (x2 : ObjectName) (x3 : Selections) (x4 : Subtype) → (counted-by (λ x. in_selections which x)).Whole x3 → Spends which (maybe-known which) (in_selections which x3) (get_place x0 x1 x2 x3 x4)
s-get_place which first last p ss (subtype.Scalar s) h3 =
    s-if which (maybe-known which) _ (p.variable && same s.kind kind.Integer) (some (done_by first (typed.Get first last p.first p.root ss (typed_scalar s)))) (fault p.first WrongType)
    (s-some which (with-part which) _ (done_by first (typed.Get first last p.first p.root ss (typed_scalar s))) (let made1 = z-done_by which first (typed.Get first last p.first p.root ss (typed_scalar s)) tt in
    (made1.0, omega (arith, made1.1))))
    (s-fault which (with-part which) _ p.first WrongType)
s-get_place which first last p ss (subtype.Composite n) h3 = s-fault which (with-part which) _ p.first WrongType

pub s-get_of : (which : Tally) (x0 : ℕ) (x1 : ℕ) (x2 : Known) (x3 : TypedPart) → (part-measure which).Whole x3 → Spends which (maybe-known which) (part-size which x3) (get_of x0 x1 x2 x3)
s-get_of which first last (known.Object p) x h3 = s-le which (maybe-known which) _ _ _ (s-get_place which first last p (selections_of x) p.subtype tt) (omega (arith, n-selections_of which x h3))
s-get_of which first last f x h3 = s-fault which (with-part which) _ (first_of f) WrongType

pub s-put_by : (which : Tally) (at first last : ℕ) (reach : Reach) (more : Args) (x : Option Found) (q : Putting) → (maybe-known which).Whole x → (putting-of which).Whole q → Spends which (maybe-known which) ((put-of which put.Put).size (x, q)) (put_by at first last reach more x q)
s-put_by which at first last reach more x q h i = by (is_text x)
  where
    by : (b : Bool) → Spends which (maybe-known which) (if not b then (putting-of which).size q else (maybe-known which).size x) (if b then given x (put_of_text at first last reach more) else put_complete at first last q)
    by true = s-given which (with-part which) (with-part which) 0 _ x _ h (omega arith) (λ f held. s-le which (maybe-known which) _ _ _ (s-put_of_text which at first last reach more f held) (omega arith))
    by false = s-le which (maybe-known which) _ _ _ (s-put_complete which at first last q i.0 i.1) (omega arith)

pub s-by_procedure : (which : Tally) (at first last : ℕ) (reach : Reach) (more : Args) (p : Put) (r : Option Found × Putting) → (put-of which p).Whole r → Spends which (maybe-known which) ((put-of which p).size r) (by_procedure at first last reach more p r)
s-by_procedure which at first last reach more put.Put r h = s-put_by which at first last reach more r.0 r.1 h.0 h.1
s-by_procedure which at first last reach more put.PutLine r h =
    s-given which (with-part which) (with-part which) 0 _ r.0 _ h.0 (omega arith) (λ f held. s-le which (maybe-known which) _ _ _ (s-text_call which at first last true more f held) (omega arith))
s-by_procedure which at first last reach more put.Get r h =
    s-given which (with-part which) (with-part which) 0 _ r.0 _ h.0 (omega arith)
    (λ f held. s-bind which (maybe-known which) (maybe-known which) (part-size which f.part) 0 _ (alone_given at more f) _ (s-alone_given which (with-part which) _ at more f (held, omega arith)) (omega arith)
    (λ g held'. s-given which (with-part which) (with-part which) 0 _ g _ held' (omega arith) (λ x held''. s-le which (maybe-known which) _ _ _ (s-get_of which first last x.known x.part held'') (omega arith))))
s-by_procedure which at first last reach more put.NewLine r h = s-fault which (with-part which) _ at WrongType

pub s-without_arguments : (which : Tally) (x0 : ℕ) (x1 : ℕ) (x2 : ℕ) (x3 : Put) → Spends which (maybe-known which) 0 (without_arguments x0 x1 x2 x3)
s-without_arguments which at first last put.NewLine =
    s-some which (with-part which) _ (done_by first (typed.Put first last typed.NoPiece true)) (let made1 = z-done_by which first (typed.Put first last typed.NoPiece true) tt in
    (made1.0, omega (arith, made1.1)))
s-without_arguments which at first last p = s-fault which (with-part which) _ at WrongType

pub s-io_call : (which : Tally) (names : Names) (level : Inside) (here : Context) (at first last : ℕ) (p : Put) (reach : Reach) (as' : Args) → SpendsInside which level → Spends which (maybe-known which) 0 (io_call names level here at first last p reach as')
unfolding io_call
s-io_call which names level here at first last p reach syntax.NoArg h = s-without_arguments which at first last p
s-io_call which names level here at first last p reach (syntax.AlsoArg (syntax.arg name e) as') h =
    s-where_clean which (put-of which p) (with-part which) 0 0 _ (no_name name >>= λ u. expr names level here wanted.Text e >>= judged_arguments names level here reach p as') _
    (s-then which (put-of which p) 0 (no_name name) _ (k-no_name leaving name)
    (λ u. s-bind which (maybe-known which) (put-of which p) 0 0 _ (expr names level here wanted.Text e) _ (s-expr which names level here wanted.Text e h) (omega arith)
    (λ x held. s-le which (put-of which p) _ _ _ (s-judged_arguments which names level here reach p as' x h held) (omega arith)))) (omega arith)
    (λ r held. s-le which (maybe-known which) _ _ _ (s-by_procedure which at first last reach as' p r held) (omega arith))
