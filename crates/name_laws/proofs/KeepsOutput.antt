-- What holds of each line of the log holds of what Output judges.
use Rattle.name_rules.specs.Expressions.{Inside, expr, judged_alone}
use Rattle.syntax_tree.specs.FirstTokens as first_token
use Rattle.name_rules.specs.Found.{Found}
use Rattle.name_rules.specs.Symbols.{symbol, width_name}
use Rattle.name_rules.specs.Types.{same, typed_scalar}
use Rattle.name_rules.specs.Values.{asked, first_of, literal, mentions_of, static_of_kind, suits}
use Rattle.name_rules.specs.declared.found.Found.TheVariants as known
use Rattle.name_rules.specs.declared.found.Found.{Found as Known}
use Rattle.name_rules.specs.declared.found.ObjectName.{ObjectName}
use Rattle.name_rules.specs.declared.found.Put.TheVariants as put
use Rattle.name_rules.specs.declared.found.Put.{Put}
use Rattle.name_rules.specs.declared.found.Reach.{Reach}
use Rattle.name_rules.specs.declared.log.Rule.TheVariants.{NotVisible, StaticRange, Twice, Unknown, WrongType}
use Rattle.name_rules.specs.declared.scope.Context.{Context}
use Rattle.name_rules.specs.declared.scope.Names.{Names}
use Rattle.name_rules.specs.declared.types.Kind.TheVariants as kind
use Rattle.name_rules.specs.declared.types.Subtype.TheVariants as subtype
use Rattle.name_rules.specs.declared.types.Subtype.{Subtype}
use Rattle.name_rules.specs.declared.types.Wanted.TheVariants as wanted
use Rattle.syntax_tree.specs.Syntax as syntax
use Rattle.syntax_tree.specs.Syntax.{Args, Expr}
use Rattle.typed_tree.specs.Syntax as typed
use Rattle.typed_tree.specs.Syntax.{Selections}
use Rattle.std.specs.Prelude.{Bool, None, Option, Some, false, if◌then◌else◌, int_le, nat_le, not, option_map, pos, true, ℕ, ℤ, ◌&&◌, ◌==◌}
use Rattle.name_rules.specs.TypedParts.{selections_of}
use Rattle.typed_tree.specs.Decoded.{TypedPart}
use Rattle.name_rules.specs.Judging.{◌>>=◌, breaks, fault, given, joined, pure, some, unless}
use Rattle.name_rules.specs.Output.{done_by, no_name, text_only, others_alone, alone_given, put_text, text_call, in_width, width_of, Putting, item_of, width_argument, with_count, put_argument, put_arguments, put_number, width_or, put_complete, is_text, is_number_put, nothing_put, judged_arguments, put_of_text, get_place, get_of, put_by, by_procedure, without_arguments, io_call}
use Rattle.name_laws.proofs.Walk.{Walk, Keeps, k-pure, k-some, k-bind, k-fault, k-breaks, k-unless, k-if, k-given, k-where_clean}
use Rattle.name_laws.proofs.Walked.{KeepsInside}
use Rattle.name_laws.proofs.KeepsExpressions.{k-expr, k-judged_alone}
use Rattle.name_laws.proofs.KeepsValues.{k-asked, k-static_of_kind}

pub k-no_name : (walk : Walk) (x0 : Option ℕ) → Keeps walk (no_name x0)
k-no_name walk None = k-pure walk tt
k-no_name walk (Some name) = k-breaks walk name Unknown

pub k-text_only : (walk : Walk) (x0 : Known) (x1 : TypedPart) → Keeps walk (text_only x0 x1)
k-text_only walk (known.Text first) x = k-some walk x
k-text_only walk f x = k-fault walk (first_of f) WrongType

pub k-others_alone : (walk : Walk) (x0 : Names) (x1 : Inside) (x2 : Context) (x3 : Args) → walk.Takes x0 → KeepsInside walk x1 → Keeps walk (others_alone x0 x1 x2 x3)
k-others_alone walk names inside here syntax.NoArg keeps1 keeps2 = k-pure walk tt
k-others_alone walk names inside here (syntax.AlsoArg (syntax.arg name e) as') keeps1 keeps2 = record {
  at = λ log.
      let out1 = no_name name log in
      let out2 = judged_alone names inside here e out1.1 in
      walk.joins _ _ _ ((k-no_name walk name).at log)
      (walk.joins _ _ _ ((k-judged_alone walk names inside here e keeps1 keeps2).at out1.1)
      ((k-others_alone walk names inside here as' keeps1 keeps2).at out2.1));
}

pub k-alone_given : (walk : Walk) {A : Type 0} (x0 : ℕ) (x1 : Args) (x2 : A) → Keeps walk (alone_given x0 x1 x2)
k-alone_given walk at syntax.NoArg x = k-some walk x
k-alone_given walk at as' x = k-fault walk at WrongType

pub k-text_call : (walk : Walk) (x0 : ℕ) (x1 : ℕ) (x2 : ℕ) (x3 : Bool) (x4 : Args) (x5 : Found) → Keeps walk (text_call x0 x1 x2 x3 x4 x5)
k-text_call walk at first last line more f = k-bind walk (alone_given at more f) (λ g. given g (λ h. text_only h.known h.part >>= λ ps. pure (option_map (put_text first last line) ps))) (k-alone_given walk at more f) (λ g. k-given walk g (λ h. text_only h.known h.part >>= λ ps. pure (option_map (put_text first last line) ps)) (λ h. k-bind walk (text_only h.known h.part) (λ ps. pure (option_map (put_text first last line) ps)) (k-text_only walk h.known h.part) (λ ps. k-pure walk (option_map (put_text first last line) ps))))

pub k-in_width : (walk : Walk) (x0 : Found) (x1 : ℤ) → Keeps walk (in_width x0 x1)
k-in_width walk f z = k-if walk (int_le (pos 0) z && int_le z (pos 255)) (some (literal (first_of f.known) z false (mentions_of f))) (fault (first_of f.known) StaticRange) (k-some walk (literal (first_of f.known) z false (mentions_of f))) (k-fault walk (first_of f.known) StaticRange)

pub k-width_of : (walk : Walk) (x0 : Found) → Keeps walk (width_of x0)
unfolding width_of
k-width_of walk f = k-bind walk (static_of_kind kind.Integer f) (λ v. given v (in_width f)) (k-static_of_kind walk kind.Integer f) (λ v. k-given walk v (in_width f) (λ z1. k-in_width walk f z1))

pub k-item_of : (walk : Walk) (x0 : Bool) (x1 : Found) → Keeps walk (item_of x0 x1)
k-item_of walk integer_io f = k-if walk (suits kind.Integer f.known && integer_io) (asked kind.Integer f) (fault (first_of f.known) WrongType) (k-asked walk kind.Integer f) (k-fault walk (first_of f.known) WrongType)

pub k-width_argument : (walk : Walk) (x0 : Names) (x1 : Inside) (x2 : Context) (x3 : Putting) (x4 : Expr) → walk.Takes x0 → KeepsInside walk x1 → Keeps walk (width_argument x0 x1 x2 x3 x4)
k-width_argument walk names inside here p e keeps1 keeps2 = record {
  at = λ log.
      let out1 = expr names inside here wanted.Other e log in
      let x = out1.0 in
      walk.joins _ _ _ ((k-expr walk names inside here wanted.Other e keeps1 keeps2).at log)
      ((k-given walk x (width_of) (λ z2. k-width_of walk z2)).at out1.1);
}

pub k-put_argument : (walk : Walk) (x0 : Names) (x1 : Inside) (x2 : Context) (x3 : Putting) (x4 : Option ℕ) (x5 : Expr) (x6 : ℕ) → walk.Takes x0 → KeepsInside walk x1 → Keeps walk (put_argument x0 x1 x2 x3 x4 x5 x6)
k-put_argument walk names inside here p (Some name) e first keeps1 keeps2 = k-if walk (symbol names name == width_name) ((unless (not p.has_width) first Twice >>= λ u. width_argument names inside here p e)) ((breaks name Unknown >>= λ u. judged_alone names inside here e >>= λ v. pure (with_count p 1))) (k-bind walk (unless (not p.has_width) first Twice) (λ u. width_argument names inside here p e) (k-unless walk (not p.has_width) first Twice) (λ u. k-width_argument walk names inside here p e keeps1 keeps2)) (record { at = λ log. let out1 = breaks name Unknown log in walk.joins _ _ _ ((k-breaks walk name Unknown).at log) ((k-judged_alone walk names inside here e keeps1 keeps2).at out1.1) })
k-put_argument walk names inside here p None e first keeps1 keeps2 = k-if walk (p.count == 1 && not p.has_width) (width_argument names inside here p e) ((judged_alone names inside here e >>= λ v. pure (with_count p 2))) (k-width_argument walk names inside here p e keeps1 keeps2) (k-bind walk (judged_alone names inside here e) (λ v. pure (with_count p 2)) (k-judged_alone walk names inside here e keeps1 keeps2) (λ v. k-pure walk (with_count p 2)))

pub k-put_arguments : (walk : Walk) (x0 : Names) (x1 : Inside) (x2 : Context) (x3 : Putting) (x4 : Args) → walk.Takes x0 → KeepsInside walk x1 → Keeps walk (put_arguments x0 x1 x2 x3 x4)
k-put_arguments walk names inside here p syntax.NoArg keeps1 keeps2 = k-pure walk p
k-put_arguments walk names inside here p (syntax.AlsoArg (syntax.arg name e) as') keeps1 keeps2 = k-bind walk ((put_argument names inside here p name e (first_token.of_arg (syntax.arg name e)))) (λ q. put_arguments names inside here q as') (k-put_argument walk names inside here p name e (first_token.of_arg (syntax.arg name e)) keeps1 keeps2) (λ q. k-put_arguments walk names inside here q as' keeps1 keeps2)

pub k-put_complete : (walk : Walk) (x0 : ℕ) (x1 : ℕ) (x2 : ℕ) (x3 : Putting) → Keeps walk (put_complete x0 x1 x2 x3)
k-put_complete walk at first last p = k-if walk (nat_le p.count 2) (pure (joined (put_number first last) p.item (width_or first p))) (fault at WrongType) (k-pure walk (joined (put_number first last) p.item (width_or first p))) (k-fault walk at WrongType)

pub k-judged_arguments : (walk : Walk) (x0 : Names) (x1 : Inside) (x2 : Context) (x3 : Reach) (x4 : Put) (x5 : Args) (x6 : Option Found) → walk.Takes x0 → KeepsInside walk x1 → Keeps walk (judged_arguments x0 x1 x2 x3 x4 x5 x6)
k-judged_arguments walk names inside here reach p more x keeps1 keeps2 = k-if walk (is_number_put p x) ((given x (item_of reach.integer_io) >>= λ e. put_arguments names inside here (nothing_put 1 e) more >>= λ r. pure (x, r))) ((others_alone names inside here more >>= λ u. pure (x, nothing_put 1 None))) (record { at = λ log. let out2 = given x (item_of reach.integer_io) log in let e = out2.0 in walk.joins _ _ _ ((k-given walk x (item_of reach.integer_io) (λ z1. k-item_of walk reach.integer_io z1)).at log) ((k-put_arguments walk names inside here (nothing_put 1 e) more keeps1 keeps2).at out2.1) }) (k-bind walk (others_alone names inside here more) (λ u. pure (x, nothing_put 1 None)) (k-others_alone walk names inside here more keeps1 keeps2) (λ u. k-pure walk (x, nothing_put 1 None)))

pub k-put_of_text : (walk : Walk) (x0 : ℕ) (x1 : ℕ) (x2 : ℕ) (x3 : Reach) (x4 : Args) (x5 : Found) → Keeps walk (put_of_text x0 x1 x2 x3 x4 x5)
k-put_of_text walk at first last reach more f = k-if walk (reach.text_io) (text_call at first last false more f) (if reach.expanded then fault (first_of f.known) WrongType else fault first NotVisible) (k-text_call walk at first last false more f) (k-if walk (reach.expanded) (fault (first_of f.known) WrongType) (fault first NotVisible) (k-fault walk (first_of f.known) WrongType) (k-fault walk first NotVisible))

pub k-get_place : (walk : Walk) (x0 : ℕ) (x1 : ℕ) (x2 : ObjectName) (x3 : Selections) (x4 : Subtype) → Keeps walk (get_place x0 x1 x2 x3 x4)
k-get_place walk first last p ss (subtype.Scalar s) = k-if walk (p.variable && same s.kind kind.Integer) (some (done_by first (typed.Get first last p.first p.root ss (typed_scalar s)))) (fault p.first WrongType) (k-some walk (done_by first (typed.Get first last p.first p.root ss (typed_scalar s)))) (k-fault walk p.first WrongType)
k-get_place walk first last p ss (subtype.Composite n) = k-fault walk p.first WrongType

pub k-get_of : (walk : Walk) (x0 : ℕ) (x1 : ℕ) (x2 : Known) (x3 : TypedPart) → Keeps walk (get_of x0 x1 x2 x3)
k-get_of walk first last (known.Object p) x = k-get_place walk first last p (selections_of x) p.subtype
k-get_of walk first last f x = k-fault walk (first_of f) WrongType

pub k-put_by : (walk : Walk) (x0 : ℕ) (x1 : ℕ) (x2 : ℕ) (x3 : Reach) (x4 : Args) (x5 : Option Found) (x6 : Putting) → Keeps walk (put_by x0 x1 x2 x3 x4 x5 x6)
k-put_by walk at first last reach more x q = k-if walk (is_text x) (given x (put_of_text at first last reach more)) (put_complete at first last q) (k-given walk x (put_of_text at first last reach more) (λ z1. k-put_of_text walk at first last reach more z1)) (k-put_complete walk at first last q)

pub k-by_procedure : (walk : Walk) (x0 : ℕ) (x1 : ℕ) (x2 : ℕ) (x3 : Reach) (x4 : Args) (x5 : Put) (x6 : Option Found × Putting) → Keeps walk (by_procedure x0 x1 x2 x3 x4 x5 x6)
k-by_procedure walk at first last reach more put.Put r = k-put_by walk at first last reach more r.0 r.1
k-by_procedure walk at first last reach more put.PutLine r = k-given walk r.0 (text_call at first last true more) (λ z1. k-text_call walk at first last true more z1)
k-by_procedure walk at first last reach more put.Get r = k-given walk r.0 (λ f. alone_given at more f >>= λ g. given g (λ h. get_of first last h.known h.part)) (λ f. k-bind walk (alone_given at more f) (λ g. given g (λ h. get_of first last h.known h.part)) (k-alone_given walk at more f) (λ g. k-given walk g (λ h. get_of first last h.known h.part) (λ h. k-get_of walk first last h.known h.part)))
k-by_procedure walk at first last reach more put.NewLine r = k-fault walk at WrongType

pub k-without_arguments : (walk : Walk) (x0 : ℕ) (x1 : ℕ) (x2 : ℕ) (x3 : Put) → Keeps walk (without_arguments x0 x1 x2 x3)
k-without_arguments walk at first last put.NewLine = k-some walk (done_by first (typed.Put first last typed.NoPiece true))
k-without_arguments walk at first last p = k-fault walk at WrongType

pub k-io_call : (walk : Walk) (x0 : Names) (x1 : Inside) (x2 : Context) (x3 : ℕ) (x4 : ℕ) (x5 : ℕ) (x6 : Put) (x7 : Reach) (x8 : Args) → walk.Takes x0 → KeepsInside walk x1 → Keeps walk (io_call x0 x1 x2 x3 x4 x5 x6 x7 x8)
unfolding io_call
k-io_call walk names inside here at first last p reach syntax.NoArg keeps1 keeps2 = k-without_arguments walk at first last p
k-io_call walk names inside here at first last p reach (syntax.AlsoArg (syntax.arg name e) as') keeps1 keeps2 = k-where_clean walk (no_name name >>= λ u. expr names inside here wanted.Text e >>= judged_arguments names inside here reach p as') (by_procedure at first last reach as' p) (record { at = λ log. let out3 = no_name name log in let out4 = expr names inside here wanted.Text e out3.1 in let z2 = out4.0 in walk.joins _ _ _ ((k-no_name walk name).at log) (walk.joins _ _ _ ((k-expr walk names inside here wanted.Text e keeps1 keeps2).at out3.1) ((k-judged_arguments walk names inside here reach p as' z2 keeps1 keeps2).at out4.1)) }) (λ z1. k-by_procedure walk at first last reach as' p z1)
