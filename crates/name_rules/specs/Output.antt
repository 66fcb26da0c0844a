-- Calls of predefined procedures (A.10.6 to A.10.8). They take arguments by position; Width may be named.
use Rattle.ada_base.specs.declared.operation.Base.TheVariants.{Narrow}
use Rattle.name_rules.specs.Expressions.{Inside, expr, judged_alone}
use Rattle.syntax_tree.specs.FirstTokens as first_token
use Rattle.name_rules.specs.Found.{Denoted, Found, denote}
use Rattle.name_rules.specs.Judging.{Judging, breaks, fault, given, joined, pure, some, unless, where_clean, ◌>>=◌}
use Rattle.name_rules.specs.Symbols.{symbol, width_name}
use Rattle.name_rules.specs.Types.{same, typed_scalar}
use Rattle.name_rules.specs.Values.{asked, first_of, literal, mentions_of, static_of_kind, suits}
use Rattle.name_rules.specs.declared.found.Denoted.TheVariants as denoted
use Rattle.name_rules.specs.declared.found.Found.TheVariants as known
use Rattle.name_rules.specs.declared.found.Found.{Found as Known}
use Rattle.name_rules.specs.declared.found.ObjectName.{ObjectName}
use Rattle.name_rules.specs.declared.found.Put.TheVariants as put
use Rattle.name_rules.specs.declared.found.Put.{Put}
use Rattle.name_rules.specs.declared.found.Reach.{Reach}
use Rattle.name_rules.specs.declared.log.Rule.TheVariants.{NotVisible, StaticRange, Twice, Unknown, WrongType}
use Rattle.name_rules.specs.declared.scope.Context.{Context}
use Rattle.name_rules.specs.declared.scope.Names.{Names}
use Rattle.name_rules.specs.declared.types.Kind.TheVariants as kind
use Rattle.name_rules.specs.declared.types.Subtype.TheVariants as subtype
use Rattle.name_rules.specs.declared.types.Subtype.{Subtype}
use Rattle.name_rules.specs.declared.types.Wanted.TheVariants as wanted
use Rattle.syntax_tree.specs.Syntax as syntax
use Rattle.syntax_tree.specs.Syntax.{Args, Expr}
use Rattle.typed_tree.specs.Decoded as part
use Rattle.typed_tree.specs.Syntax as typed
use Rattle.typed_tree.specs.Syntax.{Selections, Stmt as TypedStmt}
use Rattle.typed_tree.specs.declared.scalars.Class.TheVariants as class
use Rattle.std.specs.Prelude.{Bool, None, Option, Some, false, if◌then◌else◌, int_le, nat_le, not, option_map, pos, true, ℕ, ℤ, ◌&&◌, ◌+◌, ◌==◌}
use Rattle.name_rules.specs.TypedParts.{selections_of}
use Rattle.typed_tree.specs.Decoded.{TypedPart, as_expr, as_pieces}
use Rattle.typed_tree.specs.Latest.{turned}

abbrev pub done_by : ℕ → TypedStmt → Denoted
done_by first s = denote (denoted.Done first) (part.AStmt s)

-- E05 Unknown: a name before an argument that the procedure lacks
abbrev pub no_name : Option ℕ → Judging (Unit {0})
no_name None = pure tt
no_name (Some name) = breaks name Unknown

-- ---- strings

abbrev pub text_only : Known → TypedPart → Judging (Option TypedPart)
text_only (known.Text first) x = some x
text_only f x = fault (first_of f) WrongType

-- the further arguments of a procedure that takes one
abbrev pub others_alone : Names → Inside → Context → Args → Judging (Unit {0})
others_alone names inside here syntax.NoArg = pure tt
others_alone names inside here (syntax.AlsoArg (syntax.arg name e) as') = do
  u ← no_name name
  v ← judged_alone names inside here e
  others_alone names inside here as'

-- E06: wrong number of arguments, at the opening bracket or the name's first token
abbrev pub alone_given : {A : Type 0} → ℕ → Args → A → Judging (Option A)
alone_given at syntax.NoArg x = some x
alone_given at as' x = fault at WrongType

abbrev pub put_text : ℕ → ℕ → Bool → TypedPart → Denoted
put_text first last line ps = done_by first (typed.Put first last (as_pieces (turned ps)) line)

abbrev pub text_call : ℕ → ℕ → ℕ → Bool → Args → Found → Judging (Option Denoted)
text_call at first last line more f = alone_given at more f >>= λ g. given g (λ h. text_only h.known h.part >>= λ ps. pure (option_map (put_text first last line) ps))

-- ---- numbers (A.10.8)

-- E07: a Width that isn't static, or outside 0 .. 255
abbrev pub in_width : Found → ℤ → Judging (Option TypedPart)
in_width f z = if int_le (pos 0) z && int_le z (pos 255) then some (literal (first_of f.known) z false (mentions_of f)) else fault (first_of f.known) StaticRange

unfoldable pub width_of : Found → Judging (Option TypedPart)
width_of f = static_of_kind kind.Integer f >>= λ v. given v (in_width f)

-- what was found of the arguments of Put: how many, the item, whether there was a width, and the width
pub record Putting : Type 0 where
  pub count : ℕ
  pub item : Option TypedPart
  pub has_width : Bool
  pub width : Option TypedPart

-- Put of a number is that of Ada.Integer_Text_IO
abbrev pub item_of : Bool → Found → Judging (Option TypedPart)
item_of integer_io f = if suits kind.Integer f.known && integer_io then asked kind.Integer f else fault (first_of f.known) WrongType

abbrev pub with_width : Putting → Option TypedPart → Putting
with_width p w = record { count = p.count + 1; item = p.item; has_width = true; width = w }

abbrev pub width_argument : Names → Inside → Context → Putting → Expr → Judging Putting
width_argument names inside here p e = expr names inside here wanted.Other e >>= λ x. given x width_of >>= λ w. pure (with_width p w)

abbrev pub with_count : Putting → ℕ → Putting
with_count p n = record p { count = p.count + n }

-- E05 Twice: a second width; E05 Unknown: another name
abbrev pub put_argument : Names → Inside → Context → Putting → Option ℕ → Expr → ℕ → Judging Putting
put_argument names inside here p (Some name) e first =
    if symbol names name == width_name
    then (unless (not p.has_width) first Twice >>= λ u. width_argument names inside here p e)
    else (breaks name Unknown >>= λ u. judged_alone names inside here e >>= λ v. pure (with_count p 1))
put_argument names inside here p None e first =
    if p.count == 1 && not p.has_width then width_argument names inside here p e
    else (judged_alone names inside here e >>= λ v. pure (with_count p 2))

abbrev pub put_arguments : Names → Inside → Context → Putting → Args → Judging Putting
put_arguments names inside here p syntax.NoArg = pure p
put_arguments names inside here p (syntax.AlsoArg (syntax.arg name e) as') = do
  q ← put_argument names inside here p name e (first_token.of_arg (syntax.arg name e))
  put_arguments names inside here q as'

abbrev pub put_number : ℕ → ℕ → TypedPart → TypedPart → Denoted
put_number first last e w = done_by first (typed.Put first last (typed.Padded (class.Integer Narrow) (as_expr e) (as_expr w) typed.NoPiece) false)

-- without a width it is 11
abbrev pub width_or : ℕ → Putting → Option TypedPart
width_or first p = if p.has_width then p.width else Some (literal first (pos 11) false part.Nothing)

abbrev pub put_complete : ℕ → ℕ → ℕ → Putting → Judging (Option Denoted)
put_complete at first last p = if nat_le p.count 2 then pure (joined (put_number first last) p.item (width_or first p)) else fault at WrongType

-- ---- what is judged of the arguments, before the rules of the whole

abbrev pub text_known : Known → Bool
text_known (known.Text first) = true
text_known _ = false

abbrev pub is_text : Option Found → Bool
is_text None = false
is_text (Some f) = text_known f.known

abbrev pub is_number_put : Put → Option Found → Bool
is_number_put put.Put x = not (is_text x)
is_number_put p x = false

abbrev pub nothing_put : ℕ → Option TypedPart → Putting
nothing_put n x = record { count = n; item = x; has_width = false; width = None }

-- Put of a number judges its item and its width; another procedure each further argument for itself
abbrev pub judged_arguments : Names → Inside → Context → Reach → Put → Args → Option Found → Judging (Option Found × Putting)
judged_arguments names inside here reach p more x =
    if is_number_put p x then (given x (item_of reach.integer_io) >>= λ e. put_arguments names inside here (nothing_put 1 e) more >>= λ r. pure (x, r))
    else (others_alone names inside here more >>= λ u. pure (x, nothing_put 1 None))

-- ---- the rules of the whole

-- E05 NotVisible: a string's Put by a simple name without the use clause of Ada.Text_IO; a `Put` whose first
-- argument is a string expression is that of Ada.Text_IO
abbrev pub put_of_text : ℕ → ℕ → ℕ → Reach → Args → Found → Judging (Option Denoted)
put_of_text at first last reach more f =
    if reach.text_io then text_call at first last false more f else
    if reach.expanded then fault (first_of f.known) WrongType else fault first NotVisible

-- Get takes a variable of type Integer
abbrev pub get_place : ℕ → ℕ → ObjectName → Selections → Subtype → Judging (Option Denoted)
get_place first last p ss (subtype.Scalar s) = if p.variable && same s.kind kind.Integer then some (done_by first (typed.Get first last p.first p.root ss (typed_scalar s))) else fault p.first WrongType
get_place first last p ss (subtype.Composite n) = fault p.first WrongType

abbrev pub get_of : ℕ → ℕ → Known → TypedPart → Judging (Option Denoted)
get_of first last (known.Object p) x = get_place first last p (selections_of x) p.subtype
get_of first last f x = fault (first_of f) WrongType

abbrev pub put_by : ℕ → ℕ → ℕ → Reach → Args → Option Found → Putting → Judging (Option Denoted)
put_by at first last reach more x q = if is_text x then given x (put_of_text at first last reach more) else put_complete at first last q

abbrev pub by_procedure : ℕ → ℕ → ℕ → Reach → Args → Put → Option Found × Putting → Judging (Option Denoted)
by_procedure at first last reach more put.Put r = put_by at first last reach more r.0 r.1
by_procedure at first last reach more put.PutLine r = given r.0 (text_call at first last true more)
by_procedure at first last reach more put.Get r = given r.0 (λ f. alone_given at more f >>= λ g. given g (λ h. get_of first last h.known h.part))
by_procedure at first last reach more put.NewLine r = fault at WrongType

abbrev pub without_arguments : ℕ → ℕ → ℕ → Put → Judging (Option Denoted)
without_arguments at first last put.NewLine = some (done_by first (typed.Put first last typed.NoPiece true))
without_arguments at first last p = fault at WrongType

unfoldable pub io_call : Names → Inside → Context → ℕ → ℕ → ℕ → Put → Reach → Args → Judging (Option Denoted)
io_call names inside here at first last p reach syntax.NoArg = without_arguments at first last p
io_call names inside here at first last p reach (syntax.AlsoArg (syntax.arg name e) as') =
    where_clean (no_name name >>= λ u. expr names inside here wanted.Text e >>= judged_arguments names inside here reach p as') (by_procedure at first last reach as' p)
