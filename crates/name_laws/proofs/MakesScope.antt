-- What is found fits: what a name denotes by its declaration.
use Rattle.std.proofs.Common.{refl, sym, subst, ◌⊎◌, inl, inr, ℕ, List, [], ◌∷◌, ◌++◌, Some, Bool, true, false, if◌then◌else◌, ◌==◌, ◌&&◌, ◌≡◌}
use Rattle.name_rules.specs.Attributes.{is_left_out}
use Rattle.std.specs.Prelude.{not, ◌||◌}
use Rattle.ada_base.specs.declared.reason.Reason.TheVariants as reason
use Rattle.typed_tree.specs.Decoded as part
use Rattle.typed_tree.specs.Decoded.{TypedPart, as_expr, as_stmt}
use Rattle.typed_tree.specs.declared.scalars.Class.{Class}
use Rattle.name_rules.specs.Found.{Denoted, denote}
use Rattle.name_rules.specs.Judging.{fault}
use Rattle.name_rules.specs.Scope.{as_scalar, as_type, entry, expanded_reach, in_ada, in_integer_io, in_package, in_text_io, is_withed, named, predefined, procedure_of, reach_of, scalar_named, selected, stands, stands_for, subtype_named, undeclared, used_name}
use Rattle.name_rules.specs.Symbols.{ada_name, data_error_name, end_error_name, integer_io_name, symbol, text_io_name}
use Rattle.name_rules.specs.declared.found.Denoted.TheVariants as denoted
use Rattle.name_rules.specs.declared.found.Denoted.{Denoted as KnownDenoted}
use Rattle.name_rules.specs.declared.found.Prefix.{Prefix}
use Rattle.name_rules.specs.declared.found.Prefix.TheVariants as prefix
use Rattle.name_rules.specs.declared.found.Reach.{Reach}
use Rattle.name_rules.specs.declared.log.Rule.TheVariants.{NotVisible, Unknown, WrongType}
use Rattle.name_rules.specs.declared.scope.Context.{Context}
use Rattle.name_rules.specs.declared.scope.Entry.{Entry}
use Rattle.name_rules.specs.declared.scope.Names.{Names}
use Rattle.name_rules.specs.declared.scope.What.{What}
use Rattle.name_rules.specs.declared.scope.What.TheVariants as what
use Rattle.name_rules.specs.declared.types.Subtype.{Subtype}
use Rattle.name_rules.specs.declared.types.Subtype.TheVariants as subtype
use Rattle.name_laws.proofs.Based.{none-based}
use Rattle.name_laws.proofs.Lookups.{hiding_law}
use Rattle.name_laws.proofs.Makes.{Makes, Maybe, m-bind, m-fault, m-given, m-if, m-none, m-some}
use Rattle.name_laws.proofs.MakesValues.{IsSelection, KnownOf, SpanOf}
use Rattle.name_laws.proofs.Makes.{Each}
use Rattle.name_laws.specs.Based.{AreBased, HasBased, IsBased, IsBasedWhat, IsSpan}
use Rattle.name_laws.specs.Classes.{ExprFits, StmtFits}
use Rattle.name_laws.specs.Hiding.{HasNone, IsLast}

-- ---- what is asked of what a name denotes

abbrev pub PrefixOf : Prefix → TypedPart → Type 0
PrefixOf (prefix.Object p) x = HasBased p.subtype p.value × Each IsSelection x
PrefixOf (prefix.Parameter s) x = (c : Class) → ExprFits c (as_expr x)
PrefixOf (prefix.Type t) x = IsBased t
PrefixOf p x = Unit {0}

abbrev pub DenotesOf : KnownDenoted → TypedPart → Type 0
DenotesOf (denoted.Value f) x = KnownOf f x
DenotesOf (denoted.Parameter first s) x = (c : Class) → ExprFits c (as_expr x)
DenotesOf (denoted.Type first t) x = IsBased t
DenotesOf (denoted.Done first) x = StmtFits (as_stmt x)
DenotesOf (denoted.Attribute first p at a) x = PrefixOf p x × (is_left_out p a ≡ false)
DenotesOf (denoted.Range first d) x = IsSpan d.kind d.low d.high
DenotesOf d x = Unit {0}

abbrev pub DenotedOf : Denoted → Type 0
DenotedOf d = DenotesOf d.known d.part

-- ---- predefined names

m-predefined : (first token name : ℕ) (reach : Reach) → Makes (Maybe DenotedOf) (named (predefined first token name reach))
m-predefined first token name reach = m-some DenotedOf (denote (predefined first token name reach) part.Nothing) (by (name == data_error_name) (name == end_error_name))
  where
    by : (x y : Bool) → DenotesOf (if x then denoted.Exception first reason.DataError else if y then denoted.Exception first reason.EndError else denoted.Io first token (procedure_of name) reach) part.Nothing
    by true y = tt
    by false true = tt
    by false false = tt

m-used_name : (token name : ℕ) (reach : Reach) → Makes (Maybe DenotedOf) (used_name token name reach)
m-used_name token name reach = m-if (Maybe DenotedOf) (reach.text_io || reach.integer_io) (named (predefined token token name reach)) (fault token NotVisible) (m-predefined token token name reach) (m-fault DenotedOf token NotVisible)

m-package : (first library : ℕ) → Makes (Maybe DenotedOf) (named (denoted.Package first library))
m-package first library = m-some DenotedOf (denote (denoted.Package first library) part.Nothing) tt

m-undeclared : (here : Context) (token name : ℕ) → Makes (Maybe DenotedOf) (undeclared here token name)
m-undeclared here token name =
    m-if (Maybe DenotedOf) (in_text_io name || in_integer_io name) (used_name token name (reach_of here.used name)) _ (m-used_name token name (reach_of here.used name))
    (m-if (Maybe DenotedOf) (name == ada_name) (named (denoted.Package token ada_name)) _ (m-package token ada_name)
    (m-if (Maybe DenotedOf) ((name == text_io_name || name == integer_io_name) && here.used.ada) _ (fault token Unknown)
    (m-if (Maybe DenotedOf) (is_withed here.withed name) (named (denoted.Package token name)) (fault token NotVisible) (m-package token name) (m-fault DenotedOf token NotVisible))
    (m-fault DenotedOf token Unknown)))

m-in_ada : (here : Context) (first token name : ℕ) → Makes (Maybe DenotedOf) (in_ada here first token name)
m-in_ada here first token name =
    m-if (Maybe DenotedOf) (not (name == text_io_name || name == integer_io_name)) (fault token Unknown) _ (m-fault DenotedOf token Unknown)
    (m-if (Maybe DenotedOf) (is_withed here.withed name) (named (denoted.Package first name)) (fault first NotVisible) (m-package first name) (m-fault DenotedOf first NotVisible))

pub m-selected : (names : Names) (here : Context) (first library token : ℕ) → Makes (Maybe DenotedOf) (selected names here first library token)
unfolding selected
m-selected names here first library token =
    m-if (Maybe DenotedOf) (library == ada_name) (in_ada here first token (symbol names token)) _ (m-in_ada here first token (symbol names token))
    (m-if (Maybe DenotedOf) (in_package library (symbol names token)) (named (predefined first token (symbol names token) (expanded_reach library))) (fault token Unknown) (m-predefined first token (symbol names token) (expanded_reach library)) (m-fault DenotedOf token Unknown))

-- ---- identifiers

m-stands : (here : Context) (token name : ℕ) (w : What) → IsBasedWhat w → Makes (Maybe DenotedOf) (stands here token name (Some w))
m-stands here token name what.Hidden h = m-fault DenotedOf token NotVisible
m-stands here token name what.Broken h = m-none DenotedOf
m-stands here token name (what.Object n t v z) h = m-some DenotedOf _ (h, tt)
m-stands here token name (what.Parameter n s) h = m-some DenotedOf _ (λ c. tt)
m-stands here token name (what.Item n t v) h = m-some DenotedOf _ (none-based t, tt)
m-stands here token name (what.Number z) h = m-some DenotedOf _ tt
m-stands here token name (what.Boolean true) h = m-some DenotedOf _ refl
m-stands here token name (what.Boolean false) h = m-some DenotedOf _ refl
m-stands here token name (what.Type t) h = m-some DenotedOf _ h
m-stands here token name (what.Sub n) h = m-some DenotedOf _ tt
m-stands here token name (what.Exception r) h = m-some DenotedOf _ tt

one-based : (before : List Entry) (e : Entry) (after : List Entry) → AreBased (before ++ e ∷ after) → IsBasedWhat e.what
one-based [] e after h = h.0
one-based (x ∷ before) e after h = one-based before e after h.1

pub m-stands_for : (names : Names) (here : Context) (token : ℕ) → AreBased here.scope → Makes (Maybe DenotedOf) (stands_for names here token)
m-stands_for names here token h = by (hiding_law.either (symbol names token) here.scope)
  where
    by : HasNone (symbol names token) here.scope ⊎ ((w : What) × IsLast (symbol names token) w here.scope) → Makes (Maybe DenotedOf) (stands_for names here token)
    by (inl none) = subst (λ p. Makes (Maybe DenotedOf) p) (sym (hiding_law.none names here token none)) (m-undeclared here token (symbol names token))
    by (inr l) =
        subst (λ p. Makes (Maybe DenotedOf) p) (sym (hiding_law.last names here token l.0 l.1))
        (m-stands here token (symbol names token) l.0 (one-based l.1.before (entry (symbol names token) l.0) l.1.after (subst AreBased l.1.splits h)))

-- ---- names of subtypes

m-as_type : (token : ℕ) (k : KnownDenoted) (x : TypedPart) → DenotesOf k x → Makes (Maybe IsBased) (as_type token k)
m-as_type token (denoted.Type first t) x h = m-some IsBased t h
m-as_type token k x h = m-fault IsBased token WrongType

pub m-subtype_named : (names : Names) (here : Context) (token : ℕ) → AreBased here.scope → Makes (Maybe IsBased) (subtype_named names here token)
unfolding subtype_named
m-subtype_named names here token h =
    m-bind (Maybe DenotedOf) (Maybe IsBased) (stands_for names here token) _ (m-stands_for names here token h) (λ d q. m-given DenotedOf IsBased d _ q (λ x r. m-as_type token x.known x.part r))

pub m-as_scalar : (token : ℕ) (t : Subtype) → IsBased t → Makes (Maybe SpanOf) (as_scalar token t)
m-as_scalar token (subtype.Scalar s) h = m-some SpanOf s h
m-as_scalar token (subtype.Composite n) h = m-fault SpanOf token WrongType

pub m-scalar_named : (names : Names) (here : Context) (token : ℕ) → AreBased here.scope → Makes (Maybe SpanOf) (scalar_named names here token)
unfolding scalar_named
m-scalar_named names here token h =
    m-bind (Maybe IsBased) (Maybe SpanOf) (subtype_named names here token) _ (m-subtype_named names here token h) (λ s q. m-given IsBased SpanOf s (as_scalar token) q (λ t r. m-as_scalar token t r))
