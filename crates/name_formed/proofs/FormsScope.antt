-- What is found is formed: what a name denotes by its declaration.
use Rattle.std.proofs.Common.{◌≡◌, sym, ap, subst, ◌⊎◌, inl, inr, ℕ, List, [], ◌∷◌, ◌++◌, Some, Bool, true, false, if◌then◌else◌, ◌==◌, ◌&&◌}
use Rattle.std.specs.Prelude.{not, ◌||◌}
use Rattle.ada_base.specs.declared.reason.Reason.TheVariants as reason
use Rattle.typed_tree.specs.Decoded as part
use Rattle.name_rules.specs.Found.{denote}
use Rattle.name_rules.specs.Judging.{fault}
use Rattle.name_rules.specs.Scope.{as_scalar, as_type, entry, item, object, expanded_reach, in_ada, in_integer_io, in_package, in_text_io, is_withed, named, predefined, procedure_of, reach_of, scalar_named, selected, stands, stands_for, subtype_named, undeclared, used_name}
use Rattle.name_rules.specs.Symbols.{ada_name, data_error_name, end_error_name, integer_io_name, symbol, text_io_name}
use Rattle.name_rules.specs.declared.found.Denoted.TheVariants as denoted
use Rattle.name_rules.specs.declared.found.Denoted.{Denoted as KnownDenoted}
use Rattle.name_rules.specs.declared.found.Reach.{Reach}
use Rattle.name_rules.specs.declared.log.Rule.TheVariants.{NotVisible, Unknown, WrongType}
use Rattle.name_rules.specs.declared.scope.Context.{Context}
use Rattle.name_rules.specs.declared.scope.Entry.{Entry}
use Rattle.name_rules.specs.declared.scope.Names.{Names}
use Rattle.name_rules.specs.declared.scope.What.{What}
use Rattle.name_rules.specs.declared.scope.What.TheVariants as what
use Rattle.name_rules.specs.declared.types.Subtype.{Subtype}
use Rattle.name_rules.specs.declared.types.Subtype.TheVariants as subtype
use Rattle.ada_meaning.specs.Shapes.{Shape, object_shape}
use Rattle.typed_tree.specs.declared.expressions.Root.TheVariants as root
use Rattle.name_laws.proofs.Lookups.{hiding_law}
use Rattle.name_laws.specs.Hiding.{HasNone, IsLast}
use Rattle.name_rules.specs.declared.found.ObjectName.{ObjectName}
use Rattle.name_formed.proofs.Forms.{Any, Forms, Maybe, Sight, Small, World, f-bind, f-fault, f-given, f-if, f-none, f-some, shape_of}
use Rattle.name_formed.proofs.FormsFound.{AreOf, Around, DenotedOf, DenotesOf, PlaceOf, RootOf, WhatOf}

module _ (W : World) (V : Sight) where
  -- ---- predefined names

  f-predefined : (first token name : ℕ) (reach : Reach) → Forms W V (Maybe (DenotedOf W V)) (named (predefined first token name reach))
  f-predefined first token name reach = f-some W V (DenotedOf W V) (denote (predefined first token name reach) part.Nothing) (by (name == data_error_name) (name == end_error_name))
    where
      by : (x y : Bool) → DenotesOf W V (if x then denoted.Exception first reason.DataError else if y then denoted.Exception first reason.EndError else denoted.Io first token (procedure_of name) reach) part.Nothing
      by true y = tt
      by false true = tt
      by false false = tt

  f-used_name : (token name : ℕ) (reach : Reach) → Forms W V (Maybe (DenotedOf W V)) (used_name token name reach)
  f-used_name token name reach = f-if W V (Maybe (DenotedOf W V)) (reach.text_io || reach.integer_io) (named (predefined token token name reach)) (fault token NotVisible) (f-predefined token token name reach) (f-fault W V (DenotedOf W V) token NotVisible)

  f-package : (first library : ℕ) → Forms W V (Maybe (DenotedOf W V)) (named (denoted.Package first library))
  f-package first library = f-some W V (DenotedOf W V) (denote (denoted.Package first library) part.Nothing) tt

  f-undeclared : (here : Context) (token name : ℕ) → Forms W V (Maybe (DenotedOf W V)) (undeclared here token name)
  f-undeclared here token name =
      f-if W V (Maybe (DenotedOf W V)) (in_text_io name || in_integer_io name) (used_name token name (reach_of here.used name)) _ (f-used_name token name (reach_of here.used name))
      (f-if W V (Maybe (DenotedOf W V)) (name == ada_name) (named (denoted.Package token ada_name)) _ (f-package token ada_name)
      (f-if W V (Maybe (DenotedOf W V)) ((name == text_io_name || name == integer_io_name) && here.used.ada) _ (fault token Unknown)
      (f-if W V (Maybe (DenotedOf W V)) (is_withed here.withed name) (named (denoted.Package token name)) (fault token NotVisible) (f-package token name) (f-fault W V (DenotedOf W V) token NotVisible))
      (f-fault W V (DenotedOf W V) token Unknown)))

  f-in_ada : (here : Context) (first token name : ℕ) → Forms W V (Maybe (DenotedOf W V)) (in_ada here first token name)
  f-in_ada here first token name =
      f-if W V (Maybe (DenotedOf W V)) (not (name == text_io_name || name == integer_io_name)) (fault token Unknown) _ (f-fault W V (DenotedOf W V) token Unknown)
      (f-if W V (Maybe (DenotedOf W V)) (is_withed here.withed name) (named (denoted.Package first name)) (fault first NotVisible) (f-package first name) (f-fault W V (DenotedOf W V) first NotVisible))

  pub f-selected : (names : Names) (here : Context) (first library token : ℕ) → Forms W V (Maybe (DenotedOf W V)) (selected names here first library token)
  unfolding selected
  f-selected names here first library token =
      f-if W V (Maybe (DenotedOf W V)) (library == ada_name) (in_ada here first token (symbol names token)) _ (f-in_ada here first token (symbol names token))
      (f-if W V (Maybe (DenotedOf W V)) (in_package library (symbol names token)) (named (predefined first token (symbol names token) (expanded_reach library))) (fault token Unknown) (f-predefined first token (symbol names token) (expanded_reach library)) (f-fault W V (DenotedOf W V) token Unknown))

  -- ---- identifiers

  -- an object or an item stands for all of itself
  pub whole-place : (p : ObjectName) → RootOf W V p.variable p.root (shape_of W.program p.subtype) → Small (shape_of W.program p.subtype) → PlaceOf W V p part.Nothing
  whole-place p g h = record { whole = shape_of W.program p.subtype; root = g; path = λ r u s f. (s, f); small = h; static = λ z e. tt }

  object-root : (n : ℕ) (t : Shape) (v : Bool) → object_shape W.program n ≡ t → RootOf W V v (root.Object n) t
  object-root n t true e = ap Some e
  object-root n t false e = ap Some e

  f-stands : (here : Context) (token name : ℕ) (w : What) → WhatOf W V w → Forms W V (Maybe (DenotedOf W V)) (stands here token name (Some w))
  f-stands here token name what.Hidden h = f-fault W V (DenotedOf W V) token NotVisible
  f-stands here token name what.Broken h = f-none W V (DenotedOf W V)
  f-stands here token name (what.Object n t v z) h = f-some W V (DenotedOf W V) _ (whole-place (object token n t v z) (object-root n (shape_of W.program t) v h.0) h.1)
  f-stands here token name (what.Parameter n s) h = f-some W V (DenotedOf W V) _ tt
  f-stands here token name (what.Item n t v) h = f-some W V (DenotedOf W V) _ (whole-place (item token n t v) h.1 h.2)
  f-stands here token name (what.Number z) h = f-some W V (DenotedOf W V) _ tt
  f-stands here token name (what.Boolean b) h = f-some W V (DenotedOf W V) _ tt
  f-stands here token name (what.Type t) h = f-some W V (DenotedOf W V) _ tt
  f-stands here token name (what.Sub n) h = f-some W V (DenotedOf W V) _ h
  f-stands here token name (what.Exception r) h = f-some W V (DenotedOf W V) _ tt

  one-of : (before : List Entry) (e : Entry) (after : List Entry) → AreOf W V (before ++ e ∷ after) → WhatOf W V e.what
  one-of [] e after h = h.0
  one-of (x ∷ before) e after h = one-of before e after h.1

  pub f-stands_for : (names : Names) (here : Context) (token : ℕ) → Around W V here → Forms W V (Maybe (DenotedOf W V)) (stands_for names here token)
  f-stands_for names here token h = by (hiding_law.either (symbol names token) here.scope)
    where
      by : HasNone (symbol names token) here.scope ⊎ ((w : What) × IsLast (symbol names token) w here.scope) → Forms W V (Maybe (DenotedOf W V)) (stands_for names here token)
      by (inl none) = subst (λ p. Forms W V (Maybe (DenotedOf W V)) p) (sym (hiding_law.none names here token none)) (f-undeclared here token (symbol names token))
      by (inr l) =
          subst (λ p. Forms W V (Maybe (DenotedOf W V)) p) (sym (hiding_law.last names here token l.0 l.1))
          (f-stands here token (symbol names token) l.0 (one-of l.1.before (entry (symbol names token) l.0) l.1.after (subst (AreOf W V) l.1.splits h.scope)))

  -- ---- names of subtypes

  f-as_type : (token : ℕ) (k : KnownDenoted) → Forms W V (Maybe Any) (as_type token k)
  f-as_type token (denoted.Type first t) = f-some W V Any t tt
  f-as_type token k = f-fault W V Any token WrongType

  pub f-subtype_named : (names : Names) (here : Context) (token : ℕ) → Around W V here → Forms W V (Maybe Any) (subtype_named names here token)
  unfolding subtype_named
  f-subtype_named names here token h =
      f-bind W V (Maybe (DenotedOf W V)) (Maybe Any) (stands_for names here token) _ (f-stands_for names here token h) (λ d q. f-given W V (DenotedOf W V) Any d _ q (λ x r. f-as_type token x.known))

  pub f-as_scalar : (token : ℕ) (t : Subtype) → Forms W V (Maybe Any) (as_scalar token t)
  f-as_scalar token (subtype.Scalar s) = f-some W V Any s tt
  f-as_scalar token (subtype.Composite n) = f-fault W V Any token WrongType

  pub f-scalar_named : (names : Names) (here : Context) (token : ℕ) → Around W V here → Forms W V (Maybe Any) (scalar_named names here token)
  unfolding scalar_named
  f-scalar_named names here token h =
      f-bind W V (Maybe Any) (Maybe Any) (subtype_named names here token) _ (f-subtype_named names here token h) (λ s q. f-given W V Any Any s (as_scalar token) q (λ t r. f-as_scalar token t))
