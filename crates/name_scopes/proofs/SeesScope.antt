-- What is found is in scope: what a name denotes by its declaration.
use Rattle.std.proofs.Common.{◌≡◌, sym, subst, ◌⊎◌, inl, inr, ℕ, List, [], ◌∷◌, ◌++◌, Some, Bool, true, false, if◌then◌else◌, ◌==◌, ◌&&◌}
use Rattle.std.specs.Prelude.{not, ◌||◌}
use Rattle.ada_base.specs.declared.reason.Reason.TheVariants as reason
use Rattle.typed_tree.specs.Decoded as part
use Rattle.name_rules.specs.Found.{denote}
use Rattle.name_rules.specs.Judging.{fault}
use Rattle.name_rules.specs.Scope.{as_scalar, as_type, entry, item, object, expanded_reach, in_ada, in_integer_io, in_package, in_text_io, is_withed, named, predefined, procedure_of, reach_of, scalar_named, selected, stands, stands_for, subtype_named, undeclared, used_name}
use Rattle.name_rules.specs.Symbols.{ada_name, data_error_name, end_error_name, integer_io_name, symbol, text_io_name}
use Rattle.name_rules.specs.declared.found.Denoted.TheVariants as denoted
use Rattle.name_rules.specs.declared.found.Denoted.{Denoted as KnownDenoted}
use Rattle.name_rules.specs.declared.found.Reach.{Reach}
use Rattle.name_rules.specs.declared.log.Rule.TheVariants.{NotVisible, Unknown, WrongType}
use Rattle.name_rules.specs.declared.scope.Context.{Context}
use Rattle.name_rules.specs.declared.scope.Entry.{Entry}
use Rattle.name_rules.specs.declared.scope.Names.{Names}
use Rattle.name_rules.specs.declared.scope.What.{What}
use Rattle.name_rules.specs.declared.scope.What.TheVariants as what
use Rattle.name_rules.specs.declared.types.Subtype.{Subtype}
use Rattle.name_rules.specs.declared.types.Subtype.TheVariants as subtype
use Rattle.typed_tree.specs.declared.expressions.Root.TheVariants as root
use Rattle.name_laws.proofs.Lookups.{hiding_law}
use Rattle.name_laws.specs.Hiding.{HasNone, IsLast}
use Rattle.name_rules.specs.declared.found.ObjectName.{ObjectName}
use Rattle.name_formed.proofs.Forms.{Small, shape_of}
use Rattle.name_scopes.proofs.Sees.{Any, Sees, Maybe, Sight, World, v-bind, v-fault, v-given, v-if, v-none, v-some}
use Rattle.name_scopes.proofs.SeesFound.{entity, AreOf, Around, DenotedOf, DenotesOf, PlaceOf, RootOf, WhatOf}

module _ (W : World) (V : Sight) where
  -- ---- predefined names

  v-predefined : (first token name : ℕ) (reach : Reach) → Sees W V (Maybe (DenotedOf W V)) (named (predefined first token name reach))
  v-predefined first token name reach = v-some W V (DenotedOf W V) (denote (predefined first token name reach) part.Nothing) (by (name == data_error_name) (name == end_error_name))
    where
      by : (x y : Bool) → DenotesOf W V (if x then denoted.Exception first reason.DataError else if y then denoted.Exception first reason.EndError else denoted.Io first token (procedure_of name) reach) part.Nothing
      by true y = tt
      by false true = tt
      by false false = tt

  v-used_name : (token name : ℕ) (reach : Reach) → Sees W V (Maybe (DenotedOf W V)) (used_name token name reach)
  v-used_name token name reach = v-if W V (Maybe (DenotedOf W V)) (reach.text_io || reach.integer_io) (named (predefined token token name reach)) (fault token NotVisible) (v-predefined token token name reach) (v-fault W V (DenotedOf W V) token NotVisible)

  v-package : (first library : ℕ) → Sees W V (Maybe (DenotedOf W V)) (named (denoted.Package first library))
  v-package first library = v-some W V (DenotedOf W V) (denote (denoted.Package first library) part.Nothing) tt

  v-undeclared : (here : Context) (token name : ℕ) → Sees W V (Maybe (DenotedOf W V)) (undeclared here token name)
  v-undeclared here token name =
      v-if W V (Maybe (DenotedOf W V)) (in_text_io name || in_integer_io name) (used_name token name (reach_of here.used name)) _ (v-used_name token name (reach_of here.used name))
      (v-if W V (Maybe (DenotedOf W V)) (name == ada_name) (named (denoted.Package token ada_name)) _ (v-package token ada_name)
      (v-if W V (Maybe (DenotedOf W V)) ((name == text_io_name || name == integer_io_name) && here.used.ada) _ (fault token Unknown)
      (v-if W V (Maybe (DenotedOf W V)) (is_withed here.withed name) (named (denoted.Package token name)) (fault token NotVisible) (v-package token name) (v-fault W V (DenotedOf W V) token NotVisible))
      (v-fault W V (DenotedOf W V) token Unknown)))

  v-in_ada : (here : Context) (first token name : ℕ) → Sees W V (Maybe (DenotedOf W V)) (in_ada here first token name)
  v-in_ada here first token name =
      v-if W V (Maybe (DenotedOf W V)) (not (name == text_io_name || name == integer_io_name)) (fault token Unknown) _ (v-fault W V (DenotedOf W V) token Unknown)
      (v-if W V (Maybe (DenotedOf W V)) (is_withed here.withed name) (named (denoted.Package first name)) (fault first NotVisible) (v-package first name) (v-fault W V (DenotedOf W V) first NotVisible))

  pub v-selected : (names : Names) (here : Context) (first library token : ℕ) → Sees W V (Maybe (DenotedOf W V)) (selected names here first library token)
  unfolding selected
  v-selected names here first library token =
      v-if W V (Maybe (DenotedOf W V)) (library == ada_name) (in_ada here first token (symbol names token)) _ (v-in_ada here first token (symbol names token))
      (v-if W V (Maybe (DenotedOf W V)) (in_package library (symbol names token)) (named (predefined first token (symbol names token) (expanded_reach library))) (fault token Unknown) (v-predefined first token (symbol names token) (expanded_reach library)) (v-fault W V (DenotedOf W V) token Unknown))

  -- ---- identifiers

  -- an object or an item stands for all of itself
  pub whole-place : (p : ObjectName) → RootOf V p.variable p.root → Small (shape_of W.program p.subtype) → PlaceOf W V p part.Nothing
  whole-place p g h = record { root = g; path = λ r s. s; small = h; static = λ z e. tt }

  object-root : (n : ℕ) (v : Bool) → V.around.object (entity v n) ≡ true → RootOf V v (root.Object n)
  object-root n true e = e
  object-root n false e = e

  pub item-root : (n : ℕ) (v : Bool) → RootOf V v (root.Item n)
  item-root n true = tt
  item-root n false = tt

  v-stands : (here : Context) (token name : ℕ) (w : What) → WhatOf W V w → Sees W V (Maybe (DenotedOf W V)) (stands here token name (Some w))
  v-stands here token name what.Hidden h = v-fault W V (DenotedOf W V) token NotVisible
  v-stands here token name what.Broken h = v-none W V (DenotedOf W V)
  v-stands here token name (what.Object n t v z) h = v-some W V (DenotedOf W V) _ (whole-place (object token n t v z) (object-root n v h.0) h.1)
  v-stands here token name (what.Parameter n s) h = v-some W V (DenotedOf W V) _ h
  v-stands here token name (what.Item n t v) h = v-some W V (DenotedOf W V) _ (whole-place (item token n t v) (item-root n v) h)
  v-stands here token name (what.Number z) h = v-some W V (DenotedOf W V) _ tt
  v-stands here token name (what.Boolean b) h = v-some W V (DenotedOf W V) _ tt
  v-stands here token name (what.Type t) h = v-some W V (DenotedOf W V) _ tt
  v-stands here token name (what.Sub n) h = v-some W V (DenotedOf W V) _ h
  v-stands here token name (what.Exception r) h = v-some W V (DenotedOf W V) _ tt

  one-of : (before : List Entry) (e : Entry) (after : List Entry) → AreOf W V (before ++ e ∷ after) → WhatOf W V e.what
  one-of [] e after h = h.0
  one-of (x ∷ before) e after h = one-of before e after h.1

  pub v-stands_for : (names : Names) (here : Context) (token : ℕ) → Around W V here → Sees W V (Maybe (DenotedOf W V)) (stands_for names here token)
  v-stands_for names here token h = by (hiding_law.either (symbol names token) here.scope)
    where
      by : HasNone (symbol names token) here.scope ⊎ ((w : What) × IsLast (symbol names token) w here.scope) → Sees W V (Maybe (DenotedOf W V)) (stands_for names here token)
      by (inl none) = subst (λ p. Sees W V (Maybe (DenotedOf W V)) p) (sym (hiding_law.none names here token none)) (v-undeclared here token (symbol names token))
      by (inr l) =
          subst (λ p. Sees W V (Maybe (DenotedOf W V)) p) (sym (hiding_law.last names here token l.0 l.1))
          (v-stands here token (symbol names token) l.0 (one-of l.1.before (entry (symbol names token) l.0) l.1.after (subst (AreOf W V) l.1.splits h.scope)))

  -- ---- names of subtypes

  v-as_type : (token : ℕ) (k : KnownDenoted) → Sees W V (Maybe Any) (as_type token k)
  v-as_type token (denoted.Type first t) = v-some W V Any t tt
  v-as_type token k = v-fault W V Any token WrongType

  pub v-subtype_named : (names : Names) (here : Context) (token : ℕ) → Around W V here → Sees W V (Maybe Any) (subtype_named names here token)
  unfolding subtype_named
  v-subtype_named names here token h =
      v-bind W V (Maybe (DenotedOf W V)) (Maybe Any) (stands_for names here token) _ (v-stands_for names here token h) (λ d q. v-given W V (DenotedOf W V) Any d _ q (λ x r. v-as_type token x.known))

  pub v-as_scalar : (token : ℕ) (t : Subtype) → Sees W V (Maybe Any) (as_scalar token t)
  v-as_scalar token (subtype.Scalar s) = v-some W V Any s tt
  v-as_scalar token (subtype.Composite n) = v-fault W V Any token WrongType

  pub v-scalar_named : (names : Names) (here : Context) (token : ℕ) → Around W V here → Sees W V (Maybe Any) (scalar_named names here token)
  unfolding scalar_named
  v-scalar_named names here token h =
      v-bind W V (Maybe Any) (Maybe Any) (subtype_named names here token) _ (v-subtype_named names here token h) (λ s q. v-given W V Any Any s (as_scalar token) q (λ t r. v-as_scalar token t))
