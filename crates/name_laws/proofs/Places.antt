-- A subprogram's number is its place: each writes one profile, and nothing else writes any.
use Rattle.std.proofs.Common.{◌≡◌, ℕ, ◌+◌, List, [], ◌∷◌, length, length-append, Option, Some, None, Bool, true, false, refl, sym, ap, ◌∙◌, nat_le, nat_lt, ◌==◌}
use Rattle.std.specs.Prelude.{not, ◌||◌}
use Rattle.syntax_tree.specs.Syntax as syntax
use Rattle.syntax_tree.specs.Syntax.{Aspect, Body, Decl, Expr, Formals, Sub, Unit'}
use Rattle.typed_tree.specs.Syntax.{Sub as TypedSub}
use Rattle.name_rules.specs.Declarations.{cells_counted}
use Rattle.name_rules.specs.Judging.{joined, unless}
use Rattle.name_rules.specs.Programs as p
use Rattle.name_rules.specs.Types.{saturated}
use Rattle.name_rules.specs.Limits.{most_cells, most_objects}
use Rattle.name_rules.specs.declared.log.Bound.TheVariants as bound
use Rattle.name_rules.specs.declared.log.Log.{Log}
use Rattle.name_rules.specs.declared.log.Rule.{Rule}
use Rattle.name_rules.specs.declared.log.Rule.TheVariants.{Limit}
use Rattle.name_rules.specs.declared.log.Taken.{Taken}
use Rattle.name_rules.specs.declared.scope.Context.{Context}
use Rattle.name_rules.specs.declared.scope.Names.{Names}
use Rattle.name_rules.specs.declared.types.Scalar.{Scalar}
use Rattle.name_rules.specs.Scope.{free}
use Rattle.name_laws.proofs.KeepsDeclarations.{k-declaration}
use Rattle.name_laws.proofs.KeepsPrograms.{k-formals, k-level_of, k-result_named, k-with_body, k-with_value_of}
use Rattle.name_laws.proofs.KeepsScope.{k-free}
use Rattle.name_laws.proofs.Walk.{Wide}
use Rattle.name_laws.specs.OwnNames.{AreNumbered}

pub unless-profiles : (b : Bool) (at : ℕ) (rule : Rule) (log : Log) → (unless b at rule log).1.profiles ≡ log.profiles
unless-profiles true at rule log = refl
unless-profiles false at rule log = refl

pub counted-profiles : (token cells : ℕ) (log : Log) → (cells_counted token cells log).1.profiles ≡ log.profiles
counted-profiles token cells log =
    let all = saturated (log.cells + cells) in
    let now = record log { declared = log.declared + 1; cells = all } in
    let mid = (unless (not (log.declared == most_objects)) token (Limit bound.Objects) now).1 in
    unless-profiles (nat_lt most_cells log.cells || nat_le all most_cells) token (Limit bound.Cells) mid ∙ unless-profiles (not (log.declared == most_objects)) token (Limit bound.Objects) now

-- profiles stay as they are
abbrev pub steady : Wide
steady = record {
  walk = record {
    Takes = λ names. Unit {0};
    R = λ a b. length b.profiles ≡ length a.profiles;
    stays = λ log. refl;
    joins = λ a b c f g. g ∙ f;
    breaks = λ at rule log. refl;
    scalar = λ s log. refl;
    counted = λ token cells log. ap length (counted-profiles token cells log);
    exception = λ token log. refl;
    site = λ here at k log. refl;
    parameter = λ log. refl;
    loop = λ log. refl;
  };
  shape = λ t log. refl;
  object = λ names here token s n cells constant value e f log i. refl;
}

-- ---- the number of a profile

or_zero : Option ℕ → ℕ
or_zero None = 0
or_zero (Some k) = k

number-where : (names : Names) (here : Context) (name : ℕ) (one : Option ℕ) (ts : Option (List Taken)) (r : Option (Option Scalar)) (log : Log) (n : ℕ)
    → (p.profile_where names here name one ts r log).0.0 ≡ Some n → n ≡ length log.profiles
unfolding or_zero
number-where names here name (Some f) (Some ts) (Some r) log n e = sym (ap or_zero e)
number-where names here name (Some f) (Some ts) None log n e = absurd cc
number-where names here name (Some f) None r log n e = absurd cc
number-where names here name None ts r log n e = absurd cc

length-where : (names : Names) (here : Context) (name : ℕ) (one : Option ℕ) (ts : Option (List Taken)) (r : Option (Option Scalar)) (log : Log) (n : ℕ)
    → (p.profile_where names here name one ts r log).0.0 ≡ Some n → length (p.profile_where names here name one ts r log).1.profiles ≡ length log.profiles + 1
length-where names here name (Some f) (Some ts) (Some r) log n e = length-append log.profiles _
length-where names here name (Some f) (Some ts) None log n e = absurd cc
length-where names here name (Some f) None r log n e = absurd cc
length-where names here name None ts r log n e = absurd cc

-- the log before the profile is written
before-own : (names : Names) (start : ℕ) (here : Context) (name : ℕ) (result : Option ℕ) (fs : Option Formals) (log : Log) → Log
before-own names start here name result fs log =
    let around = record here { owner = (p.next_owner log).0 } in
    let f = p.formals names (p.is_function result) around fs log in
    let r = p.result_named names f.0.0 result f.1 in
    (free names start here name r.1).1

before-steady : (names : Names) (start : ℕ) (here : Context) (name : ℕ) (result : Option ℕ) (fs : Option Formals) (log : Log)
    → length (before-own names start here name result fs log).profiles ≡ length log.profiles
unfolding before-own
before-steady names start here name result fs log =
    let around = record here { owner = (p.next_owner log).0 } in
    let f = p.formals names (p.is_function result) around fs log in
    let r = p.result_named names f.0.0 result f.1 in
    (k-free steady.walk names start here name tt).at r.1
    ∙ (k-result_named steady.walk names f.0.0 result tt).at f.1
    ∙ (k-formals steady names (p.is_function result) around fs tt).at log

pub own-number : (names : Names) (start : ℕ) (here : Context) (name : ℕ) (result : Option ℕ) (fs : Option Formals) (log : Log) (n : ℕ)
    → (p.profile names start here name result fs log).0.number ≡ Some n → n ≡ length log.profiles
unfolding p.profile before-own
own-number names start here name result fs log n e =
    number-where names here name _ _ _ (before-own names start here name result fs log) n e ∙ before-steady names start here name result fs log

own-length : (names : Names) (start : ℕ) (here : Context) (name : ℕ) (result : Option ℕ) (fs : Option Formals) (log : Log) (n : ℕ)
    → (p.profile names start here name result fs log).0.number ≡ Some n → length (p.profile names start here name result fs log).1.profiles ≡ length log.profiles + 1
unfolding p.profile before-own
own-length names start here name result fs log n e =
    length-where names here name _ _ _ (before-own names start here name result fs log) n e ∙ ap (λ k. k + 1) (before-steady names start here name result fs log)

-- ---- a subprogram without a fault has a profile

joined-left : {A B C : Type 0} (f : A → B → C) (x : Option A) (y : Option B) (c : C) → joined f x y ≡ Some c → (a : A) × (x ≡ Some a)
joined-left f (Some a) y c e = (a, refl)
joined-left f None y c e = absurd cc

body-number : (names : Names) (n : ℕ) (blocking : Bool) (name : ℕ) (q : p.Profiled) (a : Option Aspect) (ds : List Decl) (b : Body) (last : Option ℕ) (log : Log) (s : TypedSub)
    → (p.with_body names n blocking name q a ds b last log).0 ≡ Some s → (k : ℕ) × (q.number ≡ Some k)
unfolding p.with_body
body-number names n blocking name q a ds b last log s e = joined-left _ q.number _ s e

value-number : (names : Names) (n : ℕ) (blocking : Bool) (q : p.Profiled) (a : Option Aspect) (x : Expr) (log : Log) (s : TypedSub)
    → (p.with_value_of names n blocking q a x log).0 ≡ Some s → (k : ℕ) × (q.number ≡ Some k)
unfolding p.with_value_of
value-number names n blocking q a x log s e = joined-left _ q.number _ s e

with-body : (names : Names) (n : ℕ) (blocking : Bool) (start : ℕ) (here : Context) (name : ℕ) (result : Option ℕ) (fs : Option Formals) (a : Option Aspect) (ds : List Decl) (b : Body) (last : Option ℕ) (log : Log) (s : TypedSub)
    → (p.with_body names n blocking name (p.profile names start here name result fs log).0 a ds b last (p.profile names start here name result fs log).1).0 ≡ Some s
    → length (p.with_body names n blocking name (p.profile names start here name result fs log).0 a ds b last (p.profile names start here name result fs log).1).1.profiles ≡ length log.profiles + 1
with-body names n blocking start here name result fs a ds b last log s e =
    let q = p.profile names start here name result fs log in
    let k = body-number names n blocking name q.0 a ds b last q.1 s e in
    (k-with_body steady names n blocking name q.0 a ds b last tt).at q.1 ∙ own-length names start here name result fs log k.0 k.1

with-value : (names : Names) (n : ℕ) (blocking : Bool) (start : ℕ) (here : Context) (name : ℕ) (result : Option ℕ) (fs : Option Formals) (a : Option Aspect) (x : Expr) (log : Log) (s : TypedSub)
    → (p.with_value_of names n blocking (p.profile names start here name result fs log).0 a x (p.profile names start here name result fs log).1).0 ≡ Some s
    → length (p.with_value_of names n blocking (p.profile names start here name result fs log).0 a x (p.profile names start here name result fs log).1).1.profiles ≡ length log.profiles + 1
with-value names n blocking start here name result fs a x log s e =
    let q = p.profile names start here name result fs log in
    let k = value-number names n blocking q.0 a x q.1 s e in
    (k-with_value_of steady.walk names n blocking q.0 a x tt).at q.1 ∙ own-length names start here name result fs log k.0 k.1

sub-profiles : (names : Names) (n : ℕ) (blocking : Bool) (start : ℕ) (here : Context) (x : Sub) (log : Log) (s : TypedSub)
    → (p.subprogram names n blocking start here x log).0.1 ≡ Some s → length (p.subprogram names n blocking start here x log).1.profiles ≡ length log.profiles + 1
unfolding p.subprogram
sub-profiles names n blocking start here (syntax.Procedure at name fs a ds b last) log s e = with-body names n blocking start here name None fs a ds b last log s e
sub-profiles names n blocking start here (syntax.Function at name fs result a ds b last) log s e = with-body names n blocking start here name (Some result) fs a ds b last log s e
sub-profiles names n blocking start here (syntax.ExprFunction at name fs result bracket v a) log s e = with-value names n blocking start here name (Some result) fs a v log s e

-- ---- the units

also-numbered : (ss : Option (List TypedSub)) (s : Option TypedSub) (before after : Log) → AreNumbered ss before
    → ((x : TypedSub) → s ≡ Some x → length after.profiles ≡ length before.profiles + 1) → AreNumbered (joined p.also_sub ss s) after
also-numbered None s before after h f = tt
also-numbered (Some ss) None before after h f = tt
also-numbered (Some ss) (Some s) before after h f = length-append ss (s ∷ []) ∙ ap (λ k. k + 1) h ∙ sym (f s refl)

numbered-alike : (ss : Option (List TypedSub)) (before after : Log) → length after.profiles ≡ length before.profiles → AreNumbered ss before → AreNumbered ss after
numbered-alike None before after e h = tt
numbered-alike (Some ss) before after e h = h ∙ sym e

pub one-place : (names : Names) (n : ℕ) (blocking : Bool) (start : ℕ) (d : p.Declared') (u : Unit') (log : Log)
    → AreNumbered d.subs log → AreNumbered (p.unit_of names n blocking start d u log).0.subs (p.unit_of names n blocking start d u log).1
one-place names n blocking start d (syntax.DeclUnit x) log h =
    numbered-alike d.subs log (p.unit_of names n blocking start d (syntax.DeclUnit x) log).1
    ((k-declaration steady names (p.level_of names n) start d.here d.decls x tt (k-level_of steady.walk names n tt)).at log) h
one-place names n blocking start d (syntax.SubUnit s) log h =
    also-numbered d.subs _ log (p.unit_of names n blocking start d (syntax.SubUnit s) log).1 h (λ x e. sub-profiles names _ blocking start d.here s log x e)

pub places : (names : Names) (n : ℕ) (blocking : Bool) (start : ℕ) (d : p.Declared') (us : List Unit') (log : Log)
    → AreNumbered d.subs log → AreNumbered (p.units names n blocking start d us log).0.subs (p.units names n blocking start d us log).1
places names n blocking start d [] log h = h
places names n blocking start d (u ∷ us) log h =
    let r = p.unit_of names n blocking start d u log in
    places names n blocking start r.0 us r.1 (one-place names n blocking start d u log h)
