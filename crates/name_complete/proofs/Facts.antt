-- What is around a text, and what is found of it, where no fault is written.
use Rattle.std.proofs.Common.{◌≡◌, sym, subst, ℕ, zero, suc, List, [], ◌∷◌, ◌++◌, Option, Some, None, Bool, true, false, if◌then◌else◌, option_map, reverse, drop, ◌==◌}
use Rattle.std.proofs.lemmas.List.{reverse-append}
use Rattle.std.specs.List.{find}
use Rattle.syntax_tree.specs.Syntax.{Name, Primary}
use Rattle.name_rules.specs.Expressions.{Inside}
use Rattle.name_rules.specs.Found.{Denoted, Found}
use Rattle.name_rules.specs.Scope.{entry, lookup, with_entry}
use Rattle.name_rules.specs.Shapes.{is_aggregate_form}
use Rattle.name_rules.specs.declared.found.Denoted.TheVariants as denoted
use Rattle.name_rules.specs.declared.found.Denoted.{Denoted as KnownDenoted}
use Rattle.name_rules.specs.declared.found.Found.TheVariants as known
use Rattle.name_rules.specs.declared.found.Found.{Found as Known}
use Rattle.name_rules.specs.declared.scope.Context.{Context}
use Rattle.name_rules.specs.declared.scope.Entry.{Entry}
use Rattle.name_rules.specs.declared.scope.Returns.TheVariants as returns
use Rattle.name_rules.specs.declared.scope.Returns.{Returns}
use Rattle.name_rules.specs.declared.scope.Target.TheVariants as target
use Rattle.name_rules.specs.declared.scope.Target.{Target}
use Rattle.name_rules.specs.declared.scope.What.TheVariants as what
use Rattle.name_rules.specs.declared.scope.What.{What}
use Rattle.name_rules.specs.declared.types.Wanted.TheVariants as wanted
use Rattle.name_rules.specs.declared.types.Wanted.{Wanted}
use Rattle.name_complete.proofs.Explains.{Is, Sound}

-- ---- what is around a text

abbrev pub NotBroken : What → Type 0
NotBroken what.Broken = ⊥
NotBroken w = Unit {0}

abbrev pub Sane : List Entry → Type 0
Sane [] = Unit {0}
Sane (e ∷ es) = NotBroken e.what × Sane es

abbrev pub TargetGood : Target → Type 0
TargetGood target.Faulty = ⊥
TargetGood t = Unit {0}

abbrev pub ReturnsGood : Returns → Type 0
ReturnsGood returns.Faulty = ⊥
ReturnsGood r = Unit {0}

-- nothing around it has a fault
pub record Clear (here : Context) : Type 0 where
  pub scope : Sane here.scope
  pub target : TargetGood here.target
  pub returns : ReturnsGood here.returns

pub sane-both : (a b : List Entry) → Sane a → Sane b → Sane (a ++ b)
sane-both [] b h k = k
sane-both (e ∷ a) b h k = (h.0, sane-both a b h.1 k)

pub sane-drop : (n : ℕ) (a : List Entry) → Sane a → Sane (drop n a)
sane-drop zero a h = h
sane-drop (suc n) [] h = tt
sane-drop (suc n) (e ∷ a) h = sane-drop n a h.1

sane-reverse : (a : List Entry) → Sane a → Sane (reverse a)
sane-reverse [] h = tt
sane-reverse (e ∷ a) h = subst Sane (sym (reverse-append (e ∷ []) a)) (sane-both (reverse a) (e ∷ []) (sane-reverse a h.1) (h.0, tt))

pub clear-entry : (here : Context) (name : ℕ) (w : What) → NotBroken w → Clear here → Clear (with_entry here name w)
clear-entry here name w n c = record { scope = sane-both here.scope (entry name w ∷ []) c.scope (n, tt); target = c.target; returns = c.returns }

abbrev pub Findable : Option What → Type 0
Findable None = Unit {0}
Findable (Some w) = NotBroken w

first-of : (name : ℕ) (e : Entry) (es : List Entry) (b : Bool) → NotBroken e.what → Findable (option_map (λ x. x.what) (find (λ x. x.symbol == name) es)) → Findable (option_map (λ x. x.what) (if b then Some e else find (λ x. x.symbol == name) es))
first-of name e es true h k = h
first-of name e es false h k = k

first-sane : (name : ℕ) (es : List Entry) → Sane es → Findable (option_map (λ e. e.what) (find (λ e. e.symbol == name) es))
first-sane name [] h = tt
first-sane name (e ∷ es) h = first-of name e es (e.symbol == name) h.0 (first-sane name es h.1)

pub lookup-sane : (name : ℕ) (es : List Entry) → Sane es → Findable (lookup name es)
lookup-sane name es h = first-sane name (reverse es) (sane-reverse es h)

-- ---- what is found

-- a string stands in a string's place alone
abbrev pub TextFit : Wanted → Type 0
TextFit wanted.Text = Unit {0}
TextFit want = ⊥

abbrev pub Fit : Wanted → Known → Type 0
Fit want (known.Rest first) = ⊥
Fit want (known.Text first) = TextFit want
Fit want k = Unit {0}

abbrev pub FoundFor : Wanted → Found → Type 0
FoundFor want f = Fit want f.known

abbrev pub FoundOk : Found → Type 0
FoundOk f = Fit wanted.Other f.known

pub other-fits : (want : Wanted) (k : Known) → Fit wanted.Other k → Fit want k
other-fits want (known.Rest first) h = absurd h
other-fits want (known.Text first) h = absurd h
other-fits want (known.Universal first z alone) h = tt
other-fits want (known.Open first l) h = tt
other-fits want (known.Static first k z) h = tt
other-fits want (known.Object p) h = tt
other-fits want (known.Scalar first k n) h = tt
other-fits want (known.Composite first n) h = tt

abbrev pub DenotedOk : KnownDenoted → Type 0
DenotedOk (denoted.Value f) = Fit wanted.Text f
DenotedOk d = Unit {0}

abbrev pub DenotedOf : Denoted → Type 0
DenotedOf d = DenotedOk d.known

-- an aggregate of the dimensions from one on
abbrev pub IsRest : Known → Type 0
IsRest (known.Rest first) = Unit {0}
IsRest k = ⊥

abbrev pub RestOf : Found → Type 0
RestOf f = IsRest f.known

-- a place asks for a whole value
abbrev pub Plain : Wanted → Type 0
Plain wanted.Unknown = ⊥
Plain (wanted.Rest n i) = ⊥
Plain want = Unit {0}

-- ---- levels of brackets

pub record LevelSound (level : Inside) : Type 1 where
  pub primary : (G : Type 0) (here : Context) (p : Primary) (want : Wanted) → (G → Clear here) → (G → Plain want) → Sound G (Is (FoundFor want)) (level.primary here p want)
  pub rest : (G : Type 0) (here : Context) (p : Primary) (n i : ℕ) → is_aggregate_form (Some p) ≡ true → (G → Clear here) → Sound G (Is RestOf) (level.primary here p (wanted.Rest n i))
  pub name : (G : Type 0) (here : Context) (n : Name) → (G → Clear here) → Sound G (Is DenotedOf) (level.name here n)
