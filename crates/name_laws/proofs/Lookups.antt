-- Looking a name up from the end of a scope finds its last declaration.
use Rattle.std.proofs.Common.{◌≡◌, ℕ, List, [], ◌∷◌, ◌++◌, Option, Some, None, option_map, reverse, Bool, true, false, ◌==◌, refl, sym, ap, ◌∙◌, true≢false, eqb-true, eq-eqb, ◌⊎◌, inl, inr, arith}
use Rattle.std.proofs.lemmas.List.{append_assoc, append-nil, reverse-append}
use Rattle.std.specs.List.{find}
use Rattle.name_rules.specs.Scope.{entry, lookup, stands, stands_for, undeclared, with_entry}
use Rattle.name_rules.specs.Symbols.{symbol}
use Rattle.name_rules.specs.declared.scope.Context.{Context}
use Rattle.name_rules.specs.declared.scope.Entry.{Entry}
use Rattle.name_rules.specs.declared.scope.Names.{Names}
use Rattle.name_rules.specs.declared.scope.What.{What}
use Rattle.name_rules.specs.declared.scope.What.TheVariants as what
use Rattle.name_laws.specs.Hiding.{HasNone, HidingLaw, IsLast}

-- from the end: the last entry decides, or else those before it
seen : ℕ → List Entry → Option What
seen name es = option_map (λ e. e.what) (find (λ e. e.symbol == name) es)

turned : (es : List Entry) (e : Entry) → reverse (es ++ e ∷ []) ≡ e ∷ reverse es
turned es e = reverse-append es (e ∷ [])

at-end : (name : ℕ) (es : List Entry) (e : Entry) → lookup name (es ++ e ∷ []) ≡ seen name (e ∷ reverse es)
unfolding seen
at-end name es e = ap (seen name) (turned es e)

found-first : (name : ℕ) (es : List Entry) (e : Entry) (b : Bool) → (e.symbol == name) ≡ b → e.symbol ≡ name → seen name (e ∷ es) ≡ Some e.what
unfolding seen
found-first name es e true p q = grind (arith, p)
found-first name es e false p q = absurd (true≢false (sym (eq-eqb e.symbol name q) ∙ p))

passed-first : (name : ℕ) (es : List Entry) (e : Entry) (b : Bool) → (e.symbol == name) ≡ b → (e.symbol ≡ name → ⊥) → seen name (e ∷ es) ≡ seen name es
unfolding seen
passed-first name es e true p q = absurd (q (eqb-true e.symbol name p))
passed-first name es e false p q = grind (arith, p)

pub lookup-last : (name : ℕ) (es : List Entry) (w : What) → lookup name (es ++ entry name w ∷ []) ≡ Some w
lookup-last name es w = at-end name es (entry name w) ∙ found-first name (reverse es) (entry name w) (name == name) refl refl

pub lookup-other : (name : ℕ) (es : List Entry) (e : Entry) → (e.symbol ≡ name → ⊥) → lookup name (es ++ e ∷ []) ≡ lookup name es
unfolding seen
lookup-other name es e n = at-end name es e ∙ passed-first name (reverse es) e (e.symbol == name) refl n

-- those that don't declare the name are passed over
pub lookup-passed : (name : ℕ) (es more : List Entry) → HasNone name more → lookup name (es ++ more) ≡ lookup name es
lookup-passed name es [] n = ap (lookup name) (append-nil es)
lookup-passed name es (e ∷ more) n =
    ap (lookup name) (sym (append_assoc es (e ∷ []) more)) ∙ lookup-passed name (es ++ e ∷ []) more n.1 ∙ lookup-other name es e n.0

pub last-found : (name : ℕ) (w : What) (scope : List Entry) → IsLast name w scope → lookup name scope ≡ Some w
last-found name w scope l =
    ap (lookup name) (l.splits ∙ sym (append_assoc l.before (entry name w ∷ []) l.after))
    ∙ lookup-passed name (l.before ++ entry name w ∷ []) l.after l.unhidden ∙ lookup-last name l.before w

pub none-found : (name : ℕ) (scope : List Entry) → HasNone name scope → lookup name scope ≡ None
none-found name scope n = lookup-passed name [] scope n

-- a name is declared or it isn't
before : (name : ℕ) (w : What) (e : Entry) (es : List Entry) → IsLast name w es → IsLast name w (e ∷ es)
before name w e es l = record { before = e ∷ l.before; after = l.after; splits = ap (λ x. e ∷ x) l.splits; unhidden = l.unhidden }

either-here : (name : ℕ) (e : Entry) (es : List Entry) (b : Bool) → (e.symbol == name) ≡ b → HasNone name es → HasNone name (e ∷ es) ⊎ ((w : What) × IsLast name w (e ∷ es))
either-here name e es true p n =
    let same : e ≡ entry name e.what = ap (λ s. entry s e.what) (eqb-true e.symbol name p) in
    inr (e.what, record { before = []; after = es; splits = ap (λ x. x ∷ es) same; unhidden = n })
either-here name e es false p n = inl (λ q. true≢false (sym (eq-eqb e.symbol name q) ∙ p), n)

either-with : (name : ℕ) (e : Entry) (es : List Entry) → HasNone name es ⊎ ((w : What) × IsLast name w es) → HasNone name (e ∷ es) ⊎ ((w : What) × IsLast name w (e ∷ es))
either-with name e es (inl n) = either-here name e es (e.symbol == name) refl n
either-with name e es (inr l) = inr (l.0, before name l.0 e es l.1)

either-one : (name : ℕ) (scope : List Entry) → HasNone name scope ⊎ ((w : What) × IsLast name w scope)
either-one name [] = inl tt
either-one name (e ∷ es) = either-with name e es (either-one name es)

-- what a name stands for hangs on its last declaration, and on the clauses where there is none
by-clauses : (here there : Context) (token name : ℕ) (w : Option What) → here.used ≡ there.used → here.withed ≡ there.withed → stands here token name w ≡ stands there token name w
by-clauses here there token name None u v =
    ap (λ x. undeclared (record here { used = x }) token name) u ∙ ap (λ x. undeclared (record here { used = there.used; withed = x }) token name) v
by-clauses here there token name (Some what.Hidden) u v = refl
by-clauses here there token name (Some what.Broken) u v = refl
by-clauses here there token name (Some (what.Object n s z y)) u v = refl
by-clauses here there token name (Some (what.Parameter n s)) u v = refl
by-clauses here there token name (Some (what.Item n s z)) u v = refl
by-clauses here there token name (Some (what.Number z)) u v = refl
by-clauses here there token name (Some (what.Boolean b)) u v = refl
by-clauses here there token name (Some (what.Type s)) u v = refl
by-clauses here there token name (Some (what.Sub n)) u v = refl
by-clauses here there token name (Some (what.Exception r)) u v = refl

pub stands-as : (names : Names) (here : Context) (token : ℕ) (w : Option What) → lookup (symbol names token) here.scope ≡ w → stands_for names here token ≡ stands here token (symbol names token) w
unfolding stands_for
stands-as names here token w e = ap (stands here token (symbol names token)) e

pub stands-alike : (names : Names) (here there : Context) (token : ℕ) → lookup (symbol names token) here.scope ≡ lookup (symbol names token) there.scope
    → here.used ≡ there.used → here.withed ≡ there.withed → stands_for names here token ≡ stands_for names there token
unfolding stands_for
stands-alike names here there token e u v =
    ap (stands here token (symbol names token)) e ∙ by-clauses here there token (symbol names token) (lookup (symbol names token) there.scope) u v

hides : (names : Names) (here : Context) (declared token : ℕ) (w : What) → symbol names declared ≡ symbol names token
    → stands_for names (with_entry here (symbol names declared) w) token ≡ stands here token (symbol names token) (Some w)
hides names here declared token w e =
    stands-as names (with_entry here (symbol names declared) w) token (Some w) (ap (λ s. lookup (symbol names token) (here.scope ++ entry s w ∷ [])) e ∙ lookup-last (symbol names token) here.scope w)
    ∙ by-clauses (with_entry here (symbol names declared) w) here token (symbol names token) (Some w) refl refl

pub hiding_law : HidingLaw
hiding_law = record {
  last = λ names here token w l. stands-as names here token (Some w) (last-found (symbol names token) w here.scope l);
  none = λ names here token n. stands-as names here token None (none-found (symbol names token) here.scope n);
  either = either-one;
  hides = hides;
  begun = λ names here declared token e. hides names here declared token what.Hidden e;
  others = λ names here declared token w n.
      stands-alike names (with_entry here (symbol names declared) w) here token (lookup-other (symbol names token) here.scope (entry (symbol names declared) w) n) refl refl;
}
