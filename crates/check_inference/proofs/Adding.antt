-- What is gathered of a text is added to what was found before: exactly the items of the text. The parts of a text add
-- one after another.
use Rattle.std.proofs.Common.{◌≡◌, ℕ, ◌+◌, nat_eq, List, [], ◌∷◌, ◌++◌, ◌⊎◌, inl, inr, Bool, true, false, ◌||◌, cond, refl, sym, subst, ap, ap₂, ◌∙◌, arith}
use Rattle.std.proofs.lemmas.Bool.Decides.{nat_tests}
use Rattle.typed_tree.specs.Syntax.{Program}
use Rattle.check_effects.specs.Effects as law
use Rattle.check_effects.specs.Effects.{Construct, Item, Touches, Calls, Blocks, Holds, Outside, reading, writing}
use Rattle.check_effects.specs.Conflicts.{EffectPath, path, path_of}
use Rattle.check_clashes.specs.declared.effects.Access.{Access}
use Rattle.check_clashes.specs.declared.effects.Access.TheVariants.{Read, Write, Update}
use Rattle.check_clashes.specs.declared.effects.Call.{Call}
use Rattle.check_inference.specs.declared.gathering.Gathered.{Gathered}
use Rattle.check_clashes.specs.declared.effects.SiteEffects.{SiteEffects}
use Rattle.check_clashes.specs.declared.effects.Touch.{Touch}
use Rattle.check_inference.specs.Exact.{IsIn, effect_path, Includes, Tells, any_arm, OfThread, TellsSite}
use Rattle.check_inference.specs.Paths.{Name, Surroundings, is_hidden}
use Rattle.check_inference.specs.Gather.{no_uses, nothing, with_touch, with_call, with_site, declaring}
use Rattle.check_inference.proofs.Places.{SameName, Beside}

-- ---- lists

pub in_either : {A B C : Type 0} → A ⊎ B → (A → C) → (B → C) → C
in_either (inl a) f g = f a
in_either (inr b) f g = g b

pub in_before : {A : Type 0} (x : A) (xs ys : List A) → IsIn x xs → IsIn x (xs ++ ys)
in_before x [] ys h = absurd h
in_before x (y ∷ xs) ys (inl e) = inl e
in_before x (y ∷ xs) ys (inr h) = inr (in_before x xs ys h)

pub in_last : {A : Type 0} (x : A) (xs : List A) → IsIn x (xs ++ x ∷ [])
in_last x [] = inl refl
in_last x (y ∷ xs) = inr (in_last x xs)

pub in_cases : {A : Type 0} (x y : A) (xs : List A) → IsIn x (xs ++ y ∷ []) → IsIn x xs ⊎ (x ≡ y)
in_cases x y [] (inl e) = inr e
in_cases x y [] (inr h) = absurd h
in_cases x y (z ∷ xs) (inl e) = inl (inl e)
in_cases x y (z ∷ xs) (inr h) = in_either (in_cases x y xs h) (λ k. inl (inr k)) (λ e. inr e)

-- ---- hidden variables

or_false : (a b : Bool) → (a || b) ≡ false → (a ≡ false) × (b ≡ false)
or_false true b e = cc
or_false false b e = (refl, e)

false_or : (a b : Bool) → a ≡ false → b ≡ false → (a || b) ≡ false
false_or true b e f = cc
false_or false b e f = f

eq_false : (x y : ℕ) → nat_eq x y ≡ false → x ≡ y → ⊥
eq_false x y e f = grind (arith, nat_tests)

ne_false : (x y : ℕ) → (x ≡ y → ⊥) → nat_eq x y ≡ false
ne_false x y f = grind (arith, nat_tests)

hidden_less : (ys : List ℕ) (y x : ℕ) → is_hidden (ys ++ y ∷ []) x ≡ false → (is_hidden ys x ≡ false) × (x ≡ y → ⊥)
unfolding is_hidden
hidden_less [] y x e = (refl, eq_false x y (or_false (nat_eq x y) false e).0)
hidden_less (z ∷ ys) y x e =
    let split = or_false (nat_eq x z) (is_hidden (ys ++ y ∷ []) x) e in
    (false_or (nat_eq x z) (is_hidden ys x) split.0 (hidden_less ys y x split.1).0, (hidden_less ys y x split.1).1)

hidden_more : (ys : List ℕ) (y x : ℕ) → is_hidden ys x ≡ false → (x ≡ y → ⊥) → is_hidden (ys ++ y ∷ []) x ≡ false
unfolding is_hidden
hidden_more [] y x e f = false_or (nat_eq x y) false (ne_false x y f) refl
hidden_more (z ∷ ys) y x e f =
    let split = or_false (nat_eq x z) (is_hidden ys x) e in
    false_or (nat_eq x z) (is_hidden (ys ++ y ∷ []) x) split.0 (hidden_more ys y x split.1 f)

both : {A : Type 0} (b : Bool) → b ≡ true → b ≡ false → A
both true e f = cc
both false e f = cc

none_hidden : (x : ℕ) → is_hidden [] x ≡ false
unfolding is_hidden
none_hidden x = refl

-- ---- items

pub same_path : (n : Name) (m : law.Named) → SameName n m → effect_path (record { object = n.object; selectors = n.selectors }) ≡ record { object = m.object; selectors = path m.steps }
same_path n m s = ap₂ (λ (o : ℕ) (ss : List law.Selector). let e : EffectPath = record { object = o; selectors = ss } in e) s.object s.selectors

touch_at : {at other : ℕ} {a b : law.Access} → Touches at a ≡ Touches other b → at ≡ other
touch_at e = cc

touch_access : {at other : ℕ} {a b : law.Access} → Touches at a ≡ Touches other b → a ≡ b
touch_access e = cc

call_at : {at other callee second s t : ℕ} → Calls at callee s ≡ Calls other second t → at ≡ other
call_at e = cc

call_sub : {at other callee second s t : ℕ} → Calls at callee s ≡ Calls other second t → s ≡ t
call_sub e = cc

construct_of : {k j : Construct} → Holds k ≡ Holds j → k ≡ j
construct_of e = cc

no_touch : (there at callee : ℕ) (a : law.Access) → Touches there a ≡ Blocks at callee → ⊥
no_touch there at callee a e = cc

no_call : (there at second callee s : ℕ) → Calls there second s ≡ Blocks at callee → ⊥
no_call there at second callee s e = cc

no_hold : (at callee : ℕ) (k : Construct) → Holds k ≡ Blocks at callee → ⊥
no_hold at callee k e = cc

touch_call : (there at callee s : ℕ) (a : law.Access) → Touches there a ≡ Calls at callee s → ⊥
touch_call there at callee s a e = cc

touch_hold : (there : ℕ) (a : law.Access) (k : Construct) → Touches there a ≡ Holds k → ⊥
touch_hold there a k e = cc

call_hold : (at callee s : ℕ) (k : Construct) → Calls at callee s ≡ Holds k → ⊥
call_hold at callee s k e = cc

abbrev touch_of : ℕ → ℕ → Access → Name → Touch
touch_of arm at access n = record { arm = arm; at = at; access = access; path = record { object = n.object; selectors = n.selectors } }

-- a touch comes from items that name the same path
abbrev pub TouchFrom : (ℕ → Item → Type 0) → Touch → Type 0
TouchFrom items t = (writes : Bool) → Includes t.access writes → (a : law.Access) × items t.arm (Touches t.at a) × (a.writes ≡ writes) × (path_of a ≡ effect_path t.path)

abbrev pub TouchOf : List Touch → ℕ → ℕ → law.Access → Type 0
TouchOf ts arm at a = (t : Touch) × IsIn t ts × (t.arm ≡ arm) × (t.at ≡ at) × Includes t.access a.writes × (effect_path t.path ≡ path_of a)

abbrev pub CallOf : List Call → ℕ → ℕ → ℕ → Type 0
CallOf cs arm at s = (c : Call) × IsIn c cs × (c.arm ≡ arm) × (c.at ≡ at) × (c.sub ≡ s)

module _ (program : Program) where
  -- exactly these items are added, each with its arm, but for names of hidden variables; constructs where they're recorded
  pub record Grows (items : ℕ → Item → Type 0) (hidden : List ℕ) (recorded : Bool) (old new : Gathered) : Type 0 where
    pub touches : (t : Touch) → IsIn t new.uses.touches → IsIn t old.uses.touches ⊎ ((is_hidden hidden t.path.object ≡ false) × TouchFrom items t)
    pub touches_kept : (t : Touch) → IsIn t old.uses.touches → IsIn t new.uses.touches
    pub touched : (arm at : ℕ) (a : law.Access) → items arm (Touches at a) → is_hidden hidden a.object ≡ false → TouchOf new.uses.touches arm at a
    pub calls : (c : Call) → IsIn c new.uses.calls → IsIn c old.uses.calls ⊎ ((callee : ℕ) × items c.arm (Calls c.at callee c.sub))
    pub calls_kept : (c : Call) → IsIn c old.uses.calls → IsIn c new.uses.calls
    pub called : (arm at callee s : ℕ) → items arm (Calls at callee s) → CallOf new.uses.calls arm at s
    pub sites : (s : SiteEffects) → IsIn s new.sites → IsIn s old.sites ⊎ ((arm : ℕ) × (k : Construct) × items arm (Holds k) × TellsSite program k s)
    pub sites_kept : (s : SiteEffects) → IsIn s old.sites → IsIn s new.sites
    pub held : recorded ≡ true → (arm : ℕ) (k : Construct) → items arm (Holds k) → (s : SiteEffects) × IsIn s new.sites × TellsSite program k s

  -- exactly the items of a text that stands in that place are added
  pub record Adds (items : Item → Type 0) (p : Surroundings) (old new : Gathered) : Type 0 where
    pub grows : Grows (λ arm i. (arm ≡ p.arm) × items i) p.hidden p.sites old new

module _ {program : Program} where
  pub grow_like : {P Q : ℕ → Item → Type 0} {hidden : List ℕ} {recorded : Bool} {old new : Gathered} → ((arm : ℕ) (i : Item) → P arm i → Q arm i) → ((arm : ℕ) (i : Item) → Q arm i → P arm i)
      → Grows program P hidden recorded old new → Grows program Q hidden recorded old new
  grow_like to from g = record {
    touches = λ t h. in_either (g.touches t h) (λ x. inl x) (λ x. inr (x.0, λ w inc. ((x.1 w inc).0, to t.arm (Touches t.at (x.1 w inc).0) (x.1 w inc).1, (x.1 w inc).2, (x.1 w inc).3)));
    touches_kept = g.touches_kept;
    touched = λ arm at a h off. g.touched arm at a (from arm (Touches at a) h) off;
    calls = λ c h. in_either (g.calls c h) (λ x. inl x) (λ x. inr (x.0, to c.arm (Calls c.at x.0 c.sub) x.1));
    calls_kept = g.calls_kept;
    called = λ arm at callee s h. g.called arm at callee s (from arm (Calls at callee s) h);
    sites = λ s h. in_either (g.sites s h) (λ x. inl x) (λ x. inr (x.0, x.1, to x.0 (Holds x.1) x.2, x.3));
    sites_kept = g.sites_kept;
    held = λ on arm k h. g.held on arm k (from arm (Holds k) h);
  }

  pub grow_then : {P Q : ℕ → Item → Type 0} {hidden : List ℕ} {recorded : Bool} {old middle new : Gathered} → Grows program P hidden recorded old middle → Grows program Q hidden recorded middle new → Grows program (λ arm i. P arm i ⊎ Q arm i) hidden recorded old new
  grow_then {old = old} {middle = middle} {new = new} f g = record {
    touches = λ t h. in_either (g.touches t h)
        (λ m. in_either (f.touches t m) (λ x. inl x) (λ x. inr (x.0, λ w inc. ((x.1 w inc).0, inl (x.1 w inc).1, (x.1 w inc).2, (x.1 w inc).3))))
        (λ x. inr (x.0, λ w inc. ((x.1 w inc).0, inr (x.1 w inc).1, (x.1 w inc).2, (x.1 w inc).3)));
    touches_kept = λ t h. g.touches_kept t (f.touches_kept t h);
    touched = λ arm at a h off. in_either h (λ x. let y = f.touched arm at a x off in (y.0, g.touches_kept y.0 y.1, y.2, y.3, y.4, y.5)) (λ x. g.touched arm at a x off);
    calls = λ c h. in_either (g.calls c h) (λ m. in_either (f.calls c m) (λ x. inl x) (λ x. inr (x.0, inl x.1))) (λ x. inr (x.0, inr x.1));
    calls_kept = λ c h. g.calls_kept c (f.calls_kept c h);
    called = λ arm at callee s h. in_either h (λ x. let y = f.called arm at callee s x in (y.0, g.calls_kept y.0 y.1, y.2, y.3, y.4)) (λ x. g.called arm at callee s x);
    sites = λ s h. in_either (g.sites s h) (λ m. in_either (f.sites s m) (λ x. inl x) (λ x. inr (x.0, x.1, inl x.2, x.3))) (λ x. inr (x.0, x.1, inr x.2, x.3));
    sites_kept = λ s h. g.sites_kept s (f.sites_kept s h);
    held = λ on arm k h. in_either h (λ x. let y = f.held on arm k x in (y.0, g.sites_kept y.0 y.1, y.2)) (λ x. g.held on arm k x);
  }

  pub grow_none : {P : ℕ → Item → Type 0} (hidden : List ℕ) (recorded : Bool) (out : Gathered) → ((arm at : ℕ) (a : law.Access) → P arm (Touches at a) → ⊥) → ((arm at callee s : ℕ) → P arm (Calls at callee s) → ⊥) → ((arm : ℕ) (k : Construct) → P arm (Holds k) → ⊥)
      → Grows program P hidden recorded out out
  grow_none hidden recorded out touch call hold = record {
    touches = λ t h. inl h;
    touches_kept = λ t h. h;
    touched = λ arm at a h off. absurd (touch arm at a h);
    calls = λ c h. inl h;
    calls_kept = λ c h. h;
    called = λ arm at callee s h. absurd (call arm at callee s h);
    sites = λ s h. inl h;
    sites_kept = λ s h. h;
    held = λ on arm k h. absurd (hold arm k h);
  }

  -- what is behind the declaration of a variable
  grow_hiding : {P : ℕ → Item → Type 0} (x : ℕ) (hidden : List ℕ) {recorded : Bool} {old new : Gathered} → Grows program P (hidden ++ x ∷ []) recorded old new → Grows program (λ arm i. P arm i × Outside x i) hidden recorded old new
  grow_hiding x hidden g = record {
    touches = λ t h. in_either (g.touches t h) (λ y. inl y)
        (λ y. inr ((hidden_less hidden x t.path.object y.0).0, λ w inc. ((y.1 w inc).0, ((y.1 w inc).1, λ e. (hidden_less hidden x t.path.object y.0).1 (sym (ap (λ (p : EffectPath). p.object) (y.1 w inc).3) ∙ e)), (y.1 w inc).2, (y.1 w inc).3)));
    touches_kept = g.touches_kept;
    touched = λ arm at a h off. g.touched arm at a h.0 (hidden_more hidden x a.object off h.1);
    calls = λ c h. in_either (g.calls c h) (λ y. inl y) (λ y. inr (y.0, (y.1, tt)));
    calls_kept = g.calls_kept;
    called = λ arm at callee s h. g.called arm at callee s h.0;
    sites = λ s h. in_either (g.sites s h) (λ y. inl y) (λ y. inr (y.0, y.1, (y.2, tt), y.3));
    sites_kept = g.sites_kept;
    held = λ on arm k h. g.held on arm k h.0;
  }

  -- ---- one arm

  pub like : {P Q : Item → Type 0} {p : Surroundings} {old new : Gathered} → ((i : Item) → P i → Q i) → ((i : Item) → Q i → P i) → Adds program P p old new → Adds program Q p old new
  like to from g = record { grows = grow_like (λ arm i h. (h.0, to i h.1)) (λ arm i h. (h.0, from i h.1)) g.grows }

  pub after : {P Q : Item → Type 0} {p : Surroundings} {old middle new : Gathered} → Adds program P p old middle → Adds program Q p middle new → Adds program (λ i. P i ⊎ Q i) p old new
  after f g = record { grows = grow_like (λ arm i h. in_either h (λ x. (x.0, inl x.1)) (λ x. (x.0, inr x.1))) (λ arm i h. in_either h.1 (λ x. inl (h.0, x)) (λ x. inr (h.0, x))) (grow_then f.grows g.grows) }

  -- the second one stands first in the text
  pub before : {P Q : Item → Type 0} {p : Surroundings} {old middle new : Gathered} → Adds program Q p old middle → Adds program P p middle new → Adds program (λ i. P i ⊎ Q i) p old new
  before f g = like (λ i h. in_either h (λ x. inr x) (λ x. inl x)) (λ i h. in_either h (λ x. inr x) (λ x. inl x)) (after f g)

  -- what is said of one name in two items
  pub pair : {P Q R : Item → Type 0} {p : Surroundings} {old middle new : Gathered} → Adds program (λ i. P i ⊎ Q i) p old middle → Adds program R p middle new → Adds program (λ i. P i ⊎ Q i ⊎ R i) p old new
  pair f g = like (λ i h. in_either h (λ x. in_either x (λ y. inl y) (λ y. inr (inl y))) (λ x. inr (inr x))) (λ i h. in_either h (λ x. inl (inl x)) (λ x. in_either x (λ y. inl (inr y)) (λ y. inr y))) (after f g)

  pub none : {P : Item → Type 0} {p : Surroundings} {out : Gathered} → ((i : Item) → P i → ⊥) → Adds program P p out out
  none {p = p} {out = out} h = record { grows = grow_none p.hidden p.sites out (λ arm at a x. h (Touches at a) x.1) (λ arm at callee s x. h (Calls at callee s) x.1) (λ arm k x. h (Holds k) x.1) }

  -- what blocks is nothing to gather
  pub block : {p : Surroundings} {out : Gathered} (at callee : ℕ) → Adds program (λ i. i ≡ Blocks at callee) p out out
  block {p = p} {out = out} at callee = record {
    grows = grow_none p.hidden p.sites out (λ arm there a x. no_touch there at callee a x.1) (λ arm there second s x. no_call there at second callee s x.1) (λ arm k x. no_hold at callee k x.1);
  }

  pub moved : {P : Item → Type 0} {q p : Surroundings} {old new : Gathered} → Beside q p → Adds program P q old new → Adds program P p old new
  moved {P = P} {q = q} {p = p} {old = old} {new = new} b g = record {
    grows = subst (λ a. Grows program (λ arm i. (arm ≡ a) × P i) p.hidden p.sites old new) b.arm
        (subst (λ h. Grows program (λ arm i. (arm ≡ q.arm) × P i) h p.sites old new) b.hidden (subst (λ s. Grows program (λ arm i. (arm ≡ q.arm) × P i) q.hidden s old new) b.sites g.grows));
  }

  pub hiding : {P : Item → Type 0} (x : ℕ) (p : Surroundings) {old new : Gathered} → Adds program P (declaring x p) old new → Adds program (λ i. P i × Outside x i) p old new
  hiding x p g = record { grows = grow_like (λ arm i h. (h.0.0, (h.0.1, h.1))) (λ arm i h. ((h.0, h.1.0), h.1.1)) (grow_hiding x p.hidden g.grows) }

  -- ---- one item

  module _ (P : Item → Type 0) (arm at : ℕ) (access : Access) (n : Name) (hidden : List ℕ) (recorded : Bool) (out : Gathered)
      (from : (writes : Bool) → Includes access writes → (a : law.Access) × P (Touches at a) × (a.writes ≡ writes) × (path_of a ≡ effect_path (record { object = n.object; selectors = n.selectors })))
      (of : (i : Item) → P i → (a : law.Access) × (i ≡ Touches at a) × Includes access a.writes × (effect_path (record { object = n.object; selectors = n.selectors }) ≡ path_of a)) where
    grow_touch : (b : Bool) → is_hidden hidden n.object ≡ b → Grows program (λ k i. (k ≡ arm) × P i) hidden recorded out
        (cond b out (record out { uses = record out.uses { touches = out.uses.touches ++ touch_of arm at access n ∷ [] } }))
    grow_touch true e = record {
      touches = λ t h. inl h;
      touches_kept = λ t h. h;
      touched = λ k there a h off. let x = of (Touches there a) h.1 in both (is_hidden hidden n.object) e (ap (is_hidden hidden) (ap (λ (p : EffectPath). p.object) x.3 ∙ ap (λ (b : law.Access). b.object) (sym (touch_access x.1))) ∙ off);
      calls = λ c h. inl h;
      calls_kept = λ c h. h;
      called = λ k there callee s h. absurd (touch_call at there callee s (of (Calls there callee s) h.1).0 (sym (of (Calls there callee s) h.1).1));
      sites = λ s h. inl h;
      sites_kept = λ s h. h;
      held = λ on k c h. absurd (touch_hold at (of (Holds c) h.1).0 c (sym (of (Holds c) h.1).1));
    }
    grow_touch false e = record {
      touches = λ t h. in_either (in_cases t (touch_of arm at access n) out.uses.touches h) (λ x. inl x)
          (λ same. inr (subst (λ t. (is_hidden hidden t.path.object ≡ false) × TouchFrom (λ k i. (k ≡ arm) × P i) t) (sym same) (e, λ w inc. ((from w inc).0, (refl, (from w inc).1), (from w inc).2, (from w inc).3))));
      touches_kept = λ t h. in_before t out.uses.touches (touch_of arm at access n ∷ []) h;
      touched = λ k there a h off. let x = of (Touches there a) h.1 in
          let y : Includes access a.writes × (effect_path (record { object = n.object; selectors = n.selectors }) ≡ path_of a)
          = subst (λ b. Includes access b.writes × (effect_path (record { object = n.object; selectors = n.selectors }) ≡ path_of b)) (sym (touch_access x.1)) (x.2, x.3) in
          (touch_of arm at access n, in_last (touch_of arm at access n) out.uses.touches, sym h.0, sym (touch_at x.1), y.0, y.1);
      calls = λ c h. inl h;
      calls_kept = λ c h. h;
      called = λ k there callee s h. absurd (touch_call at there callee s (of (Calls there callee s) h.1).0 (sym (of (Calls there callee s) h.1).1));
      sites = λ s h. inl h;
      sites_kept = λ s h. h;
      held = λ on k c h. absurd (touch_hold at (of (Holds c) h.1).0 c (sym (of (Holds c) h.1).1));
    }

  pub reads : (p : Surroundings) (at cells : ℕ) (n : Name) (m : law.Named) (out : Gathered) → SameName n m → Adds program (λ i. i ≡ Touches at (reading m cells)) p out (with_touch p at Read n out)
  reads p at cells n m out s = record {
    grows = grow_touch (λ i. i ≡ Touches at (reading m cells)) p.arm at Read n p.hidden p.sites out (λ w inc. (reading m cells, refl, sym inc, sym (same_path n m s))) (λ i e. (reading m cells, e, refl, same_path n m s)) (is_hidden p.hidden n.object) refl;
  }

  pub writes : (p : Surroundings) (at cells : ℕ) (n : Name) (m : law.Named) (out : Gathered) → SameName n m → Adds program (λ i. i ≡ Touches at (writing m cells)) p out (with_touch p at Write n out)
  writes p at cells n m out s = record {
    grows = grow_touch (λ i. i ≡ Touches at (writing m cells)) p.arm at Write n p.hidden p.sites out (λ w inc. (writing m cells, refl, sym inc, sym (same_path n m s))) (λ i e. (writing m cells, e, refl, same_path n m s)) (is_hidden p.hidden n.object) refl;
  }

  pub updates : (p : Surroundings) (at cells : ℕ) (n : Name) (m : law.Named) (out : Gathered) → SameName n m
      → Adds program (λ i. (i ≡ Touches at (reading m cells)) ⊎ (i ≡ Touches at (writing m cells))) p out (with_touch p at Update n out)
  updates p at cells n m out s = record {
    grows = grow_touch (λ i. (i ≡ Touches at (reading m cells)) ⊎ (i ≡ Touches at (writing m cells))) p.arm at Update n p.hidden p.sites out from of (is_hidden p.hidden n.object) refl;
  } where
    from : (w : Bool) → Includes Update w → (a : law.Access) × ((Touches at a ≡ Touches at (reading m cells)) ⊎ (Touches at a ≡ Touches at (writing m cells))) × (a.writes ≡ w) × (path_of a ≡ effect_path (record { object = n.object; selectors = n.selectors }))
    from true inc = (writing m cells, inr refl, refl, sym (same_path n m s))
    from false inc = (reading m cells, inl refl, refl, sym (same_path n m s))

    of : (i : Item) → (i ≡ Touches at (reading m cells)) ⊎ (i ≡ Touches at (writing m cells)) → (a : law.Access) × (i ≡ Touches at a) × Includes Update a.writes × (effect_path (record { object = n.object; selectors = n.selectors }) ≡ path_of a)
    of i (inl e) = (reading m cells, e, tt, same_path n m s)
    of i (inr e) = (writing m cells, e, tt, same_path n m s)

  pub call : (p : Surroundings) (at callee s : ℕ) (out : Gathered) → Adds program (λ i. i ≡ Calls at callee s) p out (with_call p at s out)
  call p at callee s out = record {
    grows = record {
      touches = λ t h. inl h;
      touches_kept = λ t h. h;
      touched = λ k there a h off. absurd (touch_call there at callee s a h.1);
      calls = λ c h. in_either (in_cases c the_call out.uses.calls h) (λ x. inl x) (λ e. inr (callee, subst (λ c. (c.arm ≡ p.arm) × (Calls c.at callee c.sub ≡ Calls at callee s)) (sym e) (refl, refl)));
      calls_kept = λ c h. in_before c out.uses.calls (the_call ∷ []) h;
      called = λ k there second t h. (the_call, in_last the_call out.uses.calls, sym h.0, sym (call_at h.1), sym (call_sub h.1));
      sites = λ s h. inl h;
      sites_kept = λ s h. h;
      held = λ on k c h. absurd (call_hold at callee s c (sym h.1));
    };
  } where
    the_call : Call
    the_call = record { arm = p.arm; at = at; sub = s }

  grow_site : (b : Bool) (arm : ℕ) (hidden : List ℕ) (k : Construct) (site : SiteEffects) (out : Gathered) → (b ≡ true → TellsSite program k site)
      → Grows program (λ a i. (a ≡ arm) × (i ≡ Holds k)) hidden b out (cond b (record out { sites = out.sites ++ site ∷ [] }) out)
  grow_site true arm hidden k site out tells = record {
    touches = λ t h. inl h;
    touches_kept = λ t h. h;
    touched = λ a there x h off. absurd (touch_hold there x k h.1);
    calls = λ c h. inl h;
    calls_kept = λ c h. h;
    called = λ a there callee s h. absurd (call_hold there callee s k h.1);
    sites = λ s h. in_either (in_cases s site out.sites h) (λ x. inl x) (λ e. inr (arm, k, (refl, refl), subst (TellsSite program k) (sym e) (tells refl)));
    sites_kept = λ s h. in_before s out.sites (site ∷ []) h;
    held = λ on a j h. (site, in_last site out.sites, subst (λ j. TellsSite program j site) (sym (construct_of h.1)) (tells refl));
  }
  grow_site false arm hidden k site out tells = record {
    touches = λ t h. inl h;
    touches_kept = λ t h. h;
    touched = λ a there x h off. absurd (touch_hold there x k h.1);
    calls = λ c h. inl h;
    calls_kept = λ c h. h;
    called = λ a there callee s h. absurd (call_hold there callee s k h.1);
    sites = λ s h. inl h;
    sites_kept = λ s h. h;
    held = λ on a j h. both false on refl;
  }

  pub held_site : (p : Surroundings) (k : Construct) (site : SiteEffects) (out : Gathered) → (p.sites ≡ true → TellsSite program k site) → Adds program (λ i. i ≡ Holds k) p out (with_site p site out)
  held_site p k site out tells = record { grows = grow_site p.sites p.arm p.hidden k site out tells }

  -- ---- what is told

  pub tells : {P : Item → Type 0} {p : Surroundings} {g : Gathered} (sites : List SiteEffects) → p.hidden ≡ [] → Adds program P p (record { uses = no_uses; sites = sites }) g → Tells P any_arm g.uses
  tells {p = p} sites e a = record {
    touches = λ t h asked w inc. in_either (a.grows.touches t h) (λ x. absurd x) (λ x. let y = x.1 w inc in (y.0, y.1.1, y.2, y.3));
    touched = λ at x h. let y = a.grows.touched p.arm at x (refl, h) (subst (λ ys. is_hidden ys x.object ≡ false) (sym e) (none_hidden x.object)) in (y.0, y.1, tt, y.3, y.4, y.5);
    calls = λ c h asked. in_either (a.grows.calls c h) (λ x. absurd x) (λ x. (x.0, x.1.1));
    called = λ at callee s h. let y = a.grows.called p.arm at callee s (refl, h) in (y.0, y.1, tt, y.3, y.4);
  }

  -- of the arms of a block by their numbers
  pub tells_arms : {P : ℕ → Item → Type 0} {g : Gathered} → Grows program (λ arm i. (j : ℕ) × (arm ≡ 0 + j) × P j i) [] false nothing g → (j : ℕ) → Tells (P j) (OfThread true j) g.uses
  tells_arms {P = P} a j = record {
    touches = λ t h asked w inc. in_either (a.touches t h) (λ x. absurd x) (λ x. let y = x.1 w inc in (y.0, subst (λ k. P k (Touches t.at y.0)) (same y.1.0 t.arm j y.1.1 asked) y.1.2, y.2, y.3));
    touched = λ at x h. a.touched j at x (j, number j, h) (none_hidden x.object);
    calls = λ c h asked. in_either (a.calls c h) (λ x. absurd x) (λ x. (x.0, subst (λ k. P k (Calls c.at x.0 c.sub)) (same x.1.0 c.arm j x.1.1 asked) x.1.2));
    called = λ at callee s h. a.called j at callee s (j, number j, h);
  } where
    same : (k arm j : ℕ) → arm ≡ 0 + k → arm ≡ j → k ≡ j
    same k arm j e f = omega arith

    number : (j : ℕ) → j ≡ 0 + j
    number j = omega arith
