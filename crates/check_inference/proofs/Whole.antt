-- The effects of a program are exactly those of its texts, from what is gathered of each body.
use Rattle.std.proofs.Common.{◌≡◌, ℕ, zero, suc, nat_eq, List, [], ◌∷◌, ◌++◌, length, slice_get, Some, ◌⊎◌, inl, inr, Bool, true, false, ◌||◌, cond, refl, sym, subst, ap, arith, append_assoc, append-nil, Result, Ok, Err}
use Rattle.std.proofs.lemmas.Bool.Decides.{nat_tests}
use Rattle.std.specs.Prelude.{IfOk}
use Rattle.typed_tree.specs.Syntax.{Decls, NoDecl, DeclareDefault, DeclareVariable, DeclareConstant, Mentions, Sub, Program}
use Rattle.ada_meaning.specs.Meaning.{sub_at}
use Rattle.check_effects.specs.Effects as law
use Rattle.check_effects.specs.Effects.{Construct, Item, Touches, Calls, Holds, InBody, InCallee, InSub, IsDeclared, IsGlobal}
use Rattle.check_effects.specs.Conflicts.{EffectPath, path_of}
use Rattle.check_clashes.specs.declared.effects.Effects.{Effects}
use Rattle.check_inference.specs.declared.gathering.Gathered.{Gathered}
use Rattle.check_clashes.specs.declared.effects.SiteEffects.{SiteEffects}
use Rattle.check_clashes.specs.declared.effects.Touch.{Touch}
use Rattle.check_clashes.specs.declared.effects.Uses.{Uses}
use Rattle.check_inference.specs.Exact.{IsIn, effect_path, Tells, any_arm, TellsSite, InSubGlobally, AreEffects, EffectsLaw}
use Rattle.check_inference.specs.Paths.{is_hidden, outset}
use Rattle.check_inference.specs.Gather.{gather_body, no_uses}
use Rattle.check_inference.specs.Program.{objects_with, globals, kept, global_uses, with_sub, with_subs, effects_of}
use Rattle.check_inference.proofs.Adding.{in_either, in_before}
use Rattle.check_inference.proofs.Bodies.{TellsBody, body_law}

-- ---- the main procedure's variables

true_or : (a b : Bool) → (a || b) ≡ true → (a ≡ true) ⊎ (b ≡ true)
true_or true b e = inl refl
true_or false b e = inr e

or_left : (a b : Bool) → a ≡ true → (a || b) ≡ true
or_left true b e = refl
or_left false b e = cc

or_right : (a b : Bool) → b ≡ true → (a || b) ≡ true
or_right true b e = refl
or_right false b e = e

eq_true : (x y : ℕ) → nat_eq x y ≡ true → x ≡ y
eq_true x y e = grind (arith, nat_tests)

true_eq : (x y : ℕ) → x ≡ y → nat_eq x y ≡ true
true_eq x y e = grind (arith, nat_tests)

hidden_here : (ys : List ℕ) (y x : ℕ) → is_hidden (ys ++ y ∷ []) x ≡ true → (is_hidden ys x ≡ true) ⊎ (x ≡ y)
unfolding is_hidden
hidden_here [] y x e = in_either (true_or (nat_eq x y) false e) (λ h. inr (eq_true x y h)) (λ h. cc)
hidden_here (z ∷ ys) y x e = in_either (true_or (nat_eq x z) (is_hidden (ys ++ y ∷ []) x) e) (λ h. inl (or_left (nat_eq x z) (is_hidden ys x) h))
    (λ h. in_either (hidden_here ys y x h) (λ g. inl (or_right (nat_eq x z) (is_hidden ys x) g)) (λ g. inr g))

hidden_on : (ys : List ℕ) (y x : ℕ) → is_hidden ys x ≡ true → is_hidden (ys ++ y ∷ []) x ≡ true
unfolding is_hidden
hidden_on [] y x e = cc
hidden_on (z ∷ ys) y x e = in_either (true_or (nat_eq x z) (is_hidden ys x) e) (λ h. or_left (nat_eq x z) (is_hidden (ys ++ y ∷ []) x) h) (λ h. or_right (nat_eq x z) (is_hidden (ys ++ y ∷ []) x) (hidden_on ys y x h))

hidden_at : (ys : List ℕ) (y x : ℕ) → x ≡ y → is_hidden (ys ++ y ∷ []) x ≡ true
unfolding is_hidden
hidden_at [] y x e = or_left (nat_eq x y) false (true_eq x y e)
hidden_at (z ∷ ys) y x e = or_right (nat_eq x z) (is_hidden (ys ++ y ∷ []) x) (hidden_at ys y x e)

module _ (program : Program) where
  declared_then : (ds : Decls) (y : ℕ) (found : List ℕ) (x : ℕ) → ((is_hidden (objects_with ds (found ++ y ∷ [])) x ≡ true → (is_hidden (found ++ y ∷ []) x ≡ true) ⊎ IsDeclared program ds x))
      → is_hidden (objects_with ds (found ++ y ∷ [])) x ≡ true → (is_hidden found x ≡ true) ⊎ ((x ≡ y) ⊎ IsDeclared program ds x)
  declared_then ds y found x ih e = in_either (ih e) (λ h. in_either (hidden_here found y x h) (λ g. inl g) (λ g. inr (inl g))) (λ h. inr (inr h))

  objects_declared : (ds : Decls) (found : List ℕ) (x : ℕ) → is_hidden (objects_with ds found) x ≡ true → (is_hidden found x ≡ true) ⊎ IsDeclared program ds x
  unfolding objects_with
  objects_declared NoDecl found x e = inl e
  objects_declared (DeclareDefault y more) found x e = declared_then more y found x (objects_declared more (found ++ y ∷ []) x) e
  objects_declared (DeclareVariable y initial more) found x e = declared_then more y found x (objects_declared more (found ++ y ∷ []) x) e
  objects_declared (DeclareConstant y initial more) found x e = declared_then more y found x (objects_declared more (found ++ y ∷ []) x) e
  objects_declared (Mentions es more) found x e = objects_declared more found x e

  declared_kept : (ds : Decls) (found : List ℕ) (x : ℕ) → is_hidden found x ≡ true → is_hidden (objects_with ds found) x ≡ true
  unfolding objects_with
  declared_kept NoDecl found x e = e
  declared_kept (DeclareDefault y more) found x e = declared_kept more (found ++ y ∷ []) x (hidden_on found y x e)
  declared_kept (DeclareVariable y initial more) found x e = declared_kept more (found ++ y ∷ []) x (hidden_on found y x e)
  declared_kept (DeclareConstant y initial more) found x e = declared_kept more (found ++ y ∷ []) x (hidden_on found y x e)
  declared_kept (Mentions es more) found x e = declared_kept more found x e

  declared_objects : (ds : Decls) (found : List ℕ) (x : ℕ) → IsDeclared program ds x → is_hidden (objects_with ds found) x ≡ true
  unfolding objects_with
  declared_objects NoDecl found x h = absurd h
  declared_objects (DeclareDefault y more) found x (inl e) = declared_kept more (found ++ y ∷ []) x (hidden_at found y x e)
  declared_objects (DeclareDefault y more) found x (inr h) = declared_objects more (found ++ y ∷ []) x h
  declared_objects (DeclareVariable y initial more) found x (inl e) = declared_kept more (found ++ y ∷ []) x (hidden_at found y x e)
  declared_objects (DeclareVariable y initial more) found x (inr h) = declared_objects more (found ++ y ∷ []) x h
  declared_objects (DeclareConstant y initial more) found x (inl e) = declared_kept more (found ++ y ∷ []) x (hidden_at found y x e)
  declared_objects (DeclareConstant y initial more) found x (inr h) = declared_objects more (found ++ y ∷ []) x h
  declared_objects (Mentions es more) found x h = declared_objects more found x h

  global_there : (x : ℕ) → is_hidden (globals program) x ≡ true → IsGlobal program x
  unfolding is_hidden
  global_there x e = in_either (objects_declared program.body.decls [] x e) (λ h. cc) (λ h. h)

  there_global : (x : ℕ) → IsGlobal program x → is_hidden (globals program) x ≡ true
  there_global x h = declared_objects program.body.decls [] x h

-- ---- touches of those alone

append_cases : {A : Type 0} (x : A) (xs ys : List A) → IsIn x (xs ++ ys) → IsIn x xs ⊎ IsIn x ys
append_cases x [] ys h = inr h
append_cases x (y ∷ xs) ys (inl e) = inl (inl e)
append_cases x (y ∷ xs) ys (inr h) = in_either (append_cases x xs ys h) (λ k. inl (inr k)) (λ k. inr k)

in_behind : {A : Type 0} (x : A) (xs ys : List A) → IsIn x ys → IsIn x (xs ++ ys)
in_behind x [] ys h = h
in_behind x (y ∷ xs) ys h = inr (in_behind x xs ys h)

one_kept : (b : Bool) (t u : Touch) → IsIn t (cond b (u ∷ []) []) → (t ≡ u) × (b ≡ true)
one_kept true t u (inl e) = (e, refl)
one_kept true t u (inr h) = absurd h
one_kept false t u h = absurd h

kept_one : (b : Bool) (t u : Touch) → t ≡ u → b ≡ true → IsIn t (cond b (u ∷ []) [])
kept_one true t u e f = inl e
kept_one false t u e f = cc

kept_in : (objects : List ℕ) (ts : List Touch) (t : Touch) → IsIn t (kept objects ts) → IsIn t ts × (is_hidden objects t.path.object ≡ true)
unfolding kept
kept_in objects [] t h = absurd h
kept_in objects (u ∷ ts) t h = in_either (append_cases t (kept objects ts) (cond (is_hidden objects u.path.object) (u ∷ []) []) h)
    (λ g. (inr (kept_in objects ts t g).0, (kept_in objects ts t g).1))
    (λ g. let x = one_kept (is_hidden objects u.path.object) t u g in (inl x.0, subst (λ v. is_hidden objects v.path.object ≡ true) (sym x.0) x.1))

in_kept : (objects : List ℕ) (ts : List Touch) (t : Touch) → IsIn t ts → is_hidden objects t.path.object ≡ true → IsIn t (kept objects ts)
unfolding kept
in_kept objects [] t h e = absurd h
in_kept objects (u ∷ ts) t (inl same) e = in_behind t (kept objects ts) (cond (is_hidden objects u.path.object) (u ∷ []) []) (kept_one (is_hidden objects u.path.object) t u same (subst (λ v. is_hidden objects v.path.object ≡ true) same e))
in_kept objects (u ∷ ts) t (inr h) e = in_before t (kept objects ts) (cond (is_hidden objects u.path.object) (u ∷ []) []) (in_kept objects ts t h e)

-- ---- subprograms

module _ (program : Program) where
  -- items of variables those of the main procedure alone
  abbrev Globally : (Item → Type 0) → Item → Type 0
  Globally items (Touches at a) = items (Touches at a) × IsGlobal program a.object
  Globally items i = items i

  same_object : (a : law.Access) (t : Touch) → path_of a ≡ effect_path t.path → a.object ≡ t.path.object
  same_object a t e = ap (λ (p : EffectPath). p.object) e

  tells_globally : (items : Item → Type 0) (uses : Uses) → Tells items any_arm uses → Tells (Globally items) any_arm (global_uses (globals program) uses)
  tells_globally items uses h = record {
    touches = λ t there asked w inc. let k = kept_in (globals program) uses.touches t there in let x = h.touches t k.0 asked w inc in
        (x.0, (x.1, subst (IsGlobal program) (sym (same_object x.0 t x.3)) (global_there program t.path.object k.1)), x.2, x.3);
    touched = λ at a there. let x = h.touched at a there.0 in
        (x.0, in_kept (globals program) uses.touches x.0 x.1 (there_global program x.0.path.object (subst (IsGlobal program) (same_object a x.0 (sym x.5)) there.1)), x.2, x.3, x.4, x.5);
    calls = h.calls;
    called = h.called;
  }

  -- subprograms and what was found of them, in order
  abbrev Each : List Sub → List Uses → Type 0
  Each [] [] = Unit {0}
  Each [] (u ∷ us) = ⊥
  Each (s ∷ ss) [] = ⊥
  Each (s ∷ ss) (u ∷ us) = Tells (Globally (InBody program.subtypes s.body)) any_arm u × Each ss us

  each_last : (ss : List Sub) (us : List Uses) (s : Sub) (u : Uses) → Each ss us → Tells (Globally (InBody program.subtypes s.body)) any_arm u → Each (ss ++ s ∷ []) (us ++ u ∷ [])
  each_last [] [] s u h t = (t, tt)
  each_last [] (v ∷ us) s u h t = absurd h
  each_last (r ∷ ss) [] s u h t = absurd h
  each_last (r ∷ ss) (v ∷ us) s u h t = (h.0, each_last ss us s u h.1 t)

  each_length : (ss : List Sub) (us : List Uses) → Each ss us → length us ≡ length ss
  each_length [] [] h = refl
  each_length [] (v ∷ us) h = absurd h
  each_length (r ∷ ss) [] h = absurd h
  each_length (r ∷ ss) (v ∷ us) h = ap suc (each_length ss us h.1)

  tells_sub : (items : Item → Type 0) (uses : Uses) (s : ℕ) → ((i : Item) → items i → InSub program s i) → ((i : Item) → InSub program s i → items i) → Tells (Globally items) any_arm uses → Tells (InSubGlobally program s) any_arm uses
  tells_sub items uses s to from h = record {
    touches = λ t there asked w inc. let x = h.touches t there asked w inc in (x.0, (to (Touches t.at x.0) x.1.0, x.1.1), x.2, x.3);
    touched = λ at a there. h.touched at a (from (Touches at a) there.0, there.1);
    calls = λ c there asked. let x = h.calls c there asked in (x.0, to (Calls c.at x.0 c.sub) x.1);
    called = λ at callee t there. h.called at callee t (from (Calls at callee t) there);
  }

  each_sub : (ss : List Sub) (us : List Uses) (k : ℕ) (u : Uses) → Each ss us → slice_get us k ≡ Some u → (s : Sub) × (sub_at ss k ≡ Some s) × Tells (Globally (InBody program.subtypes s.body)) any_arm u
  each_sub [] [] k u h e = cc
  each_sub [] (v ∷ us) k u h e = absurd h
  each_sub (r ∷ ss) [] k u h e = absurd h
  each_sub (r ∷ ss) (v ∷ us) zero u h e = (r, refl, subst (λ x. Tells (Globally (InBody program.subtypes r.body)) any_arm x) (same v u e) h.0)
    where
      same : (v u : Uses) → Some v ≡ Some u → v ≡ u
      same v u e = cc
  each_sub (r ∷ ss) (v ∷ us) (suc k) u h e = each_sub ss us k u h.1 e

  -- a construct in a subprogram of that list
  abbrev Within : List Sub → Construct → Type 0
  Within [] k = ⊥
  Within (s ∷ ss) k = InBody program.subtypes s.body (Holds k) ⊎ Within ss k

  -- what was found of some subprograms, behind what was found before
  record Told (ss : List Sub) (found new : Effects) : Type 0 where
    subs : (done : List Sub) → Each done found.subs → Each (done ++ ss) new.subs
    sites : (s : SiteEffects) → IsIn s new.sites → IsIn s found.sites ⊎ ((k : Construct) × Within ss k × TellsSite program k s)
    kept_sites : (s : SiteEffects) → IsIn s found.sites → IsIn s new.sites
    held : (k : Construct) → Within ss k → (s : SiteEffects) × IsIn s new.sites × TellsSite program k s

  abbrev of_sub : Sub → Effects → Gathered
  of_sub sub found = gather_body (outset true) sub.body (record { uses = no_uses; sites = found.sites })

  told_then : (sub : Sub) (ss : List Sub) (found new : Effects) → Told ss (with_sub (globals program) sub found) new → Told (sub ∷ ss) found new
  told_then sub ss found new rest = record {
    subs = λ done h. subst (λ rs. Each rs new.subs) (append_assoc done (sub ∷ []) ss) (rest.subs (done ++ sub ∷ []) (each_last done found.subs sub (global_uses (globals program) (of_sub sub found).uses) h (tells_globally (InBody program.subtypes sub.body) (of_sub sub found).uses here.uses)));
    sites = λ s h. in_either (rest.sites s h) (λ x. in_either (here.sites s x) (λ y. inl y) (λ y. inr (y.0, inl y.1, y.2))) (λ x. inr (x.0, inr x.1, x.2));
    kept_sites = λ s h. rest.kept_sites s (here.kept s h);
    held = λ k h. in_either h (λ x. let y = here.held k x in (y.0, rest.kept_sites y.0 y.1, y.2)) (λ x. rest.held k x);
  } where
    here : TellsBody program (InBody program.subtypes sub.body) found.sites (of_sub sub found)
    here = body_law program sub.body found.sites

  told_subs : (ss : List Sub) (found : Effects) → Told ss found (with_subs (globals program) ss found)
  unfolding with_subs
  told_subs [] found = record {
    subs = λ done h. subst (λ ss. Each ss found.subs) (sym (append-nil done)) h;
    sites = λ s h. inl h;
    kept_sites = λ s h. h;
    held = λ k h. absurd h;
  }
  told_subs (sub ∷ ss) found = told_then sub ss found (with_subs (globals program) ss (with_sub (globals program) sub found)) (told_subs ss (with_sub (globals program) sub found))

  within_callee : (ss : List Sub) (k : Construct) → Within ss k → (s : ℕ) × InCallee program (sub_at ss s) (Holds k)
  within_callee [] k h = absurd h
  within_callee (s ∷ ss) k (inl x) = (zero, x)
  within_callee (s ∷ ss) k (inr x) = let y = within_callee ss k x in (suc y.0, y.1)

  callee_within : (ss : List Sub) (k : Construct) (s : ℕ) → InCallee program (sub_at ss s) (Holds k) → Within ss k
  callee_within [] k s h = absurd h
  callee_within (r ∷ ss) k zero h = inl h
  callee_within (r ∷ ss) k (suc s) h = inr (callee_within ss k s h)

  are_effects : AreEffects program (effects_of program)
  unfolding effects_of
  are_effects = record {
    count = each_length program.subs found.subs each;
    subs = λ s uses e. let x = each_sub program.subs found.subs s uses each e in
        tells_sub (InBody program.subtypes x.0.body) uses s (λ i h. subst (λ o. InCallee program o i) (sym x.1) h) (λ i h. subst (λ o. InCallee program o i) x.1 h) x.2;
    sites = λ site h. in_either (main.sites site h)
        (λ x. in_either (told.sites site x) (λ y. absurd y) (λ y. (y.0, inr (within_callee program.subs y.0 y.1), y.2)))
        (λ x. (x.0, inl x.1, x.2));
    held = λ k h. in_either h (λ x. main.held k x) (λ x. let y = told.held k (callee_within program.subs k x.0 x.1) in (y.0, main.kept y.0 y.1, y.2));
  } where
    found : Effects
    found = with_subs (globals program) program.subs (record { subs = []; sites = [] })

    told : Told program.subs (record { subs = []; sites = [] }) found
    told = told_subs program.subs (record { subs = []; sites = [] })

    each : Each program.subs found.subs
    each = told.subs [] tt

    main : TellsBody program (InBody program.subtypes program.body) found.sites (gather_body (outset true) program.body (record { uses = no_uses; sites = found.sites }))
    main = body_law program program.body found.sites

pub effects_law : EffectsLaw
effects_law program = are_effects program

-- the effects that are found are those of the texts
pub found_told : {E : Type 0} (program : Program) (r : Result Effects E) → IfOk r (λ effects. effects ≡ effects_of program) → IfOk r (λ effects. (effects ≡ effects_of program) × AreEffects program effects)
found_told program (Ok effects) same = (same, subst (AreEffects program) (sym same) (effects_law program))
found_told program (Err e) same = tt
