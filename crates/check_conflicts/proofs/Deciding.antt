-- Each test of a path or of arms decides what the rules say of them.
use Rattle.std.proofs.Common.{◌≡◌, ℕ, pos, nat_eq, List, [], ◌∷◌, map, Bool, true, false, not, refl, sym, subst, ◌∙◌, true≢false}
use Rattle.std.specs.Bool.{Decides}
use Rattle.std.proofs.lemmas.Bool.Decides.{Decides-eqb, Decides-int_eq, Decides-not, Decides-or}
use Rattle.typed_tree.specs.Syntax.{Program}
use Rattle.check_effects.specs.Effects as law
use Rattle.check_effects.specs.Effects.{Construct, LoopOf, BlockOf, ReductionOf}
use Rattle.check_effects.specs.Conflicts.{EffectPath, path_of, Differ, SomeDiffer, ArePathsSeparated, AreSeparated, IsParameter, HasParameter, Exempt, Compared}
use Rattle.check_clashes.specs.declared.effects.Path.{Path}
use Rattle.check_clashes.specs.declared.effects.Selector.{Selector}
use Rattle.check_clashes.specs.declared.effects.Selector.TheVariants.{Field, Fixed, Loop, Chunk, Any}
use Rattle.check_inference.specs.Exact.{plain, effect_path, OfThread, is_block}
use Rattle.check_clashes.specs.Breaches.{is_parameter, has_parameter, is_exempt, differ, some_differ, are_separated, are_compared}

never : Decides false ⊥
never = (λ e. true≢false (sym e), λ h. absurd h)

-- ---- what separates two paths

differ_decides : (s t : Selector) → Decides (differ s t) (Differ (plain s) (plain t))
differ_decides (Field j) (Field k) = Decides-not (nat_eq j k) (Decides-eqb j k)
differ_decides (Field j) (Fixed k) = never
differ_decides (Field j) (Loop d) = never
differ_decides (Field j) (Chunk d) = never
differ_decides (Field j) Any = never
differ_decides (Fixed j) (Field k) = never
differ_decides (Fixed j) (Fixed k) = Decides-not _ (Decides-int_eq j k)
differ_decides (Fixed j) (Loop d) = never
differ_decides (Fixed j) (Chunk d) = never
differ_decides (Fixed j) Any = never
differ_decides (Loop c) (Field k) = never
differ_decides (Loop c) (Fixed k) = never
differ_decides (Loop c) (Loop d) = Decides-int_eq c d
differ_decides (Loop c) (Chunk d) = never
differ_decides (Loop c) Any = never
differ_decides (Chunk c) (Field k) = never
differ_decides (Chunk c) (Fixed k) = never
differ_decides (Chunk c) (Loop d) = never
differ_decides (Chunk c) (Chunk d) = Decides-int_eq c d
differ_decides (Chunk c) Any = never
differ_decides Any (Field k) = never
differ_decides Any (Fixed k) = never
differ_decides Any (Loop d) = never
differ_decides Any (Chunk d) = never
differ_decides Any Any = never

some_differ_decides : (ss ts : List Selector) → Decides (some_differ ss ts) (SomeDiffer (map plain ss) (map plain ts))
unfolding some_differ
some_differ_decides [] [] = never
some_differ_decides [] (t ∷ ts) = never
some_differ_decides (s ∷ ss) [] = never
some_differ_decides (s ∷ ss) (t ∷ ts) = Decides-or (differ s t) (some_differ ss ts) (differ_decides s t) (some_differ_decides ss ts)

are_separated_decides : (p q : Path) → Decides (are_separated p q) (ArePathsSeparated (effect_path p) (effect_path q))
are_separated_decides p q = Decides-or (not (nat_eq p.object q.object)) (some_differ p.selectors q.selectors) (Decides-not (nat_eq p.object q.object) (Decides-eqb p.object q.object)) (some_differ_decides p.selectors q.selectors)

turn : {A B : EffectPath} (p q : EffectPath) → A ≡ p → B ≡ q → ArePathsSeparated A B → ArePathsSeparated p q
turn {A} {B} p q e f h = subst (λ x. ArePathsSeparated x q) e (subst (λ x. ArePathsSeparated A x) f h)

-- accesses by those paths aren't separated where the test says so
pub together : (p q : Path) (a b : law.Access) → path_of a ≡ effect_path p → path_of b ≡ effect_path q → are_separated p q ≡ false → AreSeparated a b → ⊥
together p q a b e f none h = true≢false (sym ((are_separated_decides p q).1 (turn (effect_path p) (effect_path q) e f h)) ∙ none)

pub not_separated : (p q : Path) (a b : law.Access) → effect_path p ≡ path_of a → effect_path q ≡ path_of b → (AreSeparated a b → ⊥) → are_separated p q ≡ false
not_separated p q a b e f denied = go (are_separated p q) refl
  where
    go : (x : Bool) → are_separated p q ≡ x → are_separated p q ≡ false
    go true known = absurd (denied (turn (path_of a) (path_of b) e f ((are_separated_decides p q).0 known)))
    go false known = known

-- ---- arms

-- of the thread of that arm
abbrev pub thread : Bool → ℕ → ℕ
thread false arm = 0
thread true arm = arm

pub of_thread : (block : Bool) (arm : ℕ) → OfThread block (thread block arm) arm
of_thread false arm = tt
of_thread true arm = refl

unlike : (i j : ℕ) → not (nat_eq i j) ≡ true → i ≡ j → ⊥
unlike i j = (Decides-not (nat_eq i j) (Decides-eqb i j)).0

differ_so : (i j p q : ℕ) → i ≡ p → j ≡ q → (p ≡ q → ⊥) → not (nat_eq i j) ≡ true
differ_so i j p q e f denied = (Decides-not (nat_eq i j) (Decides-eqb i j)).1 (λ same. denied (sym e ∙ same ∙ f))

-- ---- names that go by a parameter

module _ (program : Program) where
  is_parameter_decides : (s : Selector) → Decides (is_parameter s) (IsParameter program (plain s))
  is_parameter_decides (Field k) = never
  is_parameter_decides (Fixed v) = never
  is_parameter_decides (Loop c) = Decides-int_eq c (pos 0)
  is_parameter_decides (Chunk c) = Decides-int_eq c (pos 0)
  is_parameter_decides Any = never

  has_parameter_decides : (ss : List Selector) → Decides (has_parameter ss) (HasParameter program (map plain ss))
  unfolding has_parameter
  has_parameter_decides [] = never
  has_parameter_decides (s ∷ ss) = Decides-or (is_parameter s) (has_parameter ss) (is_parameter_decides s) (has_parameter_decides ss)

  -- an access by that path
  exempt_one : (k : Construct) (p : Path) (a : law.Access) → path_of a ≡ effect_path p → Decides (is_exempt (is_block k) p) (Exempt program k a)
  exempt_one (LoopOf site r chunk iteration stmts) p a e = subst (λ (x : EffectPath). Decides (has_parameter p.selectors) (HasParameter program x.selectors)) (sym e) (has_parameter_decides p.selectors)
  exempt_one (BlockOf site r most arms) p a e = never
  exempt_one (ReductionOf site r by chunk iteration value) p a e = subst (λ (x : EffectPath). Decides (has_parameter p.selectors) (HasParameter program x.selectors)) (sym e) (has_parameter_decides p.selectors)

  pub not_exempt : (k : Construct) (block : Bool) (p : Path) (a : law.Access) → block ≡ is_block k → path_of a ≡ effect_path p → is_exempt block p ≡ false → Exempt program k a → ⊥
  not_exempt k block p a same e none h = true≢false (sym ((exempt_one k p a e).1 h) ∙ subst (λ (x : Bool). is_exempt x p ≡ false) same none)

  pub is_judged : (k : Construct) (block : Bool) (p : Path) (a : law.Access) → block ≡ is_block k → effect_path p ≡ path_of a → (Exempt program k a → ⊥) → is_exempt block p ≡ false
  is_judged k block p a same e denied = subst (λ (x : Bool). is_exempt x p ≡ false) (sym same) (go (is_exempt (is_block k) p) refl)
    where
      go : (x : Bool) → is_exempt (is_block k) p ≡ x → is_exempt (is_block k) p ≡ false
      go true known = absurd (denied ((exempt_one k p a (sym e)).0 known))
      go false known = known

  -- ---- threads that are compared

  compared_one : (k : Construct) (i j : ℕ) → are_compared (is_block k) i j ≡ true → Compared program k (thread (is_block k) i) (thread (is_block k) j)
  compared_one (LoopOf site r chunk iteration stmts) i j e = tt
  compared_one (BlockOf site r most arms) i j e = unlike i j e
  compared_one (ReductionOf site r by chunk iteration value) i j e = tt

  pub compared : (k : Construct) (block : Bool) (i j : ℕ) → block ≡ is_block k → are_compared block i j ≡ true → Compared program k (thread block i) (thread block j)
  compared k block i j same e =
      subst (λ (x : Bool). Compared program k (thread x i) (thread x j)) (sym same) (compared_one k i j (subst (λ (x : Bool). are_compared x i j ≡ true) same e))

  are_compared_one : (k : Construct) (i j p q : ℕ) → OfThread (is_block k) p i → OfThread (is_block k) q j → Compared program k p q → are_compared (is_block k) i j ≡ true
  are_compared_one (LoopOf site r chunk iteration stmts) i j p q e f c = refl
  are_compared_one (BlockOf site r most arms) i j p q e f c = differ_so i j p q e f c
  are_compared_one (ReductionOf site r by chunk iteration value) i j p q e f c = refl

  pub are_compared_so : (k : Construct) (block : Bool) (i j p q : ℕ) → block ≡ is_block k → OfThread block p i → OfThread block q j → Compared program k p q → are_compared block i j ≡ true
  are_compared_so k block i j p q same e f c = subst (λ (x : Bool). are_compared x i j ≡ true) (sym same)
      (are_compared_one k i j p q (subst (λ (x : Bool). OfThread x p i) same e) (subst (λ (x : Bool). OfThread x q j) same f) c)
