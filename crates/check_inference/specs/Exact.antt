-- What was gathered of a text is exactly what stands in it (9.10.1): names by the paths that accesses are compared by, and
-- calls.
use Rattle.std.specs.Prelude.{◌≡◌, ℕ, List, [], ◌∷◌, length, map, slice_get, Some, ◌⊎◌, Bool, true, false}
use Rattle.typed_tree.specs.Syntax.{Program}
use Rattle.check_effects.specs.Effects as law
use Rattle.check_effects.specs.Effects.{Construct, LoopOf, BlockOf, ReductionOf, Item, Touches, Calls, Holds, InThread, InFront, InSub, IsGlobal}
use Rattle.check_effects.specs.Conflicts.{EffectPath, path_of, InProgram}
use Rattle.check_effects.specs.Covered.{site_of}
use Rattle.check_clashes.specs.declared.effects.Access.{Access}
use Rattle.check_clashes.specs.declared.effects.Access.TheVariants.{Read, Write, Update}
use Rattle.check_clashes.specs.declared.effects.Call.{Call}
use Rattle.check_clashes.specs.declared.effects.Effects.{Effects}
use Rattle.check_clashes.specs.declared.effects.Path.{Path}
use Rattle.check_clashes.specs.declared.effects.Selector.{Selector}
use Rattle.check_clashes.specs.declared.effects.Selector.TheVariants as selector
use Rattle.check_clashes.specs.declared.effects.SiteEffects.{SiteEffects}
use Rattle.check_clashes.specs.declared.effects.Touch.{Touch}
use Rattle.check_clashes.specs.declared.effects.Uses.{Uses}
use Rattle.check_inference.specs.Program.{effects_of}

abbrev pub IsIn : {A : Type 0} → A → List A → Type 0
IsIn x [] = ⊥
IsIn x (y ∷ ys) = (x ≡ y) ⊎ IsIn x ys

abbrev pub plain : Selector → law.Selector
plain (selector.Field k) = law.At k
plain (selector.Fixed v) = law.Fixed v
plain (selector.Loop distance) = law.LoopIndex distance
plain (selector.Chunk distance) = law.ChunkIndex distance
plain selector.Any = law.Any

abbrev pub effect_path : Path → EffectPath
effect_path p = record { object = p.object; selectors = map plain p.selectors }

-- what is done with a variable, by whether that is a write
abbrev pub Includes : Access → Bool → Type 0
Includes Read writes = writes ≡ false
Includes Write writes = writes ≡ true
Includes Update writes = Unit {0}

-- the names and calls with the arms that are asked for are those of a text
pub record Tells (items : Item → Type 0) (asked : ℕ → Type 0) (uses : Uses) : Type 0 where
  pub touches : (t : Touch) → IsIn t uses.touches → asked t.arm → (writes : Bool) → Includes t.access writes
      → (a : law.Access) × items (Touches t.at a) × (a.writes ≡ writes) × (path_of a ≡ effect_path t.path)
  pub touched : (at : ℕ) (a : law.Access) → items (Touches at a)
      → (t : Touch) × IsIn t uses.touches × asked t.arm × (t.at ≡ at) × Includes t.access a.writes × (effect_path t.path ≡ path_of a)
  pub calls : (c : Call) → IsIn c uses.calls → asked c.arm → (callee : ℕ) × items (Calls c.at callee c.sub)
  pub called : (at callee s : ℕ) → items (Calls at callee s) → (c : Call) × IsIn c uses.calls × asked c.arm × (c.at ≡ at) × (c.sub ≡ s)

abbrev pub any_arm : ℕ → Type 0
any_arm arm = Unit {0}

-- in a block those of one arm
abbrev pub OfThread : Bool → ℕ → ℕ → Type 0
OfThread false j arm = Unit {0}
OfThread true j arm = arm ≡ j

abbrev pub is_block : Construct → Bool
is_block (LoopOf site r chunk iteration stmts) = false
is_block (BlockOf site r most arms) = true
is_block (ReductionOf site r by chunk iteration value) = false

module _ (program : Program) where
  pub record TellsSite (k : Construct) (site : SiteEffects) : Type 0 where
    pub number : site.site ≡ site_of k
    pub block : site.block ≡ is_block k
    pub front : Tells (InFront program.subtypes k) any_arm site.front
    pub threads : (j : ℕ) → Tells (InThread program.subtypes k j) (OfThread site.block j) site.threads

  -- in the text of a subprogram, of variables those of the main procedure alone
  abbrev pub InSubGlobally : ℕ → Item → Type 0
  InSubGlobally s (Touches at a) = InSub program s (Touches at a) × IsGlobal program a.object
  InSubGlobally s i = InSub program s i

  pub record AreEffects (effects : Effects) : Type 0 where
    pub count : length effects.subs ≡ length program.subs
    pub subs : (s : ℕ) (uses : Uses) → slice_get effects.subs s ≡ Some uses → Tells (InSubGlobally s) any_arm uses
    pub sites : (site : SiteEffects) → IsIn site effects.sites → (k : Construct) × InProgram program (Holds k) × TellsSite k site
    pub held : (k : Construct) → InProgram program (Holds k) → (site : SiteEffects) × IsIn site effects.sites × TellsSite k site

-- The effects that are found of a program are exactly those of its texts.
abbrev pub EffectsLaw : Type 0
EffectsLaw = (program : Program) → AreEffects program (effects_of program)
