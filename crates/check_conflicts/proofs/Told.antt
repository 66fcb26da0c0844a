-- What `effects_in` tells of a text: exactly its effects, each at the least token at which it has them.
use Rattle.std.proofs.Common.{◌≡◌, ℕ, ◌≤◌, List, Bool, false}
use Rattle.typed_tree.specs.Syntax.{Program}
use Rattle.check_effects.specs.Backwards.{CallsBackwards}
use Rattle.check_effects.specs.Effects.{Access, Construct, Item, InThread, InFront, IsEffect}
use Rattle.check_effects.specs.Conflicts.{path_of}
use Rattle.check_clashes.specs.declared.effects.Effects.{Effects}
use Rattle.check_clashes.specs.declared.effects.SiteEffects.{SiteEffects}
use Rattle.check_clashes.specs.declared.effects.Touch.{Touch}
use Rattle.check_clashes.specs.declared.effects.Uses.{Uses}
use Rattle.check_inference.specs.Exact.{IsIn, effect_path, Includes, Tells, OfThread, TellsSite, AreEffects}
use Rattle.check_clashes.specs.Called.{effects_in}

module _ (program : Program) where
  -- what is found of a text whose threads have those items by their number; all have the same where it is no block
  pub record Told (block : Bool) (items : ℕ → Item → Type 0) (found : List Touch) : Type 0 where
    pub sound : (t : Touch) → IsIn t found → (j : ℕ) → OfThread block j t.arm → (writes : Bool) → Includes t.access writes
        → (a : Access) × IsEffect program (items j) t.at a × (a.writes ≡ writes) × (path_of a ≡ effect_path t.path)
    pub whole : (j at : ℕ) (a : Access) → IsEffect program (items j) at a
        → (t : Touch) × IsIn t found × OfThread block j t.arm × (t.at ≤ at) × Includes t.access a.writes × (effect_path t.path ≡ path_of a)

  -- proved as `told`, of any text
  abbrev pub ToldLaw : Type 1
  ToldLaw = (effects : Effects) → CallsBackwards program → AreEffects program effects → (block : Bool) (items : ℕ → Item → Type 0) (uses : Uses)
      → ((j : ℕ) → Tells (items j) (OfThread block j) uses) → Told block items (effects_in effects.subs uses)

  -- proved as `threads_told` and `front_told`, of a construct
  abbrev pub ThreadsLaw : Type 0
  ThreadsLaw = (effects : Effects) → CallsBackwards program → AreEffects program effects → (k : Construct) (site : SiteEffects)
      → TellsSite program k site → Told site.block (InThread program.subtypes k) (effects_in effects.subs site.threads)

  abbrev pub FrontLaw : Type 0
  FrontLaw = (effects : Effects) → CallsBackwards program → AreEffects program effects → (k : Construct) (site : SiteEffects)
      → TellsSite program k site → Told false (λ j. InFront program.subtypes k) (effects_in effects.subs site.front)
