-- What is answered of the rules on conflicts (9.10.1).
use Rattle.std.specs.Prelude.{◌≡◌, ℕ, ◌<◌, ◌≤◌, ◌⊎◌, Bool, true, Result, Ok, Err, Option, Some, None}
use Rattle.typed_tree.specs.Syntax.{Program}
use Rattle.behaviours.specs.Joins.{Now, Share}
use Rattle.ada_meaning.specs.Blocked.{Blocked}
use Rattle.ada_meaning.specs.Formed.{IsFormed}
use Rattle.ada_meaning.specs.Law.{IsRaceFree}
use Rattle.check_effects.specs.Backwards.{CallsBackwards}
use Rattle.check_effects.specs.Covered.{AreApart, AreDistinct, Under, site_of}
use Rattle.check_effects.specs.Effects.{Access, Construct, Holds}
use Rattle.check_effects.specs.Conflicts.{InProgram, IsGranted, IsStrict, GlobalTouched, Clashes, ClashPair, path_of}
use Rattle.check_clashes.specs.declared.effects.Effects.{Effects}
use Rattle.check_clashes.specs.declared.granted.Grant.{Grant}
use Rattle.check_clashes.specs.declared.granted.Grants.{Grants}
use Rattle.check_inference.specs.Exact.{AreEffects, IsIn, OfThread, effect_path, is_block}
use Rattle.check_clashes.specs.declared.breaches.Pair.{Pair}
use Rattle.check_conflicts.specs.declared.faults.ConflictFault.{ConflictFault}
use Rattle.check_conflicts.specs.declared.faults.ConflictFault.TheVariants as fault
use Rattle.check_clashes.specs.Breaches.{touched_by, clash_by}

-- one pair of numbers doesn't stand behind another
abbrev pub IsNotAfter : ℕ → ℕ → ℕ → ℕ → Type 0
IsNotAfter a b c d = (a < c) ⊎ ((a ≡ c) × (b ≤ d))

module _ (program : Program) where
  -- no two effects of a construct clash
  abbrev pub HasNoClash : Type 0
  HasNoClash = (k : Construct) → InProgram program (Holds k) → (at other : ℕ) → Clashes program k at other → ⊥

  -- at that token a construct touches that object against the strict rule, at none before it, and no lesser object there
  pub record IsLeastTouched (at object : ℕ) : Type 0 where
    pub touched : (k : Construct) × InProgram program (Holds k) × GlobalTouched program k at object
    pub least : (k : Construct) → InProgram program (Holds k) → (token x : ℕ) → GlobalTouched program k token x → IsNotAfter at object token x

  -- two effects at those tokens clash, and no pair of tokens before that does
  pub record IsLeastClash (at other : ℕ) : Type 0 where
    pub clash : (k : Construct) × InProgram program (Holds k) × ClashPair program k at other
    pub least : (k : Construct) → InProgram program (Holds k) → (token last : ℕ) → ClashPair program k token last → IsNotAfter at other token last

  -- the paths that are granted are just those that threads write: of each construct at its site's number, in a block at the
  -- number of the arm
  pub record AreGrants (grants : Grants) : Type 0 where
    pub written : (g : Grant) → IsIn g grants.owned
        → (k : Construct) × InProgram program (Holds k) × (site_of k ≡ g.site) × ((j : ℕ) → OfThread (is_block k) j g.arm → (a : Access) × IsGranted program k j a × (path_of a ≡ effect_path g.path))
    pub granted : (k : Construct) → InProgram program (Holds k) → (j : ℕ) (a : Access) → IsGranted program k j a
        → (g : Grant) × IsIn g grants.owned × (g.site ≡ site_of k) × OfThread (is_block k) j g.arm × (effect_path g.path ≡ path_of a)

  -- no cell that one thread of a construct may write lies under what another one touches, in whatever iterations of theirs
  abbrev pub AreCellsApart : Construct → Type 0
  AreCellsApart k =
      (now : ℕ → ℕ → Now) → AreDistinct now → (c d : Share) → (c.number ≡ d.number → ⊥) → AreApart c d
      → (writes : Bool) (x n : ℕ) → Under program k now c true x n → Under program k now d writes x n → ⊥

  -- no call breaks the rule on nonblocking text (9.5)
  abbrev pub IsUnblocked : Type 0
  IsUnblocked = (token last : ℕ) → Blocked program token last → ⊥

  -- The strict rule holds where it is asked for, no two effects of a construct clash, and the grants are what its threads
  -- write. Where the program is formed, as that of each text is, and no call breaks the rule on nonblocking text, no two
  -- threads have a race, and no cell that one thread of a construct may write is touched by another.
  pub record IsAdmitted (given : Grants) : Type 0 where
    pub strict : program.strict ≡ true → IsStrict program
    pub apart : HasNoClash
    pub grants : AreGrants given
    pub race_free : IsFormed program → IsUnblocked → IsRaceFree program
    pub lent_apart : IsFormed program → IsUnblocked → (k : Construct) → InProgram program (Holds k) → AreCellsApart k

  -- the least breach of the strict rule, where that is asked for; else the least clash
  abbrev pub Refuses : ConflictFault → Type 0
  Refuses (fault.GlobalTouched at object) = (program.strict ≡ true) × IsLeastTouched at object
  Refuses (fault.Clash at other) = (program.strict ≡ true → IsStrict program) × IsLeastClash at other
  Refuses fault.OutOfMemory = Unit {0}

  abbrev pub Answers : Result Grants ConflictFault → Type 0
  Answers (Ok grants) = IsAdmitted grants
  Answers (Err f) = Refuses f

  -- the same of the two rules alone
  abbrev pub Verdict : Result (Unit {0}) ConflictFault → Type 0
  Verdict (Ok u) = (program.strict ≡ true → IsStrict program) × HasNoClash
  Verdict (Err f) = Refuses f

  abbrev pub TouchedFound : Option Pair → Type 0
  TouchedFound None = IsStrict program
  TouchedFound (Some p) = IsLeastTouched p.first p.second

  abbrev pub ClashFound : Option Pair → Type 0
  ClashFound None = HasNoClash
  ClashFound (Some p) = IsLeastClash p.first p.second

-- Where subprograms call no later ones, what is found of a program's effects is the least breach of each rule.
abbrev pub FoundLaw : Type 0
FoundLaw = (program : Program) (effects : Effects) → CallsBackwards program → AreEffects program effects
    → TouchedFound program (touched_by true effects) × ClashFound program (clash_by effects)
