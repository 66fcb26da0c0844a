-- The code of a program does what its noted stored run does, in order and by any notes: the main procedure begins at its first
-- instruction, and each subprogram where it is listed.
use Rattle.std.proofs.Common.{◌≡◌, ℕ, pos, List, [], replicate, Option, None, Ok, Bool}
use Rattle.behaviours.specs.Paths.{Entity}
use Rattle.typed_tree.specs.Syntax.{Expr, Stmt, Program}
use Rattle.ada_meaning.specs.Operations.{Operations}
use Rattle.ada_base.specs.Notes.{Schedule}
use Rattle.ada_meaning.specs.Stored as stored
use Rattle.ada_meaning.specs.Meaning
use Rattle.stack_code.specs.declared.code.Code.{Code}
use Rattle.stack_code.specs.Valid.{IsCountable}
use Rattle.stack_code.specs.Machine.{Done, begun}
use Rattle.ada_base.specs.Cells.{Mine}
use Rattle.ada_lower.specs.Driven.{Dyn, Fixed, Finally, On, on, off, Alike}
use Rattle.ada_lower.proofs.Alike.{alike}
use Rattle.ada_lower.specs.Teams.{AreSound}
use Rattle.ada_lower.specs.Sights.{Named, Sight}
use Rattle.ada_lower.specs.FittedForks.{FittedForks, FittedReductions, Within}
use Rattle.ada_lower.specs.Bodies.{main_scope, MainFitted, AllStand}
use Rattle.ada_lower.specs.ProgramCode.{AreNamed, IsCodeOf, AllFit}
use Rattle.typed_scopes.specs.Outs.{AllClosed}
use Rattle.ada_lower.proofs.Calls.{CallsDo}
use Rattle.ada_lower.proofs.Mains.{Ending}
use Rattle.ada_lower.proofs.ExecLeaves.{call_only}
use Rattle.ada_lower.proofs.ForkDoes.{forks_do}
use Rattle.ada_lower.proofs.FoldDoes.{folds_do}
use Rattle.ada_lower.proofs.Rounds.{with_rounds}
use Rattle.ada_lower.proofs.ForkLaws.{ForksDo}
use Rattle.ada_lower.proofs.ProgramStands.{main_to, main_there, all_stand}
use Rattle.ada_lower.specs.Homes.{main_variables}
use Rattle.ada_lower.specs.Law.{AreFinals}
use Rattle.ada_lower.proofs.Main.{outermost, first_dyn, main_ends, program_does, program_gives}
use Rattle.ada_lower.proofs.Lent.{Lending}
use Rattle.stack_code.specs.declared.code.CodeSite.{CodeSite}

module _ (asked : Option Program) (lent : Bool → Sight → ℕ → CodeSite → Type 0) (limit : ℕ) (cuts : ℕ → ℕ → List ℕ) (lending : Lending limit cuts asked lent) (within : Within cuts) (program : Program) (c : Code) (globals : ℕ → Entity → Option Named) (mains : Entity → Bool) (texts : List (List ℕ)) (text : List ℕ → ℕ) (frames : ℕ → ℕ) (slots frame depth : ℕ) where
  abbrev ops : Operations {1}
  ops = stored.noted_operations limit cuts

  -- what reductions with a site owe, and parallel constructs, within one another to that depth in the text
  abbrev pub Folds : Sight → Expr → Type 0
  Folds = FittedReductions program globals mains lent c depth

  abbrev pub Par : Sight → Stmt → Type 0
  Par = FittedForks program globals mains lent c depth

  module _ (countable : IsCountable c.instrs) (closed : AllClosed program) (same_texts : texts ≡ c.texts) (code : IsCodeOf program text c) (named : AreNamed program text globals) (fit : AllFit program text globals mains texts frames Folds Par c)
      (fitted : MainFitted program globals mains texts text frames Folds Par (main_scope program globals mains texts text frames frame)) where
    pub pars : (f : Fixed) → f.asked ≡ asked → (n : ℕ) (all : (f' : Fixed) → Alike f' f → CallsDo limit cuts program globals mains c f' (Meaning.call ops limit program n)) → ForksDo limit cuts program globals mains Folds Par c f (Meaning.call ops limit program n) (λ rs. all (with_rounds rs f) (alike f))
    pars f fa n all = record {
      forked = λ rs. folds_do asked lent limit cuts lending within program c globals mains depth (with_rounds rs f) fa (Meaning.call ops limit program n) (call_only limit cuts program closed n) all;
      parallel = forks_do asked lent limit cuts lending within program c globals mains depth f fa (Meaning.call ops limit program n) (call_only limit cuts program closed n) all;
    }

    pub stood : AllStand program globals mains texts text frames Folds Par c
    stood = all_stand program globals mains texts text frames c code named Folds Par fit

    -- the main procedure's variables stand in their cells
    pub whole_does : (input before : List ℕ) (notes : Schedule) → AreSound asked ((Meaning.main ops limit program).visits (stored.noted_outset slots input before notes)) → let r = (Meaning.main ops limit program).does (stored.noted_outset slots input before notes) in
        Ending limit c (outermost asked) main_ends (main_variables program 0 program.body.decls) (on (outermost asked) 0 [] (first_dyn notes cuts frame input before)) 0 (λ d. off (Done None) d) r.state r.end
    whole_does = program_does asked limit cuts program c globals mains Folds texts text frames Par slots frame countable same_texts (call_only limit cuts program closed 1000) pars stood 0 (main_to program globals mains texts text frames c code named) (main_there program globals mains texts text frames c code named frame) fitted

    -- where the stored run gives a value, the machine ends, with the same output, turns and finals
    pub whole_gives : (input before : List ℕ) (notes : Schedule) → AreSound asked ((Meaning.main ops limit program).visits (stored.noted_outset slots input before notes)) → let r = (Meaning.main ops limit program).does (stored.noted_outset slots input before notes) in r.end ≡ Ok tt
        → (d : Dyn) × Finally limit c (On (record { state = begun 0 0 [] 0 0 0 None (replicate frame (Mine (pos 0))); world = (first_dyn notes cuts frame input before).world })) (record { how = Done None; dyn = d }) × (d.world.output ≡ r.state.output) × (d.turns ≡ r.state.turns)
        × AreFinals (main_variables program 0 program.body.decls) r.state d
    whole_gives = program_gives asked limit cuts program c globals mains Folds texts text frames Par slots frame countable same_texts (call_only limit cuts program closed 1000) pars stood 0 (main_to program globals mains texts text frames c code named) (main_there program globals mains texts text frames c code named frame) fitted
