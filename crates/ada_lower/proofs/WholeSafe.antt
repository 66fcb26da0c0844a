-- On the code of an accepted program each outermost fork is fine, where leases are as they should be.
use Rattle.std.proofs.Common.{◌≡◌, ℕ, List, [], ◌∷◌, Option, Some, None, Result, Ok, Err, Bool, true, refl}
use Rattle.behaviours.specs.Paths.{Entity, Exits, Returns, Raises}
use Rattle.ada_base.specs.Cuts.{cuts_of}
use Rattle.ada_base.specs.Notes.{Schedule, InOrder}
use Rattle.typed_tree.specs.Syntax.{Program}
use Rattle.ada_meaning.specs.Programs.{Setting}
use Rattle.ada_meaning.specs.Stored as stored
use Rattle.ada_meaning.specs.Stored.{Cause, Left, OutOfTurns, NoRoom, CutOff, Misnoted, Team, Visit, ThreadOf, TeamOf}
use Rattle.ada_meaning.specs.Touched.{EachTeam}
use Rattle.ada_meaning.specs.Meaning
use Rattle.ada_meaning.proofs.Unblocked.{blocked_law}
use Rattle.check_effects.specs.Accepted.{IsAccepted}
use Rattle.check_effects.specs.Touching.{IsTeamCovered}
use Rattle.check_effects.proofs.Accepting.{accept_law}
use Rattle.check_effects.proofs.Touching.{touch_law}
use Rattle.stack_code.specs.declared.code.Code.{Code}
use Rattle.stack_code.specs.Valid.{IsCountable}
use Rattle.stack_code.specs.declared.code.CodeSite.{CodeSite}
use Rattle.stack_code.specs.Machine.{Done}
use Rattle.ada_lower.specs.Driven.{Step, Safe, on, off}
use Rattle.ada_lower.specs.Sights.{Named, Sight}
use Rattle.ada_lower.specs.Fits.{Ghost, Lands}
use Rattle.ada_lower.specs.Teams.{AreSound, IsSound, OnePlace}
use Rattle.ada_lower.specs.FittedForks.{Within}
use Rattle.ada_lower.specs.Outset.{outermost, first_dyn, main_ends}
use Rattle.ada_lower.specs.Leased.{leased}
use Rattle.ada_lower.specs.Law.{IsLoweredBy, ViewLaw}
use Rattle.ada_lower.proofs.ForkFuel.{safe_off}
use Rattle.ada_lower.proofs.OnePlace.{one_law}
use Rattle.ada_lower.proofs.Lent.{Lending}
use Rattle.ada_lower.proofs.LeasesLent.{lending_leased}
use Rattle.ada_lower.proofs.Whole.{whole_does}

-- the teams of an accepted program are sound, whatever the notes
pub accepted_sound : (program : Program) (set : Setting) (slots : ℕ) (input before : List ℕ) (notes : Schedule) → Within (cuts_of set.plan) → IsAccepted program → (set.one ≡ true → notes ≡ InOrder)
    → AreSound (Some program) ((stored.noted program set).visits (stored.noted_outset slots input before notes))
accepted_sound program set slots input before notes within accepted alone =
    let keeps = (blocked_law program).1 accepted.unblocked in
    each ((stored.noted program set).visits (stored.noted_outset slots input before notes)) (one_law program set slots input before notes within keeps alone) (touch_law program set slots input before notes keeps alone)
  where
    each : (vs : List Visit) → EachTeam OnePlace vs → EachTeam (IsTeamCovered program) vs → EachTeam (IsSound program) vs
    each [] o k = tt
    each (ThreadOf t ∷ vs) o k = each vs o k
    each (TeamOf t ∷ vs) o k = (((accept_law program accepted).1, o.0, k.0), each vs o.1 k.1)

module _ (lent : Bool → Sight → ℕ → CodeSite → Type 0) (limit : ℕ) (cuts : ℕ → ℕ → List ℕ) (program : Program) (lending : Lending limit cuts (Some program) lent) (within : Within cuts) (c : Code) (globals : ℕ → Entity → Option Named) (mains : Entity → Bool) (texts : List (List ℕ)) (text : List ℕ → ℕ) (frames : ℕ → ℕ) (slots frame depth : ℕ)
    (low : IsLoweredBy lent program c globals mains texts text frames frame depth) (countable : IsCountable c.instrs) where
  abbrev first : List ℕ → List ℕ → Schedule → Step
  first input before notes = on (outermost (Some program)) 0 [] (first_dyn notes cuts frame input before)

  -- wherever the run ends, but where the tables of slots are full, the forks up to there are fine
  lands_safe : (h : Ghost) (from : Step) (t : stored.State) (e : Result (Unit {0}) Cause) → (e ≡ Err NoRoom → ⊥) → Lands limit c (outermost (Some program)) main_ends (λ u. Unit {0}) h from 0 (λ u d. off (Done None) d) t e → Safe limit c true from
  lands_safe h from t (Ok u) room l = l.1.comes.safe (safe_off limit c true _)
  lands_safe h from t (Err (Left (Exits n))) room l = l.comes.safe (safe_off limit c true _)
  lands_safe h from t (Err (Left (Returns v))) room l = l.comes.safe (safe_off limit c true _)
  lands_safe h from t (Err (Left (Raises r))) room l = l.comes.safe (safe_off limit c true _)
  lands_safe h from t (Err OutOfTurns) room l = l.comes.safe (safe_off limit c true _)
  lands_safe h from t (Err CutOff) room l = l.comes.safe (safe_off limit c true _)
  lands_safe h from t (Err Misnoted) room l = l.1.comes.safe (safe_off limit c true _)
  lands_safe h from t (Err NoRoom) room l = absurd (room refl)

  pub whole_safe : (input before : List ℕ) (notes : Schedule) → let m = Meaning.main (stored.noted_operations limit cuts) limit program in AreSound (Some program) (m.visits (stored.noted_outset slots input before notes))
      → ((m.does (stored.noted_outset slots input before notes)).end ≡ Err NoRoom → ⊥) → Safe limit c true (first input before notes)
  whole_safe input before notes sound room =
      let (h, w, l) = whole_does (Some program) lent limit cuts lending within program c globals mains texts text frames slots frame depth countable low.closed low.same_texts low.code low.named low.subs low.main input before notes sound in
      lands_safe h (first input before notes) _ _ room l

-- the same of an accepted program, under a setting's plan
pub accepted_safe : (lent : Bool → Sight → ℕ → CodeSite → Type 0) (program : Program) (set : Setting) → IsAccepted program → Within (cuts_of set.plan) → Lending set.limit (cuts_of set.plan) (Some program) lent
    → (c : Code) (globals : ℕ → Entity → Option Named) (mains : Entity → Bool) (texts : List (List ℕ)) (text : List ℕ → ℕ) (frames : ℕ → ℕ) (slots frame depth : ℕ) → IsLoweredBy lent program c globals mains texts text frames frame depth → IsCountable c.instrs
    → (input before : List ℕ) (notes : Schedule) → (set.one ≡ true → notes ≡ InOrder) → (((stored.noted program set).does (stored.noted_outset slots input before notes)).end ≡ Err NoRoom → ⊥)
    → Safe set.limit c true (on (outermost (Some program)) 0 [] (first_dyn notes (cuts_of set.plan) frame input before))
accepted_safe lent program set accepted within lending c globals mains texts text frames slots frame depth low countable input before notes alone room =
    whole_safe lent set.limit (cuts_of set.plan) program lending within c globals mains texts text frames slots frame depth low countable input before notes (accepted_sound program set slots input before notes within accepted alone) room

-- whatever its constructs go through
pub view_law : ViewLaw
view_law program set accepted within c globals mains texts text frames slots frame depth low countable input before notes alone room =
    accepted_safe (leased program) program set accepted within (lending_leased set.limit (cuts_of set.plan) program) c globals mains texts text frames slots frame depth low countable input before notes alone room
