-- A machine that passed a look asked, and nobody told.
use Rattle.std.proofs.Common.{◌≡◌, ℕ, Bool, true, false, sym, ◌∙◌}
use Rattle.std.proofs.lemmas.Bool.{false≢true}
use Rattle.leave_board.specs.Halts.{Heeds}
use Rattle.leave_board.proofs.Heeding.{heeds_on, heeds_same, heeds_none}
use Rattle.ada_machine.specs.declared.machine.Stop as stops
use Rattle.ada_machine.specs.declared.machine.Stop.TheVariants as stop
use Rattle.ada_machine.specs.declared.machine.Went as wents
use Rattle.ada_machine.specs.declared.machine.Went.TheVariants as went
use Rattle.ada_machine.specs.States.{HeedsAt, HeedsBy}

-- it asked, and the answer was no
pub unheard : (told told' : Type 0) (looks looks' : ℕ) (b : Bool) → b ≡ false → (told' → b ≡ true) → Heeds told told' looks looks'
unheard told told' looks looks' b e f = heeds_none told told' looks looks' (λ t. false≢true (sym e ∙ f t))

pub heeds_at : (s : stops.Stop) (told told' : Type 0) (looks looks' : ℕ) → Heeds told told' looks looks' → HeedsAt s told told' looks looks'
heeds_at (stop.Done v) told told' looks looks' h = h
heeds_at (stop.Left x) told told' looks looks' h = h
heeds_at (stop.Construct a) told told' looks looks' h = h
heeds_at (stop.Ask io) told told' looks looks' h = h
heeds_at stop.Spent told told' looks looks' h = h
heeds_at stop.Paused told told' looks looks' h = tt
heeds_at stop.NoMemory told told' looks looks' h = h

-- it asked nobody, and passed no look
pub quiet_heeds : (w : wents.Went) (told : Type 0) (looks looks' : ℕ) → looks' ≡ looks → HeedsBy w told told looks looks'
quiet_heeds went.On told looks looks' e = heeds_same told looks looks' e
quiet_heeds went.Raising told looks looks' e = heeds_same told looks looks' e
quiet_heeds (went.Stopped s) told looks looks' e = heeds_at s told told looks looks' (heeds_same told looks looks' e)

-- a stop after steps that went on
pub heeds_later : (s : stops.Stop) (a b c : Type 0) (m n o : ℕ) → Heeds a b m n → HeedsAt s b c n o → HeedsAt s a c m o
heeds_later (stop.Done v) a b c m n o f h = heeds_on a b c m n o f h
heeds_later (stop.Left x) a b c m n o f h = heeds_on a b c m n o f h
heeds_later (stop.Construct x) a b c m n o f h = heeds_on a b c m n o f h
heeds_later (stop.Ask io) a b c m n o f h = heeds_on a b c m n o f h
heeds_later stop.Spent a b c m n o f h = heeds_on a b c m n o f h
heeds_later stop.Paused a b c m n o f h = tt
heeds_later stop.NoMemory a b c m n o f h = heeds_on a b c m n o f h
