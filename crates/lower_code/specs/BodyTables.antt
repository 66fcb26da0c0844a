-- The tables of bodies, as they grow by one instruction after another.
use Rattle.std.specs.Prelude.{ℕ, ◌+◌, replicate, get_or, List, [], ◌∷◌, Bool, true, false, cond}
use Rattle.stack_code.specs.declared.code.Around.TheVariants as body
use Rattle.stack_code.specs.declared.code.CodeSite.{CodeSite}
use Rattle.stack_code.specs.declared.code.CodeSub.{CodeSub}
use Rattle.stack_code.specs.declared.code.Lease.{Lease}
use Rattle.lower_emission.specs.declared.types.Placed.{Placed}
use Rattle.lower_emission.specs.Programs.{at_least, fork_at, is_body, is_fork, no_fork, raised, site_by, sub_by}
use Rattle.lower_code.specs.declared.body_tables.Begun.{Begun}
use Rattle.lower_code.specs.declared.body_tables.Start.{Start}

-- each item of a table, by its number
abbrev pub each : {A : Type 0} → (ℕ → A → A) → ℕ → List A → List A
each f k [] = []
each f k (x ∷ xs) = f k x ∷ each f (k + 1) xs

-- ---- subprograms

-- that of a number by one instruction, and by all
abbrev pub sub_with : Placed → ℕ → Start → Start
sub_with p k s = record { entry = s.entry; need = cond (is_body (body.Sub k) p.body) (raised s.need p) s.need; gives = s.gives }

abbrev pub sub_after : List Placed → ℕ → Start → Start
sub_after [] k s = s
sub_after (p ∷ ps) k s = sub_after ps k (sub_with p k s)

abbrev pub subs_by : List Start → List CodeSub
subs_by [] = []
subs_by (s ∷ ss) = sub_by s.entry s.need s.gives ∷ subs_by ss

-- the table of subprograms that begin there
abbrev pub sub_table : List Placed → List Start → List CodeSub
sub_table c ss = subs_by (each (λ k s. sub_after c k s) 0 ss)

-- ---- constructs

abbrev pub needing : Placed → ℕ → Begun → Begun
needing p k b = record { fork = b.fork; need = cond (is_body (body.Site k) p.body) (raised b.need p) b.need }

abbrev pub forking : ℕ → Placed → ℕ → Begun → Begun
forking at p k b = record { fork = cond (is_fork k p.instr) (fork_at at p) b.fork; need = b.need }

abbrev pub site_with : ℕ → Placed → ℕ → Begun → Begun
site_with at p k b = forking at p k (needing p k b)

abbrev pub site_after : ℕ → List Placed → ℕ → Begun → Begun
site_after at [] k b = b
site_after at (p ∷ ps) k b = site_after (at + 1) ps k (site_with at p k b)

abbrev pub fresh : Begun
fresh = record { fork = no_fork; need = at_least 4 }

-- with the leases of each, from a number on
abbrev pub sites_from : List (List Lease) → ℕ → List Begun → List CodeSite
sites_from leases k [] = []
sites_from leases k (b ∷ bs) = site_by b.fork b.need (get_or leases k []) ∷ sites_from leases (k + 1) bs

-- the table of so many
abbrev pub site_table : List Placed → List (List Lease) → ℕ → List CodeSite
site_table c leases count = sites_from leases 0 (each (λ k b. site_after 0 c k b) 0 (replicate count fresh))

-- ---- which constructs have a fork

abbrev pub flagging : Placed → ℕ → Bool → Bool
flagging p k b = cond (is_fork k p.instr) true b

abbrev pub flag_after : List Placed → ℕ → Bool → Bool
flag_after [] k b = b
flag_after (p ∷ ps) k b = flag_after ps k (flagging p k b)

-- of so many
abbrev pub fork_flags : List Placed → ℕ → List Bool
fork_flags c count = each (λ k b. flag_after c k b) 0 (replicate count false)
