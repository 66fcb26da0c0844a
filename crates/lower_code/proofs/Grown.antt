-- Tables of bodies that grow by an instruction.
use Rattle.std.proofs.Common.{◌≡◌, ◌+◌, ◌∙◌, ◌≤◌, ℕ, zero, suc, List, [], ◌∷◌, ◌++◌, drop, length, refl, sym, ap, arith}
use Rattle.std.specs.Prelude.{Bool, true, false, cond, nat_eq, get_or, slice_get, slice_set, Some, None}
use Rattle.std.proofs.lemmas.Bool.{ne_eqb, eq-eqb}
use Rattle.std.proofs.Math.ListN.{drop_of_length-le}
use Rattle.stack_code.specs.declared.code.Around.{Around}
use Rattle.stack_code.specs.declared.code.Around.TheVariants.{Sub, Site}
use Rattle.stack_code.specs.declared.code.CodeSite.{CodeSite}
use Rattle.stack_code.specs.declared.code.CodeSub.{CodeSub}
use Rattle.stack_code.specs.declared.code.Lease.{Lease}
use Rattle.stack_code.specs.declared.instr.Instr.{Instr}
use Rattle.stack_code.specs.declared.instr.Instr.TheVariants.{Fork}
use Rattle.lower_emission.specs.declared.types.Need.{Need}
use Rattle.lower_emission.specs.declared.types.Placed.{Placed}
use Rattle.lower_emission.specs.Programs.{fork_at, is_body, is_fork, raised, site_by, sub_by}
use Rattle.lower_code.specs.declared.body_tables.Begun.{Begun}
use Rattle.lower_code.specs.declared.body_tables.Start.{Start}
use Rattle.lower_code.specs.BodyTables.{each, sub_with, subs_by, sub_after, needing, forking, site_with, site_after, sites_from}
use Rattle.lower_code.proofs.Each.{Alone, each_all, each_set, each_none, each_each}
use Rattle.lower_code.proofs.TableSteps.{drop_at, pushed}

-- ---- whose body it is

pub same_number : (k : ℕ) → nat_eq k k ≡ true
same_number k = eq-eqb k k refl

in_sub : (j k : ℕ) (b : Around) → b ≡ Sub j → is_body (Sub k) b ≡ nat_eq k j
in_sub j k b e = ap (is_body (Sub k)) e

in_site : (j k : ℕ) (b : Around) → b ≡ Site j → is_body (Site k) b ≡ nat_eq k j
in_site j k b e = ap (is_body (Site k)) e

pub forks_by : (j k : ℕ) (i : Instr) → i ≡ Fork j → is_fork k i ≡ nat_eq k j
forks_by j k i e = ap (is_fork k) e

pub forks_none : (k : ℕ) (i : Instr) → ((n : ℕ) → i ≡ Fork n → ⊥) → is_fork k i ≡ false
forks_none k (Fork n) h = absurd (h n refl)
forks_none k i h = refl

-- ---- subprograms

abbrev sub_with_by : Placed → Start → Bool → Start
sub_with_by p s x = record { entry = s.entry; need = cond x (raised s.need p) s.need; gives = s.gives }

sub_alone : (p : Placed) (j : ℕ) → p.body ≡ Sub j → Alone (λ k s. sub_with p k s) j
sub_alone p j e n s h = ap (sub_with_by p s) (in_sub j n p.body e ∙ ne_eqb n j h)

pub sub_set : (p : Placed) (ss : List Start) (j : ℕ) (s : Start) (n : Need) → p.body ≡ Sub j → slice_get ss j ≡ Some s → n ≡ raised s.need p → slice_set ss j (record { entry = s.entry; need = n; gives = s.gives }) ≡ each (λ k s. sub_with p k s) 0 ss
sub_set p ss j s n e g h =
    let z : sub_with p j s ≡ sub_with_by p s true = ap (sub_with_by p s) (in_sub j j p.body e ∙ same_number j) in
    ap (λ m. slice_set ss j (record { entry = s.entry; need = m; gives = s.gives })) h ∙ sym (each_set (λ k s. sub_with p k s) j ss s (sub_alone p j e) g ∙ ap (slice_set ss j) z)

pub sub_none : (p : Placed) (ss : List Start) (j : ℕ) → p.body ≡ Sub j → slice_get ss j ≡ None → each (λ k s. sub_with p k s) 0 ss ≡ ss
sub_none p ss j e g = each_none (λ k s. sub_with p k s) j ss (sub_alone p j e) g

pub sub_other : (p : Placed) (ss : List Start) (j : ℕ) → p.body ≡ Site j → each (λ k s. sub_with p k s) 0 ss ≡ ss
sub_other p ss j e = each_all (λ k s. sub_with p k s) ss (λ n s. ap (sub_with_by p s) (ap (is_body (Sub n)) e))

subs_step : (c : List Placed) (at : ℕ) (p : Placed) (ss : List Start) → drop at c ≡ p ∷ drop (at + 1) c → each (λ k s. sub_after (drop (at + 1) c) k s) 0 (each (λ k s. sub_with p k s) 0 ss) ≡ each (λ k s. sub_after (drop at c) k s) 0 ss
subs_step c at p ss e = each_each (λ k s. sub_after (drop (at + 1) c) k s) (λ k s. sub_with p k s) 0 ss ∙ ap (λ l. each (λ k s. sub_after l k s) 0 ss) (sym e)

pub subs_end : (c : List Placed) (at : ℕ) (ss : List Start) → length c ≤ at → each (λ k s. sub_after (drop at c) k s) 0 ss ≡ ss
subs_end c at ss e = ap (λ l. each (λ k s. sub_after l k s) 0 ss) (drop_of_length-le c e) ∙ each_all (λ k s. sub_after [] k s) ss (λ n s. refl)

-- ---- constructs

abbrev needing_by : Placed → Begun → Bool → Begun
needing_by p b x = record { fork = b.fork; need = cond x (raised b.need p) b.need }

need_alone : (p : Placed) (j : ℕ) → p.body ≡ Site j → Alone (λ k b. needing p k b) j
need_alone p j e n b h = ap (needing_by p b) (in_site j n p.body e ∙ ne_eqb n j h)

pub need_set : (p : Placed) (bs : List Begun) (j : ℕ) (b : Begun) (n : Need) → p.body ≡ Site j → slice_get bs j ≡ Some b → n ≡ raised b.need p → slice_set bs j (record { fork = b.fork; need = n }) ≡ each (λ k b. needing p k b) 0 bs
need_set p bs j b n e g h =
    let z : needing p j b ≡ needing_by p b true = ap (needing_by p b) (in_site j j p.body e ∙ same_number j) in
    ap (λ m. slice_set bs j (record { fork = b.fork; need = m })) h ∙ sym (each_set (λ k b. needing p k b) j bs b (need_alone p j e) g ∙ ap (slice_set bs j) z)

pub need_none : (p : Placed) (bs : List Begun) (j : ℕ) → p.body ≡ Site j → slice_get bs j ≡ None → each (λ k b. needing p k b) 0 bs ≡ bs
need_none p bs j e g = each_none (λ k b. needing p k b) j bs (need_alone p j e) g

pub need_other : (p : Placed) (bs : List Begun) (j : ℕ) → p.body ≡ Sub j → each (λ k b. needing p k b) 0 bs ≡ bs
need_other p bs j e = each_all (λ k b. needing p k b) bs (λ n b. ap (needing_by p b) (ap (is_body (Site n)) e))

abbrev forking_by : ℕ → Placed → Begun → Bool → Begun
forking_by at p b x = record { fork = cond x (fork_at at p) b.fork; need = b.need }

fork_alone : (at : ℕ) (p : Placed) (j : ℕ) → p.instr ≡ Fork j → Alone (λ k b. forking at p k b) j
fork_alone at p j e n b h = ap (forking_by at p b) (forks_by j n p.instr e ∙ ne_eqb n j h)

pub fork_set : (at : ℕ) (p : Placed) (bs : List Begun) (j : ℕ) (b : Begun) → p.instr ≡ Fork j → slice_get bs j ≡ Some b → slice_set bs j (record { fork = fork_at at p; need = b.need }) ≡ each (λ k b. forking at p k b) 0 bs
fork_set at p bs j b e g =
    let z : forking at p j b ≡ forking_by at p b true = ap (forking_by at p b) (forks_by j j p.instr e ∙ same_number j) in
    sym (each_set (λ k b. forking at p k b) j bs b (fork_alone at p j e) g ∙ ap (slice_set bs j) z)

pub fork_none : (at : ℕ) (p : Placed) (bs : List Begun) (j : ℕ) → p.instr ≡ Fork j → slice_get bs j ≡ None → each (λ k b. forking at p k b) 0 bs ≡ bs
fork_none at p bs j e g = each_none (λ k b. forking at p k b) j bs (fork_alone at p j e) g

pub fork_other : (at : ℕ) (p : Placed) (bs : List Begun) → ((n : ℕ) → p.instr ≡ Fork n → ⊥) → each (λ k b. forking at p k b) 0 bs ≡ bs
fork_other at p bs h = each_all (λ k b. forking at p k b) bs (λ n b. ap (forking_by at p b) (forks_none n p.instr h))

sites_step : (c : List Placed) (at : ℕ) (p : Placed) (bs : List Begun) → slice_get c at ≡ Some p →
    each (λ k b. site_after (at + 1) (drop (at + 1) c) k b) 0 (each (λ k b. forking at p k b) 0 (each (λ k b. needing p k b) 0 bs)) ≡ each (λ k b. site_after at (drop at c) k b) 0 bs
sites_step c at p bs e =
    ap (each (λ k b. site_after (at + 1) (drop (at + 1) c) k b) 0) (each_each (λ k b. forking at p k b) (λ k b. needing p k b) 0 bs)
    ∙ (each_each (λ k b. site_after (at + 1) (drop (at + 1) c) k b) (λ k b. site_with at p k b) 0 bs ∙ ap (λ l. each (λ k b. site_after at l k b) 0 bs) (sym (drop_at c at p e)))

pub sites_end : (c : List Placed) (at : ℕ) (bs : List Begun) → length c ≤ at → each (λ k b. site_after at (drop at c) k b) 0 bs ≡ bs
sites_end c at bs e = ap (λ l. each (λ k b. site_after at l k b) 0 bs) (drop_of_length-le c e) ∙ each_all (λ k b. site_after at [] k b) bs (λ n b. refl)

-- ---- with leases

lease_here : (leases : List (List Lease)) (k : ℕ) → get_or (drop k leases) 0 [] ≡ get_or leases k []
lease_here [] zero = refl
lease_here [] (suc k) = refl
lease_here (l ∷ ls) zero = refl
lease_here (l ∷ ls) (suc k) = lease_here ls k

drop_empty : (k : ℕ) → drop {A = List Lease} k [] ≡ []
drop_empty zero = refl
drop_empty (suc k) = refl

pub lease_next : (leases : List (List Lease)) (k : ℕ) → drop 1 (drop k leases) ≡ drop (k + 1) leases
lease_next [] zero = refl
lease_next [] (suc k) = sym (drop_empty (suc k + 1))
lease_next (l ∷ ls) zero = refl
lease_next (l ∷ ls) (suc k) = lease_next ls k ∙ ap (λ n. drop n (l ∷ ls)) (let q : suc (k + 1) ≡ suc k + 1 = omega arith in q)

pub leased_kept : (leases : List (List Lease)) (k : ℕ) (bs : List Begun) (b : Begun) (l : List Lease) (site : CodeSite) (rest : List (List Lease)) (all new whole : List CodeSite) → drop k bs ≡ b ∷ drop (k + 1) bs →
    l ≡ get_or rest 0 [] → rest ≡ drop k leases → site ≡ site_by b.fork b.need l → new ≡ all ++ (site ∷ []) →
    all ++ sites_from leases k (drop k bs) ≡ whole → new ++ sites_from leases (k + 1) (drop (k + 1) bs) ≡ whole
leased_kept leases k bs b l site rest all new whole e g h d f i =
    let same : l ≡ get_or leases k [] = g ∙ (ap (λ r. get_or r 0 []) h ∙ lease_here leases k) in
    pushed all new site (site_by b.fork b.need (get_or leases k [])) (sites_from leases (k + 1) (drop (k + 1) bs)) (sites_from leases k (drop k bs)) whole (d ∙ ap (site_by b.fork b.need) same) f (ap (sites_from leases k) e) i

-- ---- from one instruction to the next

pub subs_kept : (c : List Placed) (at : ℕ) (p : Placed) (old new all : List Start) → drop at c ≡ p ∷ drop (at + 1) c → new ≡ each (λ k s. sub_with p k s) 0 old →
    each (λ k s. sub_after (drop at c) k s) 0 old ≡ all → each (λ k s. sub_after (drop (at + 1) c) k s) 0 new ≡ all
subs_kept c at p old new all e f g = ap (each (λ k s. sub_after (drop (at + 1) c) k s) 0) f ∙ (subs_step c at p old e ∙ g)

pub sites_kept : (c : List Placed) (at next : ℕ) (p : Placed) (old mid new all : List Begun) → slice_get c at ≡ Some p → next ≡ at + 1 → mid ≡ each (λ k b. needing p k b) 0 old → new ≡ each (λ k b. forking at p k b) 0 mid →
    each (λ k b. site_after at (drop at c) k b) 0 old ≡ all → each (λ k b. site_after next (drop next c) k b) 0 new ≡ all
sites_kept c at next p old mid new all e n f g h =
    ap (λ m. each (λ k b. site_after m (drop m c) k b) 0 new) n ∙ (ap (each (λ k b. site_after (at + 1) (drop (at + 1) c) k b) 0) (g ∙ ap (each (λ k b. forking at p k b) 0) f) ∙ (sites_step c at p old e ∙ h))

pub subs_by_kept : (ss : List Start) (at : ℕ) (s : Start) (sub : CodeSub) (all new whole : List CodeSub) → drop at ss ≡ s ∷ drop (at + 1) ss → sub ≡ sub_by s.entry s.need s.gives → new ≡ all ++ (sub ∷ []) →
    all ++ subs_by (drop at ss) ≡ whole → new ++ subs_by (drop (at + 1) ss) ≡ whole
subs_by_kept ss at s sub all new whole e d f g = pushed all new sub (sub_by s.entry s.need s.gives) (subs_by (drop (at + 1) ss)) (subs_by (drop at ss)) whole d f (ap subs_by e) g
