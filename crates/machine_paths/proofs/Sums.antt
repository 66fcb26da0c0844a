-- The laws, put together.
use Rattle.std.proofs.Common.{◌≡◌, ◌+◌, ◌++◌, Some, map, refl, sym, ap, ◌∙◌, subst}
use Rattle.ada_lower.specs.Driven.{On, Forks, thread_at, goes}
use Rattle.ada_lower.proofs.ForkFuel.{goes_by}
use Rattle.machine_paths.specs.Law.{StepLaw, WorldLaw, StartLaw, NestedLaw, EnoughLaw, LeaveLaw}
use Rattle.ada_base.specs.Cells.{Mine}
use Rattle.machine_paths.specs.Starting.{thread_start}
use Rattle.machine_paths.proofs.Enough.{begun_enough}
use Rattle.machine_paths.proofs.Hushes.{begun_stands, leaves_well}
use Rattle.machine_paths.specs.Silent.{silently, Leads}
use Rattle.machine_paths.specs.Threads.{starts, quiet, outcome_of, enough}
use Rattle.machine_paths.specs.Noting.{turns_of}
use Rattle.machine_paths.specs.Constructing.{answered_by}
use Rattle.machine_paths.proofs.Worlds.{in_step, silently_in, silently_more, silently_goes, silently_world}
use Rattle.machine_paths.proofs.Started.{own_cells, as_threads}
use Rattle.machine_paths.proofs.Constructs.{ordered_comes, ordered_leads, answer_one}

pub step_law : StepLaw
step_law limit c n k x e is = let h = silently_more limit c n k x e is in (h, silently_goes limit c (n + k) x e h)

pub world_law : WorldLaw
world_law limit c w o x e i h = silently_world limit c w o h.0 x e i h.1

pub start_law : StartLaw
start_law limit c plan site q p top from w planned m le k before sizes =
    as_threads limit c plan site q p top from w planned (λ x. goes limit c m x) (λ x e h. goes_by limit c (enough limit c) m x e le (silently_goes limit c (enough limit c) x e h)) k before sizes

pub nested_law : NestedLaw
nested_law limit c plan q p site at left planned notes chosen os ds fine is =
    let a = ordered_comes limit c plan q p site at left planned notes chosen os ds fine is in
    let b = ordered_leads limit c plan q p site at left planned notes chosen os ds fine is in (
      a.0,
      a.1,
      a.2,
      subst (λ how. Leads limit c (Forks q p) (answered_by c site q p ds (turns_of p.state.turns os) how)) (answer_one chosen os b.0 a.0 b.1 a.1) b.2,
    )

pub enough_law : EnoughLaw
enough_law limit c told valid forward later hushed plan site q low p at forked top from le j n cs w notes planned e f =
    let s = thread_start limit c plan site q p.state top from j in
    let x = thread_at c top site q p (record { cells = cs; turns = from; left = n; world = w }) j in
    let own = own_cells site.frame q j in
    let ran : silently limit c (enough limit c) (On x) ≡ Some e = begun_enough limit c told valid forward later hushed q.site site at x e (begun_stands c valid q.site site low p.state top from p.state.calls p.state.nested n x.state.cells at forked) refl refl le notes f in
    let same : in_step (quiet plan) (On x) ≡ On (starts s.path n (cs ++ map Mine s.own)) = ap (λ l. in_step (quiet plan) (On (record { state = record x.state { cells = cs ++ l }; world = w }))) (sym own) in
    ap (λ y. outcome_of s.path (silently limit c (enough limit c) y)) (sym same) ∙ ap (outcome_of s.path) (silently_in limit c w (quiet plan) notes refl (sym planned) (enough limit c) (On x) e refl ran)

pub leave_law : LeaveLaw
leave_law limit c k site valid at s t l h e = leaves_well c valid limit k site at s l t h e
