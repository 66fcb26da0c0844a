-- Threads of a program without races may as well begin all at once, each with cells of its own.
use Rattle.std.proofs.Common.{ℕ, suc, ◌<◌, ◌≤◌, List, [], ◌∷◌, ◌++◌, ◌⊎◌, inl, inr, refl, sym, subst, ap, arith}
use Rattle.ada_meaning.specs.Stored.{State, Address, Touch, Thread, Team, Visit, ThreadOf, TeamOf, noted, noted_outset}
use Rattle.ada_meaning.specs.Touched.{Before, WrittenIn, TouchedIn, EachTeam, IsAmong, IsApart, IsJoin, IsLined, IsView, Leaves, Rises, touches_of, ViewLaw}
use Rattle.behaviours.specs.Joins.{Share}
use Rattle.ada_meaning.proofs.Framed.{before_grown}
use Rattle.ada_meaning.proofs.TeamsApart.{apart_law}
use Rattle.ada_meaning.proofs.Chained.{join_law}

team_both : (F G H : Team → Type 0) → ((t : Team) → F t → G t → H t) → (vs : List Visit) → EachTeam F vs → EachTeam G vs → EachTeam H vs
team_both F G H f [] h k = tt
team_both F G H f (ThreadOf t ∷ vs) h k = team_both F G H f vs h k
team_both F G H f (TeamOf t ∷ vs) h k = (f t h.0 k.0, team_both F G H f vs h.1 k.1)

written_touched : (ts : List Touch) (a : Address) → WrittenIn ts a → TouchedIn ts a
written_touched [] a w = absurd w
written_touched (t ∷ ts) a (inl w) = inl w.1
written_touched (t ∷ ts) a (inr w) = inr (written_touched ts a w)

written_append : (ts us : List Touch) (a : Address) → WrittenIn (ts ++ us) a → WrittenIn ts a ⊎ WrittenIn us a
written_append [] us a w = inr w
written_append (t ∷ ts) us a (inl w) = inl (inl w)
written_append (t ∷ ts) us a (inr w) = go (written_append ts us a w)
  where
    go : WrittenIn ts a ⊎ WrittenIn us a → WrittenIn (t ∷ ts) a ⊎ WrittenIn us a
    go (inl h) = inl (inr h)
    go (inr h) = inr h

-- one of the threads wrote it
writer : (bs : List Thread) (a : Address) → WrittenIn (touches_of bs) a → (c : Thread) × IsAmong c bs × WrittenIn c.touches a
writer [] a w = absurd w
writer (b ∷ bs) a w = go (λ z. writer bs a z) (written_append b.touches (touches_of bs) a w)
  where
    later : (c : Thread) × IsAmong c bs × WrittenIn c.touches a → (c : Thread) × IsAmong c (b ∷ bs) × WrittenIn c.touches a
    later (c, i, h) = (c, inr i, h)

    go : (WrittenIn (touches_of bs) a → (c : Thread) × IsAmong c bs × WrittenIn c.touches a) → WrittenIn b.touches a ⊎ WrittenIn (touches_of bs) a → (c : Thread) × IsAmong c (b ∷ bs) × WrittenIn c.touches a
    go f (inl h) = (b, inl refl, h)
    go f (inr h) = later (f h)

among_front : (c : Thread) (front rest : List Thread) → IsAmong c front → IsAmong c (front ++ rest)
among_front c [] rest i = absurd i
among_front c (d ∷ front) rest (inl e) = inl e
among_front c (d ∷ front) rest (inr i) = inr (among_front c front rest i)

among_back : (c : Thread) (front rest : List Thread) → IsAmong c rest → IsAmong c (front ++ rest)
among_back c [] rest i = i
among_back c (d ∷ front) rest i = inr (among_back c front rest i)

-- numbers tell threads apart

least : (n : ℕ) (bs : List Thread) (c : Thread) → Rises n bs → IsAmong c bs → n ≤ c.share.number
least n [] c r i = absurd i
least n (b ∷ bs) c r (inl e) = let z = ap (λ (t : Thread). t.share.number) e in let y = r.0 in omega arith
least n (b ∷ bs) c r (inr i) = let z = least (suc b.share.number) bs c r.1 i in let y = r.0 in omega arith

rises_behind : (n : ℕ) (front : List Thread) (b : Thread) (back : List Thread) → Rises n (front ++ (b ∷ back)) → Rises (suc b.share.number) back
rises_behind n [] b back r = r.1
rises_behind n (c ∷ front) b back r = rises_behind (suc c.share.number) front b back r.1

front_less : (n : ℕ) (front : List Thread) (b : Thread) (back : List Thread) (c : Thread) → Rises n (front ++ (b ∷ back)) → IsAmong c front → c.share.number < b.share.number
front_less n [] b back c r i = absurd i
front_less n (d ∷ front) b back c r (inl e) = let z = ap (λ (t : Thread). t.share.number) e in let y = least (suc d.share.number) (front ++ (b ∷ back)) b r.1 (among_back b front (b ∷ back) (inl refl)) in omega arith
front_less n (d ∷ front) b back c r (inr i) = front_less (suc d.share.number) front b back c r.1 i

view_of : (t : Team) → IsApart t → IsLined t × IsJoin t × Leaves t.begun t.ended (touches_of t.threads) → IsView t
view_of t apart (lined, join, all) front b back e a before = (
  (λ touched. (j.0).others a before (λ w. let c = writer front a w in apart c.0 b (listed c.0 (among_front c.0 front (b ∷ back) c.1)) here (λ same. let lt = front_less 0 front b back c.0 rises c.1 in let eq = ap number same in omega arith) a before c.2 touched)),
  (λ written. (j.2).others a there (λ w. let c = writer back a w in apart b c.0 here (listed c.0 (among_back c.0 front (b ∷ back) (inr c.1))) (λ same. let le = least (suc b.share.number) back c.0 (rises_behind 0 front b back rises) c.1 in let eq = ap number same in omega arith) a before written (written_touched (c.0).touches a c.2))),
)
  where
    number : Share → ℕ
    number s = s.number

    j : Leaves t.begun b.begun (touches_of front) × Leaves b.begun b.ended b.touches × Leaves b.ended t.ended (touches_of back)
    j = join front b back e

    rises : Rises 0 (front ++ (b ∷ back))
    rises = subst (Rises 0) e lined.1

    listed : (c : Thread) → IsAmong c (front ++ (b ∷ back)) → IsAmong c t.threads
    listed c i = subst (IsAmong c) (sym e) i

    here : IsAmong b t.threads
    here = listed b (among_back b front (b ∷ back) (inl refl))

    stands : (s u : State) (ts : List Touch) → Leaves s u ts → Before s a → Before u a
    stands s u ts h k = before_grown s u (record { height = h.cells; kept = h.kept }) a k

    there : Before b.ended a
    there = stands b.begun b.ended b.touches j.1 (stands t.begun b.begun (touches_of front) j.0 before)

pub view_law : ViewLaw
view_law program set slots input before notes keeps free alone =
    team_both IsApart (λ t. IsLined t × IsJoin t × Leaves t.begun t.ended (touches_of t.threads)) IsView view_of ((noted program set).visits (noted_outset slots input before notes))
    (apart_law program set slots input before notes keeps free alone) (join_law program set (noted_outset slots input before notes) keeps)
