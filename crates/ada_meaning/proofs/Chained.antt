-- The threads of a construct in a run by notes go on one from the other, and what the construct leaves is what they leave.
use Rattle.std.proofs.Common.{◌≡◌, ℕ, zero, suc, ◌+◌, ℤ, nat_eq, List, [], ◌∷◌, ◌++◌, length, Option, Some, None, Result, Ok, Err, Bool, true, false, cond, not, is_some, ◌||◌, refl, sym, subst, ap, ap₂, ◌∙◌, arith, le_refl, ◌≤◌}
use Rattle.ada_base.specs.Cuts.{cuts_of}
use Rattle.ada_base.specs.declared.reason.Reason.TheVariants as reason
use Rattle.typed_tree.specs.declared.expressions.Reducer.{Reducer}
use Rattle.typed_tree.specs.declared.expressions.Reducer.TheVariants.{Operator, Function}
use Rattle.behaviours.specs.Doings.{through, onto, folded}
use Rattle.behaviours.specs.Paths.{Leave, Raises, Entity, Region}
use Rattle.behaviours.specs.Joins.{Share, Site, deal}
use Rattle.ada_meaning.specs.Values.{result, divides, overflows, is_zero, value_or_zero}
use Rattle.ada_meaning.specs.Operations.{CheckKind, ZeroCheck, OverflowCheck, chunk_of, reduce, zero_checked, overflow_checked}
use Rattle.ada_meaning.specs.Stored
use Rattle.ada_base.specs.Notes.{InOrder, Schedule, ByNotes, ThreadNote, Whole, NotBegun, CutAfter}
use Rattle.ada_meaning.specs.Stored.{State, Cause, Left, OutOfTurns, NoRoom, CutOff, Misnoted, After, Address, Thread, Team, Visit, ThreadOf, TeamOf, Stored, loose, teams, cell_at, next, next_visits, handled_visits, begun, has_room, took, Touch, slot_at}
use Rattle.ada_meaning.specs.Touched.{Before, EachTeam, SameCells, Leaves, Chain, IsChain, touches_of, IsJoin, Rises, IsLined, JoinLaw}
use Rattle.ada_meaning.proofs.Framed
use Rattle.ada_meaning.proofs.Framed.{Framed, before_grown, took_same, written_left, written_right}
use Rattle.ada_meaning.proofs.Lays.{cell_same}
use Rattle.ada_meaning.proofs.Stops.{nothing}
use Rattle.ada_meaning.proofs.Induction
use Rattle.ada_meaning.proofs.Induction.{Relates}

-- lists of visits

team_append : (F : Team → Type 0) (vs ws : List Visit) → EachTeam F vs → EachTeam F ws → EachTeam F (vs ++ ws)
team_append F [] ws h k = k
team_append F (ThreadOf t ∷ vs) ws h k = team_append F vs ws h k
team_append F (TeamOf t ∷ vs) ws h k = (h.0, team_append F vs ws h.1 k)

teams_so : (F : Team → Type 0) (vs : List Visit) → EachTeam F vs → EachTeam F (teams vs)
teams_so F [] h = tt
teams_so F (ThreadOf t ∷ vs) h = teams_so F vs h
teams_so F (TeamOf t ∷ vs) h = (h.0, teams_so F vs h.1)

team_more : (F G : Team → Type 0) → ((t : Team) → F t → G t) → (vs : List Visit) → EachTeam F vs → EachTeam G vs
team_more F G f [] h = tt
team_more F G f (ThreadOf t ∷ vs) h = team_more F G f vs h
team_more F G f (TeamOf t ∷ vs) h = (f t h.0, team_more F G f vs h.1)

loose_append : (vs ws : List Visit) → loose (vs ++ ws) ≡ loose vs ++ loose ws
loose_append [] ws = refl
loose_append (ThreadOf t ∷ vs) ws = ap (λ z. t ∷ z) (loose_append vs ws)
loose_append (TeamOf t ∷ vs) ws = loose_append vs ws

loose_teams : (vs : List Visit) → loose (teams vs) ≡ []
loose_teams [] = refl
loose_teams (ThreadOf t ∷ vs) = loose_teams vs
loose_teams (TeamOf t ∷ vs) = loose_teams vs

-- chains

same_refl : (s : State) → SameCells s s
same_refl s = record { cells = refl; kept = refl; here = refl; everywhere = refl; frame = refl }

same_then : (s t u : State) → SameCells s t → SameCells t u → SameCells s u
same_then s t u h k = record { cells = k.cells ∙ h.cells; kept = k.kept ∙ h.kept; here = k.here ∙ h.here; everywhere = k.everywhere ∙ h.everywhere; frame = k.frame ∙ h.frame }

chain_from : (s t : State) (bs : List Thread) (u : State) → SameCells s t → Chain t bs u → Chain s bs u
chain_from s t [] u h k = same_then s t u h k
chain_from s t (b ∷ bs) u h k = (same_then s t b.begun h k.0, k.1, k.2)

chain_to : (s : State) (bs : List Thread) (t u : State) → Chain s bs t → SameCells t u → Chain s bs u
chain_to s [] t u h k = same_then s t u h k
chain_to s (b ∷ bs) t u h k = (h.0, h.1, chain_to b.ended bs t u h.2 k)

chain_append : (s : State) (bs : List Thread) (t : State) (cs : List Thread) (u : State) → Chain s bs t → Chain t cs u → Chain s (bs ++ cs) u
chain_append s [] t cs u h k = chain_from s t cs u h k
chain_append s (b ∷ bs) t cs u h k = (h.0, h.1, chain_append b.ended bs t cs u h.2 k)

-- each part of a run: no thread is loose, and teams are chains
record Chained {A : Type 0} (m : Stored A) : Type 0 where
  pub framed : Framed m
  pub tight : (s : State) → loose (m.visits s) ≡ []
  pub teams : (s : State) → EachTeam IsLined (m.visits s)

-- what a team is made of: the threads that are loose go on one from the other
record Strung {A : Type 0} (m : Stored A) : Type 0 where
  pub chain : (s : State) → Chain s (loose (m.visits s)) (m.does s).state
  pub teams : (s : State) → EachTeam IsLined (m.visits s)

none_begun : {A : Type 0} (m : Stored A) → Framed m → ((s : State) → m.visits s ≡ []) → Chained m
none_begun m f none = record { framed = f; tight = λ s. ap loose (none s); teams = λ s. subst (EachTeam IsLined) (sym (none s)) tt }

ret_chained : {A : Type 0} (a : A) → Chained (Stored.ret a)
unfolding Stored.ret
ret_chained a = none_begun (Stored.ret a) (Framed.ret_framed a) (λ s. refl)

leaves_chained : {A : Type 0} (x : Leave) → Chained (Stored.leaves {A = A} x)
unfolding Stored.leaves
leaves_chained {A} x = none_begun (Stored.leaves {A = A} x) (Framed.leaves_framed x) (λ s. refl)

checks_chained : (kind : CheckKind) (token : ℕ) (holds : Bool) → Chained (Stored.checks kind token holds)
checks_chained kind token true = ret_chained tt
checks_chained kind token false = leaves_chained (Raises reason.ConstraintError)

tight_append : (vs ws : List Visit) → loose vs ≡ [] → loose ws ≡ [] → loose (vs ++ ws) ≡ []
tight_append vs ws h k = loose_append vs ws ∙ ap₂ (λ y z. y ++ z) h k

bind_chained : {A B : Type 0} (m : Stored A) (k : A → Stored B) → Chained m → ((a : A) → Chained (k a)) → Chained (Stored.bind m k)
unfolding Stored.bind
bind_chained {A} {B} m k first rest = record {
  framed = Framed.bind_framed m k first.framed (λ a. (rest a).framed);
  tight = λ s. tight_append (m.visits s) (next_visits (m.does s).state (m.does s).end k) (first.tight s) (tight (m.does s).state (m.does s).end);
  teams = λ s. team_append IsLined (m.visits s) (next_visits (m.does s).state (m.does s).end k) (first.teams s) (so (m.does s).state (m.does s).end);
}
  where
    tight : (u : State) (e : Result A Cause) → loose (next_visits u e k) ≡ []
    tight u (Ok a) = (rest a).tight u
    tight u (Err c) = refl

    so : (u : State) (e : Result A Cause) → EachTeam IsLined (next_visits u e k)
    so u (Ok a) = (rest a).teams u
    so u (Err c) = tt

handles_chained : {A : Type 0} (m : Stored A) (takes : Leave → Bool) (k : Leave → Stored A) → Chained m → ((x : Leave) → Chained (k x)) → Chained (Stored.handles m takes k)
unfolding Stored.handles
handles_chained {A} m takes k first rest = record {
  framed = Framed.handles_framed m takes k first.framed (λ x. (rest x).framed);
  tight = λ s. tight_append (m.visits s) (handled_visits (m.does s).state (m.does s).end takes k) (first.tight s) (tight (m.does s).state (m.does s).end);
  teams = λ s. team_append IsLined (m.visits s) (handled_visits (m.does s).state (m.does s).end takes k) (first.teams s) (so (m.does s).state (m.does s).end);
}
  where
    tight_taken : (u : State) (x : Leave) (c : Bool) → loose (cond c ((k x).visits u) []) ≡ []
    tight_taken u x true = (rest x).tight u
    tight_taken u x false = refl

    tight : (u : State) (e : Result A Cause) → loose (handled_visits u e takes k) ≡ []
    tight u (Ok a) = refl
    tight u (Err (Left x)) = tight_taken u x (takes x)
    tight u (Err OutOfTurns) = refl
    tight u (Err NoRoom) = refl
    tight u (Err CutOff) = refl
    tight u (Err Misnoted) = refl

    so_taken : (u : State) (x : Leave) (c : Bool) → EachTeam IsLined (cond c ((k x).visits u) [])
    so_taken u x true = (rest x).teams u
    so_taken u x false = tt

    so : (u : State) (e : Result A Cause) → EachTeam IsLined (handled_visits u e takes k)
    so u (Ok a) = tt
    so u (Err (Left x)) = so_taken u x (takes x)
    so u (Err OutOfTurns) = tt
    so u (Err NoRoom) = tt
    so u (Err CutOff) = tt
    so u (Err Misnoted) = tt

apart_chained : {A : Type 0} (m : Stored A) → Chained m → Chained (Stored.apart m)
unfolding Stored.apart
apart_chained m h = record { framed = Framed.apart_framed m h.framed; tight = λ s. h.tight (record s { frame = s.frame + 1 }); teams = λ s. h.teams (record s { frame = s.frame + 1 }) }

elaborates_chained : {A : Type 0} (region : Region) (x : Entity) (vs : List ℤ) (m : Stored A) → Chained m → Chained (Stored.elaborates region x vs m)
unfolding Stored.elaborates
elaborates_chained region x vs m h = record { framed = Framed.elaborates_framed region x vs m h.framed; tight = λ s. tight s (has_room region x s); teams = λ s. so s (has_room region x s) }
  where
    tight : (s : State) (c : Bool) → loose (cond c (m.visits (begun region x vs s)) []) ≡ []
    tight s true = h.tight (begun region x vs s)
    tight s false = refl

    so : (s : State) (c : Bool) → EachTeam IsLined (cond c (m.visits (begun region x vs s)) [])
    so s true = h.teams (begun region x vs s)
    so s false = tt

-- threads

still : {A : Type 0} (m : Stored A) → ((s : State) → SameCells s (m.does s).state) → ((s : State) → m.visits s ≡ []) → Strung m
still m same none = record { chain = λ s. subst (λ z. Chain s (loose z) (m.does s).state) (sym (none s)) (same s); teams = λ s. subst (EachTeam IsLined) (sym (none s)) tt }

ret_strung : {A : Type 0} (a : A) → Strung (Stored.ret a)
unfolding Stored.ret
ret_strung a = still (Stored.ret a) (λ s. same_refl s) (λ s. refl)

leaves_strung : {A : Type 0} (x : Leave) → Strung (Stored.leaves {A = A} x)
unfolding Stored.leaves
leaves_strung {A} x = still (Stored.leaves {A = A} x) (λ s. same_refl s) (λ s. refl)

spent_strung : {A : Type 0} → Strung (Stored.spent {A = A})
unfolding Stored.spent
spent_strung {A} = still (Stored.spent {A = A}) (λ s. same_refl s) (λ s. refl)

misnoted_strung : {A : Type 0} → Strung (Stored.misnoted {A = A})
unfolding Stored.misnoted
misnoted_strung {A} = still (Stored.misnoted {A = A}) (λ s. same_refl s) (λ s. refl)

rewinds_strung : (n : ℕ) → Strung (Stored.rewinds n)
unfolding Stored.rewinds
rewinds_strung n = still (Stored.rewinds n) (λ s. record { cells = refl; kept = refl; here = refl; everywhere = refl; frame = refl }) (λ s. refl)

renotes_strung : (notes : Schedule) → Strung (Stored.renotes notes)
unfolding Stored.renotes
renotes_strung notes = still (Stored.renotes notes) (λ s. record { cells = refl; kept = refl; here = refl; everywhere = refl; frame = refl }) (λ s. refl)

bind_strung : {A B : Type 0} (m : Stored A) (k : A → Stored B) → Strung m → ((a : A) → Strung (k a)) → Strung (Stored.bind m k)
unfolding Stored.bind
bind_strung {A} {B} m k first rest = record {
  chain = λ s. let r = m.does s in
      subst (λ z. Chain s z (next r.state r.end k).state) (sym (loose_append (m.visits s) (next_visits r.state r.end k)))
      (chain_append s (loose (m.visits s)) r.state (loose (next_visits r.state r.end k)) (next r.state r.end k).state (first.chain s) (later r.state r.end));
  teams = λ s. team_append IsLined (m.visits s) (next_visits (m.does s).state (m.does s).end k) (first.teams s) (so (m.does s).state (m.does s).end);
}
  where
    later : (u : State) (e : Result A Cause) → Chain u (loose (next_visits u e k)) (next u e k).state
    later u (Ok a) = (rest a).chain u
    later u (Err c) = same_refl u

    so : (u : State) (e : Result A Cause) → EachTeam IsLined (next_visits u e k)
    so u (Ok a) = (rest a).teams u
    so u (Err c) = tt

choose : {A : Type 0} (c : Bool) {m n : Stored A} → Strung m → Strung n → Strung (cond c m n)
choose true h g = h
choose false h g = g

-- threads in order of their numbers

abbrev RisesTo : ℕ → List Share → Type 0
RisesTo n [] = Unit {0}
RisesTo n (j ∷ js) = (n ≤ j.number) × RisesTo (suc j.number) js

deal_rises : (number first : ℕ) (ns : List ℕ) → RisesTo number (deal number first ns)
deal_rises number first [] = tt
deal_rises number first (n ∷ ns) = (le_refl number, deal_rises (suc number) (first + n) ns)

rises_less : (m n : ℕ) → m ≤ n → (bs : List Thread) → Rises n bs → Rises m bs
rises_less m n le [] h = tt
rises_less m n le (b ∷ bs) h = (let z = h.0 in omega arith, h.1)

-- one thread
thread_leaves : {A : Type 0} (m : Stored A) → Framed m → (s : State) → Leaves s (m.does s).state (m.touches s)
thread_leaves m f s =
    let g = f.grown s in
    let k = f.slots s in
    record { here = k.here; everywhere = k.everywhere; frame = k.frame; cells = g.height; kept = g.kept; others = f.same s }

visited_chain : {A : Type 0} (j : Share) (m : Stored A) → Chained m → (s : State) → Chain s (loose ((Stored.visited j m).visits s)) (m.does s).state
visited_chain j m h s =
    subst (λ z. Chain s (record { share = j; begun = s; ended = (m.does s).state; touches = m.touches s } ∷ z) (m.does s).state) (sym (h.tight s)) (same_refl s, thread_leaves m h.framed s, same_refl (m.does s).state)

thread_strung : {A : Type 0} (most : ℕ) (j : Share) (m : Stored A) → Chained m → Strung (Stored.thread most (Stored.visited j m))
unfolding Stored.thread
thread_strung most j m h = record {
  chain = λ s. chain_to s (loose ((Stored.visited j m).visits s)) (m.does s).state (took most (m.does s).state (m.does s).end).state (visited_chain j m h s) (took_same most (m.does s).state (m.does s).end);
  teams = λ s. h.teams s;
}

noted_thread_strung : {A B : Type 0} (from : ℕ) (left : Option ℕ) (fits : Result A Cause → Result B Cause) (j : Share) (m : Stored A) → Chained m → Strung (Stored.noted_thread from left fits (Stored.visited j m))
unfolding Stored.noted_thread
noted_thread_strung {A} {B} from left fits j m h = record {
  chain = λ s.
      let s1 : State = record s { turns = from; left = left; notes = InOrder } in
      chain_from s s1 (loose ((Stored.visited j m).visits s1)) _ record { cells = refl; kept = refl; here = refl; everywhere = refl; frame = refl } (chain_to s1 (loose ((Stored.visited j m).visits s1)) (m.does s1).state _ (visited_chain j m h s1) record { cells = refl; kept = refl; here = refl; everywhere = refl; frame = refl });
  teams = λ s. h.teams (record s { turns = from; left = left; notes = InOrder });
}

module _ {A B : Type 0} (f : B → A → B) (body : Share → Stored A) (each : (j : Share) → Chained (body j)) where
  abbrev team_body : Share → Stored A
  team_body j = Stored.visited j (body j)

  threads_strung : (from : ℕ) (js : List Share) (most : ℕ) (over : Bool) (b : B) → Strung (Stored.threads f team_body from js most over b)
  threads_strung from [] most over b = bind_strung (Stored.rewinds most) (λ _. cond over Stored.spent (Stored.ret b)) (rewinds_strung most) (λ _. choose over spent_strung (ret_strung b))
  threads_strung from (j ∷ js) most over b =
      bind_strung (Stored.rewinds from) (λ _. Stored.bind (Stored.thread most (team_body j)) (λ k. Stored.threads f team_body from js k.most (over || Stored.is_spent k.value) (Stored.gathered f b k.value))) (rewinds_strung from)
      (λ _. bind_strung (Stored.thread most (team_body j)) (λ k. Stored.threads f team_body from js k.most (over || Stored.is_spent k.value) (Stored.gathered f b k.value)) (thread_strung most j (body j) (each j))
      (λ k. threads_strung from js k.most (over || Stored.is_spent k.value) (Stored.gathered f b k.value)))

  par_strung : (b : B) (js : List Share) → Strung (Stored.par f b js team_body)
  unfolding Stored.par
  par_strung b js = record { chain = λ s. (threads_strung s.turns js s.turns false b).chain s; teams = λ s. (threads_strung s.turns js s.turns false b).teams s }

  by_thread_strung : (c : Bool) (note : ThreadNote) (from : ℕ) (j : Share) → Strung (Stored.by_thread_note c note from (team_body j))
  by_thread_strung true Whole from j = noted_thread_strung from None Stored.fits_chosen j (body j) (each j)
  by_thread_strung true NotBegun from j = misnoted_strung
  by_thread_strung true (CutAfter looks) from j = misnoted_strung
  by_thread_strung false Whole from j = noted_thread_strung from None Stored.fits_whole j (body j) (each j)
  by_thread_strung false NotBegun from j = ret_strung None
  by_thread_strung false (CutAfter looks) from j = noted_thread_strung from (Some looks) Stored.fits_cut j (body j) (each j)

  left_by_strung : (how : Option Leave) → Strung (Stored.left_by {B = B} how)
  left_by_strung None = misnoted_strung
  left_by_strung (Some x) = leaves_strung x

  chosen_strung : (from chosen : ℕ) (js : List Share) (ns : List ThreadNote) (how : Option Leave) → Strung (Stored.chosen_threads {B = B} team_body from chosen js ns how)
  chosen_strung from chosen [] [] how = left_by_strung how
  chosen_strung from chosen [] (n ∷ ns) how = misnoted_strung
  chosen_strung from chosen (j ∷ js) [] how = misnoted_strung
  chosen_strung from chosen (j ∷ js) (n ∷ ns) how =
      bind_strung (Stored.by_thread_note (nat_eq j.number chosen) n from (team_body j)) (λ x. Stored.chosen_threads team_body from chosen js ns (Stored.or_else x how)) (by_thread_strung (nat_eq j.number chosen) n from j) (λ x. chosen_strung from chosen js ns (Stored.or_else x how))

  by_note_strung : (b : B) (js : List Share) (chosen : Option ℕ) (ns : List ThreadNote) → Strung (Stored.by_note f b js team_body chosen ns)
  unfolding Stored.none_chosen
  by_note_strung b js None ns = record {
    chain = λ s.
        let s1 : State = record s { notes = InOrder } in
        let m = Stored.par f b js team_body in
        chain_from s s1 (loose (m.visits s1)) _ record { cells = refl; kept = refl; here = refl; everywhere = refl; frame = refl } (chain_to s1 (loose (m.visits s1)) (m.does s1).state _ ((par_strung b js).chain s1) record { cells = refl; kept = refl; here = refl; everywhere = refl; frame = refl });
    teams = λ s. (par_strung b js).teams (record s { notes = InOrder });
  }
  by_note_strung b js (Some chosen) ns = record { chain = λ s. (chosen_strung s.turns chosen js ns None).chain s; teams = λ s. (chosen_strung s.turns chosen js ns None).teams s }

  by_notes_strung : (b : B) (js : List Share) (notes : Schedule) → Strung (Stored.by_notes f b js team_body notes)
  by_notes_strung b js InOrder = par_strung b js
  by_notes_strung b js (ByNotes []) = misnoted_strung
  by_notes_strung b js (ByNotes (c ∷ cs)) =
      let h = bind_strung (Stored.renotes (ByNotes cs)) (λ _. Stored.by_note f b js team_body c.chosen c.threads) (renotes_strung (ByNotes cs)) (λ _. by_note_strung b js c.chosen c.threads) in
      record { chain = h.chain; teams = h.teams }

  noted_par_strung : (b : B) (js : List Share) → Strung (Stored.noted_par f b js team_body)
  unfolding Stored.noted_par
  noted_par_strung b js = record { chain = λ s. (by_notes_strung b js s.notes).chain s; teams = λ s. (by_notes_strung b js s.notes).teams s }

  -- the threads of a team in order of their numbers

  next_rise : (j : Share) (js : List Share) → ((n most : ℕ) (over : Bool) (b : B) → RisesTo n js → (from : ℕ) (s : State) → Rises n (loose ((Stored.threads f team_body from js most over b).visits s))) → RisesTo (suc j.number) js → (from most : ℕ) (over : Bool) (b : B) (u : State) (e : Result A Cause)
      → Rises (suc j.number) (loose (next_visits (took most u e).state (took most u e).end (λ k. Stored.threads f team_body from js k.most (over || Stored.is_spent k.value) (Stored.gathered f b k.value))))
  next_rise j js rest rises from most over b u (Ok a) = rest (suc j.number) _ _ _ rises from u
  next_rise j js rest rises from most over b u (Err OutOfTurns) = rest (suc j.number) _ _ _ rises from u
  next_rise j js rest rises from most over b u (Err (Left x)) = tt
  next_rise j js rest rises from most over b u (Err NoRoom) = tt
  next_rise j js rest rises from most over b u (Err CutOff) = tt
  next_rise j js rest rises from most over b u (Err Misnoted) = tt

  none_rise : (n : ℕ) (over : Bool) (b : B) (s : State) → Rises n (loose ((cond over Stored.spent (Stored.ret b)).visits s))
  unfolding Stored.spent Stored.ret
  none_rise n true b s = tt
  none_rise n false b s = tt

  threads_rise : (js : List Share) (n most : ℕ) (over : Bool) (b : B) → RisesTo n js → (from : ℕ) (s : State) → Rises n (loose ((Stored.threads f team_body from js most over b).visits s))
  unfolding Stored.bind Stored.rewinds Stored.thread
  threads_rise [] n most over b rises from s = none_rise n over b (record s { turns = most })
  threads_rise (j ∷ js) n most over b rises from s =
      let s1 : State = record s { turns = from } in
      let r = (body j).does s1 in
      let later = next_visits (took most r.state r.end).state (took most r.state r.end).end (λ k. Stored.threads f team_body from js k.most (over || Stored.is_spent k.value) (Stored.gathered f b k.value)) in
      (rises.0, subst (λ z. Rises (suc j.number) z) (sym (loose_append ((body j).visits s1) later ∙ ap (λ z. z ++ loose later) ((each j).tight s1))) (next_rise j js (threads_rise js) rises.1 from most over b r.state r.end))

  run_rise : (from chosen : ℕ) (j : Share) (js : List Share) (ns : List ThreadNote) (how : Option Leave) → ((n : ℕ) (ns : List ThreadNote) (how : Option Leave) → RisesTo n js → (s : State) → Rises n (loose ((Stored.chosen_threads {B = B} team_body from chosen js ns how).visits s))) → RisesTo (suc j.number) js → (n : ℕ) → n ≤ j.number
      → (s1 u : State) (e : Result (Option Leave) Cause) → Rises n (loose ((Stored.visited j (body j)).visits s1 ++ next_visits {B = B} u e (λ x. Stored.chosen_threads team_body from chosen js ns (Stored.or_else x how))))
  run_rise from chosen j js ns how rest rises n le s1 u e =
      (le, subst (λ z. Rises (suc j.number) z) (sym (loose_append ((body j).visits s1) (next_visits {B = B} u e (λ x. Stored.chosen_threads team_body from chosen js ns (Stored.or_else x how))) ∙ ap (λ z. z ++ loose (next_visits {B = B} u e (λ x. Stored.chosen_threads team_body from chosen js ns (Stored.or_else x how)))) ((each j).tight s1))) (go e))
    where
      go : (e : Result (Option Leave) Cause) → Rises (suc j.number) (loose (next_visits {B = B} u e (λ x. Stored.chosen_threads team_body from chosen js ns (Stored.or_else x how))))
      go (Ok x) = rest (suc j.number) ns (Stored.or_else x how) rises u
      go (Err c) = tt

  by_thread_rise : (from chosen : ℕ) (j : Share) (js : List Share) (c : Bool) (note : ThreadNote) (ns : List ThreadNote) (how : Option Leave) → ((n : ℕ) (ns : List ThreadNote) (how : Option Leave) → RisesTo n js → (s : State) → Rises n (loose ((Stored.chosen_threads {B = B} team_body from chosen js ns how).visits s))) → (n : ℕ) → RisesTo n (j ∷ js) → (s : State)
      → Rises n (loose ((Stored.by_thread_note c note from (team_body j)).visits s ++ (let r = (Stored.by_thread_note c note from (team_body j)).does s in next_visits {B = B} r.state r.end (λ x. Stored.chosen_threads team_body from chosen js ns (Stored.or_else x how)))))
  unfolding Stored.noted_thread Stored.misnoted Stored.ret
  by_thread_rise from chosen j js true Whole ns how rest n rises s = run_rise from chosen j js ns how rest rises.1 n rises.0 _ _ _
  by_thread_rise from chosen j js true NotBegun ns how rest n rises s = tt
  by_thread_rise from chosen j js true (CutAfter looks) ns how rest n rises s = tt
  by_thread_rise from chosen j js false Whole ns how rest n rises s = run_rise from chosen j js ns how rest rises.1 n rises.0 _ _ _
  by_thread_rise from chosen j js false NotBegun ns how rest n rises s = rises_less n (suc j.number) (let z = rises.0 in omega arith) (loose ((Stored.chosen_threads {B = B} team_body from chosen js ns how).visits s)) (rest (suc j.number) ns how rises.1 s)
  by_thread_rise from chosen j js false (CutAfter looks) ns how rest n rises s = run_rise from chosen j js ns how rest rises.1 n rises.0 _ _ _

  left_rise : (n : ℕ) (how : Option Leave) (s : State) → Rises n (loose ((Stored.left_by {B = B} how).visits s))
  unfolding Stored.misnoted Stored.leaves
  left_rise n None s = tt
  left_rise n (Some x) s = tt

  chosen_rise : (from chosen : ℕ) (js : List Share) (n : ℕ) (ns : List ThreadNote) (how : Option Leave) → RisesTo n js → (s : State) → Rises n (loose ((Stored.chosen_threads {B = B} team_body from chosen js ns how).visits s))
  unfolding Stored.bind Stored.misnoted
  chosen_rise from chosen [] n [] how rises s = left_rise n how s
  chosen_rise from chosen [] n (note ∷ ns) how rises s = tt
  chosen_rise from chosen (j ∷ js) n [] how rises s = tt
  chosen_rise from chosen (j ∷ js) n (note ∷ ns) how rises s = by_thread_rise from chosen j js (nat_eq j.number chosen) note ns how (chosen_rise from chosen js) n rises s

  notes_rise : (b : B) (js : List Share) → RisesTo 0 js → (notes : Schedule) (s : State) → Rises 0 (loose ((Stored.by_notes f b js team_body notes).visits s))
  unfolding Stored.par Stored.bind Stored.renotes Stored.misnoted Stored.none_chosen
  notes_rise b js rises InOrder s = threads_rise js 0 s.turns false b rises s.turns s
  notes_rise b js rises (ByNotes []) s = tt
  notes_rise b js rises (ByNotes (c ∷ cs)) s = go c.chosen
    where
      go : (chosen : Option ℕ) → Rises 0 (loose ((Stored.by_note f b js team_body chosen c.threads).visits (record s { notes = ByNotes cs })))
      go None = threads_rise js 0 s.turns false b rises s.turns (record s { notes = InOrder })
      go (Some chosen) = chosen_rise s.turns chosen js 0 c.threads None rises (record s { notes = ByNotes cs })

  team_chained : (site : Site) (b : B) (js : List Share) → RisesTo 0 js → Chained (Stored.noted_team site f b js body)
  unfolding Stored.noted_team Stored.noted_par
  team_chained site b js rises =
      let m = Stored.noted_par f b js team_body in
      let h = noted_par_strung b js in
      record {
        framed = team_framed;
        tight = λ s. loose_teams (m.visits s);
        teams = λ s. ((h.chain s, notes_rise b js rises s.notes s), teams_so IsLined (m.visits s) (h.teams s));
      }
    where
      team_framed : Framed (Stored.noted_team site f b js body)
      team_framed = Framed.noted_team_framed site f body (λ j. (each j).framed) b js

-- constructs

through_chained : {A : Type 0} (first n : ℕ) (a : A) (f : ℕ → A → Stored A) → ((i : ℕ) (b : A) → Chained (f i b)) → Chained (through Stored.doings first n a f)
through_chained first zero a f h = ret_chained a
through_chained first (suc n) a f h = bind_chained (f first a) (λ b. through Stored.doings (suc first) n b f) (h first a) (λ b. through_chained (suc first) n b f h)

onto_chained : (a : ℤ) (more : List ℤ) (f : ℤ → ℤ → Stored ℤ) → ((b c : ℤ) → Chained (f b c)) → Chained (onto Stored.doings a more f)
onto_chained a [] f h = ret_chained a
onto_chained a (b ∷ more) f h = bind_chained (f a b) (λ c. onto Stored.doings c more f) (h a b) (λ c. onto_chained c more f h)

folded_chained : (f : ℤ → ℤ → Stored ℤ) → ((b c : ℤ) → Chained (f b c)) → (a : ℤ) (v : Option ℤ) → Chained (folded Stored.doings f a v)
folded_chained f h a None = ret_chained a
folded_chained f h a (Some v) = h a v

either : {A : Type 0} (c : Bool) {m n : Stored A} → Chained m → Chained n → Chained (cond c m n)
either true h g = h
either false h g = g

reduce_chained : (by : Reducer) (token : ℕ) (f : ℤ → ℤ → Stored ℤ) → ((b c : ℤ) → Chained (f b c)) → (a b : ℤ) → Chained (reduce Stored.doings Stored.checks by token f a b)
reduce_chained (Operator t op class) token f h a b =
    bind_chained (zero_checked Stored.doings Stored.checks op token b) (λ _. Stored.bind (overflow_checked Stored.doings Stored.checks op token (result op class a b)) (λ _. Stored.ret (value_or_zero (result op class a b))))
    (either (divides op) (checks_chained ZeroCheck token (not (is_zero b))) (ret_chained tt))
    (λ _. bind_chained (overflow_checked Stored.doings Stored.checks op token (result op class a b)) (λ _. Stored.ret (value_or_zero (result op class a b)))
    (either (overflows op) (checks_chained OverflowCheck token (is_some (result op class a b))) (ret_chained tt)) (λ _. ret_chained (value_or_zero (result op class a b))))
reduce_chained (Function t s x y) token f h a b = h a b

module _ (limit : ℕ) (cuts : ℕ → ℕ → List ℕ) where
  combined_chained : (v : ℤ) (values : List ℤ) (f : ℤ → ℤ → Stored ℤ) → ((b c : ℤ) → Chained (f b c)) → Chained (Stored.combined limit cuts v values f)
  combined_chained v [] f h = ret_chained v
  combined_chained v (a ∷ more) f h = onto_chained a more f h

  loop_chained : (f : ℕ → ℕ → Stored (Unit {0})) → ((j i : ℕ) → Chained (f j i)) → (c : Share) → Chained (Stored.loop_thread f c)
  loop_chained f h c = through_chained c.first c.size tt (λ i _. f c.number i) (λ i _. h c.number i)

  fold_chained : (by : Reducer) (token : ℕ) (v : ℤ) (f : ℕ → ℕ → Stored (Option ℤ)) (call : ℤ → ℤ → Stored ℤ) → ((j i : ℕ) → Chained (f j i)) → ((a b : ℤ) → Chained (call a b)) → (c : Share) → Chained (Stored.fold_thread by token v f call c)
  fold_chained by token v f call h g c = through_chained c.first c.size v (λ i so_far. Stored.bind (f c.number i) (folded Stored.doings (reduce Stored.doings Stored.checks by token call) so_far))
      (λ i so_far. bind_chained (f c.number i) (folded Stored.doings (reduce Stored.doings Stored.checks by token call) so_far) (h c.number i) (folded_chained (reduce Stored.doings Stored.checks by token call) (reduce_chained by token call g) so_far))

  chained : Relates {1, 0, 0} (Stored.noted_operations limit cuts) nothing
  unfolding Stored.spent Stored.reads Stored.writes Stored.turn Stored.look Stored.puts Stored.recalls Stored.keeps Stored.takes
  chained = record {
    World = Unit {0};
    Open = λ w. Unit {0};
    inner = λ w. tt;
    R = λ w m n. Chained m;
    ret = λ w a. ret_chained a;
    bind = λ {A} {B} w {m} {n} {k} {l} r f. bind_chained m k r f;
    reads = λ w x i cell. none_begun (Stored.reads x i) (Framed.reads_framed x i) (λ s. refl);
    writes = λ w x i v. none_begun (Stored.writes x i v) (Framed.writes_framed x i v) (λ s. refl);
    elaborates = λ {A} w region u x vs {m} {n} r. elaborates_chained region x vs m r;
    apart = λ {A} w {m} {n} r. apart_chained m r;
    turn = λ w. none_begun (Stored.turn limit) (Framed.turn_framed limit) (λ s. refl);
    look = λ w. none_begun Stored.look Framed.look_framed (λ s. refl);
    checks = λ w kind at holds. checks_chained kind at holds;
    leaves = λ {A} w x. leaves_chained x;
    spent = λ {A} w. none_begun (Stored.spent {A = A}) Framed.spent_framed (λ s. refl);
    handles = λ {A} w {m} {n} takes {h} {g} r f. handles_chained m takes h r f;
    puts = λ w allowed bytes. none_begun (Stored.puts bytes) (Framed.puts_framed bytes) (λ s. refl);
    recalls = λ w allowed. none_begun Stored.recalls Framed.recalls_framed (λ s. refl);
    keeps = λ w allowed h. none_begun (Stored.keeps h) (Framed.keeps_framed h) (λ s. refl);
    takes = λ w allowed. none_begun Stored.takes Framed.takes_framed (λ s. refl);
    loops = λ w site cut {f} {g} r.
        let js = deal 0 0 (Stored.sizes_of limit cuts cut) in
        bind_chained (Stored.noted_team site Stored.first_of_both tt js (Stored.loop_thread (λ j. f (chunk_of cut j)))) (λ _. Stored.ret tt)
        (team_chained Stored.first_of_both (Stored.loop_thread (λ j. f (chunk_of cut j))) (loop_chained (λ j. f (chunk_of cut j)) (λ j. r (chunk_of cut j))) site tt js (deal_rises 0 0 (Stored.sizes_of limit cuts cut))) (λ _. ret_chained tt);
    reduces = λ w site cut by at v {f} {g} {c} {c'} {d} {d'} r t u.
        let js = deal 0 0 (Stored.sizes_of limit cuts cut) in
        bind_chained (Stored.noted_team site Stored.after_all [] js (Stored.fold_thread by at v (λ j. f (chunk_of cut j)) c)) (λ values. Stored.combined limit cuts v values (reduce Stored.doings Stored.checks by at c'))
        (team_chained Stored.after_all (Stored.fold_thread by at v (λ j. f (chunk_of cut j)) c) (fold_chained by at v (λ j. f (chunk_of cut j)) c (λ j. r (chunk_of cut j)) t) site [] js (deal_rises 0 0 (Stored.sizes_of limit cuts cut)))
        (λ values. combined_chained v values (reduce Stored.doings Stored.checks by at c') (reduce_chained by at c' u));
  }

-- what a chain leaves

leaves_same : (s u : State) → SameCells s u → Leaves s u []
leaves_same s u h = record {
  here = λ k. ap (λ z. slot_at z k) h.here;
  everywhere = λ k. ap (λ z. slot_at z k) h.everywhere;
  frame = h.frame;
  cells = ap length h.cells;
  kept = let e = ap length h.kept in omega arith;
  others = λ a b n. cell_same s u a h.cells h.kept;
}

before_left : (s u : State) (ts : List Touch) → Leaves s u ts → (a : Address) → Before s a → Before u a
before_left s u ts h a b = before_grown s u (record { height = h.cells; kept = h.kept }) a b

leaves_then : (s t u : State) (ts us : List Touch) → Leaves s t ts → Leaves t u us → Leaves s u (ts ++ us)
leaves_then s t u ts us h k = record {
  here = λ x. k.here x ∙ h.here x;
  everywhere = λ x. k.everywhere x ∙ h.everywhere x;
  frame = k.frame ∙ h.frame;
  cells = k.cells ∙ h.cells;
  kept = let a = h.kept in let b = k.kept in omega arith;
  others = λ a b n. k.others a (before_left s t ts h a b) (λ w. n (written_right ts us a w)) ∙ h.others a b (λ w. n (written_left ts us a w));
}

chain_leaves : (s : State) (bs : List Thread) (u : State) → Chain s bs u → Leaves s u (touches_of bs)
chain_leaves s [] u h = leaves_same s u h
chain_leaves s (b ∷ bs) u h = leaves_then s b.ended u b.touches (touches_of bs) (leaves_then s b.begun b.ended [] b.touches (leaves_same s b.begun h.0) h.1) (chain_leaves b.ended bs u h.2)

chain_join : (s : State) (front : List Thread) (b : Thread) (back : List Thread) (u : State) → Chain s (front ++ (b ∷ back)) u → Leaves s b.begun (touches_of front) × Leaves b.begun b.ended b.touches × Leaves b.ended u (touches_of back)
chain_join s [] b back u h = (leaves_same s b.begun h.0, h.1, chain_leaves b.ended back u h.2)
chain_join s (c ∷ front) b back u h =
    let j = chain_join c.ended front b back u h.2 in
    (leaves_then s c.ended b.begun c.touches (touches_of front) (leaves_then s c.begun c.ended [] c.touches (leaves_same s c.begun h.0) h.1) j.0, j.1, j.2)

is_join : (t : Team) → IsChain t → IsJoin t
is_join t h front b back e = chain_join t.begun front b back t.ended (subst (λ z. Chain t.begun z t.ended) e h)

pub join_law : JoinLaw
unfolding chained
join_law program set s keeps =
    team_more IsLined (λ t. IsLined t × IsJoin t × Leaves t.begun t.ended (touches_of t.threads)) (λ t h. (h, is_join t h.0, chain_leaves t.begun t.threads t.ended h.0)) ((Stored.noted program set).visits s)
    ((Induction.main (chained set.limit (cuts_of set.plan)) set.limit program keeps tt tt).teams s)
