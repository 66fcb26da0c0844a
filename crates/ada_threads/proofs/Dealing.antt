-- Threads that are dealt are what workers take.
use Rattle.std.proofs.Common.{◌≡◌, ◌⊎◌, inl, inr, ℕ, suc, ◌+◌, ◌<◌, ◌^◌, Bool, true, false, cond, List, [], ◌∷◌, ◌++◌, length, get_or, drop, Option, Some, None, arith, refl, sym, ◌∙◌, ap, subst, append_assoc, append-nil}
use Rattle.std.specs.Prelude.{◌↔◌, slice_get}
use Rattle.std.proofs.Math.Seq.{drop-cons}
use Rattle.ada_base.specs.Cells.{Cell}
use Rattle.ada_base.specs.Cuts.{Plan, cuts_of}
use Rattle.behaviours.specs.Joins.{Share, deal}
use Rattle.cell_strip.specs.Regions.{covered}
use Rattle.stack_code.specs.declared.code.Code.{Code}
use Rattle.stack_code.specs.declared.code.CodeSite.{CodeSite}
use Rattle.stack_code.specs.declared.path.Asked.{Asked}
use Rattle.stack_code.specs.Machine.{State, sees}
use Rattle.ada_lower.specs.Driven.{sizes_for}
use Rattle.ada_lower.specs.Lending.{Among, IsLent, Owns}
use Rattle.ada_machine.specs.States.{state_of}
use Rattle.ada_machine.specs.declared.machine.Machine.{Machine}
use Rattle.ada_workers.specs.Orders.{Start}
use Rattle.ada_workers.specs.Threads.{AllInside, FramesFit, areas_of, begins_of, frame_values}
use Rattle.ada_workers.specs.declared.threads.Thread.{Thread}
use Rattle.machine_paths.specs.Constructing.{shares_of, starts_at}
use Rattle.machine_paths.specs.Starting.{thread_start, thread_starts, thread_values}
use Rattle.machine_paths.specs.Threads.{ThreadPath}
use Rattle.ada_threads.specs.Answers.{IsPathAt, inner_path}
use Rattle.ada_threads.specs.Dealt.{AllDealt, IsDealt}
use Rattle.ada_threads.specs.Lent.{owner_from}

module _ (limit : ℕ) (c : Code) (plan : Plan) (site : CodeSite) (q : Asked) (s : State) (many : ℕ) where
  abbrev All : List Share → List (Thread ThreadPath) → Type 0
  All js ts = AllDealt limit c plan site q s many js ts

  -- ---- one after the other
  -- with what is dealt of those that are left these are all
  abbrev pub Dealing : List ℕ → (number first : ℕ) → (rest : List ℕ) → List (Thread ThreadPath) → Type 0
  Dealing sizes number first rest ts = (more : List (Thread ThreadPath)) → All (deal number first rest) more → All (deal 0 0 sizes) (ts ++ more)

  pub dealing_first : (sizes : List ℕ) → Dealing sizes 0 0 sizes []
  dealing_first sizes more h = h

  pub dealing_on : (sizes : List ℕ) (number first k d : ℕ) (ts next : List (Thread ThreadPath)) (t : Thread ThreadPath) → k < length sizes → Dealing sizes number first (drop k sizes) ts
      → IsDealt limit c plan site q s many (record { number = number; first = first; size = get_or sizes k d }) t → next ≡ ts ++ t ∷ [] → Dealing sizes (number + 1) (first + get_or sizes k d) (drop (k + 1) sizes) next
  dealing_on sizes number first k d ts next t lt so is e more h =
      let n : get_or sizes k d ∷ drop (suc k) sizes ≡ drop k sizes = sym (drop-cons sizes k d lt) in
      let up : suc number ≡ number + 1 = omega arith in
      let on : suc k ≡ k + 1 = omega arith in
      let rest : All (deal (suc number) (first + get_or sizes k d) (drop (suc k) sizes)) more =
      subst (λ m. All (deal m (first + get_or sizes k d) (drop (suc k) sizes)) more) (sym up) (subst (λ m. All (deal (number + 1) (first + get_or sizes k d) (drop m sizes)) more) (sym on) h) in
      subst (λ l. All (deal 0 0 sizes) l) (sym (ap (λ l. l ++ more) e ∙ append_assoc ts (t ∷ []) more)) (so (t ∷ more) (subst (λ l. All (deal number first l) (t ∷ more)) n (is, rest)))

  pub dealing_last : (sizes : List ℕ) (number first k : ℕ) (ts : List (Thread ThreadPath)) → drop k sizes ≡ [] → Dealing sizes number first (drop k sizes) ts → All (deal 0 0 sizes) ts
  dealing_last sizes number first k ts over so = subst (λ l. All (deal 0 0 sizes) l) (append-nil ts) (so [] (subst (λ l. All (deal number first l) []) (sym over) tt))

  -- ---- what workers ask
  pub begins_all : (js : List Share) (ts : List (Thread ThreadPath)) → All js ts → begins_of ts ≡ thread_starts limit c plan site q s many s.turns js
  begins_all [] [] h = refl
  begins_all [] (t ∷ ts) h = absurd h
  begins_all (j ∷ js) [] h = absurd h
  begins_all (j ∷ js) (t ∷ ts) h = ap (λ b. b ∷ begins_of ts) h.0.begin ∙ ap (λ bs. thread_start limit c plan site q s many s.turns j ∷ bs) (begins_all js ts h.1)

  pub fits_all : (js : List Share) (ts : List (Thread ThreadPath)) → All js ts → FramesFit ts
  fits_all [] [] h = tt
  fits_all [] (t ∷ ts) h = absurd h
  fits_all (j ∷ js) [] h = absurd h
  fits_all (j ∷ js) (t ∷ ts) h = (h.0.fits, fits_all js ts h.1)

  pub inside_all : (js : List Share) (ts : List (Thread ThreadPath)) → All js ts → AllInside many ts
  inside_all [] [] h = tt
  inside_all [] (t ∷ ts) h = absurd h
  inside_all (j ∷ js) [] h = absurd h
  inside_all (j ∷ js) (t ∷ ts) h = (h.0.inside, inside_all js ts h.1)

  -- ---- owners
  some_is : (m n : ℕ) → ◌≡◌ {A = Option ℕ} (Some m) (Some n) → m ≡ n
  some_is m n e = cc

  none_some : (m : ℕ) → ◌≡◌ {A = Option ℕ} None (Some m) → ⊥
  none_some m e = cc

  some_none : (m : ℕ) → ◌≡◌ {A = Option ℕ} (Some m) None → ⊥
  some_none m e = cc

  -- a thread of those dealt from a number on
  abbrev Has : List Share → ℕ → ℕ → Type 0
  Has js n x = (j : Share) × Among j js × (j.number ≡ n) × IsLent site q (sees s) j x

  lent_from : (k first : ℕ) (sizes : List ℕ) (ts : List (Thread ThreadPath)) → All (deal k first sizes) ts → (x n : ℕ) → owner_from k (areas_of ts) x ≡ Some n → Has (deal k first sizes) n x
  lent_from k first [] [] h x n e = absurd (none_some n e)
  lent_from k first [] (t ∷ ts) h x n e = absurd h
  lent_from k first (m ∷ ms) [] h x n e = absurd h
  lent_from k first (m ∷ ms) (t ∷ ts) h x n e = by_cover (covered t.regions.items x) refl (λ f. later (lent_from (suc k) (first + m) ms ts h.1 x n f)) e
    where
      j : Share
      j = record { number = k; first = first; size = m }

      later : Has (deal (suc k) (first + m) ms) n x → Has (deal k first (m ∷ ms)) n x
      later (i, among, number, lent) = (i, inr among, number, lent)

      by_cover : (b : Bool) → covered t.regions.items x ≡ b → (owner_from (suc k) (areas_of ts) x ≡ Some n → Has (deal k first (m ∷ ms)) n x) → cond b (Some k) (owner_from (suc k) (areas_of ts) x) ≡ Some n → Has (deal k first (m ∷ ms)) n x
      by_cover true is rest f = (j, inl refl, some_is k n f, (h.0.lent x).0 is)
      by_cover false is rest f = rest f

  owned_by : (k first : ℕ) (sizes : List ℕ) (ts : List (Thread ThreadPath)) → All (deal k first sizes) ts → (x : ℕ) (j : Share) → Among j (deal k first sizes) → IsLent site q (sees s) j x → owner_from k (areas_of ts) x ≡ None → ⊥
  owned_by k first [] ts h x j among lent e = absurd among
  owned_by k first (m ∷ ms) [] h x j among lent e = absurd h
  owned_by k first (m ∷ ms) (t ∷ ts) h x j among lent e = by_cover (covered t.regions.items x) refl (λ a f. owned_by (suc k) (first + m) ms ts h.1 x j a lent f) among e
    where
      i : Share
      i = record { number = k; first = first; size = m }

      true_false : true ≡ false → ⊥
      true_false e = cc

      by_cover : (b : Bool) → covered t.regions.items x ≡ b → (Among j (deal (suc k) (first + m) ms) → owner_from (suc k) (areas_of ts) x ≡ None → ⊥) → (j ≡ i) ⊎ Among j (deal (suc k) (first + m) ms)
          → cond b (Some k) (owner_from (suc k) (areas_of ts) x) ≡ None → ⊥
      by_cover true is rest a f = some_none k f
      by_cover false is rest (inl same) f = true_false (sym ((h.0.lent x).1 (subst (λ j. IsLent site q (sees s) j x) same lent)) ∙ is)
      by_cover false is rest (inr a) f = rest a f

  pub owns_all : (sizes : List ℕ) (ts : List (Thread ThreadPath)) → All (deal 0 0 sizes) ts → Owns site q (sees s) (deal 0 0 sizes) (owner_from 0 (areas_of ts))
  owns_all sizes ts h = record { lent = λ x n e. lent_from 0 0 sizes ts h x n e; all = λ x j among lent e. owned_by 0 0 sizes ts h x j among lent e }

-- a thread of the construct's path, with its frame and its regions, is dealt
pub is_dealt : (limit : ℕ) (c : Code) (plan : Plan) (site : CodeSite) (q : Asked) (s : State) (many : ℕ) (j : Share) (t : Thread ThreadPath) (seen : List ℕ) → slice_get c.sites q.site ≡ Some site → seen ≡ sees s → IsPathAt limit c plan many q.site s t.path
    → frame_values t.frame ≡ thread_values site.frame q j → t.frame.more + 4 < 2 ^ 32 → ((x : ℕ) → (covered t.regions.items x ≡ true) ↔ IsLent site q seen j x) → ((x : ℕ) → covered t.regions.items x ≡ true → x < many) → IsDealt limit c plan site q s many j t
is_dealt limit c plan site q s many j t seen here same path own small lent inside = record {
  begin = ap (λ p. let b : Start ThreadPath = record { path = p; own = frame_values t.frame } in b) (path.2 ∙ ap (λ f. inner_path limit c plan many f s) (site_is path.0 site (sym path.1 ∙ here)))
      ∙ ap (λ us. let b : Start ThreadPath = record { path = inner_path limit c plan many site s; own = us } in b) own;
  fits = small;
  lent = λ x. subst (λ seen. (covered t.regions.items x ≡ true) ↔ IsLent site q seen j x) same (lent x);
  inside = inside;
}
  where
    site_is : (f g : CodeSite) → ◌≡◌ {A = Option CodeSite} (Some f) (Some g) → f ≡ g
    site_is f g e = cc

-- ---- at a machine that stands at the fork
module _ (limit : ℕ) (c : Code) (plan : Plan) (q : Asked) (m : Machine) (many : ℕ) where
  starts_same : (site : CodeSite) (cells : List Cell) (js : List Share) → thread_starts limit c plan site q (state_of m []) many m.turns js ≡ thread_starts limit c plan site q (state_of m cells) many m.turns js
  starts_same site cells [] = refl
  starts_same site cells (j ∷ js) = ap (λ bs. thread_start limit c plan site q (state_of m cells) many m.turns j ∷ bs) (starts_same site cells js)

  one_site : (site other : CodeSite) → ◌≡◌ {A = Option CodeSite} (Some site) (Some other) → site ≡ other
  one_site site other e = cc

  module _ (site : CodeSite) (here : slice_get c.sites q.site ≡ Some site) (sizes : List ℕ) (dealt : sizes ≡ sizes_for (cuts_of plan) site.kind q) (ts : List (Thread ThreadPath)) (all : AllDealt limit c plan site q (state_of m []) many (deal 0 0 sizes) ts) where
    pub starts_so : (other : CodeSite) (cells : List Cell) → slice_get c.sites q.site ≡ Some other → length cells ≡ many → begins_of ts ≡ starts_at limit c plan other q (state_of m cells)
    starts_so other cells there long =
        begins_all limit c plan site q (state_of m []) many (deal 0 0 sizes) ts all ∙ starts_same site cells (deal 0 0 sizes)
        ∙ ap (λ ns. thread_starts limit c plan site q (state_of m cells) many m.turns (deal 0 0 ns)) dealt
        ∙ ap (λ n. thread_starts limit c plan site q (state_of m cells) n m.turns (shares_of plan site q)) (sym long)
        ∙ ap (λ s. starts_at limit c plan s q (state_of m cells)) (one_site site other (sym here ∙ there))

    pub lent_so : (other : CodeSite) → slice_get c.sites q.site ≡ Some other → Owns other q (sees (state_of m [])) (shares_of plan other q) (owner_from 0 (areas_of ts))
    lent_so other there =
        subst (λ s. Owns s q (sees (state_of m [])) (shares_of plan s q) (owner_from 0 (areas_of ts))) (one_site site other (sym here ∙ there))
        (subst (λ ns. Owns site q (sees (state_of m [])) (deal 0 0 ns) (owner_from 0 (areas_of ts))) dealt (owns_all limit c plan site q (state_of m []) many sizes ts all))
