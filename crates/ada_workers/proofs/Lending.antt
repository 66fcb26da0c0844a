-- What is lent to threads and what comes back of it.
use Rattle.std.proofs.Common.{◌≡◌, ℕ, suc, ◌<◌, inl, inr, true, cond, List, [], ◌∷◌, ◌++◌, length, get_or, Option, Some, None, refl, sym, ◌∙◌, ap, subst}
use Rattle.atomic_table.specs.Seated.{TableId}
use Rattle.leave_board.specs.Boards.{Sitting, AllOf, AnyOf, Is, Closes, fresh}
use Rattle.leave_board.specs.Halts.{IsTold}
use Rattle.cell_strip.specs.declared.region.Region.{Region}
use Rattle.cell_strip.specs.Regions.{covered}
use Rattle.cell_strip.specs.Strips.{Block, cell}
use Rattle.ada_base.specs.Cells.{Cell, Gone}
use Rattle.cell_memory.specs.Sight.{Sight, mine_or, taken_back}
use Rattle.cell_memory.proofs.Views.{length-table}
use Rattle.ada_workers.specs.Paths.{Runs, Fine}
use Rattle.ada_workers.specs.Orders.{view_of, lent_of, out_of, all_out, AllFine}
use Rattle.ada_workers.specs.Tasks.{AllHome, begun, AllFineOver, AllReturned, SeatsTell}
use Rattle.ada_workers.specs.Joins.{starts_of, regions_of, AllIn, LentOne, LentTo, BacksHome, put_back_of, puts_back, over_of, overs_of, with_cells, Chose}
use Rattle.ada_workers.specs.declared.tasks.Ready.{Ready}
use Rattle.ada_workers.specs.declared.tasks.Back.{Back}
use Rattle.ada_workers.specs.declared.construct.Job.{Job}
use Rattle.ada_workers.specs.declared.construct.Over.{Over}

pub length-all_out : (cs : List Cell) (rss : List (List Region)) → length (all_out cs rss) ≡ length cs
length-all_out cs [] = refl
length-all_out cs (rs ∷ rss) = length-all_out (out_of cs rs) rss ∙ length-table (length cs) (λ x. cond (covered rs x) Gone (get_or cs x Gone))

none_told : (o : Option ℕ) → Is o None → IsTold o → ⊥
none_told o (inl e) t = no t.0 (sym e ∙ t.1) where
  no : (t : ℕ) → None ≡ Some t → ⊥
  no t e = cc
none_told o (inr e) t = no t.0 (sym e ∙ t.1) where
  no : (t : ℕ) → None ≡ Some t → ⊥
  no t e = cc

pub all_boards : (name : TableId) (ss : List Sitting) → AllOf (λ s. s ≡ fresh name) ss → AllOf (λ s. s.board ≡ name) ss
all_boards name [] a = tt
all_boards name (s ∷ ss) a = (ap (λ (x : Sitting). x.board) a.0, all_boards name ss a.1)

module _ {P : Type 0} where
  pub out_snoc : (cs : List Cell) (js : List (Job P)) (j : Job P) → all_out cs (regions_of (js ++ j ∷ [])) ≡ out_of (all_out cs (regions_of js)) j.regions.items
  out_snoc cs [] j = refl
  out_snoc cs (i ∷ js) j = out_snoc (out_of cs i.regions.items) js j

  pub lent_snoc : (home : Block) (cs : List Cell) (js : List (Job P)) (rs : List (Ready P)) (j : Job P) (r : Ready P) → LentTo home cs js rs → LentOne home (all_out cs (regions_of js)) j r → LentTo home cs (js ++ j ∷ []) (rs ++ r ∷ [])
  lent_snoc home cs [] [] j r h g = (g, tt)
  lent_snoc home cs [] (q ∷ rs) j r h g = absurd h
  lent_snoc home cs (i ∷ js) [] j r h g = absurd h
  lent_snoc home cs (i ∷ js) (q ∷ rs) j r h g = (h.0, lent_snoc home (out_of cs i.regions.items) js rs j r h.1 g)

  in_at : (n : ℕ) (xs : List (Job P)) (j : Job P) (ys : List (Job P)) → AllIn n (xs ++ j ∷ ys) → (x : ℕ) → covered j.regions.items x ≡ true → x < n
  in_at n [] j ys a = a.0
  in_at n (x ∷ xs) j ys a = in_at n xs j ys a.1

  pub in_in : (n : ℕ) (all xs rest : List (Job P)) (j : Job P) (ys : List (Job P)) → AllIn n all → all ≡ xs ++ rest → rest ≡ j ∷ ys → (x : ℕ) → covered j.regions.items x ≡ true → x < n
  in_in n all xs rest j ys a e f = in_at n xs j ys (subst (AllIn n) (e ∙ ap (λ l. xs ++ l) f) a)

  back_at : (home : Block) (xs : List (Back P)) (b : Back P) (ys : List (Back P)) → BacksHome home (xs ++ b ∷ ys) → b.lent.block ≡ home
  back_at home [] b ys a = a.0
  back_at home (x ∷ xs) b ys a = back_at home xs b ys a.1

  pub back_in : (home : Block) (all xs rest : List (Back P)) (b : Back P) (ys : List (Back P)) → BacksHome home all → all ≡ xs ++ rest → rest ≡ b ∷ ys → b.lent.block ≡ home
  back_in home all xs rest b ys a e f = back_at home xs b ys (subst (BacksHome home) (e ∙ ap (λ l. xs ++ l) f) a)

  pub puts_snoc : (cs : List Cell) (bs : List (Back P)) (b : Back P) → puts_back cs (bs ++ b ∷ []) ≡ put_back_of (puts_back cs bs) b.lent
  puts_snoc cs [] b = refl
  puts_snoc cs (c ∷ bs) b = puts_snoc (put_back_of cs c.lent) bs b

  pub overs_snoc : (bs : List (Back P)) (b : Back P) → overs_of (bs ++ b ∷ []) ≡ overs_of bs ++ over_of b ∷ []
  overs_snoc [] b = refl
  overs_snoc (c ∷ bs) b = ap (λ l. over_of c ∷ l) (overs_snoc bs b)

  -- one more is put back
  pub put_more : (s v w : Sight) (bs : List (Back P)) (b : Back P) → v ≡ with_cells s (puts_back s.cells bs) → w ≡ taken_back v b.lent → w ≡ with_cells s (puts_back s.cells (bs ++ b ∷ []))
  put_more s v w bs b e f = f ∙ ap (λ (x : Sight). taken_back x b.lent) e ∙ ap (with_cells s) (sym (puts_snoc s.cells bs b))

  pub over_more : (os ps : List (Over P)) (bs : List (Back P)) (b : Back P) → os ≡ overs_of bs → ps ≡ os ++ over_of b ∷ [] → ps ≡ overs_of (bs ++ b ∷ [])
  over_more os ps bs b e f = f ∙ ap (λ (l : List (Over P)). l ++ over_of b ∷ []) e ∙ sym (overs_snoc bs b)

  pub length-puts : (cs : List Cell) (bs : List (Back P)) → length (puts_back cs bs) ≡ length cs
  length-puts cs [] = refl
  length-puts cs (b ∷ bs) = length-puts (put_back_of cs b.lent) bs ∙ length-table (length cs) (λ x. mine_or (cell b.lent x) (get_or cs x Gone))

  pub length-lent : (home : Block) (cs : List Cell) (js : List (Job P)) (rs : List (Ready P)) → LentTo home cs js rs → length rs ≡ length js
  length-lent home cs [] [] h = refl
  length-lent home cs [] (r ∷ rs) h = absurd h
  length-lent home cs (j ∷ js) [] h = absurd h
  length-lent home cs (j ∷ js) (r ∷ rs) h = ap suc (length-lent home (out_of cs j.regions.items) js rs h.1)

  pub lent_home : (home : Block) (cs : List Cell) (js : List (Job P)) (rs : List (Ready P)) → LentTo home cs js rs → AllHome home rs
  lent_home home cs [] [] h = tt
  lent_home home cs [] (r ∷ rs) h = absurd h
  lent_home home cs (j ∷ js) [] h = absurd h
  lent_home home cs (j ∷ js) (r ∷ rs) h = (h.0.home, lent_home home (out_of cs j.regions.items) js rs h.1)

  -- the view over what is left, by the lent cells
  pub same_view : (home : Block) (cs end : List Cell) (j : Job P) (r : Ready P) → LentOne home cs j r → view_of end (λ x. cell r.lent x) r.own.values ≡ view_of end (lent_of cs j.regions.items) j.own.values
  same_view home cs end j r h = λ i. view_of end (λ x. h.cells x i) (h.own i).values

  module _ (runs : Runs P) where
    pub fine_over : (home : Block) (cs : List Cell) (s : Sight) (js : List (Job P)) (rs : List (Ready P)) → LentTo home cs js rs → AllFine runs s.cells cs (starts_of js) (regions_of js) → AllFineOver runs s rs
    fine_over home cs s [] [] h f = tt
    fine_over home cs s [] (r ∷ rs) h f = absurd h
    fine_over home cs s (j ∷ js) [] h f = absurd h
    fine_over home cs s (j ∷ js) (r ∷ rs) h f =
        (subst (λ p. Fine (runs p None (begun s r)).end) (sym h.0.path) (subst (λ vs. Fine (runs j.path None vs).end) (sym (same_view home cs s.cells j r h.0)) f.0), fine_over home (out_of cs j.regions.items) s js rs h.1 f.1)

  -- ---- the seats
  pub length-seats : (name : TableId) (k : ℕ) (bs : List (Back P)) (ss : List Sitting) → SeatsTell name k bs ss → length ss ≡ length bs
  length-seats name k [] [] h = refl
  length-seats name k [] (s ∷ ss) h = absurd h
  length-seats name k (b ∷ bs) [] h = absurd h
  length-seats name k (b ∷ bs) (s ∷ ss) h = ap suc (length-seats name (suc k) bs ss h.1)

  pub seats_board : (name : TableId) (k : ℕ) (bs : List (Back P)) (ss : List Sitting) → SeatsTell name k bs ss → AllOf (λ s. s.board ≡ name) ss
  seats_board name k [] [] h = tt
  seats_board name k [] (s ∷ ss) h = absurd h
  seats_board name k (b ∷ bs) [] h = absurd h
  seats_board name k (b ∷ bs) (s ∷ ss) h = (h.0.board, seats_board name (suc k) bs ss h.1)

  chose_none : (name : TableId) (k : ℕ) (bs : List (Back P)) (ss : List Sitting) → SeatsTell name k bs ss → AllOf (λ s. Is s.seen None) ss → Chose None k bs
  chose_none name k [] [] h a = tt
  chose_none name k [] (s ∷ ss) h a = tt
  chose_none name k (b ∷ bs) [] h a = absurd h
  chose_none name k (b ∷ bs) (s ∷ ss) h a = (λ w. none_told s.seen a.0 (h.0.told w), chose_none name (suc k) bs ss h.1 a.1)

  chose_some : (name : TableId) (t k : ℕ) (bs : List (Back P)) (ss : List Sitting) → SeatsTell name k bs ss → AnyOf (λ s. s.first ≡ Some t) ss → Chose (Some t) k bs
  chose_some name t k [] [] h a = absurd a
  chose_some name t k [] (s ∷ ss) h a = absurd h
  chose_some name t k (b ∷ bs) [] h a = absurd h
  chose_some name t k (b ∷ bs) (s ∷ ss) h (inl e) = inl (h.0.first t e)
  chose_some name t k (b ∷ bs) (s ∷ ss) h (inr a) = inr (chose_some name t (suc k) bs ss h.1 a)

  pub chosen : (name : TableId) (bs : List (Back P)) (ss : List Sitting) (r : Option ℕ) → SeatsTell name 0 bs ss → Closes ss r → Chose r 0 bs
  chosen name bs ss None h c = chose_none name 0 bs ss h c.seen
  chosen name bs ss (Some t) h c = chose_some name t 0 bs ss h (c.some t refl)

  pub length-returned : (runs : Runs P) (s : Sight) (rs : List (Ready P)) (bs : List (Back P)) → AllReturned runs s rs bs → length bs ≡ length rs
  length-returned runs s [] [] h = refl
  length-returned runs s [] (b ∷ bs) h = absurd h
  length-returned runs s (r ∷ rs) [] h = absurd h
  length-returned runs s (r ∷ rs) (b ∷ bs) h = ap suc (length-returned runs s rs bs h.1)

  pub backs_home : (runs : Runs P) (home : Block) (s : Sight) (rs : List (Ready P)) (bs : List (Back P)) → AllHome home rs → AllReturned runs s rs bs → BacksHome home bs
  backs_home runs home s [] [] a h = tt
  backs_home runs home s [] (b ∷ bs) a h = absurd h
  backs_home runs home s (r ∷ rs) [] a h = absurd h
  backs_home runs home s (r ∷ rs) (b ∷ bs) a h = (h.0.home ∙ a.0, backs_home runs home s rs bs a.1 h.1)
