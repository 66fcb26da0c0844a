-- Lists of cells that none is empty of.
use Rattle.std.specs.Prelude.{◌≡◌, ℕ, zero, suc, ℤ, ◌+◌, ◌<◌, List, [], ◌∷◌, ◌++◌, ◌-◌, map, length, get_or, slice_set, replicate, pos, Bool, true, false, not, cond, Option, Some, None, ◌⊎◌}
use mathlib.Core.Path.{Path}
use Rattle.std.proofs.lemmas.List.{append-nil}
use Rattle.std.proofs.Common.{refl, sym, ap, ◌∙◌, subst, inl, inr, arith, lit<}
use mir.Syntax.{w64}
use mir.Val.{SFits}
use denote.RawPtr.{Ptr}
use Rattle.cell_strip.proofs.Memory.{length-kept, length-merged}
use Rattle.std.specs.declared.alloc.Global.{Global}
use Rattle.cell_strip.specs.declared.cells.Deed.{Deed}
use Rattle.std.proofs.lemmas.List.{take_more, get_or_default}
use Rattle.std.specs.Prelude.{take, ◌&&◌, ◌||◌}
use Rattle.cell_strip.specs.declared.region.Region.{Region}
use Rattle.cell_strip.specs.Regions.{has, covered, empty}
use Rattle.cell_strip.specs.Ownership.{kept, merged, or_else, Apart, IsFilled, IsFilledIn, IsWhole}
use Rattle.cell_strip.specs.Strips.{Strip, is_there, stored, with_cells, cell, owns}
use Rattle.cell_strip.specs.declared.cells.Cells.{Cells}
use Rattle.cell_strip.specs.declared.part.Part.TheInside.{Inside}
use Rattle.cell_strip.specs.Parts.{shown, hidden, seen, WholeOf, Whole}

pub shown-hidden : (cs : List (Option ℤ)) → map shown (map hidden cs) ≡ cs
shown-hidden [] = refl
shown-hidden (None ∷ cs) = ap (λ l. None ∷ l) (shown-hidden cs)
shown-hidden (Some x ∷ cs) = ap (λ l. Some x ∷ l) (shown-hidden cs)

pub get-hidden : (cs : List (Option ℤ)) (i : ℕ) → get_or (map hidden cs) i None ≡ hidden (get_or cs i None)
get-hidden [] i = refl
get-hidden (c ∷ cs) zero = refl
get-hidden (c ∷ cs) (suc i) = get-hidden cs i

pub set-hidden : (cs : List (Option ℤ)) (i : ℕ) (v : ℤ) → slice_set (map hidden cs) i (Some (Some v)) ≡ map hidden (slice_set cs i (Some v))
set-hidden [] i v = refl
set-hidden (c ∷ cs) zero v = refl
set-hidden (c ∷ cs) (suc i) v = ap (λ l. hidden c ∷ l) (set-hidden cs i v)

pub set-set : {X : Type 0} (cs : List X) (i : ℕ) (x y : X) → slice_set (slice_set cs i x) i y ≡ slice_set cs i y
set-set [] i x y = refl
set-set (c ∷ cs) zero x y = refl
set-set (c ∷ cs) (suc i) x y = ap (λ l. c ∷ l) (set-set cs i x y)

pub get-set : {X : Type 0} (cs : List X) (i : ℕ) (x d : X) → i < length cs → get_or (slice_set cs i x) i d ≡ x
get-set [] i x d lt = absurd (omega (arith, lt))
get-set (c ∷ cs) zero x d lt = refl
get-set (c ∷ cs) (suc i) x d lt = get-set cs i x d (omega (arith, lt))

pub there_below : {X : Type 0} (cs : List (Option X)) (i : ℕ) → is_there (get_or cs i None) ≡ true → i < length cs
there_below [] i e = cc
there_below (c ∷ cs) zero e = omega arith
there_below (c ∷ cs) (suc i) e = omega (arith, there_below cs i e)

pub filled_below : {X : Type 0} (cs : List (Option X)) (i : ℕ) (x : X) → get_or cs i None ≡ Some x → i < length cs
filled_below cs i x e = there_below cs i (ap is_there e)

held : (c : Option ℤ) → is_there c ≡ true → (x : ℤ) × (c ≡ Some x)
held None e = cc
held (Some x) e = (x, refl)

pub map_length : (cs : List (Option ℤ)) → length (map hidden cs) ≡ length cs
map_length [] = refl
map_length (c ∷ cs) = ap suc (map_length cs)

-- a cell of the view is a cell that is filled
pub filled_at : (cs : List (Option ℤ)) (slots : List (Option (Option ℤ))) (i : ℕ) → slots ≡ map hidden cs → is_there (get_or cs i None) ≡ true → IsFilled slots i
filled_at cs slots i e there =
    let h = held (get_or cs i None) there in
    (h.0, ap (λ l. get_or l i None) e ∙ get-hidden cs i ∙ ap hidden h.1)

pub raised : (slots : List (Option (Option ℤ))) (cs : List (Option ℤ)) → slots ≡ map hidden (map shown slots) → map shown slots ≡ cs → slots ≡ map hidden cs
raised slots cs e v = e ∙ ap (λ l. map hidden l) v

-- the view's cell is what a filled cell holds
pub cell_is : (cs : List (Option ℤ)) (slots : List (Option (Option ℤ))) (i : ℕ) (v : ℤ) → slots ≡ map hidden cs → get_or slots i None ≡ Some (Some v) → get_or cs i None ≡ Some v
cell_is cs slots i v e g = same (get_or cs i None) (sym (get-hidden cs i) ∙ ap (λ l. get_or l i None) (sym e) ∙ g) where
  same : (c : Option ℤ) → hidden c ≡ Some (Some v) → c ≡ Some v
  same None h = cc
  same (Some x) h = ap shown h

there-hidden : (c : Option ℤ) → is_there (hidden c) ≡ is_there c
there-hidden None = refl
there-hidden (Some x) = refl

pub first_set : {X : Type 0} (cs : List (Option X)) (i : ℕ) (x : X) → is_there (get_or cs i None) ≡ true → is_there (get_or (slice_set cs i (Some x)) 0 None) ≡ is_there (get_or cs 0 None)
first_set [] i x e = refl
first_set (c ∷ cs) zero x e = sym e
first_set (c ∷ cs) (suc i) x e = refl

length_set : {X : Type 0} (cs : List X) (i : ℕ) (x : X) → length (slice_set cs i x) ≡ length cs
length_set [] i x = refl
length_set (c ∷ cs) zero x = refl
length_set (c ∷ cs) (suc i) x = ap suc (length_set cs i x)

abbrev pub All64 : List (Option ℤ) → Type 0
All64 cs = (i : ℕ) (v : ℤ) → get_or cs i None ≡ Some v → SFits w64 v

hides : (c : Option ℤ) (v : ℤ) → hidden c ≡ Some (Some v) → c ≡ Some v
hides None v h = cc
hides (Some x) v h = ap shown h

module _ (base : Ptr) (many : ℕ) (alloc : Global) (deed : Option (Deed ℤ Global)) (at : Ptr) where
  -- a part that is seen as cs and has the fields' other properties
  pub whole_of : (slots : List (Option (Option ℤ))) (cs : List (Option ℤ)) → at ≡ base → slots ≡ map hidden cs → length cs ≡ many
      → ((d : Deed ℤ Global) → deed ≡ Some d → (d.at ≡ base) × (d.len ≡ many) × (d.alloc ≡ alloc))
      → All64 cs → (0 < many → is_there deed ≡ is_there (get_or cs 0 None)) → WholeOf base many alloc deed at slots
  whole_of slots cs p e n h small f = record {
    place = p;
    long = ap length e ∙ map_length cs ∙ n;
    filled = e ∙ ap (λ l. map hidden l) (sym (shown-hidden cs) ∙ ap (λ l. map shown l) (sym e));
    freed = h;
    fits = λ i v g. small i v (hides (get_or cs i None) v (sym (get-hidden cs i) ∙ ap (λ l. get_or l i None) (sym e) ∙ g));
    first = λ z. f z ∙ sym (there-hidden (get_or cs 0 None)) ∙ ap is_there (sym (get-hidden cs 0)) ∙ ap (λ l. is_there (get_or l 0 None)) (sym e);
  }

  module _ (slots : List (Option (Option ℤ))) (cs : List (Option ℤ)) (e : slots ≡ map hidden cs) (w : WholeOf base many alloc deed at slots) where
    pub cells_first : 0 < many → is_there deed ≡ is_there (get_or cs 0 None)
    cells_first z = w.first z ∙ ap (λ l. is_there (get_or l 0 None)) e ∙ ap is_there (get-hidden cs 0) ∙ there-hidden (get_or cs 0 None)

    pub cells_many : length cs ≡ many
    cells_many = sym (map_length cs) ∙ ap length (sym e) ∙ w.long

    pub cells_64 : All64 cs
    cells_64 i v g = w.fits i v (ap (λ l. get_or l i None) e ∙ get-hidden cs i ∙ ap hidden g)

-- one cell is read out and written again
pub again : (slots new : List (Option (Option ℤ))) (cs : List (Option ℤ)) (i : ℕ) (v : ℤ) → slots ≡ map hidden cs → new ≡ slice_set (slice_set slots i (Some None)) i (Some (Some v)) → new ≡ map hidden (slice_set cs i (Some v))
again slots new cs i v e h = h ∙ set-set slots i (Some None) (Some (Some v)) ∙ ap (λ l. slice_set l i (Some (Some v))) e ∙ set-hidden cs i v

set_64 : (cs : List (Option ℤ)) (i : ℕ) (v : ℤ) → All64 cs → SFits w64 v → All64 (slice_set cs i (Some v))
set_64 [] i v a f j u g = a j u g
set_64 (c ∷ cs) zero v a f zero u g = subst (λ z. SFits w64 z) (some_is v u g) f where
  some_is : (x y : ℤ) → Some x ≡ Some y → x ≡ y
  some_is x y h = cc
set_64 (c ∷ cs) zero v a f (suc j) u g = a (suc j) u g
set_64 (c ∷ cs) (suc i) v a f zero u g = a zero u g
set_64 (c ∷ cs) (suc i) v a f (suc j) u g = set_64 cs i v (λ k. a (suc k)) f j u g

pub set_whole : (base : Ptr) (many : ℕ) (alloc : Global) (deed : Option (Deed ℤ Global)) (at at' : Ptr) (slots new : List (Option (Option ℤ))) (cs : List (Option ℤ)) (i : ℕ) (v : ℤ)
    → slots ≡ map hidden cs → WholeOf base many alloc deed at slots → is_there (get_or cs i None) ≡ true → at' ≡ at → new ≡ map hidden (slice_set cs i (Some v)) → SFits w64 v → WholeOf base many alloc deed at' new
set_whole base many alloc deed at at' slots new cs i v e w own same now f =
    whole_of base many alloc deed at' new (slice_set cs i (Some v)) (same ∙ w.place) now (length_set cs i (Some v) ∙ cells_many base many alloc deed at slots cs e w) w.freed
    (set_64 cs i v (cells_64 base many alloc deed at slots cs e w) f) (λ z. cells_first base many alloc deed at slots cs e w z ∙ sym (first_set cs i v own))

pub kept-hidden : (f : ℕ → Bool) (k : ℕ) (cs : List (Option ℤ)) → kept f k (map hidden cs) ≡ map hidden (kept f k cs)
kept-hidden f k [] = refl
kept-hidden f k (c ∷ cs) = join (f k) (kept-hidden f (suc k) cs) where
  join : (y : Bool) → kept f (suc k) (map hidden cs) ≡ map hidden (kept f (suc k) cs) → cond y (hidden c) None ∷ kept f (suc k) (map hidden cs) ≡ hidden (cond y c None) ∷ map hidden (kept f (suc k) cs)
  join true h = ap (λ l. hidden c ∷ l) h
  join false h = ap (λ l. None ∷ l) h

pub merged-hidden : (cs ds : List (Option ℤ)) → merged (map hidden cs) (map hidden ds) ≡ map hidden (merged cs ds)
merged-hidden [] ds = refl
merged-hidden (c ∷ cs) [] = refl
merged-hidden (None ∷ cs) (d ∷ ds) = ap (λ l. hidden d ∷ l) (merged-hidden cs ds)
merged-hidden (Some x ∷ cs) (d ∷ ds) = ap (λ l. Some (Some x) ∷ l) (merged-hidden cs ds)

pub get-kept : {X : Type 0} (f : ℕ → Bool) (k : ℕ) (cs : List (Option X)) (i : ℕ) → get_or (kept f k cs) i None ≡ cond (f (i + k)) (get_or cs i None) None
get-kept f k [] i = nothing (f (i + k)) where
  nothing : {X : Type 0} (y : Bool) → Path (Option X) None (cond y None None)
  nothing true = refl
  nothing false = refl
get-kept f k (c ∷ cs) zero = ap (λ n. cond (f n) c None) (omega arith)
get-kept f k (c ∷ cs) (suc i) = get-kept f (suc k) cs i ∙ ap (λ n. cond (f n) (get_or cs i None) None) (omega arith)

kept_64 : (f : ℕ → Bool) (k : ℕ) (cs : List (Option ℤ)) → All64 cs → All64 (kept f k cs)
kept_64 f k cs a i v g = a i v (picks (f (i + k)) (sym (get-kept f k cs i) ∙ g)) where
  picks : (y : Bool) → cond y (get_or cs i None) None ≡ Some v → get_or cs i None ≡ Some v
  picks true h = h
  picks false h = cc

pub get-merged : {X : Type 0} (cs ds : List (Option X)) (i : ℕ) → get_or (merged cs ds) i None ≡ or_else (get_or cs i None) (get_or ds i None)
get-merged [] ds i = refl
get-merged (None ∷ cs) [] zero = refl
get-merged (Some x ∷ cs) [] zero = refl
get-merged (c ∷ cs) [] (suc i) = none_else (get_or cs i None) where
  none_else : {X : Type 0} (c : Option X) → c ≡ or_else c None
  none_else None = refl
  none_else (Some x) = refl
get-merged (c ∷ cs) (d ∷ ds) zero = refl
get-merged (c ∷ cs) (d ∷ ds) (suc i) = get-merged cs ds i

merged_64 : (cs ds : List (Option ℤ)) → All64 cs → All64 ds → All64 (merged cs ds)
merged_64 cs ds a b i v g = from (get_or cs i None) refl (sym (get-merged cs ds i) ∙ g) where
  from : (c : Option ℤ) → get_or cs i None ≡ c → or_else c (get_or ds i None) ≡ Some v → SFits w64 v
  from None q h = b i v h
  from (Some x) q h = a i v (q ∙ h)

pub length-replicate_some : (n : ℕ) → length (replicate n (Some (pos 0))) ≡ n
length-replicate_some zero = refl
length-replicate_some (suc n) = ap suc (length-replicate_some n)

-- what a part with other cells of its block is seen as
pub seen_with : (a : Inside) (s : Strip) (at : Ptr) (name : ℕ) (slots : List (Option (Option ℤ))) (cs : List (Option ℤ)) → seen a ≡ s → at ≡ a.cells.at → name ≡ a.cells.name → slots ≡ map hidden cs
    → Path Strip (record { block = record { name = record { number = name; at = at }; many = a.many }; cells = map shown slots }) (record s { cells = cs })
seen_with a s at name slots cs v p n e i = record { block = record { name = record { number = (n ∙ ap (λ t. t.block.name.number) v) i; at = (p ∙ ap (λ t. t.block.name.at) v) i }; many = (ap (λ t. t.block.many) v) i }; cells = (ap (λ l. map shown l) e ∙ shown-hidden cs) i }

pub seen_set : (a : Inside) (s : Strip) (new : Cells ℤ) (x : ℕ) (v : ℤ) → seen a ≡ s → new.at ≡ a.cells.at → new.name ≡ a.cells.name → new.slots ≡ map hidden (slice_set s.cells x (Some v))
    → seen (record a { cells = new }) ≡ stored s x v
seen_set a s new x v is p n e = seen_with a s new.at new.name new.slots (slice_set s.cells x (Some v)) is p n e

first_kept : (y : Bool) (c : Option ℤ) → is_there (cond y c None) ≡ cond y (is_there c) false
first_kept true c = refl
first_kept false c = refl

module _ (base : Ptr) (many : ℕ) (alloc : Global) (deed : Option (Deed ℤ Global)) (at : Ptr) (slots : List (Option (Option ℤ))) (cs : List (Option ℤ)) (e : slots ≡ map hidden cs) (w : WholeOf base many alloc deed at slots) where
  deals : (y : Bool) (d : Deed ℤ Global) → cond y deed None ≡ Some d → (d.at ≡ base) × (d.len ≡ many) × (d.alloc ≡ alloc)
  deals true d q = w.freed d q
  deals false d q = cc

  follows : 0 < many → (y : Bool) → is_there (cond y deed None) ≡ cond y (is_there (get_or cs 0 None)) false
  follows z true = cells_first base many alloc deed at slots cs e w z
  follows z false = refl

  -- some of a part's cells, with the right to free the block where the first cell is among them
  pub kept_whole : (f : ℕ → Bool) (y : Bool) → y ≡ f 0 → (at' : Ptr) (deed' : Option (Deed ℤ Global)) (new : List (Option (Option ℤ))) → at' ≡ at → deed' ≡ cond y deed None → new ≡ kept f 0 slots → WholeOf base many alloc deed' at' new
  kept_whole f y g at' deed' new p d n =
      let now : new ≡ map hidden (kept f 0 cs) = n ∙ ap (λ l. kept f 0 l) e ∙ kept-hidden f 0 cs in
      subst (λ x. WholeOf base many alloc x at' new) (sym d)
      (whole_of base many alloc (cond y deed None) at' new (kept f 0 cs) (p ∙ w.place) now (length-kept f 0 cs ∙ cells_many base many alloc deed at slots cs e w) (deals y)
      (kept_64 f 0 cs (cells_64 base many alloc deed at slots cs e w))
      (λ p. follows p y ∙ ap (λ z. cond z (is_there (get_or cs 0 None)) false) g ∙ sym (first_kept (f 0) (get_or cs 0 None)) ∙ ap is_there (sym (get-kept f 0 cs 0))))

pub kept_seen : (slots new : List (Option (Option ℤ))) (cs : List (Option ℤ)) (f : ℕ → Bool) → slots ≡ map hidden cs → new ≡ kept f 0 slots → new ≡ map hidden (kept f 0 cs)
kept_seen slots new cs f e n = n ∙ ap (λ l. kept f 0 l) e ∙ kept-hidden f 0 cs

pub stays : {X : Type 0} (y : Bool) (x : Option X) → Path (Option X) (cond y None x) (cond (not y) x None)
stays true x = refl
stays false x = refl

-- what the fields say of the view's cells
pub lifted : (a : Inside) (s : Strip) → Whole a → seen a ≡ s → a.cells.slots ≡ map hidden s.cells
lifted a s w v = raised a.cells.slots s.cells w.filled (ap (λ t. t.cells) v)

pub fill_step : {X : Type 0} (a b : X) (i n : ℕ) → i < n → slice_set (replicate i a ++ replicate (n - i) b) i a ≡ replicate (suc i) a ++ replicate (n - suc i) b
fill_step a b i zero lt = absurd (omega (arith, lt))
fill_step a b zero (suc n) lt = let e : suc n - 0 ≡ suc n = omega arith in let f : suc n - 1 ≡ n = omega arith in rw (e, f) refl
fill_step a b (suc i) (suc n) lt = let e : suc n - suc i ≡ n - i = omega arith in let f : suc n - suc (suc i) ≡ n - suc i = omega arith in rw (e, f) (ap (λ l. a ∷ l) (fill_step a b i n (omega (arith, lt))))

pub none_filled : {X : Type 0} (a b : X) (n : ℕ) → replicate n b ≡ replicate 0 a ++ replicate (n - 0) b
none_filled a b n = ap (λ k. replicate k b) (omega arith)

pub all_filled : {X : Type 0} (a b : X) (n : ℕ) → replicate n a ++ replicate (n - n) b ≡ replicate n a
all_filled a b n = let e : n - n ≡ 0 = omega arith in rw (e) (append-nil (replicate n a))

pub one_global : (a b : Global) → a ≡ b
one_global a b = refl

there_or : {X : Type 0} (c d : Option X) → is_there (or_else c d) ≡ cond (is_there c) true (is_there d)
there_or None d = refl
there_or (Some x) d = refl

pub apart-hidden : (cs ds : List (Option ℤ)) → Apart (map hidden cs) (map hidden ds) → (i : ℕ) → (get_or cs i None ≡ None) ⊎ (get_or ds i None ≡ None)
apart-hidden cs ds a i = elim (a i) [ inl e ↦ inl (empty (get_or cs i None) (sym (get-hidden cs i) ∙ e)) | inr e ↦ inr (empty (get_or ds i None) (sym (get-hidden ds i) ∙ e)) ] where
  empty : (c : Option ℤ) → hidden c ≡ None → c ≡ None
  empty None h = refl
  empty (Some x) h = cc

module _ (base base' : Ptr) (many many' : ℕ) (alloc alloc' : Global) (deed deed' : Option (Deed ℤ Global)) (at at' : Ptr) (slots slots' : List (Option (Option ℤ))) (cs ds : List (Option ℤ))
    (e : slots ≡ map hidden cs) (e' : slots' ≡ map hidden ds) (w : WholeOf base many alloc deed at slots) (w' : WholeOf base' many' alloc' deed' at' slots') where
  unites : at ≡ at' → many ≡ many' → (o : Option (Deed ℤ Global)) → deed ≡ o → (d : Deed ℤ Global) → or_else o deed' ≡ Some d → (d.at ≡ base) × (d.len ≡ many) × (d.alloc ≡ alloc)
  unites p n None q d h = let f = w'.freed d h in (f.0 ∙ sym w'.place ∙ sym p ∙ w.place, f.1 ∙ sym n, f.2)
  unites p n (Some x) q d h = w.freed d (q ∙ h)

  -- two parts of a block, taken together
  pub joined_whole : at ≡ at' → many ≡ many' → (at'' : Ptr) (deed'' : Option (Deed ℤ Global)) (new : List (Option (Option ℤ))) → at'' ≡ at → deed'' ≡ or_else deed deed' → new ≡ merged slots slots' → WholeOf base many alloc deed'' at'' new
  joined_whole p n at'' deed'' new q h g =
      let now : new ≡ map hidden (merged cs ds) = g ∙ (λ i. merged (e i) (e' i)) ∙ merged-hidden cs ds in
      let even : length ds ≡ length cs = cells_many base' many' alloc' deed' at' slots' ds e' w' ∙ sym n ∙ sym (cells_many base many alloc deed at slots cs e w) in
      subst (λ x. WholeOf base many alloc x at'' new) (sym h)
      (whole_of base many alloc (or_else deed deed') at'' new (merged cs ds) (q ∙ w.place) now (length-merged cs ds even ∙ cells_many base many alloc deed at slots cs e w)
      (unites p n deed refl)
      (merged_64 cs ds (cells_64 base many alloc deed at slots cs e w) (cells_64 base' many' alloc' deed' at' slots' ds e' w'))
      (λ z. there_or deed deed' ∙ (λ i. cond (cells_first base many alloc deed at slots cs e w z i) true (cells_first base' many' alloc' deed' at' slots' ds e' w' (subst (λ k. 0 < k) n z) i))
      ∙ sym (there_or (get_or cs 0 None) (get_or ds 0 None)) ∙ ap is_there (sym (get-merged cs ds 0))))

pub joined_seen : (slots slots' new : List (Option (Option ℤ))) (cs ds : List (Option ℤ)) → slots ≡ map hidden cs → slots' ≡ map hidden ds → new ≡ merged slots slots' → new ≡ map hidden (merged cs ds)
joined_seen slots slots' new cs ds e e' g = g ∙ (λ i. merged (e i) (e' i)) ∙ merged-hidden cs ds

pub all_owned : (slots : List (Option (Option ℤ))) (cs : List (Option ℤ)) → slots ≡ map hidden cs → ((i : ℕ) → i < length slots → is_there (get_or cs i None) ≡ true) → IsWhole slots
all_owned slots cs e h i lt = let f = filled_at cs slots i e (h i lt) in (Some f.0, f.1)

pub map-zeros : (n : ℕ) → map hidden (replicate n (Some (pos 0))) ≡ replicate n (Some (Some (pos 0)))
map-zeros zero = refl
map-zeros (suc n) = ap (λ l. Some (Some (pos 0)) ∷ l) (map-zeros n)

zero_64 : (n : ℕ) → All64 (replicate n (Some (pos 0)))
zero_64 zero i v g = cc
zero_64 (suc n) zero v g = subst (λ z. SFits w64 z) (same v g) (record { sfits = lit< tt }) where
  same : (v : ℤ) → Some (pos 0) ≡ Some v → pos 0 ≡ v
  same v h = cc
zero_64 (suc n) (suc i) v g = zero_64 n i v g

first_zero : (n : ℕ) → 0 < n → true ≡ is_there (get_or (replicate n (Some (pos 0))) 0 None)
first_zero zero z = absurd (omega (arith, z))
first_zero (suc n) z = refl

pub new_whole : (base : Ptr) (many : ℕ) (alloc : Global) (deed : Deed ℤ Global) (at : Ptr) (slots : List (Option (Option ℤ))) → at ≡ base → slots ≡ replicate many (Some (Some (pos 0)))
    → (deed.at ≡ base) × (deed.len ≡ many) × (deed.alloc ≡ alloc) → WholeOf base many alloc (Some deed) at slots
new_whole base many alloc deed at slots p e h =
    whole_of base many alloc (Some deed) at slots (replicate many (Some (pos 0))) p (e ∙ sym (map-zeros many)) (length-replicate_some many)
    (λ d q. subst (λ x. (x.at ≡ base) × (x.len ≡ many) × (x.alloc ≡ alloc)) (same d q) h) (zero_64 many) (first_zero many) where
      same : (d : Deed ℤ Global) → Some deed ≡ Some d → deed ≡ d
      same d q = cc

pub new_seen : (many : ℕ) (slots : List (Option (Option ℤ))) → slots ≡ replicate many (Some (Some (pos 0))) → map shown slots ≡ replicate many (Some (pos 0))
new_seen many slots e = ap (λ l. map shown l) (e ∙ sym (map-zeros many)) ∙ shown-hidden (replicate many (Some (pos 0)))

pub fill_next : {X : Type 0} (a b : X) (i n : ℕ) (l new : List X) → i < n → l ≡ replicate i a ++ replicate (n - i) b → new ≡ slice_set l i a → new ≡ replicate (i + 1) a ++ replicate (n - (i + 1)) b
fill_next a b i n l new lt e h = let up : suc i ≡ i + 1 = omega arith in h ∙ ap (λ l. slice_set l i a) e ∙ fill_step a b i n lt ∙ ap (λ k. replicate k a ++ replicate (n - k) b) up

pub joined_apart : (slots slots' : List (Option (Option ℤ))) (cs ds : List (Option ℤ)) → slots ≡ map hidden cs → slots' ≡ map hidden ds → Apart slots slots' → (i : ℕ) → (get_or cs i None ≡ None) ⊎ (get_or ds i None ≡ None)
joined_apart slots slots' cs ds e e' a = apart-hidden cs ds (subst (λ l. Apart (map hidden cs) l) e' (subst (λ l. Apart l slots') e a))

-- ---- for callers: what a call leaves at an address
pub cell_cut : (s : Strip) (f : ℕ → Bool) (x : ℕ) → cell (with_cells s (kept f 0 s.cells)) x ≡ cond (f x) (cell s x) None
cell_cut s f x = get-kept f 0 s.cells x ∙ ap (λ n. cond (f n) (cell s x) None) (omega arith)

pub cell_joined : (s t : Strip) (x : ℕ) → cell (with_cells s (merged s.cells t.cells)) x ≡ or_else (cell s x) (cell t x)
cell_joined s t x = get-merged s.cells t.cells x

get-set_other : {X : Type 0} (cs : List X) (i j : ℕ) (x d : X) → ((i ≡ j) → ⊥) → get_or (slice_set cs i x) j d ≡ get_or cs j d
get-set_other [] i j x d n = refl
get-set_other (c ∷ cs) zero zero x d n = absurd (n refl)
get-set_other (c ∷ cs) zero (suc j) x d n = refl
get-set_other (c ∷ cs) (suc i) zero x d n = refl
get-set_other (c ∷ cs) (suc i) (suc j) x d n = get-set_other cs i j x d (λ e. n (ap suc e))

pub cell_stored : (s : Strip) (x : ℕ) (v : ℤ) → owns s x ≡ true → cell (stored s x v) x ≡ Some v
cell_stored s x v own = get-set s.cells x (Some v) None (there_below s.cells x own)

pub cell_else : (s : Strip) (x y : ℕ) (v : ℤ) → ((x ≡ y) → ⊥) → cell (stored s x v) y ≡ cell s y
cell_else s x y v n = get-set_other s.cells x y (Some v) None n

pub from_zero : (n : ℕ) → n ≡ n + 0
from_zero n = omega arith

-- a cell that one of two parts owns
there_one : (c d : Option ℤ) (slot slot' : Option (Option ℤ)) → slot ≡ hidden c → slot' ≡ hidden d → is_there (or_else c d) ≡ true
    → ((x : ℤ) × (slot ≡ Some (Some x))) ⊎ ((slot ≡ None) × ((x : ℤ) × (slot' ≡ Some (Some x))))
there_one None None slot slot' e e' h = cc
there_one None (Some x) slot slot' e e' h = inr (e, (x, e'))
there_one (Some x) d slot slot' e e' h = inl (x, e)

pub filled_in : (cs ds : List (Option ℤ)) (slots slots' : List (Option (Option ℤ))) (i : ℕ) → slots ≡ map hidden cs → slots' ≡ map hidden ds → is_there (or_else (get_or cs i None) (get_or ds i None)) ≡ true → IsFilledIn slots slots' i
filled_in cs ds slots slots' i e e' h =
    there_one (get_or cs i None) (get_or ds i None) (get_or slots i None) (get_or slots' i None) (ap (λ l. get_or l i None) e ∙ get-hidden cs i) (ap (λ l. get_or l i None) e' ∙ get-hidden ds i) h

one_of : (c d : Option ℤ) (slot slot' : Option (Option ℤ)) (v : ℤ) → slot ≡ hidden c → slot' ≡ hidden d → or_else slot slot' ≡ Some (Some v) → or_else c d ≡ Some v
one_of None None slot slot' v e e' g = absurd (never (sym g ∙ (λ i. or_else (e i) (e' i)))) where
  never : Path (Option (Option ℤ)) (Some (Some v)) None → ⊥
  never h = cc
one_of None (Some x) slot slot' v e e' g = ap shown (sym (λ i. or_else (e i) (e' i)) ∙ g)
one_of (Some x) d slot slot' v e e' g = ap shown (sym (λ i. or_else (e i) (e' i)) ∙ g)

pub either_is : (cs ds : List (Option ℤ)) (slots slots' : List (Option (Option ℤ))) (i : ℕ) (v : ℤ) → slots ≡ map hidden cs → slots' ≡ map hidden ds → or_else (get_or slots i None) (get_or slots' i None) ≡ Some (Some v)
    → or_else (get_or cs i None) (get_or ds i None) ≡ Some v
either_is cs ds slots slots' i v e e' g =
    one_of (get_or cs i None) (get_or ds i None) (get_or slots i None) (get_or slots' i None) v (ap (λ l. get_or l i None) e ∙ get-hidden cs i) (ap (λ l. get_or l i None) e' ∙ get-hidden ds i) g

either_64 : (c d : Option ℤ) (v : ℤ) → ((x : ℤ) → c ≡ Some x → SFits w64 x) → ((x : ℤ) → d ≡ Some x → SFits w64 x) → or_else c d ≡ Some v → SFits w64 v
either_64 None d v a b g = b v g
either_64 (Some x) d v a b g = a v g

pub fits_either : (cs ds : List (Option ℤ)) (i : ℕ) (v : ℤ) → All64 cs → All64 ds → or_else (get_or cs i None) (get_or ds i None) ≡ Some v → SFits w64 v
fits_either cs ds i v a b g = either_64 (get_or cs i None) (get_or ds i None) v (a i) (b i) g

-- ---- cells of several regions
pub not_empty : (x : ℕ) → has empty x ≡ false
unfolding has
not_empty x = refl

covered-append : (rs ss : List Region) (x : ℕ) → covered (rs ++ ss) x ≡ (covered rs x || covered ss x)
covered-append [] ss x = refl
covered-append (r ∷ rs) ss x = elim (has r x) as (λ b. (b || covered (rs ++ ss) x) ≡ ((b || covered rs x) || covered ss x)) [ true ↦ refl | false ↦ covered-append rs ss x ]

covered_more : (rs : List Region) (i : ℕ) (r : Region) (x : ℕ) → i < length rs → r ≡ get_or rs i r → covered (take (i + 1) rs) x ≡ (covered (take i rs) x || has r x)
covered_more rs i r x lt e =
    ap (λ l. covered l x) (take_more rs i r lt) ∙ covered-append (take i rs) (get_or rs i r ∷ []) x ∙ ap (λ s. covered (take i rs) x || (has s x || false)) (sym e) ∙ ap (λ b. covered (take i rs) x || b) (or_false (has r x)) where
      or_false : (b : Bool) → (b || false) ≡ b
      or_false true = refl
      or_false false = refl

pub kept-same : {X : Type 0} (f g : ℕ → Bool) (k : ℕ) (cs : List (Option X)) → ((x : ℕ) → f x ≡ g x) → kept f k cs ≡ kept g k cs
kept-same f g k [] h = refl
kept-same f g k (c ∷ cs) h = λ i. cond (h k i) c None ∷ kept-same f g (suc k) cs h i

cond_cond : {X : Type 0} (a b : Bool) (c : Option X) → cond a (cond b c None) None ≡ cond (a && b) c None
cond_cond true b c = refl
cond_cond false b c = refl

pub kept-kept : {X : Type 0} (f g : ℕ → Bool) (k : ℕ) (cs : List (Option X)) → kept f k (kept g k cs) ≡ kept (λ x. f x && g x) k cs
kept-kept f g k [] = refl
kept-kept f g k (c ∷ cs) = λ i. cond_cond (f k) (g k) c i ∷ kept-kept f g (suc k) cs i

merges : {X : Type 0} (a b : Bool) (c : Option X) → or_else (cond a c None) (cond (b && not a) c None) ≡ cond (a || b) c None
merges true true None = refl
merges true true (Some x) = refl
merges true false None = refl
merges true false (Some x) = refl
merges false true c = refl
merges false false c = refl

merged-kept : {X : Type 0} (f g : ℕ → Bool) (k : ℕ) (cs : List (Option X)) → merged (kept f k cs) (kept (λ x. g x && not (f x)) k cs) ≡ kept (λ x. f x || g x) k cs
merged-kept f g k [] = refl
merged-kept f g k (c ∷ cs) = λ i. merges (f k) (g k) c i ∷ merged-kept f g (suc k) cs i

not_or : (a b : Bool) → (not b && not a) ≡ not (a || b)
not_or true true = refl
not_or true false = refl
not_or false true = refl
not_or false false = refl

from_first : (r : Region) (x : ℕ) → has r (0 + x) ≡ has r x
from_first r x = let e : 0 + x ≡ x = omega arith in ap (λ k. has r k) e

-- none is taken yet
pub none_taken : (cs : List (Option ℤ)) → kept (λ x. has empty (0 + x)) 0 cs ≡ kept (covered []) 0 cs
none_taken cs = kept-same _ _ 0 cs (λ x. not_empty (0 + x))

pub none_left : (cs : List (Option ℤ)) → kept (λ x. not (has empty (0 + x))) 0 cs ≡ kept (λ x. not (covered [] x)) 0 cs
none_left cs = kept-same _ _ 0 cs (λ x. ap not (not_empty (0 + x)))

-- one more region
module _ (rs : List Region) (i : ℕ) (r : Region) (cs now : List (Option ℤ)) (lt : i < length rs) (e : r ≡ get_or rs i r) (n : now ≡ kept (λ x. not (covered (take i rs) x)) 0 cs) where
  pub more_taken : merged (kept (covered (take i rs)) 0 cs) (kept (λ x. has r (0 + x)) 0 now) ≡ kept (covered (take (i + 1) rs)) 0 cs
  more_taken =
      ap (λ l. merged (kept (covered (take i rs)) 0 cs) l) (kept-same _ (has r) 0 now (λ x. from_first r x) ∙ ap (λ l. kept (has r) 0 l) n ∙ kept-kept (has r) (λ x. not (covered (take i rs) x)) 0 cs)
      ∙ merged-kept (covered (take i rs)) (has r) 0 cs ∙ kept-same _ _ 0 cs (λ x. sym (covered_more rs i r x lt e))

  pub more_left : kept (λ x. not (has r (0 + x))) 0 now ≡ kept (λ x. not (covered (take (i + 1) rs) x)) 0 cs
  more_left =
      kept-same _ (λ x. not (has r x)) 0 now (λ x. ap not (from_first r x)) ∙ ap (λ l. kept (λ x. not (has r x)) 0 l) n ∙ kept-kept (λ x. not (has r x)) (λ x. not (covered (take i rs) x)) 0 cs
      ∙ kept-same _ _ 0 cs (λ x. not_or (covered (take i rs) x) (has r x) ∙ ap not (sym (covered_more rs i r x lt e)))

pub more_cut : (s : Strip) (rs : List Region) (i : ℕ) (d : Region) (taken now part left after : Strip) → i < length rs
    → taken ≡ with_cells s (kept (covered (take i rs)) 0 s.cells) → now ≡ with_cells s (kept (λ x. not (covered (take i rs) x)) 0 s.cells)
    → part ≡ with_cells now (kept (λ x. has (get_or rs i d) (0 + x)) 0 now.cells) → left ≡ with_cells now (kept (λ x. not (has (get_or rs i d) (0 + x))) 0 now.cells) → after ≡ with_cells taken (merged taken.cells part.cells)
    → (after ≡ with_cells s (kept (covered (take (i + 1) rs)) 0 s.cells)) × (left ≡ with_cells s (kept (λ x. not (covered (take (i + 1) rs) x)) 0 s.cells))
more_cut s rs i d taken now part left after lt t n p l a =
    let r = get_or rs i d in let e : r ≡ get_or rs i r = get_or_default rs i d r lt in let m : now.cells ≡ kept (λ x. not (covered (take i rs) x)) 0 s.cells = ap (λ t. t.cells) n in (
      a ∙ (λ j. with_cells (t j) (merged (t j).cells (p j).cells)) ∙ ap (with_cells s) (more_taken rs i r s.cells now.cells lt e m),
      l ∙ ap (λ t. with_cells t (kept (λ x. not (has r (0 + x))) 0 now.cells)) n ∙ ap (with_cells s) (more_left rs i r s.cells now.cells lt e m),
    )
