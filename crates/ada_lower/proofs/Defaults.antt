-- Cells of objects without an initial value.
use Rattle.std.proofs.Common.{◌≡◌, ℕ, zero, suc, ◌+◌, ◌*◌, ◌<◌, ◌≤◌, ℤ, List, [], ◌∷◌, ◌++◌, length, set, slice_get, Option, Some, None, refl, sym, ap, ◌∙◌, subst, le_refl, arith, inr, append-nil, length-append, mul-le-mul_right}
use Rattle.std.proofs.lemmas.List.{map-append, length-map}
use Rattle.std.proofs.lemmas.Option.{slice_get_past}
use Rattle.typed_tree.specs.declared.scalars.Scalar.{Scalar}
use Rattle.typed_tree.specs.declared.program.Field.{Field}
use Rattle.typed_tree.specs.declared.program.Object.{Object}
use Rattle.typed_tree.specs.Syntax.{OfScalar, Array, Record, Subtype, Program}
use Rattle.ada_meaning.specs.Stored as stored
use Rattle.ada_meaning.specs.Values.{layout_within, layout_of, fields, repeated, components, defaults}
use Rattle.ada_meaning.specs.Meaning.{object_layout}
use Rattle.stack_code.specs.declared.code.Code.{Code}
use Rattle.ada_base.specs.Cells.{Mine}
use Rattle.ada_lower.specs.Driven.{Dyn, Fixed, on}
use Rattle.ada_lower.specs.Sights.{Emit, Scope, Stands, none}
use Rattle.lower_emission.specs.Scope.{taking}
use Rattle.ada_lower.specs.Emission
use Rattle.ada_lower.specs.Emission.{cells_of}
use Rattle.ada_lower.specs.Defaults.{EachFilled, FilledOf, FilledWithin, Filled}
use Rattle.ada_lower.specs.Fits.{Ghost, Fit, Ends}
use Rattle.ada_lower.proofs.Framework.{To, comes_here, comes_on, comes_goes}
use Rattle.ada_lower.proofs.Memory.{IsOwn, fit_set, fit_alike}
use Rattle.ada_lower.proofs.Standing.{stands_seq}
use Rattle.ada_lower.proofs.Declared.{keeping, laid_out, kept_what}
use Rattle.ada_lower.proofs.Items.{comes_stores}
use Rattle.ada_lower.proofs.Doubled.{many, kept_behind, many_length, doubled_comes}

-- no subtype stands behind the table
outside : (table : List Subtype) (levels n : ℕ) → length table ≤ n → layout_within table levels n ≡ []
outside table zero n le = refl
outside table (suc levels) n le = ap (layout_of (layout_within table levels)) (slice_get_past table n le)

repeated_many : (n : ℕ) (ss : List Scalar) → defaults (repeated n ss) ≡ many n (defaults ss)
repeated_many zero ss = refl
repeated_many (suc n) ss = map-append (λ s. s.low) ss (repeated n ss) ∙ ap (λ z. defaults ss ++ z) (repeated_many n ss)

module _ (limit : ℕ) (cuts : ℕ → ℕ → List ℕ) (program : Program) (c : Code) (f : Fixed) (x : Ends) where
  -- code that puts these numbers into cells
  abbrev Puts : List ℤ → (ℕ → Emit) → Type 0
  Puts vs code = (g : Ghost) (t : stored.State) (d : Dyn) (n from to : ℕ) → ((k : ℕ) → k < length vs → IsOwn (g.what (f.base + n + k))) → Stands c (code n) from to → Fit g t d
      → (d' : Dyn) × Fit (keeping (f.base + n) vs g) t d' × To limit c (on f from [] d) (on f to [] d')

  nothing_put : (code : ℕ → Emit) → ((n : ℕ) → code n ≡ none) → Puts [] code
  nothing_put code is g t d n from to own l fit =
      let e : to ≡ from = subst (λ a. Stands c a from to) (is n) l in
      (d, fit, subst (λ q. To limit c (on f from [] d) (on f q [] d)) (sym e) (comes_here limit c (on f from [] d)))

  module _ (s : Scope) (levels : ℕ) (within : (number : ℕ) → FilledWithin program levels number → Puts (defaults (layout_within program.subtypes levels number)) (λ n. Emission.defaults_within program s levels n number)) where
    abbrev Part : ℕ → Type 0
    Part n = (length (layout_within program.subtypes levels n) ≡ cells_of program n) × FilledWithin program levels n

    fields_put : (fs : List Field) → EachFilled Part fs → Puts (defaults (fields (layout_within program.subtypes levels) fs)) (λ n. Emission.field_defaults program (λ t number. Emission.defaults_within program s levels t number) n fs)
    fields_put [] w g t d n from to own l fit = nothing_put (λ n. none) (λ n. refl) g t d n from to own l fit
    fields_put (fd ∷ fs) ((len, w), ws) g t d n from to own l fit =
        let us : List ℤ = defaults (layout_within program.subtypes levels fd.subtype) in
        let vs : List ℤ = defaults (fields (layout_within program.subtypes levels) fs) in
        let both : defaults (fields (layout_within program.subtypes levels) (fd ∷ fs)) ≡ us ++ vs = map-append (λ z. z.low) (layout_within program.subtypes levels fd.subtype) (fields (layout_within program.subtypes levels) fs) in
        let sum : length (us ++ vs) ≡ length us + length vs = length-append us vs in
        let ul : length us ≡ cells_of program fd.subtype = length-map (layout_within program.subtypes levels fd.subtype) (λ z. z.low) ∙ len in
        let own' : (k : ℕ) → k < length (us ++ vs) → IsOwn (g.what (f.base + n + k)) = subst (λ z. (k : ℕ) → k < length z → IsOwn (g.what (f.base + n + k))) both own in
        let next : f.base + (n + cells_of program fd.subtype) ≡ f.base + n + length us = omega (arith, ul) in
        let (mid, l1, l2) = stands_seq c from to (Emission.defaults_within program s levels n fd.subtype) (Emission.field_defaults program (λ t number. Emission.defaults_within program s levels t number) (n + cells_of program fd.subtype) fs) l in
        let (d1, fit1, goes) = within fd.subtype w g t d n from mid (λ k lt. own' k (omega (arith, lt, sum))) l1 fit in
        let (d2, fit2, goes') = fields_put fs ws (keeping (f.base + n) us g) t d1 (n + cells_of program fd.subtype) mid to
        (λ k lt. let z : f.base + (n + cells_of program fd.subtype) + k ≡ f.base + n + (length us + k) = omega (arith, ul) in
        subst (λ w. IsOwn w) (sym (ap (keeping (f.base + n) us g).what z ∙ laid_out (f.base + n) 0 kept_what us g.what (f.base + n + (length us + k)) (inr (omega arith)))) (own' (length us + k) (omega (arith, lt, sum))))
        l2 fit1 in
        (d2, subst (λ z. Fit (keeping (f.base + n) z g) t d2) (sym both) (fit_alike (keeping (f.base + n) (us ++ vs) g).what (kept_behind limit cuts c f x (f.base + n) (f.base + (n + cells_of program fd.subtype)) us vs g next) fit2), comes_on limit c goes goes')

    entry_put : (o : Option Subtype) → FilledOf Part o → Puts (defaults (layout_of (layout_within program.subtypes levels) o)) (λ n. Emission.default_of program s (λ t number. Emission.defaults_within program s levels t number) n o)
    entry_put None w g t d n from to own l fit = nothing_put (λ n. none) (λ n. refl) g t d n from to own l fit
    entry_put (Some (OfScalar k)) w g t d n from to own (j1, (j2, z)) fit =
        let e : f.base + n + 0 ≡ f.base + n = omega arith in
        let own' : IsOwn (g.what (f.base + n)) = subst (λ a. IsOwn (g.what a)) e (own 0 (omega arith)) in
        let (u, is) = own' t (slice_get d.cells (f.base + n)) (fit.cells (f.base + n)) in (
          record d { cells = set d.cells (f.base + n) (Mine k.low) },
          fit_set (f.base + n) k.low own' fit,
          comes_on limit c (comes_goes limit c f [] (from + 1) (k.low ∷ []) d j1 refl)
              (subst (λ q. To limit c (on f (from + 1) (k.low ∷ []) d) (on f q [] (record d { cells = set d.cells (f.base + n) (Mine k.low) }))) (sym z) (comes_stores limit c f (f.base + n) k.low u (k.low ∷ []) [] d j2 refl is)),
        )
    entry_put (Some (Array dimensions component)) (some, (len, w)) g t d n from to own l fit =
        let ss : List Scalar = layout_within program.subtypes levels component in
        let cs : List ℤ = defaults ss in
        let count : ℕ = components dimensions in
        let size : ℕ = cells_of program component in
        let all : defaults (repeated count ss) ≡ many count cs = repeated_many count ss in
        let cl : length cs ≡ size = length-map ss (λ z. z.low) ∙ len in
        let own' : (k : ℕ) → k < length (many count cs) → IsOwn (g.what (f.base + n + k)) = subst (λ z. (k : ℕ) → k < length z → IsOwn (g.what (f.base + n + k))) all own in
        let total : length (many count cs) ≡ count * size = subst (λ z. length (many count cs) ≡ count * z) cl (many_length count cs) in
        let least : 1 * length cs ≤ count * length cs = mul-le-mul_right (length cs) some in
        let first : length cs ≤ length (many count cs) = let z : length (many count cs) ≡ count * length cs = many_length count cs in omega (arith, least, z) in
        let (mid, l1, l2) = stands_seq c from to (Emission.defaults_within program s levels n component) (Emission.doubled s 0 n size count 1 count) l in
        let (d1, fit1, goes) = within component w g t d n from mid (λ k lt. own' k (omega (arith, lt, first))) l1 fit in
        let (d2, fit2, goes') = doubled_comes limit cuts c f x g t d1 s 0 n size count 1 count mid to cs [] cl (le_refl 1) some (omega arith) (λ k lt. own' k (omega (arith, lt, total))) l2
        (subst (λ z. Fit (keeping (f.base + n) z g) t d1) (sym (append-nil cs)) fit1) in
        (d2, subst (λ z. Fit (keeping (f.base + n) z g) t d2) (sym all) fit2, comes_on limit c goes goes')
    entry_put (Some (Record fs)) w g t d n from to own l fit = fields_put fs w g t d n from to own l fit

  within_put : (s : Scope) (levels number : ℕ) → FilledWithin program levels number → Puts (defaults (layout_within program.subtypes levels number)) (λ n. Emission.defaults_within program s levels n number)
  within_put s zero number w g t d n from to own l fit = nothing_put (λ n. none) (λ n. refl) g t d n from to own l fit
  within_put s (suc levels) number w g t d n from to own l fit = entry_put s levels (within_put s levels) (slice_get program.subtypes number) w g t d n from to own l fit

  layout_is : (o : Option Object) (y : ℕ) → slice_get program.objects y ≡ o → layout_within program.subtypes (length program.subtypes) (Emission.subtype_or_none program (slice_get program.objects y)) ≡ object_layout program y
  layout_is None y e = rw e (outside program.subtypes (length program.subtypes) (length program.subtypes) (le_refl (length program.subtypes)))
  layout_is (Some o) y e = rw e refl

  -- an object without an initial value
  pub defaulted_comes : {g : Ghost} {t : stored.State} {d : Dyn} (s : Scope) (n from to y : ℕ) → Filled program y → ((k : ℕ) → k < length (defaults (object_layout program y)) → IsOwn (g.what (f.base + n + k))) → Stands c (Emission.defaulted program s n y) from to → Fit g t d
      → (d' : Dyn) × Fit (keeping (f.base + n) (defaults (object_layout program y)) g) t d' × To limit c (on f from [] d) (on f to [] d')
  defaulted_comes {g} {t} {d} s n from to y w own l fit =
      let e = ap defaults (layout_is (slice_get program.objects y) y refl) in
      subst (λ vs. (d' : Dyn) × Fit (keeping (f.base + n) vs g) t d' × To limit c (on f from [] d) (on f to [] d')) e
      (within_put (taking (length (object_layout program y)) s) (length program.subtypes) (Emission.subtype_or_none program (slice_get program.objects y)) w g t d n from to
      (subst (λ vs. (k : ℕ) → k < length vs → IsOwn (g.what (f.base + n + k))) (sym e) own) l fit)
