-- Folds of chunks, put together, are the fold of the whole.
use Rattle.std.proofs.Common.{◌≡◌, ℕ, ℤ, List, [], ◌∷◌, ◌++◌, Some, true, refl, sym, subst, ap, ◌∙◌, append_assoc, append-nil}
use Rattle.ada_base.specs.declared.operation.Op.{Op}
use Rattle.ada_base.specs.Operation.{result_of}
use Rattle.typed_tree.specs.declared.scalars.Class.{Class}
use Rattle.typed_tree.specs.declared.expressions.Reducer.TheVariants.{Operator}
use Rattle.ada_meaning.specs.Values.{base_of}
use Rattle.ada_meaning.specs.Sequential.{HasNoPartialOverflow}
use Rattle.ada_meaning.proofs.Folds.{over, over_append}
use Rattle.ada_reduce.specs.Folds.{where_some, fold_of, combined, IsTaken, AreTaken}
use Rattle.ada_reduce.specs.Laws.{whole, AreFolds, Reassociates, ReassociationLaw}
use Rattle.ada_reduce.proofs.Folding.{taken_on}
use Rattle.ada_reduce.proofs.Listed.{Listed, listed}

module _ (at : ℕ) (o : Op) (class : Class) (initial : ℤ) (l : Listed o class initial) (values : List ℤ) (none : HasNoPartialOverflow (Operator at o class) values) where
  over_onto : (a b : ℤ) (vs : List ℤ) → l.put a (over l.put b vs) ≡ over l.put (l.put a b) vs
  over_onto a b [] = refl
  over_onto a b (v ∷ vs) = over_onto a (l.put b v) vs ∙ ap (λ z. over l.put z vs) (sym (l.assoc a b v))

  -- the initial value once more changes nothing
  again : (a : ℤ) (vs : List ℤ) → l.put a initial ≡ a → l.put (over l.put a vs) initial ≡ over l.put a vs
  again a [] e = e
  again a (v ∷ vs) e = again (l.put a v) vs (l.assoc a v initial ∙ ap (l.put a) (l.comm v initial) ∙ sym (l.assoc a initial v) ∙ ap (λ z. l.put z v) e)

  join : (vs ws : List ℤ) → l.put (over l.put initial vs) (over l.put initial ws) ≡ over l.put initial (vs ++ ws)
  join vs ws =
      over_onto (over l.put initial vs) initial ws
      ∙ ap (λ z. over l.put z ws) (again initial vs l.idle)
      ∙ sym (over_append l.put initial vs ws)

  abbrev Comes : ℤ → List ℤ → ℤ → Type 0
  Comes a vs z = (fold_of o (base_of class) a vs ≡ Some z) × IsTaken o (base_of class) z

  then_comes : (a b : ℤ) (v : ℤ) (vs : List ℤ) (z : ℤ) → result_of o (base_of class) a v ≡ Some b → Comes b vs z → Comes a (v ∷ vs) z
  then_comes a b v vs z e c = (ap (λ r. where_some r (λ b. fold_of o (base_of class) b vs)) e ∙ c.0, c.1)

  one_more : (vs ws : List ℤ) (v : ℤ) → (vs ++ v ∷ []) ++ ws ≡ vs ++ v ∷ ws
  one_more vs ws v = append_assoc vs (v ∷ []) ws

  -- within a segment of the values
  fold_segment : (done rest before after : List ℤ) → values ≡ before ++ ((done ++ rest) ++ after) → IsTaken o (base_of class) (over l.put initial done) → AreTaken o (base_of class) rest
      → Comes (over l.put initial done) rest (over l.put initial (done ++ rest))
  fold_segment done [] before after e t ts = subst (λ k. Comes (over l.put initial done) [] (over l.put initial k)) (sym (append-nil done)) (refl, t)
  fold_segment done (v ∷ rest) before after e t ts =
      let a = over l.put initial done in
      let more : over l.put initial (done ++ v ∷ []) ≡ l.put a v = over_append l.put initial done (v ∷ []) in
      let split : values ≡ before ++ ((done ++ v ∷ []) ++ (rest ++ after)) =
      e ∙ ap (λ k. before ++ k) (ap (λ k. k ++ after) (sym (one_more done rest v)) ∙ append_assoc (done ++ v ∷ []) rest after) in
      let fits : l.fits (l.put a v) ≡ true = ap l.fits (sym more) ∙ l.segments at values none before (done ++ v ∷ []) (rest ++ after) split in
      let to : result_of o (base_of class) a v ≡ Some (over l.put initial (done ++ v ∷ [])) = l.step a v t ts.0 fits ∙ ap (λ z. Some z) (sym more) in
      let next = fold_segment (done ++ v ∷ []) rest before after (e ∙ ap (λ k. before ++ (k ++ after)) (sym (one_more done rest v))) (taken_on o (base_of class) a v _ t ts.0 to) ts.1 in
      subst (λ k. Comes a (v ∷ rest) (over l.put initial k)) (one_more done rest v) (then_comes a _ v rest _ to next)

  abbrev folds : List (List ℤ) → List ℤ
  folds [] = []
  folds (vs ∷ vss) = over l.put initial vs ∷ folds vss

  taken_left : (vs ws : List ℤ) → AreTaken o (base_of class) (vs ++ ws) → AreTaken o (base_of class) vs
  taken_left [] ws t = tt
  taken_left (v ∷ vs) ws t = (t.0, taken_left vs ws t.1)

  taken_right : (vs ws : List ℤ) → AreTaken o (base_of class) (vs ++ ws) → AreTaken o (base_of class) ws
  taken_right [] ws t = t
  taken_right (v ∷ vs) ws t = taken_right vs ws t.1

  module _ (start : IsTaken o (base_of class) initial) where
    chunk : (before vs after : List ℤ) → values ≡ before ++ (vs ++ after) → AreTaken o (base_of class) vs → Comes initial vs (over l.put initial vs)
    chunk before vs after e t = fold_segment [] vs before after e start t

    chunks_are : (before : List ℤ) (vss : List (List ℤ)) → values ≡ before ++ whole vss → AreTaken o (base_of class) (whole vss) → AreFolds o (base_of class) initial vss (folds vss) × AreTaken o (base_of class) (folds vss)
    chunks_are before [] e t = (tt, tt)
    chunks_are before (vs ∷ vss) e t =
        let c = chunk before vs (whole vss) e (taken_left vs (whole vss) t) in
        let rest = chunks_are (before ++ vs) vss (e ∙ sym (append_assoc before vs (whole vss))) (taken_right vs (whole vss) t) in
        ((c.0, rest.0), (c.1, rest.1))

    onto_chunks : (before : List ℤ) (vss : List (List ℤ)) → values ≡ before ++ whole vss → IsTaken o (base_of class) (over l.put initial before) → AreTaken o (base_of class) (folds vss)
        → fold_of o (base_of class) (over l.put initial before) (folds vss) ≡ Some (over l.put initial values)
    onto_chunks before [] e t ts = ap (λ k. Some (over l.put initial k)) (sym (e ∙ append-nil before))
    onto_chunks before (vs ∷ vss) e t ts =
        let a = over l.put initial before in
        let b = over l.put initial vs in
        let on : values ≡ (before ++ vs) ++ whole vss = e ∙ sym (append_assoc before vs (whole vss)) in
        let fits : l.fits (l.put a b) ≡ true = ap l.fits (join before vs) ∙ l.segments at values none [] (before ++ vs) (whole vss) on in
        let to : result_of o (base_of class) a b ≡ Some (over l.put initial (before ++ vs)) = l.step a b t ts.0 fits ∙ ap (λ z. Some z) (join before vs) in
        ap (λ r. where_some r (λ b. fold_of o (base_of class) b (folds vss))) to
        ∙ onto_chunks (before ++ vs) vss on (taken_on o (base_of class) a b _ t ts.0 to) ts.1

    combined_chunks : (vss : List (List ℤ)) → values ≡ whole vss → AreTaken o (base_of class) (folds vss) → combined o (base_of class) initial (folds vss) ≡ Some (over l.put initial values)
    combined_chunks [] e ts = ap (λ k. Some (over l.put initial k)) (sym e)
    combined_chunks (vs ∷ vss) e ts = onto_chunks vs vss e ts.0 ts.1

    reassociates : (vss : List (List ℤ)) → values ≡ whole vss → AreTaken o (base_of class) (whole vss) → Reassociates o (base_of class) initial vss
    reassociates vss e t =
        let c = chunks_are [] vss e t in
        record {
          parts = folds vss;
          are = c.0;
          taken = c.1;
          result = over l.put initial values;
          by_chunks = combined_chunks vss e c.1;
          by_one = (subst (λ k. Comes initial k (over l.put initial values)) e (chunk [] values [] (sym (append-nil values)) (subst (AreTaken o (base_of class)) (sym e) t))).0;
        }

pub reassociation_law : ReassociationLaw
reassociation_law at o class initial chunks h none start taken = reassociates at o class initial (listed at o class initial h) (whole chunks) none start chunks refl taken
