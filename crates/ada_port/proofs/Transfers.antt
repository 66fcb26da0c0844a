-- What writers and readers that tell their bytes do, in the words of sinks and shelves.
use Rattle.std.proofs.Common.{◌≡◌, ℕ, ◌-◌, List, [], ◌++◌, length, take, drop, Option, Some, None, IfSome, append_assoc, length-drop, length-take, subst, take-append-drop, refl, sym, ap, ◌∙◌, arith}
use Rattle.std.proofs.lemmas.List.{take_all}
use Rattle.std.proofs.KnownBytes.{Appends-nil, Appends-trans}
use Rattle.std.specs.Io.KnownBytes.{Appends, Keeps}
use Rattle.std.specs.Io.Take.{take_inner, take_limit, take_remaining}
use Rattle.std.specs.declared.io.traits.Take.{Take}
use Rattle.std.specs.Option.{option_map}
use Rattle.ada_port.specs.Ports.{AppendsPrefix, fetched}

Appends-kept : (old mid new : Option (List ℕ)) (bytes : List ℕ) → Appends old mid bytes → Keeps mid new → Appends old new bytes
Appends-kept None mid new bytes a k = tt
Appends-kept (Some xs) None new bytes a k = absurd a
Appends-kept (Some xs) (Some ys) None bytes a k = absurd k
Appends-kept (Some xs) (Some ys) (Some zs) bytes a k = k ∙ a

-- so much of a piece has been written, and the rest is left
pub record Written (old new : Option (List ℕ)) (piece rest : List ℕ) : Type 0 where
  pub front : List ℕ
  pub parts : piece ≡ front ++ rest
  pub grown : Appends old new front

pub Written-none : {old : Option (List ℕ)} {piece : List ℕ} → Written old old piece piece
Written-none {old} = record { front = []; parts = refl; grown = Appends-nil old }

pub Written-more : {old mid new : Option (List ℕ)} {piece rest : List ℕ} (n : ℕ) → Written old mid piece rest → Appends mid new (take n rest) → Written old new piece (drop n rest)
Written-more {old} {mid} {new} {rest = rest} n w a =
    record {
      front = w.front ++ take n rest;
      parts = w.parts ∙ ap (λ x. w.front ++ x) (sym (take-append-drop n rest)) ∙ sym (append_assoc w.front (take n rest) (drop n rest));
      grown = Appends-trans old mid new w.front (take n rest) w.grown a;
    }

-- the same, with what is left as a slice from n on
pub Written-range : {old mid new : Option (List ℕ)} {piece rest : List ℕ} (n : ℕ) → Written old mid piece rest → Appends mid new (take n rest) → Written old new piece (take (length rest - n) (drop n rest))
Written-range {old} {new = new} {piece = piece} {rest = rest} n w a =
    subst (λ x. Written old new piece x) (sym (take_all (length rest - n) (drop n rest) (omega (arith, length-drop n rest)))) (Written-more n w a)

-- after a fault some front of the piece is written
pub Written-prefix : (old mid new : Option (List ℕ)) (piece rest : List ℕ) → Written old mid piece rest → Keeps mid new → AppendsPrefix old new piece
Written-prefix old mid new piece rest w k = (w.front, rest, w.parts, Appends-kept old mid new w.front w.grown k)

-- what was read of the front of a reader, and cut where it is longer, is what a fetch gives
fetched-known : (left : Option (List ℕ)) (read text : List ℕ) → IfSome (option_map (take 1048577) left) (λ front. read ≡ [] ++ front) → text ≡ take 1048577 read → IfSome left (λ all. text ≡ fetched all)
fetched-known None read text h e = tt
fetched-known (Some all) read text h e =
    e ∙ ap (take 1048577) h ∙ take_all 1048577 (take 1048577 all) (omega (arith, length-take 1048577 all))

pub fetched-front : {F : Type 0} (remaining : F → Option (List ℕ)) (file : F) (front : Take F) (before read text : List ℕ) → take_limit front ≡ 1048577 → take_inner front ≡ file → before ≡ [] → IfSome (take_remaining remaining front) (λ bytes. read ≡ before ++ bytes) → text ≡ take 1048577 read → IfSome (remaining file) (λ all. text ≡ fetched all)
fetched-front remaining file front before read text l i none h e =
    let known : take_remaining remaining front ≡ option_map (take 1048577) (remaining file) = rw (l, i) refl in
    fetched-known (remaining file) read text (subst (λ k. IfSome k (λ bytes. read ≡ [] ++ bytes)) known (subst (λ b. IfSome (take_remaining remaining front) (λ bytes. read ≡ b ++ bytes)) none h)) e
