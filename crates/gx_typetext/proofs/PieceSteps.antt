-- How pieces are read one after the other.
use Rattle.std.proofs.Common.{◌≡◌, ℕ, suc, List, [], ◌∷◌, ◌++◌, sym, refl, ap, subst, ◌∙◌, Some, None}
use Rattle.std.proofs.lemmas.List.{append_assoc}
use Rattle.gx_grammar.specs.Reading.{read_with, reads}
use Rattle.gx_grammar.specs.Ran.{Standing, Ran, IsDone}
use Rattle.gx_grammar.proofs.PublicLaws.{ran_idle}
use Rattle.gx_typetext.specs.declared.written.Piece.{Piece}
use Rattle.gx_typetext.specs.declared.steps.Stage.{Stage}
use Rattle.gx_typetext.specs.Nodes.{pieces}
use Rattle.gx_typetext.specs.Grammar.{Production, operand, behind, separated, rules, type_texts}
use Rattle.gx_typetext.specs.Steps.{Stepped, Marked, marks, production_of}
use Rattle.gx_typetext.specs.Pieces.{Extended, MarkedOn, Started, Finished}

append_nothing : (xs : List Piece) → xs ++ [] ≡ xs
append_nothing [] = refl
append_nothing (x ∷ xs) = ap (λ ys. x ∷ ys) (append_nothing xs)

pub unmarked : (front items : List Piece) (a b : Standing) → items ≡ front → ((depth room : ℕ) → Marked None depth room a b) → MarkedOn front items a b
unmarked front items a b e h = record { mark = None; are = e ∙ sym (append_nothing front); read = h }

pub mark_stop : (f i : List Piece) (depth room : ℕ) (a b c : Standing) → MarkedOn f i a b → Stepped None (separated depth room) b c → Extended f i None (behind depth room) a c
mark_stop f i depth room a b c m h = record {
  added = marks m.mark ++ [];
  are = m.are ∙ ap (λ x. f ++ x) (sym (append_nothing (marks m.mark)));
  read = λ call. m.read depth room call [] c (h call);
}

pub mark_on : (f i j : List Piece) (p : Piece) (next : Stage) (depth room : ℕ) (a b c : Standing) → MarkedOn f i a b → j ≡ i ++ p ∷ [] → Stepped (Some (p, next)) (separated depth room) b c → Extended f j (Some next) (behind depth room) a c
mark_on f i j p next depth room a b c m e h = record {
  added = marks m.mark ++ p ∷ [];
  are = e ∙ ap (λ x. x ++ p ∷ []) m.are ∙ append_assoc f (marks m.mark) (p ∷ []);
  read = λ call qs after k.
      subst (λ x. Ran (pieces x) a after (read_with type_texts call (rules (behind depth room)))) (sym (append_assoc (marks m.mark) (p ∷ []) qs)) (m.read depth room call (p ∷ qs) after (h call qs after k));
}

-- the first operand is due
pub started : (a : Standing) → Started [] (operand 0 1024) a a
started a = λ k. (k, λ qs after h. h)

-- one more step
pub goes_on : (front items : List Piece) (p : Production) (next : Stage) (a b c : Standing) → Started front p a b → Extended front items (Some next) p b c → Started items (production_of next) a c
goes_on front items p next a b c s x = λ k.
    let m = s (suc k) in (
      m.0,
      λ qs after h.
          subst (λ y. Ran (pieces y) a after (reads type_texts m.0 (operand 0 1024))) (sym (ap (λ y. y ++ qs) x.are ∙ append_assoc front x.added qs))
          (m.1 (x.added ++ qs) after (x.read (λ q t. reads type_texts k q t) qs after h)),
    )

-- the last one
pub stops : (front items : List Piece) (p : Production) (a b c : Standing) → Started front p a b → Extended front items None p b c → Finished items a c
stops front items p a b c s x =
    let m = s 1 in
    (m.0, subst (λ y. Ran (pieces y) a c (reads type_texts m.0 (operand 0 1024))) (sym x.are) (m.1 x.added c (x.read (λ q t. reads type_texts 0 q t))))

-- behind an end nothing is read
pub ends : (items : List Piece) (p : Production) (a b : Standing) → IsDone b → Started items p a b → Finished items a b
ends items p a b d s =
    let m = s 0 in
    (m.0, subst (λ y. Ran (pieces y) a b (reads type_texts m.0 (operand 0 1024))) (append_nothing items) (m.1 [] b (ran_idle (pieces []) b (reads type_texts 0 p) d)))
