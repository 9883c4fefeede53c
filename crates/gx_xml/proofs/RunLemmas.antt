-- Runs, one character after another.
use Rattle.std.proofs.Common.{◌≡◌, ℕ, ◌+◌, ◌<◌, Bool, true, false, if◌then◌else◌, List, [], ◌∷◌, ◌++◌, length, take, get_or, refl, sym, ap, ◌∙◌, subst, append_assoc, append-nil, arith}
use Rattle.std.proofs.lemmas.List.{length-take-le, take_more}
use Rattle.std.proofs.Math.Seq.{get_or-append_seam}
use Rattle.std.specs.Prelude.{◌==◌, Option, Some, None, IfSome}
use Rattle.gx_grammar.specs.Tokens.{strip, behind_common}
use Rattle.gx_grammar.proofs.Tokens.{equal_self}
use Rattle.gx_grammar.specs.Walks.{Walk, walk_of, behind_walk, reached}

-- what was read of a text from a state on: `front`, behind which the state is n and `rest` stands
pub record Walked (w : Walk) (start : ℕ) (text front : List ℕ) (n : ℕ) (rest : List ℕ) : Type 0 where
  pub whole : text ≡ front ++ rest
  pub run : front ++ walk_of w n rest ≡ walk_of w start text
  pub behind : behind_walk w n rest ≡ behind_walk w start text
  pub state : reached w n (walk_of w n rest) ≡ reached w start (walk_of w start text)

pub walked_none : (w : Walk) (start : ℕ) (text : List ℕ) → Walked w start text [] start text
walked_none w start text = record { whole = refl; run = refl; behind = refl; state = refl }

walked_next : (w : Walk) (start : ℕ) (text front : List ℕ) (n c : ℕ) (tail : List ℕ) → w.goes n c ≡ true
    → Walked w start text front n (c ∷ tail) → Walked w start text (front ++ c ∷ []) (w.next n c) tail
walked_next w start text front n c tail e h = record {
  whole = h.whole ∙ sym (append_assoc front (c ∷ []) tail);
  run = append_assoc front (c ∷ []) (walk_of w (w.next n c) tail)
      ∙ ap (λ b. front ++ (if b then (c ∷ walk_of w (w.next n c) tail) else [])) (sym e) ∙ h.run;
  behind = ap (λ b. if b then (behind_walk w (w.next n c) tail) else (c ∷ tail)) (sym e) ∙ h.behind;
  state = ap (λ b. reached w n (if b then (c ∷ walk_of w (w.next n c) tail) else [])) (sym e) ∙ h.state;
}

-- the run ends
pub record WalkEnded (w : Walk) (start : ℕ) (text front : List ℕ) (n : ℕ) (rest : List ℕ) : Type 0 where
  pub whole : text ≡ front ++ rest
  pub run : front ≡ walk_of w start text
  pub behind : rest ≡ behind_walk w start text
  pub state : n ≡ reached w start (walk_of w start text)

walked_stop : (w : Walk) (start : ℕ) (text front : List ℕ) (n c : ℕ) (tail : List ℕ) → w.goes n c ≡ false
    → Walked w start text front n (c ∷ tail) → WalkEnded w start text front n (c ∷ tail)
walked_stop w start text front n c tail e h = record {
  whole = h.whole;
  run = sym (append-nil front) ∙ ap (λ b. front ++ (if b then (c ∷ walk_of w (w.next n c) tail) else [])) (sym e) ∙ h.run;
  behind = ap (λ b. if b then (behind_walk w (w.next n c) tail) else (c ∷ tail)) (sym e) ∙ h.behind;
  state = ap (λ b. reached w n (if b then (c ∷ walk_of w (w.next n c) tail) else [])) (sym e) ∙ h.state;
}

walked_through : (w : Walk) (start : ℕ) (text front : List ℕ) (n : ℕ) → Walked w start text front n [] → WalkEnded w start text front n []
walked_through w start text front n h = record { whole = h.whole; run = sym (append-nil front) ∙ h.run; behind = h.behind; state = h.state }

-- one more character of the text
taken_next : (text : List ℕ) (i c : ℕ) (tail : List ℕ) → text ≡ take i text ++ (c ∷ tail) → i + length (c ∷ tail) ≡ length text → take (i + 1) text ≡ take i text ++ c ∷ []
taken_next text i c tail e n =
    let below : i < length text = omega arith in
    take_more text i c below ∙ ap (λ d. take i text ++ d ∷ []) (here text i c tail e below)
  where
    here : (text : List ℕ) (i c : ℕ) (tail : List ℕ) → text ≡ take i text ++ (c ∷ tail) → i < length text → get_or text i c ≡ c
    here text i c tail e below =
        ap (λ t. get_or t i c) e ∙ subst (λ k. get_or (take i text ++ (c ∷ tail)) k c ≡ c) (length-take-le i text (omega arith)) (get_or-append_seam (take i text) c tail c)

pub walked_on : (w : Walk) (start : ℕ) (text : List ℕ) (i n c : ℕ) (rest tail : List ℕ) → rest ≡ c ∷ tail → w.goes n c ≡ true → i + length rest ≡ length text
    → Walked w start text (take i text) n rest → Walked w start text (take (i + 1) text) (w.next n c) tail
walked_on w start text i n c rest tail e g k h =
    let walked : Walked w start text (take i text) n (c ∷ tail) = subst (λ r. Walked w start text (take i text) n r) e h in
    subst (λ f. Walked w start text f (w.next n c) tail) (sym (taken_next text i c tail walked.whole (ap (λ r. i + length r) (sym e) ∙ k))) (walked_next w start text (take i text) n c tail g walked)

pub walked_end : (w : Walk) (start : ℕ) (text front : List ℕ) (n c : ℕ) (rest tail : List ℕ) → rest ≡ c ∷ tail → w.goes n c ≡ false → Walked w start text front n rest → WalkEnded w start text front n rest
walked_end w start text front n c rest tail e g h = subst (λ r. WalkEnded w start text front n r) (sym e) (walked_stop w start text front n c tail g (subst (λ r. Walked w start text front n r) e h))

pub walked_out : (w : Walk) (start : ℕ) (text front : List ℕ) (n : ℕ) (rest : List ℕ) → rest ≡ [] → Walked w start text front n rest → WalkEnded w start text front n rest
walked_out w start text front n rest e h = subst (λ r. WalkEnded w start text front n r) (sym e) (walked_through w start text front n (subst (λ r. Walked w start text front n r) e h))

-- what is behind a word is shorter by the word
pub strip_shortens : (w x : List ℕ) → IfSome (strip w x) (λ r. length r + length w ≡ length x)
strip_shortens [] x = omega arith
strip_shortens (c ∷ w) [] = tt
strip_shortens (c ∷ w) (d ∷ x) = go (c == d) (strip w x) (strip_shortens w x)
  where
    go : (b : Bool) (o : Option (List ℕ)) → IfSome o (λ r. length r + length w ≡ length x) → IfSome (if b then o else None) (λ r. length r + length (c ∷ w) ≡ length (d ∷ x))
    go true (Some r) h = omega arith
    go true None h = tt
    go false o h = tt

-- a text that begins with a word
pub strip_whole : (w y : List ℕ) → strip w (w ++ y) ≡ Some y
strip_whole [] y = refl
strip_whole (c ∷ w) y = ap (λ b. if b then (strip w (w ++ y)) else None) (equal_self c) ∙ strip_whole w y

pub common_whole : (w y : List ℕ) → behind_common w (w ++ y) ≡ y
common_whole [] y = refl
common_whole (c ∷ w) y = ap (λ b. if b then (behind_common w (w ++ y)) else (c ∷ (w ++ y))) (equal_self c) ∙ common_whole w y
