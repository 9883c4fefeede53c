-- One pass over a text finds the words.
use Rattle.std.proofs.Common.{◌≡◌, ℕ, Bool, true, false, cond, ◌&&◌, List, [], ◌∷◌, ◌++◌, refl, ap, sym, ◌∙◌}
use Rattle.gx_facets.specs.WhiteSpace.{collapsed, before_part, parts_of, parts_behind_spaces, joined_by_spaces, behind_space}
use Rattle.gx_facets.proofs.Collapsing.{collapsed_behind, in_one_pass, left_to_collapse}
use Rattle.gx_base.specs.WhiteSpace.{is_white_space}

-- what follows a character that stays: the rest of its part, and then the other parts
continued : List (List ℕ) → List ℕ
continued [] = []
continued (part ∷ parts) = part ++ parts_behind_spaces parts

pub by_test : (P : Bool → Type 0) (b : Bool) → P true → P false → P b
by_test P true yes' no' = yes'
by_test P false yes' no' = no'

continued_before : (c : ℕ) (parts : List (List ℕ)) → continued (before_part c parts) ≡ c ∷ continued parts
unfolding continued
continued_before c [] = refl
continued_before c (part ∷ parts) = refl

spaced_before : (c : ℕ) (parts : List (List ℕ)) → parts_behind_spaces (before_part c parts) ≡ 32 ∷ c ∷ continued parts
unfolding continued
spaced_before c [] = refl
spaced_before c (part ∷ parts) = refl

joined_before : (c : ℕ) (parts : List (List ℕ)) → joined_by_spaces (before_part c parts) ≡ c ∷ continued parts
unfolding continued
joined_before c [] = refl
joined_before c (part ∷ parts) = refl

-- with white space before, and without
behind : (cs : List ℕ) → (collapsed_behind true cs ≡ parts_behind_spaces (parts_of cs)) × (collapsed_behind false cs ≡ continued (parts_of cs))
unfolding continued
behind [] = (refl, refl)
behind (c ∷ cs) =
    let rest = behind cs in
    by_test (λ b. (cond b (collapsed_behind true cs) (32 ∷ c ∷ collapsed_behind false cs) ≡ parts_behind_spaces (cond b ([] ∷ parts_of cs) (before_part c (parts_of cs))))
    × (cond b (collapsed_behind true cs) (c ∷ collapsed_behind false cs) ≡ continued (cond b ([] ∷ parts_of cs) (before_part c (parts_of cs))))) (is_white_space c)
    (rest.0, rest.0)
    (ap (λ t. 32 ∷ c ∷ t) rest.1 ∙ sym (spaced_before c (parts_of cs)), ap (λ t. c ∷ t) rest.1 ∙ sym (continued_before c (parts_of cs)))

-- one pass over a text collapses it
pub one_pass : (cs : List ℕ) → in_one_pass cs ≡ collapsed cs
one_pass [] = refl
one_pass (c ∷ cs) =
    by_test (λ b. cond b (in_one_pass cs) (c ∷ collapsed_behind false cs) ≡ joined_by_spaces (cond b ([] ∷ parts_of cs) (before_part c (parts_of cs)))) (is_white_space c)
    (one_pass cs)
    (ap (λ t. c ∷ t) (behind cs).1 ∙ sym (joined_before c (parts_of cs)))

-- a character that stays, before what it leaves to collapse
pub left_before : (begun gap : Bool) (c : ℕ) (cs : List ℕ) → is_white_space c ≡ false
    → left_to_collapse begun gap (c ∷ cs) ≡ behind_space (begun && gap) c (collapsed_behind false cs)
left_before true true c cs e = rw e refl
left_before true false c cs e = rw e refl
left_before false gap c cs e = rw e refl
