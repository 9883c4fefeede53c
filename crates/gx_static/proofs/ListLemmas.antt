-- Lists that are put together of several.
use Rattle.std.proofs.Common.{◌≡◌, List, ◌++◌, [], ◌∙◌, ap, append_assoc}

-- four lists, each put behind those before it, over others
pub four_over : {X : Type 0} (none one two three four first second third fourth over below : List X)
    → none ≡ [] → one ≡ none ++ first → two ≡ one ++ second → three ≡ two ++ third → four ≡ three ++ fourth → over ≡ below
    → four ++ over ≡ (first ++ (second ++ third)) ++ (fourth ++ below)
four_over {X} none one two three four first second third fourth over below a b c d e f =
    let all : four ≡ ((first ++ second) ++ third) ++ fourth =
    e ∙ ap (λ (l : List X). l ++ fourth) (d ∙ ap (λ (l : List X). l ++ third) (c ∙ ap (λ (l : List X). l ++ second) (b ∙ ap (λ (l : List X). l ++ first) a))) in
    ap (λ (l : List X). l ++ over) all
    ∙ ap (λ (l : List X). (((first ++ second) ++ third) ++ fourth) ++ l) f
    ∙ append_assoc ((first ++ second) ++ third) fourth below
    ∙ ap (λ (l : List X). l ++ (fourth ++ below)) (append_assoc first second third)
