-- Where the codes of a block stand.
use Rattle.std.proofs.Common.{◌≡◌, ◌≤◌, ◌<◌, ◌-◌, ℕ, zero, suc, List, [], ◌∷◌, ◌++◌, length, map, get_or, Some, refl, sym, ◌∙◌, ap, subst, arith}
use Rattle.std.specs.List.{slice_get}
use Rattle.gx_base.specs.declared.place.Place.{Place}
use Rattle.gx_types.specs.SequenceType.{SequenceType}
use Rattle.gx_core.specs.declared.expression.Clause.{Clause}
use Rattle.gx_core.specs.declared.expression.Clause.TheVariants as clauses
use Rattle.gx_core.specs.declared.expression.SortKey.{SortKey}
use Rattle.gx_core.specs.declared.operator.ClauseKind.{ClauseKind}
use Rattle.gx_core.specs.Expression.{outer_of}
use Rattle.gx_core.specs.ExpressionView.{kind_of_clause, part_of_clause, part_of_key, parts_of_block}
use Rattle.gx_core.specs.Soundness.{TypedExpression}
use Rattle.gx_static.specs.Judgement.{clause_places}

-- the place of a clause alone
abbrev pub StandsAt : Clause SequenceType → Place → Type 0
StandsAt clause there = clause_places (kind_of_clause clause ∷ []) (outer_of (part_of_clause clause) ∷ []) ≡ there ∷ []

first_place : (clause : Clause SequenceType) (kinds : List ClauseKind) (parts : List Place) (there place : Place) → StandsAt clause there
    → get_or (clause_places (kind_of_clause clause ∷ kinds) (outer_of (part_of_clause clause) ∷ parts)) 0 place ≡ there
first_place (clauses.For binder position part) kinds parts there place h = cc
first_place (clauses.Let binder part) kinds parts there place h = cc
first_place (clauses.Where part) kinds parts there place h = cc

others_places : (clause : Clause SequenceType) (kinds : List ClauseKind) (part : Place) (parts : List Place) (n : ℕ) (place : Place)
    → get_or (clause_places (kind_of_clause clause ∷ kinds) (part ∷ parts)) (suc n) place ≡ get_or (clause_places kinds parts) n place
others_places (clauses.For binder position e) kinds part parts n place = refl
others_places (clauses.Let binder e) kinds part parts n place = refl
others_places (clauses.Where e) kinds part parts n place = refl

clause_there : (cs : List (Clause SequenceType)) (behind : List TypedExpression) (n : ℕ) (clause : Clause SequenceType) (there place : Place) → slice_get cs n ≡ Some clause → StandsAt clause there
    → get_or (clause_places (map kind_of_clause cs) (map outer_of (map part_of_clause cs ++ behind))) n place ≡ there
clause_there [] behind n clause there place g h = absurd (cc)
clause_there (first ∷ cs) behind zero clause there place g h =
    let same : clause ≡ first = cc in
    first_place first (map kind_of_clause cs) (map outer_of (map part_of_clause cs ++ behind)) there place (subst (λ (c : Clause SequenceType). StandsAt c there) same h)
clause_there (first ∷ cs) behind (suc n) clause there place g h =
    others_places first (map kind_of_clause cs) (outer_of (part_of_clause first)) (map outer_of (map part_of_clause cs ++ behind)) n place ∙ clause_there cs behind n clause there place g h

behind_clauses : (cs : List (Clause SequenceType)) (behind : List TypedExpression) (n : ℕ) (place : Place) → length cs ≤ n
    → get_or (clause_places (map kind_of_clause cs) (map outer_of (map part_of_clause cs ++ behind))) n place ≡ get_or (map outer_of behind) (n - length cs) place
behind_clauses [] behind n place h = let same : n ≡ n - 0 = omega arith in ap (λ (m : ℕ). get_or (map outer_of behind) m place) same
behind_clauses (first ∷ cs) behind zero place h = absurd (omega (arith, h))
behind_clauses (first ∷ cs) behind (suc n) place h =
    let same : n - length cs ≡ suc n - suc (length cs) = omega arith in
    others_places first (map kind_of_clause cs) (outer_of (part_of_clause first)) (map outer_of (map part_of_clause cs ++ behind)) n place
    ∙ behind_clauses cs behind n place (omega (arith, h)) ∙ ap (λ (m : ℕ). get_or (map outer_of behind) m place) same

key_there : (ks : List (SortKey SequenceType)) (body : TypedExpression) (n : ℕ) (key : SortKey SequenceType) (place : Place) → slice_get ks n ≡ Some key
    → get_or (map outer_of (map part_of_key ks ++ body ∷ [])) n place ≡ outer_of key.value
key_there [] body n key place g = absurd (cc)
key_there (first ∷ ks) body zero key place g = let same : first ≡ key = cc in ap (λ (k : SortKey SequenceType). outer_of k.value) same
key_there (first ∷ ks) body (suc n) key place g = key_there ks body n key place g

body_there : (ks : List (SortKey SequenceType)) (body : TypedExpression) (n : ℕ) (place : Place) → n ≡ length ks → get_or (map outer_of (map part_of_key ks ++ body ∷ [])) n place ≡ outer_of body
body_there [] body zero place e = refl
body_there [] body (suc n) place e = absurd (omega (arith, e))
body_there (key ∷ ks) body zero place e = absurd (omega (arith, e))
body_there (key ∷ ks) body (suc n) place e = body_there ks body n place (omega (arith, e))

none_there : (ks : List (SortKey SequenceType)) (body : TypedExpression) (n : ℕ) (place : Place) → length ks < n → get_or (map outer_of (map part_of_key ks ++ body ∷ [])) n place ≡ place
none_there [] body zero place h = absurd (omega (arith, h))
none_there [] body (suc n) place h = refl
none_there (key ∷ ks) body zero place h = absurd (omega (arith, h))
none_there (key ∷ ks) body (suc n) place h = none_there ks body n place (omega (arith, h))

-- ---- each part of a block

abbrev places_of_block : List (Clause SequenceType) → List (SortKey SequenceType) → TypedExpression → List Place
places_of_block cs ks body = clause_places (map kind_of_clause cs) (map outer_of (parts_of_block cs ks body))

pub at_clause : (cs : List (Clause SequenceType)) (ks : List (SortKey SequenceType)) (body : TypedExpression) (n : ℕ) (clause : Clause SequenceType) (there place : Place)
    → slice_get cs n ≡ Some clause → StandsAt clause there → there ≡ get_or (places_of_block cs ks body) n place
at_clause cs ks body n clause there place g h = sym (clause_there cs (map part_of_key ks ++ body ∷ []) n clause there place g h)

pub at_key : (cs : List (Clause SequenceType)) (ks : List (SortKey SequenceType)) (body : TypedExpression) (n : ℕ) (key : SortKey SequenceType) (place : Place)
    → length cs ≤ n → slice_get ks (n - length cs) ≡ Some key → outer_of key.value ≡ get_or (places_of_block cs ks body) n place
at_key cs ks body n key place h g = sym (behind_clauses cs (map part_of_key ks ++ body ∷ []) n place h ∙ key_there ks body (n - length cs) key place g)

pub at_body : (cs : List (Clause SequenceType)) (ks : List (SortKey SequenceType)) (body : TypedExpression) (n : ℕ) (place : Place)
    → length cs ≤ n → n - length cs ≡ length ks → outer_of body ≡ get_or (places_of_block cs ks body) n place
at_body cs ks body n place h e = sym (behind_clauses cs (map part_of_key ks ++ body ∷ []) n place h ∙ body_there ks body (n - length cs) place e)

pub at_none : (cs : List (Clause SequenceType)) (ks : List (SortKey SequenceType)) (body : TypedExpression) (n : ℕ) (place : Place)
    → length cs ≤ n → length ks < n - length cs → place ≡ get_or (places_of_block cs ks body) n place
at_none cs ks body n place h l = sym (behind_clauses cs (map part_of_key ks ++ body ∷ []) n place h ∙ none_there ks body (n - length cs) place l)
