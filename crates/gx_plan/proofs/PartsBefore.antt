-- The types of the parts before a part, and what an operator binds behind them.
use Rattle.std.proofs.Common.{◌≡◌, ℕ, suc, List, [], ◌∷◌, ◌++◌, length, take, refl, sym, ◌∙◌, ap, append_assoc}
use Rattle.std.proofs.lemmas.List.{append-nil}
use Rattle.std.proofs.Math.Seq.{take-append_seam}
use Rattle.gx_types.specs.SequenceType.{SequenceType}
use Rattle.gx_core.specs.declared.operator.Operator.{Operator}
use Rattle.gx_core.specs.Bindings.{Types, types_bound}

-- ---- the parts before a part

-- so many parts stand before these, of these types
pub record AreBefore (ts before behind : List SequenceType) (number : ℕ) : Type 0 where
  pub split : ts ≡ before ++ behind
  pub count : length before ≡ number

pub one_more : (before : List SequenceType) (t : SequenceType) → length (before ++ t ∷ []) ≡ suc (length before)
one_more [] t = refl
one_more (u ∷ before) t = ap suc (one_more before t)

pub none_before : (ts : List SequenceType) → AreBefore ts [] ts 0
none_before ts = record { split = refl; count = refl }

pub next_before : (ts before behind : List SequenceType) (t : SequenceType) (number : ℕ) → AreBefore ts before (t ∷ behind) number
    → AreBefore ts (before ++ t ∷ []) behind (suc number)
next_before ts before behind t number a =
    record { split = a.split ∙ sym (append_assoc before (t ∷ []) behind); count = one_more before t ∙ ap suc a.count }

pub taken_before : (ts before behind : List SequenceType) (number : ℕ) → AreBefore ts before behind number → take number ts ≡ before
taken_before ts before behind number a =
    ap (λ (us : List SequenceType). take number us) a.split ∙ ap (λ (n : ℕ). take n (before ++ behind)) (sym a.count)
    ∙ take-append_seam before behind

-- what an operator binds behind these parts is what is made of the types of more parts
abbrev pub Binds : Operator → (before : List SequenceType) → (rest : List SequenceType → Types) → Type 0
Binds operator before rest = (more : List SequenceType) → types_bound operator (before ++ more) ≡ rest more

pub binds_next : (operator : Operator) (before : List SequenceType) (rest : List SequenceType → Types) (t : SequenceType)
    → Binds operator before rest → Binds operator (before ++ t ∷ []) (λ more. rest (t ∷ more))
binds_next operator before rest t b more = ap (types_bound operator) (append_assoc before (t ∷ []) more) ∙ b (t ∷ more)

pub binds_now : (operator : Operator) (before : List SequenceType) (rest : List SequenceType → Types) → Binds operator before rest
    → types_bound operator before ≡ rest []
binds_now operator before rest b = ap (types_bound operator) (sym (append-nil before)) ∙ b []
