-- Each text stands for a type, or for none.
use Rattle.std.proofs.Common.{◌≡◌, ℕ, List, ◌⊎◌, inl, inr, refl, sym, subst, ap, ◌∙◌, Result, Ok, Err, Option, None, Some}
use Rattle.gx_base.specs.declared.name.Name.{Name}
use Rattle.gx_types.specs.SchemaSet.{SchemaSet}
use Rattle.gx_types.specs.SequenceType.{SequenceType}
use Rattle.gx_grammar.specs.Value.{nothing, pair}
use Rattle.gx_grammar.specs.Reading.{Refusal, Unfit, Faulty, TooDeep}
use Rattle.gx_grammar.specs.Text.{HasValue, IsVerdict}
use Rattle.gx_typetext.specs.declared.written.Piece.{Piece}
use Rattle.gx_typetext.specs.Grammar.{type_phrase, type_texts}
use Rattle.gx_typetext.specs.KnownNames.{first_unknown}
use Rattle.gx_typetext.specs.Nodes.{Made, pieces}
use Rattle.gx_typetext.specs.Reading.{HasPieces}
use Rattle.gx_typetext.specs.TextLaws.{TextsAreJudged}
use Rattle.gx_typetext.specs.TypeReading.{IsTypeText}
use Rattle.gx_typetext.specs.Verdicts.{read_pieces}
use Rattle.gx_typetext.specs.WrittenTypes.{type_pieces, written_type}
use Rattle.gx_typetext.proofs.Holding.{holding}
use Rattle.gx_typetext.proofs.Trees.{Gives, rules_give, tree_of}
use Rattle.gx_typetext.proofs.TypesRead.{one_list}
use Rattle.gx_typetext.proofs.Verdicts.{verdict}

abbrev Judged : SchemaSet → List ℕ → Type 0
Judged s text = ((t : SequenceType) × IsTypeText s text t) ⊎ ((t : SequenceType) → IsTypeText s text t → ⊥)

by_names : (s : SchemaSet) (text : List ℕ) (ps : List Piece) (unknown : Option Name) → HasPieces text ps → first_unknown s ps ≡ unknown → Judged s text
by_names s text ps None has e =
    let w = tree_of text ps has in
    inl (written_type s w.0, record { written = w.0; has = subst (HasPieces text) (sym w.1) has; known = ap (first_unknown s) w.1 ∙ e; stands_for = refl })
by_names s text ps (Some name) has e =
    inr (λ t k. let same = one_list text ps (type_pieces k.written) has k.has in let f : Some name ≡ None = sym e ∙ ap (first_unknown s) same ∙ k.known in cc f)

-- a value of the grammar is that of pieces
pub pieces_of : (text : List ℕ) (v : Made) → HasValue type_texts type_phrase text v → (ps : List Piece) × HasPieces text ps
pieces_of text v h =
    let k = holding type_texts Gives rules_give h.derived in
    let ps = k.right.0 in
    let gap : k.first ≡ nothing = k.left.1.1.same in
    let same : v ≡ pair nothing (pieces ps) = k.is ∙ ap (λ x. pair x k.second) gap ∙ ap (λ x. pair nothing x) k.right.1 in
    (ps, subst (HasValue type_texts type_phrase text) same h)

by_verdict : (s : SchemaSet) (text : List ℕ) (q : Result Made Refusal) → IsVerdict type_texts type_phrase text q → Judged s text
by_verdict s text (Ok v) h = let p = pieces_of text v h in by_names s text p.0 (first_unknown s p.0) p.1 refl
by_verdict s text (Err (Unfit far)) h = inr (λ t k. h.none (pair nothing (pieces (type_pieces k.written))) k.has.derived)
by_verdict s text (Err (Faulty code left)) h = inr (λ t k. h.none (pair nothing (pieces (type_pieces k.written))) k.has.derived)
by_verdict s text (Err TooDeep) h = absurd h

pub texts_are_judged : TextsAreJudged
texts_are_judged s text = by_verdict s text (read_pieces text) (verdict text)
