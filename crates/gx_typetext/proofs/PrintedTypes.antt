-- A printed type is read back as a type that takes the same lists.
use Rattle.std.proofs.Common.{[], ◌≡◌, ℕ, List, refl, sym, ap, subst, ◌∙◌, None, Result, Ok, Err}
use Rattle.gx_types.specs.SchemaSet.{SchemaSet}
use Rattle.gx_types.specs.SequenceType.{SequenceType}
use Rattle.gx_grammar.specs.Reading.{Refusal, Unfit, Faulty, TooDeep}
use Rattle.gx_grammar.specs.Text.{HasValue, IsVerdict}
use Rattle.gx_grammar.specs.Value.{nothing, pair}
use Rattle.gx_typetext.specs.declared.context.Context.TheVariants.{Whole}
use Rattle.gx_typetext.specs.declared.written.Piece.{Piece}
use Rattle.gx_typetext.specs.Grammar.{type_phrase, type_texts}
use Rattle.gx_typetext.specs.KnownNames.{first_unknown}
use Rattle.gx_typetext.specs.Nodes.{Made, pieces}
use Rattle.gx_typetext.specs.ReadBack.{CanBeReadBack, PrintedTypesReadBack}
use Rattle.gx_typetext.specs.Reading.{HasPieces}
use Rattle.gx_typetext.specs.TypeText.{type_text}
use Rattle.gx_typetext.specs.Verdicts.{read_pieces}
use Rattle.gx_typetext.specs.WrittenTypes.{written_type}
use Rattle.gx_typetext.proofs.PrintedKnown.{item_takes, all_known}
use Rattle.gx_typetext.proofs.PrintedPieces.{pieces_in, printed_derived}
use Rattle.gx_typetext.proofs.PrintedTakes.{tree_takes}
use Rattle.gx_typetext.proofs.PrintedTokens.{D}
use Rattle.gx_typetext.proofs.PrintedTrees.{tree_from, tree_pieces}
use Rattle.gx_typetext.proofs.Verdicts.{verdict}

-- what is derived is the value
value_of : (text : List ℕ) (w : Made) (q : Result Made Refusal) → IsVerdict type_texts type_phrase text q → D type_phrase w text [] → HasValue type_texts type_phrase text w
value_of text w (Ok v) h d = subst (HasValue type_texts type_phrase text) (sym (h.only w d)) h
value_of text w (Err (Unfit far)) h d = absurd (h.none w d)
value_of text w (Err (Faulty code left)) h d = absurd (h.none w d)
value_of text w (Err TooDeep) h d = absurd h

pub printed_types_read_back : PrintedTypesReadBack
printed_types_read_back s t h =
    let ps = pieces_in Whole t in
    let has : HasPieces (type_text t) ps = value_of (type_text t) (pair nothing (pieces ps)) (read_pieces (type_text t)) (verdict (type_text t)) (printed_derived s t h.known h.short h.flat) in (
      written_type s (tree_from t),
      record {
        written = tree_from t;
        has = subst (HasPieces (type_text t)) (sym (tree_pieces t)) has;
        known = ap (first_unknown s) (tree_pieces t) ∙ all_known s Whole t h.known;
        stands_for = refl;
      },
      tree_takes s (item_takes s) t h.known,
    )
