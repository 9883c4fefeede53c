-- What the type of pieces says of the text that has them.
use Rattle.std.proofs.Common.{◌≡◌, ℕ, List, refl, sym, subst, ap, ◌∙◌, Result, Ok, Err, MatchResult}
use Rattle.gx_types.specs.SchemaSet.{SchemaSet}
use Rattle.gx_types.specs.SequenceType.{SequenceType}
use Rattle.gx_typetext.specs.declared.read.TypeRead.{TypeRead}
use Rattle.gx_typetext.specs.declared.read.TypeRead.TheVariants.{BadType, UnknownName, Memory}
use Rattle.gx_typetext.specs.declared.written.Piece.{Piece}
use Rattle.gx_typetext.specs.KnownNames.{first_unknown}
use Rattle.gx_typetext.specs.Reading.{HasPieces}
use Rattle.gx_typetext.specs.TypeReading.{IsUnknownName, ReadAs, IsTypeText, IsTypeRefused}
use Rattle.gx_typetext.specs.Building.{type_of_pieces}
use Rattle.gx_typetext.specs.Nodes.{pieces}
use Rattle.gx_typetext.specs.TreeLaws.{TypeTextsHaveOneType, RefusedTextsHaveNoType}
use Rattle.gx_grammar.specs.Value.{nothing, pair}
use Rattle.gx_typetext.specs.WrittenTypes.{type_pieces}
use Rattle.gx_typetext.proofs.Builds.{tree_type, one_type}
use Rattle.gx_typetext.proofs.Trees.{tree_of}

pub type_read : (s : SchemaSet) (text : List ℕ) (ps : List Piece) (result : Result SequenceType TypeRead) → HasPieces text ps → ReadAs result (first_unknown s ps) (type_of_pieces s ps)
    → MatchResult result (λ t. IsTypeText s text t) (λ e. IsTypeRefused s text e)
type_read s text ps (Ok t) has h =
    let w = tree_of text ps has in record {
      written = w.0;
      has = subst (HasPieces text) (sym w.1) has;
      known = ap (first_unknown s) w.1 ∙ h.0;
      stands_for = h.1 ∙ ap (type_of_pieces s) (sym w.1) ∙ tree_type s w.0;
    }
type_read s text ps (Err (BadType place)) has h = absurd h
type_read s text ps (Err (UnknownName name)) has h =
    let w = tree_of text ps has in
    (w.0, subst (HasPieces text) (sym w.1) has, subst (λ qs. IsUnknownName (UnknownName name) (first_unknown s qs)) (sym w.1) h)
type_read s text ps (Err Memory) has h = tt

-- the pieces of a text are one list
pub one_list : (text : List ℕ) (ps qs : List Piece) → HasPieces text ps → HasPieces text qs → ps ≡ qs
one_list text ps qs h k = let same : pair nothing (pieces ps) ≡ pair nothing (pieces qs) = k.only (pair nothing (pieces ps)) h.derived in cc same

pub one_text_type : TypeTextsHaveOneType
one_text_type s text t u h k = h.stands_for ∙ one_type s h.written k.written (one_list text (type_pieces h.written) (type_pieces k.written) h.has k.has) ∙ sym k.stands_for

pub refused_no_type : RefusedTextsHaveNoType
refused_no_type s text (BadType place) t h n k = h.1.none (pair nothing (pieces (type_pieces k.written))) k.has.derived
refused_no_type s text (UnknownName name) t h n k =
    let same = one_list text (type_pieces h.0) (type_pieces k.written) h.1 k.has in
    subst (IsUnknownName (UnknownName name)) (ap (first_unknown s) same ∙ k.known) h.2
refused_no_type s text Memory t h n k = n refl
