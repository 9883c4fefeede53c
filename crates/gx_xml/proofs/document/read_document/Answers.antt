use Rattle.std.proofs.Common.{List, ℕ, subst}
use Rattle.std.specs.Prelude.{MatchResult}
use Rattle.gx_xml.specs.Reading.{IsDocumentOf, IsDocumentRefusal}
use Rattle.gx_xml.proofs.document.read_document.Goals as goal

pub returns-in-Ok : goal.returns-in-Ok
returns-in-Ok c =
    subst (λ (bytes : List ℕ). MatchResult c.read_characters.result (λ s. IsDocumentOf bytes s.root) (λ e. IsDocumentRefusal bytes e)) c.in-Ok.ensures.cases.0 c.read_characters.ensures
