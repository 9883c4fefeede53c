-- A schema document as contracts see it.
use Rattle.std.specs.Prelude.{ℕ, List, refl}
use Rattle.std.specs.Coded.{Coded, code_by, coded×, coded_ℕ, coded_list}
use Rattle.gx_schema_syntax.specs.declared.written.TypeDeclaration.{TypeDeclaration}
use Rattle.gx_schema_syntax.specs.declared.written.GlobalDeclaration.{GlobalDeclaration}

pub record DocumentTree : Type 0 where
  pub target : List ℕ
  pub types : List TypeDeclaration
  pub declarations : List GlobalDeclaration

abbrev pub document_code : Coded TypeDeclaration → Coded GlobalDeclaration → Coded DocumentTree
document_code types declarations =
    code_by (List ℕ × (List TypeDeclaration × List GlobalDeclaration)) (coded× (coded_list coded_ℕ) (coded× (coded_list types) (coded_list declarations)))
    (λ d. (d.target, (d.types, d.declarations))) (λ p. record { target = p.0; types = p.1.0; declarations = p.1.1 }) (λ _. refl)
