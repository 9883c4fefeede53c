use Rattle.std.proofs.Common.{codes, refl}
use Rattle.gx_parse_grammar.specs.Grammar.{is_name}
use Rattle.gx_parse_tokens.specs.Names.{name_made}
use Rattle.gx_parse_tokens.proofs.NameScans.{literal_name, or_four}
use Rattle.gx_parse_tokens.proofs.names.ReadName.is_element_test.Goals as goal

pub returns : goal.returns
returns c =
    or_four c.is.result c.is-2.result c.is-3.result c.is-4.result
    (is_name (codes "attribute") (name_made c.args.self.now)) (is_name (codes "element") (name_made c.args.self.now)) (is_name (codes "schema-attribute") (name_made c.args.self.now)) (is_name (codes "schema-element") (name_made c.args.self.now))
    (literal_name c.is.result (codes "attribute") (name_made c.args.self.now) refl c.is.ensures) (literal_name c.is-2.result (codes "element") (name_made c.args.self.now) refl c.is-2.ensures) (literal_name c.is-3.result (codes "schema-attribute") (name_made c.args.self.now) refl c.is-3.ensures) (literal_name c.is-4.result (codes "schema-element") (name_made c.args.self.now) refl c.is-4.ensures)
