use Rattle.std.proofs.Common.{codes, refl}
use Rattle.gx_parse_grammar.specs.Grammar.{is_name, is_element_test, is_kind_test}
use Rattle.gx_parse_tokens.specs.Names.{name_made}
use Rattle.gx_parse_tokens.proofs.NameScans.{literal_name, or_six}
use Rattle.gx_parse_tokens.proofs.names.ReadName.is_reserved.Goals as goal

pub returns : goal.returns
returns c =
    or_six c.is_element_test.result c.is_kind_test.result c.is.result c.is-2.result c.is-3.result c.is-4.result
    (is_element_test (name_made c.args.self.now)) (is_kind_test (name_made c.args.self.now)) (is_name (codes "empty-sequence") (name_made c.args.self.now)) (is_name (codes "if") (name_made c.args.self.now)) (is_name (codes "item") (name_made c.args.self.now)) (is_name (codes "typeswitch") (name_made c.args.self.now))
    c.is_element_test.ensures c.is_kind_test.ensures (literal_name c.is.result (codes "empty-sequence") (name_made c.args.self.now) refl c.is.ensures) (literal_name c.is-2.result (codes "if") (name_made c.args.self.now) refl c.is-2.ensures) (literal_name c.is-3.result (codes "item") (name_made c.args.self.now) refl c.is-3.ensures) (literal_name c.is-4.result (codes "typeswitch") (name_made c.args.self.now) refl c.is-4.ensures)
