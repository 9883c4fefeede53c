use Rattle.std.proofs.Common.{codes, refl}
use Rattle.gx_parse_grammar.specs.Grammar.{is_name}
use Rattle.gx_parse_tokens.specs.Names.{name_made}
use Rattle.gx_parse_tokens.proofs.NameScans.{literal_name, or_five}
use Rattle.gx_parse_tokens.proofs.names.ReadName.is_kind_test.Goals as goal

pub returns : goal.returns
returns c =
    or_five c.is.result c.is-2.result c.is-3.result c.is-4.result c.is-5.result
    (is_name (codes "comment") (name_made c.args.self.now)) (is_name (codes "document-node") (name_made c.args.self.now)) (is_name (codes "node") (name_made c.args.self.now)) (is_name (codes "processing-instruction") (name_made c.args.self.now)) (is_name (codes "text") (name_made c.args.self.now))
    (literal_name c.is.result (codes "comment") (name_made c.args.self.now) refl c.is.ensures) (literal_name c.is-2.result (codes "document-node") (name_made c.args.self.now) refl c.is-2.ensures) (literal_name c.is-3.result (codes "node") (name_made c.args.self.now) refl c.is-3.ensures) (literal_name c.is-4.result (codes "processing-instruction") (name_made c.args.self.now) refl c.is-4.ensures) (literal_name c.is-5.result (codes "text") (name_made c.args.self.now) refl c.is-5.ensures)
