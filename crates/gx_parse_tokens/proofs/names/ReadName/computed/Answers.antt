use Rattle.std.proofs.Common.{◌≡◌, refl, sym, ◌∙◌, true, false, codes}
use Rattle.gx_parse_grammar.specs.Grammar.{is_name}
use Rattle.gx_parse_tokens.specs.Names.{name_made}
use Rattle.gx_parse_tokens.proofs.NameScans.{literal_name}
use Rattle.gx_parse_tokens.proofs.names.ReadName.computed.Goals as goal

pub returns-then-is : goal.returns-then-is
returns-then-is c =
    let yes : is_name (codes "document") (name_made c.args.self.now) ≡ true = sym (literal_name c.is.result (codes "document") (name_made c.args.self.now) refl c.is.ensures) ∙ c.if-is.true in
    rw yes refl

pub returns-then-is-2 : goal.returns-then-is-2
returns-then-is-2 c =
    let no0 : is_name (codes "document") (name_made c.args.self.now) ≡ false = sym (literal_name c.is.result (codes "document") (name_made c.args.self.now) refl c.is.ensures) ∙ c.if-is.false in
    let yes : is_name (codes "text") (name_made c.args.self.now) ≡ true = sym (literal_name c.is-2.result (codes "text") (name_made c.args.self.now) refl c.is-2.ensures) ∙ c.if-is-2.true in
    rw (no0, yes) refl

pub returns : goal.returns
returns c =
    let no0 : is_name (codes "document") (name_made c.args.self.now) ≡ false = sym (literal_name c.is.result (codes "document") (name_made c.args.self.now) refl c.is.ensures) ∙ c.if-is.false in
    let no1 : is_name (codes "text") (name_made c.args.self.now) ≡ false = sym (literal_name c.is-2.result (codes "text") (name_made c.args.self.now) refl c.is-2.ensures) ∙ c.if-is-2.false in
    rw (no0, no1) refl
