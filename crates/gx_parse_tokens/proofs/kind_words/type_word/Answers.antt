use Rattle.std.proofs.Common.{◌≡◌, ap, refl, sym, ◌∙◌, true, false, codes}
use Rattle.gx_parse_grammar.specs.Grammar.{is_name}
use Rattle.gx_parse_grammar.specs.Types.{of_kind}
use Rattle.gx_parse_tokens.specs.Names.{name_made}
use Rattle.gx_parse_tokens.proofs.NameScans.{literal_name}
use Rattle.gx_parse_tokens.proofs.kind_words.type_word.Goals as goal

pub returns-then-is : goal.returns-then-is
returns-then-is c =
    let yes : is_name (codes "empty-sequence") (name_made c.args.name.now) ≡ true = sym (literal_name c.is.result (codes "empty-sequence") (name_made c.args.name.now) refl c.is.ensures) ∙ c.if-is.true in
    rw yes refl

pub returns-then-is-2 : goal.returns-then-is-2
returns-then-is-2 c =
    let no0 : is_name (codes "empty-sequence") (name_made c.args.name.now) ≡ false = sym (literal_name c.is.result (codes "empty-sequence") (name_made c.args.name.now) refl c.is.ensures) ∙ c.if-is.false in
    let yes : is_name (codes "item") (name_made c.args.name.now) ≡ true = sym (literal_name c.is-2.result (codes "item") (name_made c.args.name.now) refl c.is-2.ensures) ∙ c.if-is-2.true in
    rw (no0, yes) refl

pub returns-in-None : goal.returns-in-None
returns-in-None c =
    let no0 : is_name (codes "empty-sequence") (name_made c.args.name.now) ≡ false = sym (literal_name c.is.result (codes "empty-sequence") (name_made c.args.name.now) refl c.is.ensures) ∙ c.if-is.false in
    let no1 : is_name (codes "item") (name_made c.args.name.now) ≡ false = sym (literal_name c.is-2.result (codes "item") (name_made c.args.name.now) refl c.is-2.ensures) ∙ c.if-is-2.false in
    rw (no0, no1) (ap of_kind c.in-None.ensures)

pub returns-in-Some : goal.returns-in-Some
returns-in-Some c =
    let no0 : is_name (codes "empty-sequence") (name_made c.args.name.now) ≡ false = sym (literal_name c.is.result (codes "empty-sequence") (name_made c.args.name.now) refl c.is.ensures) ∙ c.if-is.false in
    let no1 : is_name (codes "item") (name_made c.args.name.now) ≡ false = sym (literal_name c.is-2.result (codes "item") (name_made c.args.name.now) refl c.is-2.ensures) ∙ c.if-is-2.false in
    rw (no0, no1) (ap of_kind c.in-Some.ensures)
