use Rattle.std.proofs.Common.{◌≡◌, refl, sym, ◌∙◌, true, false, codes}
use Rattle.gx_grammar.specs.Value.{characters}
use Rattle.gx_typetext.specs.Nodes.{is_type_word}
use Rattle.gx_typetext.proofs.WordTests.{literal_word}
use Rattle.gx_typetext.proofs.words.name_word.Goals as goal

pub returns-then-is_word : goal.returns-then-is_word
returns-then-is_word c =
    let yes : is_type_word (codes "none") (characters c.args.local.now) ≡ true = sym (literal_word c.is_word.result (codes "none") (characters c.args.local.now) refl c.is_word.ensures) ∙ c.if-is_word.true in
    rw yes refl

pub returns-then-is_word-2 : goal.returns-then-is_word-2
returns-then-is_word-2 c =
    let no0 : is_type_word (codes "none") (characters c.args.local.now) ≡ false = sym (literal_word c.is_word.result (codes "none") (characters c.args.local.now) refl c.is_word.ensures) ∙ c.if-is_word.false in
    let yes : is_type_word (codes "empty-sequence") (characters c.args.local.now) ≡ true = sym (literal_word c.is_word-2.result (codes "empty-sequence") (characters c.args.local.now) refl c.is_word-2.ensures) ∙ c.if-is_word-2.true in
    rw (no0, yes) refl

pub returns-then-is_word-3 : goal.returns-then-is_word-3
returns-then-is_word-3 c =
    let no0 : is_type_word (codes "none") (characters c.args.local.now) ≡ false = sym (literal_word c.is_word.result (codes "none") (characters c.args.local.now) refl c.is_word.ensures) ∙ c.if-is_word.false in
    let no1 : is_type_word (codes "empty-sequence") (characters c.args.local.now) ≡ false = sym (literal_word c.is_word-2.result (codes "empty-sequence") (characters c.args.local.now) refl c.is_word-2.ensures) ∙ c.if-is_word-2.false in
    let yes : is_type_word (codes "node") (characters c.args.local.now) ≡ true = sym (literal_word c.is_word-3.result (codes "node") (characters c.args.local.now) refl c.is_word-3.ensures) ∙ c.if-is_word-3.true in
    rw (no0, no1, yes) refl

pub returns-then-is_word-4 : goal.returns-then-is_word-4
returns-then-is_word-4 c =
    let no0 : is_type_word (codes "none") (characters c.args.local.now) ≡ false = sym (literal_word c.is_word.result (codes "none") (characters c.args.local.now) refl c.is_word.ensures) ∙ c.if-is_word.false in
    let no1 : is_type_word (codes "empty-sequence") (characters c.args.local.now) ≡ false = sym (literal_word c.is_word-2.result (codes "empty-sequence") (characters c.args.local.now) refl c.is_word-2.ensures) ∙ c.if-is_word-2.false in
    let no2 : is_type_word (codes "node") (characters c.args.local.now) ≡ false = sym (literal_word c.is_word-3.result (codes "node") (characters c.args.local.now) refl c.is_word-3.ensures) ∙ c.if-is_word-3.false in
    let yes : is_type_word (codes "item") (characters c.args.local.now) ≡ true = sym (literal_word c.is_word-4.result (codes "item") (characters c.args.local.now) refl c.is_word-4.ensures) ∙ c.if-is_word-4.true in
    rw (no0, no1, no2, yes) refl

pub returns-then-is_word-5 : goal.returns-then-is_word-5
returns-then-is_word-5 c =
    let no0 : is_type_word (codes "none") (characters c.args.local.now) ≡ false = sym (literal_word c.is_word.result (codes "none") (characters c.args.local.now) refl c.is_word.ensures) ∙ c.if-is_word.false in
    let no1 : is_type_word (codes "empty-sequence") (characters c.args.local.now) ≡ false = sym (literal_word c.is_word-2.result (codes "empty-sequence") (characters c.args.local.now) refl c.is_word-2.ensures) ∙ c.if-is_word-2.false in
    let no2 : is_type_word (codes "node") (characters c.args.local.now) ≡ false = sym (literal_word c.is_word-3.result (codes "node") (characters c.args.local.now) refl c.is_word-3.ensures) ∙ c.if-is_word-3.false in
    let no3 : is_type_word (codes "item") (characters c.args.local.now) ≡ false = sym (literal_word c.is_word-4.result (codes "item") (characters c.args.local.now) refl c.is_word-4.ensures) ∙ c.if-is_word-4.false in
    let yes : is_type_word (codes "text") (characters c.args.local.now) ≡ true = sym (literal_word c.is_word-5.result (codes "text") (characters c.args.local.now) refl c.is_word-5.ensures) ∙ c.if-is_word-5.true in
    rw (no0, no1, no2, no3, yes) refl

pub returns-then-is_word-6 : goal.returns-then-is_word-6
returns-then-is_word-6 c =
    let no0 : is_type_word (codes "none") (characters c.args.local.now) ≡ false = sym (literal_word c.is_word.result (codes "none") (characters c.args.local.now) refl c.is_word.ensures) ∙ c.if-is_word.false in
    let no1 : is_type_word (codes "empty-sequence") (characters c.args.local.now) ≡ false = sym (literal_word c.is_word-2.result (codes "empty-sequence") (characters c.args.local.now) refl c.is_word-2.ensures) ∙ c.if-is_word-2.false in
    let no2 : is_type_word (codes "node") (characters c.args.local.now) ≡ false = sym (literal_word c.is_word-3.result (codes "node") (characters c.args.local.now) refl c.is_word-3.ensures) ∙ c.if-is_word-3.false in
    let no3 : is_type_word (codes "item") (characters c.args.local.now) ≡ false = sym (literal_word c.is_word-4.result (codes "item") (characters c.args.local.now) refl c.is_word-4.ensures) ∙ c.if-is_word-4.false in
    let no4 : is_type_word (codes "text") (characters c.args.local.now) ≡ false = sym (literal_word c.is_word-5.result (codes "text") (characters c.args.local.now) refl c.is_word-5.ensures) ∙ c.if-is_word-5.false in
    let yes : is_type_word (codes "document-node") (characters c.args.local.now) ≡ true = sym (literal_word c.is_word-6.result (codes "document-node") (characters c.args.local.now) refl c.is_word-6.ensures) ∙ c.if-is_word-6.true in
    rw (no0, no1, no2, no3, no4, yes) refl

pub returns-then-is_word-7 : goal.returns-then-is_word-7
returns-then-is_word-7 c =
    let no0 : is_type_word (codes "none") (characters c.args.local.now) ≡ false = sym (literal_word c.is_word.result (codes "none") (characters c.args.local.now) refl c.is_word.ensures) ∙ c.if-is_word.false in
    let no1 : is_type_word (codes "empty-sequence") (characters c.args.local.now) ≡ false = sym (literal_word c.is_word-2.result (codes "empty-sequence") (characters c.args.local.now) refl c.is_word-2.ensures) ∙ c.if-is_word-2.false in
    let no2 : is_type_word (codes "node") (characters c.args.local.now) ≡ false = sym (literal_word c.is_word-3.result (codes "node") (characters c.args.local.now) refl c.is_word-3.ensures) ∙ c.if-is_word-3.false in
    let no3 : is_type_word (codes "item") (characters c.args.local.now) ≡ false = sym (literal_word c.is_word-4.result (codes "item") (characters c.args.local.now) refl c.is_word-4.ensures) ∙ c.if-is_word-4.false in
    let no4 : is_type_word (codes "text") (characters c.args.local.now) ≡ false = sym (literal_word c.is_word-5.result (codes "text") (characters c.args.local.now) refl c.is_word-5.ensures) ∙ c.if-is_word-5.false in
    let no5 : is_type_word (codes "document-node") (characters c.args.local.now) ≡ false = sym (literal_word c.is_word-6.result (codes "document-node") (characters c.args.local.now) refl c.is_word-6.ensures) ∙ c.if-is_word-6.false in
    let yes : is_type_word (codes "element") (characters c.args.local.now) ≡ true = sym (literal_word c.is_word-7.result (codes "element") (characters c.args.local.now) refl c.is_word-7.ensures) ∙ c.if-is_word-7.true in
    rw (no0, no1, no2, no3, no4, no5, yes) refl

pub returns-then-is_word-8 : goal.returns-then-is_word-8
returns-then-is_word-8 c =
    let no0 : is_type_word (codes "none") (characters c.args.local.now) ≡ false = sym (literal_word c.is_word.result (codes "none") (characters c.args.local.now) refl c.is_word.ensures) ∙ c.if-is_word.false in
    let no1 : is_type_word (codes "empty-sequence") (characters c.args.local.now) ≡ false = sym (literal_word c.is_word-2.result (codes "empty-sequence") (characters c.args.local.now) refl c.is_word-2.ensures) ∙ c.if-is_word-2.false in
    let no2 : is_type_word (codes "node") (characters c.args.local.now) ≡ false = sym (literal_word c.is_word-3.result (codes "node") (characters c.args.local.now) refl c.is_word-3.ensures) ∙ c.if-is_word-3.false in
    let no3 : is_type_word (codes "item") (characters c.args.local.now) ≡ false = sym (literal_word c.is_word-4.result (codes "item") (characters c.args.local.now) refl c.is_word-4.ensures) ∙ c.if-is_word-4.false in
    let no4 : is_type_word (codes "text") (characters c.args.local.now) ≡ false = sym (literal_word c.is_word-5.result (codes "text") (characters c.args.local.now) refl c.is_word-5.ensures) ∙ c.if-is_word-5.false in
    let no5 : is_type_word (codes "document-node") (characters c.args.local.now) ≡ false = sym (literal_word c.is_word-6.result (codes "document-node") (characters c.args.local.now) refl c.is_word-6.ensures) ∙ c.if-is_word-6.false in
    let no6 : is_type_word (codes "element") (characters c.args.local.now) ≡ false = sym (literal_word c.is_word-7.result (codes "element") (characters c.args.local.now) refl c.is_word-7.ensures) ∙ c.if-is_word-7.false in
    let yes : is_type_word (codes "attribute") (characters c.args.local.now) ≡ true = sym (literal_word c.is_word-8.result (codes "attribute") (characters c.args.local.now) refl c.is_word-8.ensures) ∙ c.if-is_word-8.true in
    rw (no0, no1, no2, no3, no4, no5, no6, yes) refl

pub returns-then-is_word-9 : goal.returns-then-is_word-9
returns-then-is_word-9 c =
    let no0 : is_type_word (codes "none") (characters c.args.local.now) ≡ false = sym (literal_word c.is_word.result (codes "none") (characters c.args.local.now) refl c.is_word.ensures) ∙ c.if-is_word.false in
    let no1 : is_type_word (codes "empty-sequence") (characters c.args.local.now) ≡ false = sym (literal_word c.is_word-2.result (codes "empty-sequence") (characters c.args.local.now) refl c.is_word-2.ensures) ∙ c.if-is_word-2.false in
    let no2 : is_type_word (codes "node") (characters c.args.local.now) ≡ false = sym (literal_word c.is_word-3.result (codes "node") (characters c.args.local.now) refl c.is_word-3.ensures) ∙ c.if-is_word-3.false in
    let no3 : is_type_word (codes "item") (characters c.args.local.now) ≡ false = sym (literal_word c.is_word-4.result (codes "item") (characters c.args.local.now) refl c.is_word-4.ensures) ∙ c.if-is_word-4.false in
    let no4 : is_type_word (codes "text") (characters c.args.local.now) ≡ false = sym (literal_word c.is_word-5.result (codes "text") (characters c.args.local.now) refl c.is_word-5.ensures) ∙ c.if-is_word-5.false in
    let no5 : is_type_word (codes "document-node") (characters c.args.local.now) ≡ false = sym (literal_word c.is_word-6.result (codes "document-node") (characters c.args.local.now) refl c.is_word-6.ensures) ∙ c.if-is_word-6.false in
    let no6 : is_type_word (codes "element") (characters c.args.local.now) ≡ false = sym (literal_word c.is_word-7.result (codes "element") (characters c.args.local.now) refl c.is_word-7.ensures) ∙ c.if-is_word-7.false in
    let no7 : is_type_word (codes "attribute") (characters c.args.local.now) ≡ false = sym (literal_word c.is_word-8.result (codes "attribute") (characters c.args.local.now) refl c.is_word-8.ensures) ∙ c.if-is_word-8.false in
    let yes : is_type_word (codes "schema-element") (characters c.args.local.now) ≡ true = sym (literal_word c.is_word-9.result (codes "schema-element") (characters c.args.local.now) refl c.is_word-9.ensures) ∙ c.if-is_word-9.true in
    rw (no0, no1, no2, no3, no4, no5, no6, no7, yes) refl

pub returns : goal.returns
returns c =
    let no0 : is_type_word (codes "none") (characters c.args.local.now) ≡ false = sym (literal_word c.is_word.result (codes "none") (characters c.args.local.now) refl c.is_word.ensures) ∙ c.if-is_word.false in
    let no1 : is_type_word (codes "empty-sequence") (characters c.args.local.now) ≡ false = sym (literal_word c.is_word-2.result (codes "empty-sequence") (characters c.args.local.now) refl c.is_word-2.ensures) ∙ c.if-is_word-2.false in
    let no2 : is_type_word (codes "node") (characters c.args.local.now) ≡ false = sym (literal_word c.is_word-3.result (codes "node") (characters c.args.local.now) refl c.is_word-3.ensures) ∙ c.if-is_word-3.false in
    let no3 : is_type_word (codes "item") (characters c.args.local.now) ≡ false = sym (literal_word c.is_word-4.result (codes "item") (characters c.args.local.now) refl c.is_word-4.ensures) ∙ c.if-is_word-4.false in
    let no4 : is_type_word (codes "text") (characters c.args.local.now) ≡ false = sym (literal_word c.is_word-5.result (codes "text") (characters c.args.local.now) refl c.is_word-5.ensures) ∙ c.if-is_word-5.false in
    let no5 : is_type_word (codes "document-node") (characters c.args.local.now) ≡ false = sym (literal_word c.is_word-6.result (codes "document-node") (characters c.args.local.now) refl c.is_word-6.ensures) ∙ c.if-is_word-6.false in
    let no6 : is_type_word (codes "element") (characters c.args.local.now) ≡ false = sym (literal_word c.is_word-7.result (codes "element") (characters c.args.local.now) refl c.is_word-7.ensures) ∙ c.if-is_word-7.false in
    let no7 : is_type_word (codes "attribute") (characters c.args.local.now) ≡ false = sym (literal_word c.is_word-8.result (codes "attribute") (characters c.args.local.now) refl c.is_word-8.ensures) ∙ c.if-is_word-8.false in
    let no8 : is_type_word (codes "schema-element") (characters c.args.local.now) ≡ false = sym (literal_word c.is_word-9.result (codes "schema-element") (characters c.args.local.now) refl c.is_word-9.ensures) ∙ c.if-is_word-9.false in
    rw (no0, no1, no2, no3, no4, no5, no6, no7, no8) refl
