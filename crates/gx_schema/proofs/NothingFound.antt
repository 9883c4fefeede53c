-- What it says of documents that no rule is broken.
use Rattle.std.proofs.Common.{◌≡◌, ℕ, suc, ◌+◌, Bool, true, false, not, List, [], ◌∷◌, filter, nat_le, nat_lt, Option, None, Some, refl, if◌then◌else◌}
use Rattle.std.specs.Prelude.{option_map}
use Rattle.std.specs.List.{flat_map}
use Rattle.gx_base.specs.declared.type_name.TypeName.{TypeName}
use Rattle.gx_types.specs.SchemaInvariant.{HoldsOfEach}
use Rattle.gx_types.specs.SchemaSet.{SchemaSet}
use Rattle.gx_schema_syntax.specs.declared.written.GlobalDeclaration.{GlobalDeclaration}
use Rattle.gx_schema_syntax.specs.declared.written.TypeDeclaration.{TypeDeclaration}
use Rattle.gx_schema_syntax.specs.DocumentTree.{DocumentTree}
use Rattle.gx_schema_components.specs.declared.mention.Mention.{Mention}
use Rattle.gx_schema_components.specs.DeclaredNames.{declarations_in, declared_number, type_names_in, types_in}
use Rattle.gx_schema_components.specs.Mentions.{document_mentions, global_mentions, type_declaration_mentions}
use Rattle.gx_schema_components.specs.Unknown.{Numbering, earlier_mention, earliest, earliest_unknown, refers, unknown_from, unknown_name, unknown_shown}
use Rattle.gx_schema.specs.declared.refusal.SchemaRule.{SchemaRule}
use Rattle.gx_schema.specs.Import.{Imported, declares, unless_broken}
use Rattle.gx_schema.proofs.Lists.{first_none, holds_append, holds_behind, holds_front, holds_parted, mapped_none, second_none}

-- ---- rules that say nothing

pub rest_told : (rule : SchemaRule) (found : Option (ℕ × List ℕ)) (otherwise : Imported) (schemas : SchemaSet) → unless_broken rule found otherwise ≡ declares schemas → otherwise ≡ declares schemas
rest_told rule None otherwise schemas e = e
rest_told rule (Some found) otherwise schemas e = cc

pub none_found : (rule : SchemaRule) (found : Option (ℕ × List ℕ)) (otherwise : Imported) (schemas : SchemaSet) → unless_broken rule found otherwise ≡ declares schemas → found ≡ None
none_found rule None otherwise schemas e = refl
none_found rule (Some found) otherwise schemas e = cc

-- ---- each name refers to something

abbrev pub Refers : Numbering → Mention → Type 0
Refers numbers m = refers numbers m.kind m.reference ≡ true

some_mention_by : (t : Bool) (m n : Mention) → (if t then Some n else Some m) ≡ None → ⊥
some_mention_by true m n e = cc
some_mention_by false m n e = cc

earlier_some : (m : Mention) (other : Option Mention) → earlier_mention (Some m) other ≡ None → ⊥
earlier_some m None e = cc
earlier_some m (Some n) e = some_mention_by (nat_lt n.place m.place) m n e

referred_by : (numbers : Numbering) (m : Mention) (ms : List Mention) (t : Bool) → refers numbers m.kind m.reference ≡ t →
    earliest (if not t then m ∷ filter (λ (m : Mention). not (refers numbers m.kind m.reference)) ms else filter (λ (m : Mention). not (refers numbers m.kind m.reference)) ms) ≡ None →
    (refers numbers m.kind m.reference ≡ true) × (earliest (filter (λ (m : Mention). not (refers numbers m.kind m.reference)) ms) ≡ None)
referred_by numbers m ms true f e = (f, e)
referred_by numbers m ms false f e = absurd (earlier_some m (earliest (filter (λ (m : Mention). not (refers numbers m.kind m.reference)) ms)) e)

mentions_refer : (numbers : Numbering) (ms : List Mention) → earliest (filter (λ (m : Mention). not (refers numbers m.kind m.reference)) ms) ≡ None → HoldsOfEach (Refers numbers) ms
mentions_refer numbers [] e = tt
mentions_refer numbers (m ∷ ms) e =
    let told = referred_by numbers m ms (refers numbers m.kind m.reference) refl e in (told.0, mentions_refer numbers ms told.1)

document_refers : (numbers : Numbering) (document : DocumentTree) → earliest_unknown numbers (document_mentions document) ≡ None →
    HoldsOfEach (λ (t : TypeDeclaration). HoldsOfEach (Refers numbers) (type_declaration_mentions t)) document.types
    × HoldsOfEach (λ (g : GlobalDeclaration). HoldsOfEach (Refers numbers) (global_mentions g)) document.declarations
unfolding earliest_unknown
document_refers numbers document e =
    let all = mentions_refer numbers (document_mentions document) e in (
      holds_parted (Refers numbers) type_declaration_mentions document.types (holds_front (Refers numbers) (flat_map type_declaration_mentions document.types) (flat_map global_mentions document.declarations) all),
      holds_parted (Refers numbers) global_mentions document.declarations (holds_behind (Refers numbers) (flat_map type_declaration_mentions document.types) (flat_map global_mentions document.declarations) all),
    )

refer_from : (numbers : Numbering) (file : ℕ) (documents : List DocumentTree) → unknown_from numbers file documents ≡ None →
    HoldsOfEach (λ (t : TypeDeclaration). HoldsOfEach (Refers numbers) (type_declaration_mentions t)) (types_in documents)
    × HoldsOfEach (λ (g : GlobalDeclaration). HoldsOfEach (Refers numbers) (global_mentions g)) (declarations_in documents)
refer_from numbers file [] e = (tt, tt)
refer_from numbers file (document ∷ documents) e =
    let shown : Mention → ℕ × Mention = λ m. (file, m) in
    let unknown = earliest_unknown numbers (document_mentions document) in
    let here = document_refers numbers document (mapped_none shown unknown (first_none (option_map shown unknown) (unknown_from numbers (suc file) documents) e)) in
    let rest = refer_from numbers (suc file) documents (second_none (option_map shown unknown) (unknown_from numbers (suc file) documents) e) in (
      holds_append (λ (t : TypeDeclaration). HoldsOfEach (Refers numbers) (type_declaration_mentions t)) document.types (types_in documents) here.0 rest.0,
      holds_append (λ (g : GlobalDeclaration). HoldsOfEach (Refers numbers) (global_mentions g)) document.declarations (declarations_in documents) here.1 rest.1,
    )

names_refer_from : (numbers : Numbering) (file : ℕ) (documents : List DocumentTree) → unknown_from numbers file documents ≡ None →
    HoldsOfEach (λ (document : DocumentTree). HoldsOfEach (Refers numbers) (document_mentions document)) documents
unfolding earliest_unknown
names_refer_from numbers file [] e = tt
names_refer_from numbers file (document ∷ documents) e =
    let shown : Mention → ℕ × Mention = λ m. (file, m) in
    let unknown = earliest_unknown numbers (document_mentions document) in (
      mentions_refer numbers (document_mentions document) (mapped_none shown unknown (first_none (option_map shown unknown) (unknown_from numbers (suc file) documents) e)),
      names_refer_from numbers (suc file) documents (second_none (option_map shown unknown) (unknown_from numbers (suc file) documents) e),
    )

pub names_refer : (documents : List DocumentTree) → unknown_name documents ≡ None →
    HoldsOfEach (λ (document : DocumentTree). HoldsOfEach (Refers (declared_number documents)) (document_mentions document)) documents
names_refer documents e = names_refer_from (declared_number documents) 0 documents (mapped_none unknown_shown (unknown_from (declared_number documents) 0 documents) e)

pub everything_refers : (documents : List DocumentTree) → unknown_name documents ≡ None →
    HoldsOfEach (λ (t : TypeDeclaration). HoldsOfEach (Refers (declared_number documents)) (type_declaration_mentions t)) (types_in documents)
    × HoldsOfEach (λ (g : GlobalDeclaration). HoldsOfEach (Refers (declared_number documents)) (global_mentions g)) (declarations_in documents)
everything_refers documents e =
    refer_from (declared_number documents) 0 documents (mapped_none unknown_shown (unknown_from (declared_number documents) 0 documents) e)
