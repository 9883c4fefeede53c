-- Start tags as the code keeps them, and what was read of them.
use Rattle.std.specs.Prelude.{◌≡◌, ℕ, List}
use Rattle.gx_grammar.specs.Grammar.{rule}
use Rattle.gx_grammar.specs.Ran.{Standing}
use Rattle.gx_tree.specs.Binding.{Binding}
use Rattle.gx_xml.specs.declared.tag.StartTag.{StartTag}
use Rattle.gx_xml.specs.Nodes.{Made}
use Rattle.gx_xml.specs.Tags.{TagSoFar, purpose_of, with_attribute}
use Rattle.gx_xml.specs.Grammar.{inside, attribute, tag_ending}
use Rattle.gx_xml.specs.Standings.{Did}

-- a tag, where these bindings are in force in front of it, and so many elements may stand in one another
abbrev pub tag_as : ℕ → List Binding → StartTag → TagSoFar
tag_as room scope t = record { room = room; scope = scope; prefix = t.prefix; local = t.local; declarations = t.declarations.items; attributes = t.attributes.items }

-- the tag has one attribute more
abbrev pub HasAdded : (prefix local value : List ℕ) → StartTag → StartTag → Type 0
HasAdded prefix local value before now =
    (room : ℕ) (scope : List Binding) → tag_as room scope now ≡ with_attribute (tag_as room scope before) prefix local value (purpose_of prefix local)

-- an attribute was read, the first part of whose name this is
abbrev pub ReadAttribute : List ℕ → StartTag → StartTag → Standing → Standing → Type 0
ReadAttribute first old new before here =
    (room : ℕ) (scope : List Binding) (w : Made) (after : Standing) → Did w here after (rule (inside (tag_as room scope new))) → Did w before after (attribute (tag_as room scope old) first)

-- attributes were read
abbrev pub ReadSome : StartTag → StartTag → Standing → Standing → Type 0
ReadSome old new before here =
    (room : ℕ) (scope : List Binding) (w : Made) (after : Standing) → Did w here after (rule (inside (tag_as room scope new))) → Did w before after (rule (inside (tag_as room scope old)))

-- all attributes were read
abbrev pub ReadAttributes : StartTag → StartTag → Standing → Standing → Type 0
ReadAttributes old new before here =
    (room : ℕ) (scope : List Binding) (w : Made) (after : Standing) → Did w here after (tag_ending (tag_as room scope new)) → Did w before after (rule (inside (tag_as room scope old)))
