-- What the prefixes of a tag stand for, as the code keeps them.
use Rattle.std.specs.Prelude.{◌≡◌, ℕ, List, map}
use Rattle.std.specs.BTreeSet.{BTreeSet, contains}
use Rattle.gx_base.specs.Text.{text_cmp}
use Rattle.gx_tree.specs.declared.attribute.Attribute.{Attribute}
use Rattle.gx_serial.specs.declared.prefix.Prefixes.TheInside.{Inside}
use Rattle.gx_serial.specs.Binding.{is_prefix_among}
use Rattle.gx_serial.specs.Marked.{prefixes_of}
use Rattle.gx_serial.specs.View.{TagPrefixes, all_prefixes, IsSearchStart}

-- the set has these prefixes and no others
abbrev pub HoldsAll : List (List ℕ) → BTreeSet (List ℕ) → Type 0
HoldsAll prefixes set = (prefix : List ℕ) → contains text_cmp set prefix ≡ is_prefix_among prefixes prefix

abbrev pub prefixes_seen : Inside → TagPrefixes
prefixes_seen p = record { used = prefixes_of p.name.now p.attributes.now; taken_bindings = p.taken_bindings }

-- the set has the attributes' prefixes, and the search for a free number may start at `number`
pub record IsPrepared (p : Inside) : Type 0 where
  pub set : HoldsAll (map (λ (a : Attribute). a.name.prefix) p.attributes.now) p.attribute_prefixes
  pub search_start : IsSearchStart (all_prefixes (prefixes_seen p)) p.number
