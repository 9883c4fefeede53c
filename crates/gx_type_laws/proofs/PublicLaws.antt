-- The public laws as terms, for the proofs of the crates above.
use Rattle.std.specs.Prelude.{Bool}
use Rattle.std.specs.Bool.{IsTrue}
use Rattle.gx_types.specs.declared.item_type.ItemType.{ItemType}
use Rattle.gx_type_laws.specs.Laws.{RulesKeepItems, RulesAddNoPositions}
use Rattle.gx_type_laws.proofs.Kept.{joined_keeps, choice_keeps, repeated_keeps, prime_keeps, limited_keeps}
use Rattle.gx_type_laws.proofs.Items.{items_are_kept, items_of_parts}
use Rattle.gx_type_laws.proofs.Positions as positions

abbrev Passes : (ItemType → Bool) → ItemType → Type 0
Passes passes kind = IsTrue (passes kind)

pub rules_keep_items : RulesKeepItems
rules_keep_items =
    record {
      joined = λ passes. joined_keeps (items_are_kept (Passes passes));
      choice = λ passes. choice_keeps (items_are_kept (Passes passes));
      repeated = λ passes. repeated_keeps (items_are_kept (Passes passes));
      prime = λ passes. prime_keeps (items_are_kept (Passes passes)) (items_of_parts (Passes passes));
      limited = λ passes. limited_keeps (items_are_kept (Passes passes)) (items_of_parts (Passes passes));
    }

pub rules_add_no_positions : RulesAddNoPositions
rules_add_no_positions =
    record {
      joined = positions.joined_positions;
      choice = positions.choice_positions;
      optional = positions.optional_positions;
      star = positions.star_positions;
      plus = positions.plus_positions;
      prime = positions.prime_positions;
      factored = positions.factored_positions;
    }
