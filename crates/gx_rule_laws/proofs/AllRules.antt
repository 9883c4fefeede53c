-- All rules hand on that an expression stands in its plan, and so rewriting keeps what it comes to.
use Rattle.gx_rules.specs.Rules.{One, Sorted, Flat, Slashes, Single, Decided, Idle, Joins}
use Rattle.gx_rule_laws.specs.KeepingSoundness.{RulesHandOn, RewritingKeeps}
use Rattle.gx_rule_laws.proofs.HandedParts.{one_hands_on, sorted_hands_on, flat_hands_on, idle_hands_on}
use Rattle.gx_rule_laws.proofs.SlashesStand.{slashes_hand_on}
use Rattle.gx_rule_laws.proofs.SingleStands.{single_hands_on}
use Rattle.gx_rule_laws.proofs.DecidedStands.{decided_hands_on}
use Rattle.gx_rule_laws.proofs.JoinsStand.{joins_hand_on}
use Rattle.gx_rule_laws.proofs.Rewriting.{rewritten_well}

pub rules_hand_on : RulesHandOn
rules_hand_on One = one_hands_on
rules_hand_on Sorted = sorted_hands_on
rules_hand_on Flat = flat_hands_on
rules_hand_on Slashes = slashes_hand_on
rules_hand_on Single = single_hands_on
rules_hand_on Decided = decided_hands_on
rules_hand_on Idle = idle_hands_on
rules_hand_on Joins = joins_hand_on

pub rewriting_keeps : RewritingKeeps
rewriting_keeps = rewritten_well rules_hand_on
