-- How numbers of nodes are compared, and lists of them.
use Rattle.std.specs.Prelude.{Bool, true, false, ◌&&◌, not, nat_eq, nat_lt, List, [], ◌∷◌, if◌then◌else◌}
use Rattle.std.specs.List.{list_any}
use Rattle.std.specs.declared.cmp.Ordering.{Ordering}
use Rattle.std.specs.Ordering.{on, nat_cmp}
use Rattle.std.specs.Cmp.{IsEquivalence, IsTotalOrder, on_equiv, on_total, nat_eq_equiv, nat_cmp_total}
use Rattle.gx_store.specs.declared.number.NodeId.{NodeId}

abbrev pub number_eq : NodeId → NodeId → Bool
number_eq = on (λ n. n.number) nat_eq

abbrev pub number_cmp : NodeId → NodeId → Ordering
number_cmp = on (λ n. n.number) nat_cmp

pub numbers_are_equivalent : IsEquivalence number_eq
numbers_are_equivalent = on_equiv (λ (n : NodeId). n.number) nat_eq_equiv

pub numbers_are_ordered : IsTotalOrder number_cmp
numbers_are_ordered = on_total (λ (n : NodeId). n.number) nat_cmp_total

abbrev pub number_lt : NodeId → NodeId → Bool
number_lt a b = nat_lt a.number b.number

-- whether each number is below the next
abbrev pub numbers_ascend : List NodeId → Bool
numbers_ascend [] = true
numbers_ascend (first ∷ []) = true
numbers_ascend (first ∷ second ∷ others) = number_lt first second && numbers_ascend (second ∷ others)

-- a test that is wanted, or its contrary
abbrev pub wants : (wanted : Bool) → Bool → Bool
wants wanted b = if wanted then b else not b

-- a number is one of a list, or else none of it
abbrev pub selects : (wanted : Bool) → List NodeId → NodeId → Bool
selects wanted numbers m = wants wanted (list_any (number_eq m) numbers)

abbrev pub begins_with : List NodeId → NodeId → Bool
begins_with [] m = false
begins_with (n ∷ numbers) m = number_eq m n

-- a list without a number that it begins with
abbrev pub without_first : NodeId → List NodeId → List NodeId
without_first m [] = []
without_first m (n ∷ numbers) = if number_eq m n then numbers else n ∷ numbers
