-- Targets that are kept stay those of their readings.
use Rattle.std.proofs.Common.{◌≡◌, ℕ, zero, suc, ◌<◌, Bool, true, false, cond, List, [], ◌∷◌, Option, None, Some, refl, sym, ◌∙◌, ap, subst, get_or, map, length, slice_get, ◌↔◌, arith}
use Rattle.std.specs.Prelude.{◌&&◌, IfSome, Vec}
use Rattle.std.proofs.lemmas.Bool.{and_from, and_parts}
use Rattle.std.proofs.lemmas.Option.{slice_get_within}
use Rattle.indexmap.specs.IndexMap.{IndexMap, get}
use Rattle.gx_types.specs.declared.item_type.ItemType.{ItemType}
use Rattle.gx_types.specs.SchemaSet.{SchemaSet}
use Rattle.gx_types.specs.SequenceType.{SequenceType}
use Rattle.gx_include_takes.specs.declared.reading.Reading.{Reading}
use Rattle.gx_include_takes.specs.declared.reading.Feature.{Feature}
use Rattle.gx_include_takes.specs.Bits.{has_bit}
use Rattle.gx_include_takes.specs.Features.{accepts, is_read}
use Rattle.gx_include_takes.specs.Following.{AreComing, IsMask, FollowsMember}
use Rattle.gx_types.specs.Prime.{items_of}
use Rattle.gx_include_positions.specs.Positions.{tests_of}
use Rattle.gx_include_positions.specs.Step.{all_tests}
use Rattle.gx_include_takes.specs.Transitions.{same_reading, same_feature, places_kept, places_at, IsTransition, AreTransitions, AreMasks, AreNumberedAlike, IsAnew}
use Rattle.gx_include_positions.proofs.SetReads.{tests_are}
use Rattle.gx_include_takes.proofs.Symbols.{readings_alike, features_alike}

map_alike : {X Y : Type 0} (one other : X → Y) → ((x : X) → one x ≡ other x) → (xs : List X) → map one xs ≡ map other xs
map_alike one other f [] = refl
map_alike one other f (x ∷ xs) = ap (λ y. y ∷ map one xs) (f x) ∙ ap (λ ys. other x ∷ ys) (map_alike one other f xs)

pub get_there : {X : Type 0} (xs : List X) (i : ℕ) → i < length xs → (x : X) × (slice_get xs i ≡ Some x)
get_there [] i h = absurd (omega arith)
get_there (x ∷ xs) zero h = (x, refl)
get_there (x ∷ xs) (suc i) h = get_there xs i (omega arith)

pub tests_alike : (t : SequenceType) (one other : ItemType → Bool) → ((kind : ItemType) → one kind ≡ other kind) → all_tests t one ≡ all_tests t other
tests_alike t one other f = ap (λ ts. false ∷ ts) (tests_are t one ∙ map_alike one other f (items_of t) ∙ sym (tests_are t other))

module _ {A : Type 0} (t : SequenceType) (rows : List (Vec ℕ A)) where
  -- the same places come next over item types that pass the same tests
  coming_alike : (one other : ItemType → Bool) → ((kind : ItemType) → one kind ≡ other kind) → (before after : List ℕ) → AreComing t rows one before after → AreComing t rows other before after
  coming_alike one other f before after coming =
      subst (λ ts. (place : ℕ) → (has_bit after place ≡ true) ↔ (FollowsMember rows before place × (get_or ts place false ≡ true))) (tests_alike t one other f) coming

module _ {B : Type 0} where
  -- a state that keeps its number keeps its places
  place_stays : (states more : List (Vec ℕ B)) → AreNumberedAlike states more → (number : ℕ) → number < length states → (number < length more) × (places_at more number ≡ places_at states number)
  place_stays states more alike number h =
      let q = get_there states number h in
      let there = alike number q.0 q.1 in
      (slice_get_within more number q.0 there, ap places_kept (there ∙ sym q.1))

module _ {A B : Type 0} (t : SequenceType) (rows : List (Vec ℕ A)) where
  transition_alike : (one other : ItemType → Bool) → ((kind : ItemType) → one kind ≡ other kind) → (states : List (Vec ℕ B)) (origin target : ℕ) → IsTransition t rows one states origin target
      → IsTransition t rows other states origin target
  transition_alike one other f states origin target is = record {
    origin_within = is.origin_within;
    target_within = is.target_within;
    coming = coming_alike t rows one other f (places_at states origin) (places_at states target) is.coming;
  }

  transition_stays : (test : ItemType → Bool) (states more : List (Vec ℕ B)) (origin target : ℕ) → AreNumberedAlike states more → IsTransition t rows test states origin target
      → IsTransition t rows test more origin target
  transition_stays test states more origin target alike is =
      let p = place_stays states more alike origin is.origin_within in
      let q = place_stays states more alike target is.target_within in
      record {
        origin_within = p.0;
        target_within = q.0;
        coming = subst (λ ps. AreComing t rows test ps (places_at more target)) (sym p.1) (subst (AreComing t rows test (places_at states origin)) (sym q.1) is.coming);
      }

  module _ (s : SchemaSet) where
    abbrev IsKept : List (Vec ℕ B) → Reading → Option ℕ → Type 0
    IsKept states reading found = IfSome found (λ target. IsTransition t rows (is_read reading.symbol s) states reading.state target)

    some_stays : (states more : List (Vec ℕ B)) → AreNumberedAlike states more → (reading : Reading) (found : Option ℕ) → IsKept states reading found → IsKept more reading found
    some_stays states more alike reading None h = h
    some_stays states more alike reading (Some target) h = transition_stays (is_read reading.symbol s) states more reading.state target alike h

module _ {A B S : Type 0} (t : SequenceType) (rows : List (Vec ℕ A)) (s : SchemaSet) where
  -- what is looked up is the transition of the symbol
  pub next_is : (states : List (Vec ℕ B)) (targets : IndexMap Reading ℕ S) (reading : Reading) (target : ℕ) → AreTransitions t rows s states targets
      → get same_reading targets reading ≡ Some target → IsTransition t rows (is_read reading.symbol s) states reading.state target
  next_is states targets reading target kept found = subst (IsKept t rows s states reading) found (kept reading)

  -- nothing is kept that is wrong where nothing is kept
  pub anew_kept : {Z : Type 0} (places : List ℕ) (states : List (Vec ℕ B)) (targets : IndexMap Reading ℕ S) (masks : IndexMap Feature (Vec ℕ A) Z) → IsAnew places states targets masks
      → AreTransitions t rows s states targets
  anew_kept places states targets masks is reading = subst (IsKept t rows s states reading) (sym (is.none reading)) tt

  -- one target more
  pub kept_more : (states more : List (Vec ℕ B)) (old new : IndexMap Reading ℕ S) (key : Reading) (target : ℕ) (places : List ℕ) → AreTransitions t rows s states old
      → AreNumberedAlike states more → key.state < length states → target < length more → places_at more target ≡ places
      → AreComing t rows (is_read key.symbol s) (places_at states key.state) places
      → ((other : Reading) → get same_reading new other ≡ cond (same_reading key other) (Some target) (get same_reading old other)) → AreTransitions t rows s more new
  kept_more states more old new key target places kept alike within target_within f coming updates other =
      subst (IsKept t rows s more other) (sym (updates other)) (by (same_reading key other) refl)
    where
      here : IsTransition t rows (is_read key.symbol s) more key.state target
      here =
          let p = place_stays states more alike key.state within in
          record {
            origin_within = p.0;
            target_within = target_within;
            coming =
                subst (λ ps. AreComing t rows (is_read key.symbol s) ps (places_at more target)) (sym p.1)
                (subst (AreComing t rows (is_read key.symbol s) (places_at states key.state)) (sym f) coming);
          }

      by : (b : Bool) → same_reading key other ≡ b → IsKept t rows s more other (cond b (Some target) (get same_reading old other))
      by true g =
          let p = readings_alike s key other g in
          subst (λ n. IsTransition t rows (is_read other.symbol s) more n target) p.0
          (transition_alike t rows (is_read key.symbol s) (is_read other.symbol s) p.1 more key.state target here)
      by false g = some_stays t rows s states more alike other (get same_reading old other) (kept other)

abbrev IsKeptMask : {A : Type 0} → SequenceType → SchemaSet → Feature → Option (Vec ℕ A) → Type 0
IsKeptMask {A} t s feature found = IfSome found (λ (mask : Vec ℕ A). IsMask t (accepts feature s) mask.items)

module _ {A Z : Type 0} (t : SequenceType) (s : SchemaSet) where
  pub no_masks : {B S : Type 0} (places : List ℕ) (states : List (Vec ℕ B)) (targets : IndexMap Reading ℕ S) (masks : IndexMap Feature (Vec ℕ A) Z) → IsAnew places states targets masks → AreMasks t s masks
  no_masks places states targets masks is feature = subst (IsKeptMask t s feature) (sym (is.no_mask feature)) tt

  -- one mask more
  pub masks_more : (old new : IndexMap Feature (Vec ℕ A) Z) (key : Feature) (mask : Vec ℕ A) → AreMasks t s old → IsMask t (accepts key s) mask.items
      → ((other : Feature) → get same_feature new other ≡ cond (same_feature key other) (Some mask) (get same_feature old other)) → AreMasks t s new
  masks_more old new key mask all is updates other = subst (IsKeptMask t s other) (sym (updates other)) (by (same_feature key other) refl)
    where
      by : (b : Bool) → same_feature key other ≡ b → IsKeptMask t s other (cond b (Some mask) (get same_feature old other))
      by true g = λ place. is place ∙ ap (λ ts. get_or ts place false) (tests_alike t (accepts key s) (accepts other s) (features_alike s key other g))
      by false g = all other

  pub mask_is : (masks : IndexMap Feature (Vec ℕ A) Z) (feature : Feature) (mask : Vec ℕ A) → AreMasks t s masks → get same_feature masks feature ≡ Some mask → IsMask t (accepts feature s) mask.items
  mask_is masks feature mask all found = subst (IsKeptMask t s feature) found (all feature)

-- both halves

passed_both : (one other : ItemType → Bool) (kinds : List ItemType) (n : ℕ) → get_or (map (λ kind. one kind && other kind) kinds) n false ≡ (get_or (map one kinds) n false && get_or (map other kinds) n false)
passed_both one other [] n = refl
passed_both one other (kind ∷ kinds) zero = refl
passed_both one other (kind ∷ kinds) (suc n) = passed_both one other kinds n

accepted_both : (t : SequenceType) (one other : ItemType → Bool) (place : ℕ)
    → get_or (all_tests t (λ kind. one kind && other kind)) place false ≡ (get_or (all_tests t one) place false && get_or (all_tests t other) place false)
accepted_both t one other zero = refl
accepted_both t one other (suc n) =
    ap (λ ts. get_or ts n false) (tests_are t (λ kind. one kind && other kind)) ∙ passed_both one other (items_of t) n
    ∙ ap (λ ts. get_or ts n false && get_or (map other (items_of t)) n false) (sym (tests_are t one))
    ∙ ap (λ ts. get_or (tests_of t one) n false && get_or ts n false) (sym (tests_are t other))

-- the places that pass one half are met with those that pass the other
pub coming_of_both : {A : Type 0} (t : SequenceType) (rows : List (Vec ℕ A)) (one other : ItemType → Bool) (before after kept : List ℕ) → AreComing t rows other before after
    → ((place : ℕ) → has_bit kept place ≡ (has_bit after place && get_or (all_tests t one) place false)) → AreComing t rows (λ kind. one kind && other kind) before kept
coming_of_both t rows one other before after kept coming keeps place = (
  λ h.
      let p = and_parts (has_bit after place) (get_or (all_tests t one) place false) (sym (keeps place) ∙ h) in
      let q = (coming place).0 p.0 in
      (q.0, accepted_both t one other place ∙ and_from (get_or (all_tests t one) place false) (get_or (all_tests t other) place false) p.1 q.1),
  λ q.
      let p = and_parts (get_or (all_tests t one) place false) (get_or (all_tests t other) place false) (sym (accepted_both t one other place) ∙ q.1) in
      keeps place ∙ and_from (has_bit after place) (get_or (all_tests t one) place false) ((coming place).1 (q.0, p.1)) p.0,
)
