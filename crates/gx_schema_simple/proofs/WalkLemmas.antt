-- Steps of a search for circles.
use Rattle.std.proofs.Common.{◌≡◌, ◌≢◌, ℕ, ◌<◌, ◌≤◌, ◌+◌, ◌⊎◌, ◌↔◌, inl, inr, Bool, true, false, List, length, Option, None, Some, sym, ◌∙◌, subst, ap, arith}
use Rattle.std.proofs.Math.ListN.{set, length-set}
use Rattle.std.proofs.lemmas.Bool.{cases_lt}
use Rattle.std.proofs.lemmas.List.{get_or-set_same}
use Rattle.gx_schema_simple.specs.Circles.{named_next, ComesTo, directly, through, StandsOnCircle}
use Rattle.gx_schema_simple.specs.Walk.{walk_at, WasReached, IsReachedOrOutside, IsClosed, BeganBelow, StaysReached, IsReachedFrom, WalksTo, has_mark, IsMarkedOrOutside, MarksGoOn, MarksCircle, IsCircleSearch}
use Rattle.gx_schema_simple.proofs.CircleLemmas.{leads_on, leads_back, circle_goes_on, begins, within_by_next, names_none_outside, leads_nowhere}
use Rattle.gx_schema_simple.proofs.Marks.{set_entry}

-- ---- marks

-- marks on the way round a circle, where one declaration is to be marked next
pub record IsMarking (bases : List (Option ℕ)) (before after : List Bool) (end number : ℕ) : Type 0 where
  pub sized : length after ≡ length before
  pub kept : (n : ℕ) → has_mark before n ≡ true → has_mark after n ≡ true
  pub sound : (n : ℕ) → has_mark after n ≡ true → (has_mark before n ≡ true) ⊎ StandsOnCircle bases n
  pub here : StandsOnCircle bases number
  pub onward : (n next : ℕ) → has_mark after n ≡ true → named_next bases n ≡ Some next → (has_mark after next ≡ true) ⊎ (next ≡ number)
  pub begun : (has_mark after end ≡ true) ⊎ (number ≡ end)

set_mark_stays : (marks : List Bool) (place n : ℕ) → place < length marks → has_mark marks n ≡ true → has_mark (set marks place true) n ≡ true
set_mark_stays marks place n within is_so = elim (set_entry marks place true false n within) [ inl (_, set_there) ↦ set_there | inr there ↦ there ∙ is_so ]

pub marking_goes_on : (bases : List (Option ℕ)) (before after : List Bool) (end number next : ℕ) → IsMarking bases before after end number → number < length after → named_next bases number ≡ Some next →
    IsMarking bases before (set after number true) end next
marking_goes_on bases before after end number next marking within names = record {
  sized = length-set after number true ∙ marking.sized;
  kept = λ n is_so. set_mark_stays after number n within (marking.kept n is_so);
  sound = λ n is_so. elim (set_entry after number true false n within) [
    | inl (same, _) ↦ inr (subst (λ (m : ℕ). StandsOnCircle bases m) (sym same) marking.here)
    | inr there ↦ marking.sound n (sym there ∙ is_so)
  ];
  here = circle_goes_on bases number next marking.here (directly names);
  onward = λ n m is_so named. elim (set_entry after number true false n within) [
    | inl (same, _) ↦ let there = ap (named_next bases) same in inr (cc)
    | inr there ↦ elim (marking.onward n m (sym there ∙ is_so) named) [
      | inl marked ↦ inl (set_mark_stays after number m within marked)
      | inr same ↦ inl (ap (has_mark (set after number true)) same ∙ get_or-set_same after number true false within)
    ]
  ];
  begun = elim marking.begun [
    | inl marked ↦ inl (set_mark_stays after number end within marked)
    | inr same ↦ inl (ap (has_mark (set after number true)) (sym same) ∙ get_or-set_same after number true false within)
  ];
}

marked_at_end : (bases : List (Option ℕ)) (marks : List Bool) (number : ℕ) → length marks ≡ length bases → StandsOnCircle bases number → IsMarkedOrOutside marks number → has_mark marks number ≡ true
marked_at_end bases marks number sized circle (inr marked) = marked
marked_at_end bases marks number sized circle (inl outside) =
    let (next, names) = begins bases number number circle in
    let within = within_by_next bases number next names in
    absurd (omega arith)

pub marking_ends : (bases : List (Option ℕ)) (before after : List Bool) (end number : ℕ) → length before ≡ length bases → IsMarking bases before after end number → IsMarkedOrOutside after number → MarksCircle bases before after end
marking_ends bases before after end number sized marking at_end = let marked = marked_at_end bases after number (marking.sized ∙ sized) marking.here at_end in record {
  sized = marking.sized;
  kept = marking.kept;
  sound = marking.sound;
  onward = λ n next is_so names. elim (marking.onward n next is_so names) [ inl is_marked ↦ is_marked | inr same ↦ ap (has_mark after) same ∙ marked ];
  marked = elim marking.begun [ inl is_marked ↦ is_marked | inr same ↦ ap (has_mark after) (sym same) ∙ marked ];
}

-- marks that go on stand at all to which a marked declaration leads
marks_follow : (bases : List (Option ℕ)) (marks : List Bool) (from to : ℕ) → MarksGoOn bases marks → has_mark marks from ≡ true → ComesTo bases from to → has_mark marks to ≡ true
marks_follow bases marks from to onward marked (directly names) = onward from to marked names
marks_follow bases marks from to onward marked (through {between = between} names way) = marks_follow bases marks between to onward (onward from between marked names) way

-- ---- walks

-- a walk from a start that has come to a declaration
pub record IsWalking (bases before after : List (Option ℕ)) (start number : ℕ) : Type 0 where
  pub sized : length after ≡ length bases
  pub kept : StaysReached before after
  pub reached : IsReachedFrom before after start
  pub closed : (n next : ℕ) → WasReached after n → named_next bases n ≡ Some next → next < length bases → WasReached after next ⊎ (next ≡ number)
  pub ahead : (n : ℕ) → walk_at after n ≡ Some start → ComesTo bases n number
  pub begun : WasReached after start ⊎ (number ≡ start)

set_walk_stays : (walks : List (Option ℕ)) (place start n from : ℕ) → place < length walks → walk_at walks place ≡ None → walk_at walks n ≡ Some from → walk_at (set walks place (Some start)) n ≡ Some from
set_walk_stays walks place start n from within none is_so = elim (set_entry walks place (Some start) None n within) [
  | inl (same, _) ↦ let there = ap (walk_at walks) same in absurd (cc)
  | inr there ↦ there ∙ is_so
]

reached_at_place : (walks : List (Option ℕ)) (place start n : ℕ) → place < length walks → n ≡ place → WasReached (set walks place (Some start)) n
reached_at_place walks place start n within same = (start, ap (walk_at (set walks place (Some start))) same ∙ get_or-set_same walks place (Some start) None within)

still_reached : (walks : List (Option ℕ)) (place start n : ℕ) → place < length walks → walk_at walks place ≡ None → WasReached walks n → WasReached (set walks place (Some start)) n
still_reached walks place start n within none (from, is_so) = (from, set_walk_stays walks place start n from within none is_so)

-- who is reached one step later was reached before, or is the declaration of this step
before_or_here : (walks : List (Option ℕ)) (place start n : ℕ) → place < length walks → WasReached (set walks place (Some start)) n → (n ≡ place) ⊎ WasReached walks n
before_or_here walks place start n within (from, is_so) = elim (set_entry walks place (Some start) None n within) [
  | inl (same, _) ↦ inl same
  | inr there ↦ inr (from, sym there ∙ is_so)
]

reached_later : (before after : List (Option ℕ)) (start number : ℕ) → number < length after → IsReachedFrom before after start → IsReachedFrom before (set after number (Some start)) start
reached_later before after start number within reached n from is_so = elim (set_entry after number (Some start) None n within) [
  | inl (_, there) ↦ inr (cc)
  | inr there ↦ reached n from (sym there ∙ is_so)
]

begun_later : (after : List (Option ℕ)) (start number : ℕ) → number < length after → walk_at after number ≡ None → WasReached after start ⊎ (number ≡ start) → WasReached (set after number (Some start)) start
begun_later after start number within none begun = elim begun [
  | inl is_reached ↦ still_reached after number start start within none is_reached
  | inr same ↦ reached_at_place after number start start within (sym same)
]

pub walking_goes_on : (bases before after : List (Option ℕ)) (start number next : ℕ) → IsWalking bases before after start number → number < length after → walk_at after number ≡ None → named_next bases number ≡ Some next →
    IsWalking bases before (set after number (Some start)) start next
walking_goes_on bases before after start number next walking within none names = record {
  sized = length-set after number (Some start) ∙ walking.sized;
  kept = λ n from is_so. set_walk_stays after number start n from within none (walking.kept n from is_so);
  reached = reached_later before after start number within walking.reached;
  closed = λ n m is_reached named inside. elim (before_or_here after number start n within is_reached) [
    | inl same ↦ let there = ap (named_next bases) same in inr (cc)
    | inr earlier ↦ elim (walking.closed n m earlier named inside) [
      | inl m_reached ↦ inl (still_reached after number start m within none m_reached)
      | inr same ↦ inl (reached_at_place after number start m within same)
    ]
  ];
  ahead = λ n is_so. elim (set_entry after number (Some start) None n within) [
    | inl (same, _) ↦ subst (λ (m : ℕ). ComesTo bases m next) (sym same) (directly names)
    | inr there ↦ leads_on bases n number next (walking.ahead n (sym there ∙ is_so)) (directly names)
  ];
  begun = inl (begun_later after start number within none walking.begun);
}

-- a walk comes to a declaration that names none
pub walk_stops : (bases before after : List (Option ℕ)) (start number : ℕ) → IsWalking bases before after start number → number < length after → walk_at after number ≡ None → named_next bases number ≡ None →
    WalksTo bases before (set after number (Some start)) start None
walk_stops bases before after start number walking within none names_none = record {
  closed = record {
    sized = length-set after number (Some start) ∙ walking.sized;
    closed = λ n m is_reached named inside. elim (before_or_here after number start n within is_reached) [
      | inl same ↦ let there = ap (named_next bases) same in absurd (cc)
      | inr earlier ↦ elim (walking.closed n m earlier named inside) [
        | inl m_reached ↦ still_reached after number start m within none m_reached
        | inr same ↦ reached_at_place after number start m within same
      ]
    ];
  };
  kept = λ n from is_so. set_walk_stays after number start n from within none (walking.kept n from is_so);
  reached = reached_later before after start number within walking.reached;
  begun = begun_later after start number within none walking.begun;
  ended = tt;
  circle = λ n is_so circle. elim (set_entry after number (Some start) None n within) [
    | inl (same, _) ↦ leads_nowhere bases number n names_none (subst (λ (m : ℕ). ComesTo bases m n) same circle)
    | inr there ↦ leads_nowhere bases number n names_none (leads_back bases n number circle (walking.ahead n (sym there ∙ is_so)))
  ];
}

closed_at_end : (bases before after : List (Option ℕ)) (start number : ℕ) → IsWalking bases before after start number → IsReachedOrOutside after number → IsClosed bases after
closed_at_end bases before after start number walking end = record {
  sized = walking.sized;
  closed = λ n next is_reached names within. elim (walking.closed n next is_reached names within) [
    | inl next_reached ↦ next_reached
    | inr same ↦ elim end [
      | inl outside ↦ let size = walking.sized in absurd (omega arith)
      | inr here ↦ subst (λ (m : ℕ). WasReached after m) (sym same) here
    ]
  ];
}

begun_at_end : (bases after : List (Option ℕ)) (start number : ℕ) → length after ≡ length bases → start < length bases → IsReachedOrOutside after number → WasReached after start ⊎ (number ≡ start) → WasReached after start
begun_at_end bases after start number sized within end begun = elim begun [
  | inl is_reached ↦ is_reached
  | inr same ↦ elim end [ inl outside ↦ absurd (omega arith) | inr here ↦ subst (λ (m : ℕ). WasReached after m) same here ]
]

-- a walk comes to a declaration that it has reached itself
pub walk_ends_on_circle : (bases before after : List (Option ℕ)) (start number : ℕ) → start < length bases → IsWalking bases before after start number → walk_at after number ≡ Some start → WalksTo bases before after start (Some number)
walk_ends_on_circle bases before after start number within walking here = record {
  closed = closed_at_end bases before after start number walking (inr (start, here));
  kept = walking.kept;
  reached = walking.reached;
  begun = begun_at_end bases after start number walking.sized within (inr (start, here)) walking.begun;
  ended = walking.ahead number here;
  circle = λ n is_so circle. leads_back bases n number circle (walking.ahead n is_so);
}

-- what leads on from a reached declaration is reached
stays_reached : (bases walks : List (Option ℕ)) (from to : ℕ) → IsClosed bases walks → to < length bases → WasReached walks from → ComesTo bases from to → WasReached walks to
stays_reached bases walks from to closed within is_reached (directly names) = closed.closed from to is_reached names within
stays_reached bases walks from to closed within is_reached (through {between = between} names way) =
    let (next, onward) = begins bases between to way in
    stays_reached bases walks between to closed within (closed.closed from between is_reached names (within_by_next bases between next onward)) way

-- a walk comes to a declaration that another one has reached, or to no declaration
pub walk_ends_elsewhere : (bases before after : List (Option ℕ)) (start number : ℕ) → start < length bases → IsClosed bases before → BeganBelow before start → IsWalking bases before after start number →
    IsReachedOrOutside after number → walk_at after number ≢ Some start → WalksTo bases before after start None
walk_ends_elsewhere bases before after start number within closed below walking end elsewhere = record {
  closed = closed_at_end bases before after start number walking end;
  kept = walking.kept;
  reached = walking.reached;
  begun = begun_at_end bases after start number walking.sized within end walking.begun;
  ended = tt;
  circle = λ n is_so circle.
      let back = leads_back bases n number circle (walking.ahead n is_so) in
      elim end [
        | inl outside ↦ let size = walking.sized in leads_nowhere bases number n (names_none_outside bases number (omega arith)) back
        | inr (from, here) ↦ elim (walking.reached number from here) [
          | inr same ↦ elsewhere (here ∙ ap Some same)
          | inl earlier ↦
              let (next, names) = begins bases n n circle in
              let (old, there) = stays_reached bases before number n closed (within_by_next bases n next names) (from, earlier) back in
              let later = walking.kept n old there in
              let same : old ≡ start = cc in
              let less = below n old there in
              absurd (omega arith)
        ]
      ];
}

-- ---- the search

reached_below : (bases walks walked : List (Option ℕ)) (marks : List Bool) (start : ℕ) (end : Option ℕ) → IsCircleSearch bases walks marks start → WalksTo bases walks walked start end → (n : ℕ) → n < start + 1 → WasReached walked n
reached_below bases walks walked marks start end search walk n within = elim (cases_lt n start) [
  | inl less ↦ let (from, there) = search.reached n less in (from, walk.kept n from there)
  | inr not_less ↦ let same : start ≡ n = omega arith in subst (λ (m : ℕ). WasReached walked m) same walk.begun
]

begun_below : (bases walks walked : List (Option ℕ)) (marks : List Bool) (start : ℕ) (end : Option ℕ) → IsCircleSearch bases walks marks start → WalksTo bases walks walked start end → BeganBelow walked (start + 1)
begun_below bases walks walked marks start end search walk n from is_so = elim (walk.reached n from is_so) [
  | inl earlier ↦ let less = search.below n from earlier in omega arith
  | inr same ↦ omega arith
]

pub search_finds : (bases walks walked : List (Option ℕ)) (marks marked : List Bool) (start end : ℕ) → IsCircleSearch bases walks marks start → WalksTo bases walks walked start (Some end) → MarksCircle bases marks marked end →
    IsCircleSearch bases walked marked (start + 1)
search_finds bases walks walked marks marked start end search walk marking = record {
  closed = walk.closed;
  below = begun_below bases walks walked marks start (Some end) search walk;
  reached = reached_below bases walks walked marks start (Some end) search walk;
  sized = marking.sized ∙ search.sized;
  sound = λ n is_so. elim (marking.sound n is_so) [ inl earlier ↦ search.sound n earlier | inr circle ↦ circle ];
  complete = λ n (from, is_so) circle. elim (walk.reached n from is_so) [
    | inl earlier ↦ marking.kept n (search.complete n (from, earlier) circle)
    | inr same ↦ marks_follow bases marked end n marking.onward marking.marked (walk.circle n (is_so ∙ ap Some same) circle)
  ];
  onward = marking.onward;
}

pub search_goes_on : (bases walks walked : List (Option ℕ)) (marks : List Bool) (start : ℕ) → IsCircleSearch bases walks marks start → WalksTo bases walks walked start None → IsCircleSearch bases walked marks (start + 1)
search_goes_on bases walks walked marks start search walk = record {
  closed = walk.closed;
  below = begun_below bases walks walked marks start None search walk;
  reached = reached_below bases walks walked marks start None search walk;
  sized = search.sized;
  sound = search.sound;
  complete = λ n (from, is_so) circle. elim (walk.reached n from is_so) [
    | inl earlier ↦ search.complete n (from, earlier) circle
    | inr same ↦ absurd (walk.circle n (is_so ∙ ap Some same) circle)
  ];
  onward = search.onward;
}

-- behind the last declaration the marks are right
pub search_is_complete : (bases walks : List (Option ℕ)) (marks : List Bool) (start : ℕ) → length bases ≤ start → IsCircleSearch bases walks marks start → (number : ℕ) → (has_mark marks number ≡ true) ↔ StandsOnCircle bases number
search_is_complete bases walks marks start all search number = (
  search.sound number,
  λ circle.
      let (next, names) = begins bases number number circle in
      let within = within_by_next bases number next names in
      search.complete number (search.reached number (omega arith)) circle,
)
