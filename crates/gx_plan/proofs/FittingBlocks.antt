-- Evaluations of the parts of a block fit, where the parts keep their types.
use Rattle.std.proofs.Common.{◌≡◌, ◌+◌, ℕ, zero, suc, Bool, true, false, Option, List, [], ◌∷◌, ◌++◌, length, map, drop, refl, sym, subst, append_assoc, if◌then◌else◌, arith}
use Rattle.std.specs.List.{AllByRecursion}
use Rattle.gx_facets.specs.declared.Atomic.{Atomic}
use Rattle.gx_sorting.specs.declared.keys.KeyOrder.{KeyOrder}
use Rattle.gx_sorting.specs.KeyComparison.{keys_precede}
use Rattle.gx_sorting.proofs.PublicLaws.{each_sorted}
use Rattle.gx_types.specs.SchemaSet.{SchemaSet}
use Rattle.gx_types.specs.SequenceType.{SequenceType}
use Rattle.gx_types.specs.Prime.{prime_of}
use Rattle.gx_model.specs.Forest.{Forest}
use Rattle.gx_model.specs.Honest.{IsHonest}
use Rattle.gx_model.specs.Item.{Item, Items}
use Rattle.gx_model.specs.Belongs.{Belongs}
use Rattle.gx_model.specs.Growth.{Extends}
use Rattle.gx_model.proofs.PublicLaws.{growth_is_an_order}
use Rattle.gx_core.specs.declared.expression.Binder.{Binder}
use Rattle.gx_core.specs.declared.operator.ClauseKind.{ClauseKind}
use Rattle.gx_core.specs.declared.operator.ClauseKind.TheVariants as clauses
use Rattle.gx_core.specs.declared.operator.Operator.{Operator}
use Rattle.gx_core.specs.declared.signature.FunctionSignature.{FunctionSignature}
use Rattle.gx_core.specs.Bindings.{Types, clause_types_bound, block_types_bound, types_bound}
use Rattle.gx_core.specs.Outcome.{Outcome, gives, after, given}
use Rattle.gx_core.specs.Comparing.{condition_of}
use Rattle.gx_core.specs.Blocks.{Tuple, key_of, tuple_keys, tuples_of_each, tuples_if, tuples_of, in_key_order}
use Rattle.gx_core.specs.Meaning.{CallOutcomes, Bindings, Denotation, item_bound}
use Rattle.gx_core.specs.Evaluations.{PartEvaluation, evaluations_after, evaluations_given, key_evaluations, evaluations_of_each, tuple_evaluations, return_evaluations, block_return_evaluations}
use Rattle.gx_core.specs.Soundness.{calling_setting, IsOfType, Fits, CallsKeepTypes}
use Rattle.gx_core.proofs.KeptFacts.{bindings_fit_still, binding_fits, calls_keep_still}
use Rattle.gx_plan.specs.Fitting.{PartsKeepTheirTypes}
use Rattle.gx_plan.proofs.FittingBindings.{EachBelongs, each_still, items_belong, item_fits}
use Rattle.gx_plan.proofs.GivenFacts.{GivesFact, kept_gives, gives_after, gives_given, gives_at_once, all_after, all_given, all_either, all_both}
use Rattle.gx_plan.proofs.PartsBefore.{AreBefore, next_before, Binds, binds_next, binds_now}
use Rattle.gx_plan.proofs.FittingParts.{Stands, stands_still, situated, Fit, KeepsAt, part_fits}

module _ (s : SchemaSet) (known : List FunctionSignature) (calls : CallOutcomes) (operator : Operator) (ts : List SequenceType) (types : Types)
    (start : Forest) where
  -- ---- keys

  pub keys_give : (here : Types) (bindings : Bindings) (orders : List KeyOrder) (before : List SequenceType) (ds : List Denotation) (us : List SequenceType) (now : Forest)
      → Binds operator before (λ more. here) → Stands s known calls operator ts types start (here ++ types) bindings now
      → PartsKeepTheirTypes (calling_setting s known calls) operator before ds us types
      → GivesFact s now (λ last keys. Unit {0}) (tuple_keys orders ds bindings now)
  keys_give here bindings [] before ds us now b stands keep = gives_at_once s now (λ last keys. Unit {0}) [] stands.honest tt
  keys_give here bindings (order ∷ orders) before [] us now b stands keep = tt
  keys_give here bindings (order ∷ orders) before (d ∷ ds) [] now b stands keep = absurd keep
  keys_give here bindings (order ∷ orders) before (d ∷ ds) (u ∷ us) now b stands keep =
      gives_after s now (IsOfType s u) (λ last keys. Unit {0}) (d bindings now)
      (λ xs left. given (key_of xs) (λ key. after (tuple_keys orders ds bindings left) (λ keys last. gives (key ∷ keys) last)))
      (kept_gives (calling_setting s known calls) now (IsOfType s u) (d bindings now)
      (subst (λ (bound : Types). KeepsAt s known calls operator ts types start (bound ++ types) u d) (binds_now operator before (λ more. here) b) keep.0 (situated s known calls operator ts types start (here ++ types) bindings now stands)))
      (λ xs left e honest belongs. gives_given s left (λ last keys. Unit {0}) (key_of xs)
      (λ key. after (tuple_keys orders ds bindings left) (λ keys last. gives (key ∷ keys) last))
      (λ key. gives_after s left (λ last keys. Unit {0}) (λ last keys. Unit {0}) (tuple_keys orders ds bindings left) (λ keys last. gives (key ∷ keys) last)
      (keys_give here bindings orders (before ++ u ∷ []) ds us left (binds_next operator before (λ more. here) u b)
      (stands_still s known calls operator ts types start (here ++ types) bindings now left stands e honest) keep.1)
      (λ keys last f still any. gives_at_once s last (λ last keys. Unit {0}) (key ∷ keys) still tt)))

  pub keys_fit : (here : Types) (bindings : Bindings) (orders : List KeyOrder) (before : List SequenceType) (number : ℕ) (ds : List Denotation) (us : List SequenceType)
      (now : Forest) → AreBefore ts before us number → Binds operator before (λ more. here) → Stands s known calls operator ts types start (here ++ types) bindings now
      → PartsKeepTheirTypes (calling_setting s known calls) operator before ds us types
      → AllByRecursion (Fit s known calls operator ts types start) (key_evaluations orders number ds bindings now)
  keys_fit here bindings [] before number ds us now a b stands keep = tt
  keys_fit here bindings (order ∷ orders) before number [] us now a b stands keep = tt
  keys_fit here bindings (order ∷ orders) before number (d ∷ ds) [] now a b stands keep = absurd keep
  keys_fit here bindings (order ∷ orders) before number (d ∷ ds) (u ∷ us) now a b stands keep =
      part_fits s known calls operator ts types start before (u ∷ us) number u d bindings now
      (λ xs left. evaluations_given (key_of xs) (λ key. key_evaluations orders (suc number) ds bindings left)) a
      (subst (λ (bound : Types). Stands s known calls operator ts types start (bound ++ types) bindings now) (sym (binds_now operator before (λ more. here) b)) stands) keep.0
      (λ xs left e honest belongs. all_given (Fit s known calls operator ts types start) (key_of xs) (λ key. key_evaluations orders (suc number) ds bindings left)
      (λ key. keys_fit here bindings orders (before ++ u ∷ []) (suc number) ds us left (next_before ts before us u number a)
      (binds_next operator before (λ more. here) u b) (stands_still s known calls operator ts types start (here ++ types) bindings now left stands e honest) keep.1))

  -- ---- tuples

  -- what is bound in each tuple fits
  abbrev pub RowsFit : (full : Types) (outer : Bindings) (now : Forest) → List Tuple → Type 0
  RowsFit full outer now tuples = AllByRecursion (λ (t : Tuple). Fits s now full (t.bound ++ outer)) tuples

  pub rows_still : (full : Types) (outer : Bindings) (tuples : List Tuple) (now last : Forest) → Extends now last → RowsFit full outer now tuples
      → RowsFit full outer last tuples
  rows_still full outer [] now last e h = tt
  rows_still full outer (t ∷ tuples) now last e h = (
    bindings_fit_still (calling_setting s known calls) full (t.bound ++ outer) now last e h.0,
    rows_still full outer tuples now last e h.1,
  )

  pub rows_joined : (full : Types) (outer : Bindings) (now : Forest) (tuples others : List Tuple) → RowsFit full outer now tuples
      → RowsFit full outer now others → RowsFit full outer now (tuples ++ others)
  rows_joined full outer now [] others h k = k
  rows_joined full outer now (t ∷ tuples) others h k = (h.0, rows_joined full outer now tuples others h.1 k)

  pub each_gives : (full : Types) (outer : Bindings) (p : SequenceType) (found : ℕ → Item → Forest → Outcome (List Tuple)) (first : Forest)
      → ((turn : ℕ) (x : Item) (now : Forest) → Extends first now → IsHonest s now → Belongs s now (x ∷ []) p
      → GivesFact s now (RowsFit full outer) (found turn x now))
      → (xs : Items) (turn : ℕ) (now : Forest) → Extends first now → IsHonest s now → EachBelongs s now p xs
      → GivesFact s now (RowsFit full outer) (tuples_of_each found turn xs now)
  each_gives full outer p found first h [] turn now grown honest all = gives_at_once s now (RowsFit full outer) [] honest tt
  each_gives full outer p found first h (x ∷ xs) turn now grown honest all =
      gives_after s now (RowsFit full outer) (RowsFit full outer) (found turn x now)
      (λ tuples left. after (tuples_of_each found (suc turn) xs left) (λ others last. gives (tuples ++ others) last))
      (h turn x now grown honest all.0)
      (λ tuples left e still rows. gives_after s left (RowsFit full outer) (RowsFit full outer) (tuples_of_each found (suc turn) xs left)
      (λ others last. gives (tuples ++ others) last)
      (each_gives full outer p found first h xs (suc turn) left (growth_is_an_order.transitive first now left grown e) still
      (each_still s now left p xs e all.1))
      (λ others last f again more. gives_at_once s last (RowsFit full outer) (tuples ++ others) again
      (rows_joined full outer last tuples others (rows_still full outer tuples left last f rows) more)))

  pub each_fits : (full : Types) (outer : Bindings) (p : SequenceType) (found : ℕ → Item → Forest → Outcome (List Tuple))
      (asked : ℕ → Item → Forest → List PartEvaluation) (first : Forest)
      → ((turn : ℕ) (x : Item) (now : Forest) → Extends first now → IsHonest s now → Belongs s now (x ∷ []) p
      → GivesFact s now (RowsFit full outer) (found turn x now) × AllByRecursion (Fit s known calls operator ts types start) (asked turn x now))
      → (xs : Items) (turn : ℕ) (now : Forest) → Extends first now → IsHonest s now → EachBelongs s now p xs
      → AllByRecursion (Fit s known calls operator ts types start) (evaluations_of_each found asked turn xs now)
  each_fits full outer p found asked first h [] turn now grown honest all = tt
  each_fits full outer p found asked first h (x ∷ xs) turn now grown honest all =
      all_both (Fit s known calls operator ts types start) (asked turn x now)
      (evaluations_after (found turn x now) (λ tuples left. evaluations_of_each found asked (suc turn) xs left))
      (h turn x now grown honest all.0).1
      (all_after s (Fit s known calls operator ts types start) now (RowsFit full outer) (found turn x now) (λ tuples left. evaluations_of_each found asked (suc turn) xs left)
      (h turn x now grown honest all.0).0
      (λ tuples left e still rows. each_fits full outer p found asked first h xs (suc turn) left
      (growth_is_an_order.transitive first now left grown e) still (each_still s now left p xs e all.1)))

  -- what stands inside a `for` clause
  pub turn_stands : (binder : Binder) (position turn : ℕ) (p : SequenceType) (x : Item) (here : Types) (bound outer : Bindings) (now left last : Forest)
      → Stands s known calls operator ts types start (here ++ types) (bound ++ outer) now → Extends now left → Extends left last → IsHonest s last → Belongs s last (x ∷ []) p → (u : SequenceType) → prime_of u ≡ p
      → Stands s known calls operator ts types start ((clause_types_bound (clauses.For binder position) u ++ here) ++ types) ((item_bound binder.variable position turn x ++ bound) ++ outer) last
  turn_stands binder position turn p x here bound outer now left last stands e f honest one u is =
      let g : Extends now last = growth_is_an_order.transitive now left last e f in
      let own : Stands s known calls operator ts types start (here ++ types) (bound ++ outer) last = stands_still s known calls operator ts types start (here ++ types) (bound ++ outer) now last stands g honest in
      let joined : Fits s last (clause_types_bound (clauses.For binder position) u ++ (here ++ types)) (item_bound binder.variable position turn x ++ (bound ++ outer)) =
      item_fits (calling_setting s known calls) binder position turn (prime_of u) x (here ++ types) (bound ++ outer) last own.fits
      (subst (λ (t : SequenceType). Belongs s last (x ∷ []) t) (sym is) one) in
      record {
        grown = own.grown;
        honest = honest;
        fits = subst (λ (bs : Bindings). Fits s last ((clause_types_bound (clauses.For binder position) u ++ here) ++ types) bs)
            (sym (append_assoc (item_bound binder.variable position turn x) bound outer))
            (subst (λ (us : Types). Fits s last us (item_bound binder.variable position turn x ++ (bound ++ outer)))
            (sym (append_assoc (clause_types_bound (clauses.For binder position) u) here types)) joined);
        calls_keep = own.calls_keep;
      }

  pub value_stands : (binder : Binder) (u : SequenceType) (xs : Items) (here : Types) (bound outer : Bindings) (now left : Forest)
      → Stands s known calls operator ts types start (here ++ types) (bound ++ outer) now → Extends now left → IsHonest s left → Belongs s left xs u
      → Stands s known calls operator ts types start (((binder.variable, u) ∷ here) ++ types) (((binder.variable, xs) ∷ bound) ++ outer) left
  value_stands binder u xs here bound outer now left stands e honest belongs =
      let own : Stands s known calls operator ts types start (here ++ types) (bound ++ outer) left = stands_still s known calls operator ts types start (here ++ types) (bound ++ outer) now left stands e honest in
      record {
        grown = own.grown;
        honest = honest;
        fits = binding_fits (calling_setting s known calls) binder u xs (here ++ types) (bound ++ outer) left own.fits belongs;
        calls_keep = own.calls_keep;
      }

  pub clause_keeps : (kind : ClauseKind) (kinds : List ClauseKind) (before : List SequenceType) (here : Types) (u : SequenceType) (d : Denotation) (bindings : Bindings) (now : Forest)
      → Binds operator before (λ more. block_types_bound (kind ∷ kinds) more here) → KeepsAt s known calls operator ts types start (types_bound operator before ++ types) u d
      → Stands s known calls operator ts types start (here ++ types) bindings now → GivesFact s now (IsOfType s u) (d bindings now)
  clause_keeps kind kinds before here u d bindings now b keeps stands =
      kept_gives (calling_setting s known calls) now (IsOfType s u) (d bindings now)
      (subst (λ (bound : Types). KeepsAt s known calls operator ts types start (bound ++ types) u d) (binds_now operator before (λ more. block_types_bound (kind ∷ kinds) more here) b) keeps
      (situated s known calls operator ts types start (here ++ types) bindings now stands))

  pub tuples_give : (kinds : List ClauseKind) (orders : List KeyOrder) (before : List SequenceType) (ds : List Denotation) (us : List SequenceType) (here : Types)
      (bound outer : Bindings) (now : Forest) → Binds operator before (λ more. block_types_bound kinds more here)
      → Stands s known calls operator ts types start (here ++ types) (bound ++ outer) now → PartsKeepTheirTypes (calling_setting s known calls) operator before ds us types
      → GivesFact s now (RowsFit (block_types_bound kinds us here ++ types) outer) (tuples_of kinds orders ds bound outer now)
  tuples_give [] orders before ds us here bound outer now b stands keep =
      let tuple : List (Option Atomic) → Tuple = λ keys. record { keys = keys; bound = bound } in
      gives_after s now (λ last keys. Unit {0}) (RowsFit (here ++ types) outer) (tuple_keys orders ds (bound ++ outer) now)
      (λ keys left. gives (tuple keys ∷ []) left) (keys_give here (bound ++ outer) orders before ds us now b stands keep)
      (λ keys left e honest any. gives_at_once s left (RowsFit (here ++ types) outer) (tuple keys ∷ []) honest
      (bindings_fit_still (calling_setting s known calls) (here ++ types) (bound ++ outer) now left e stands.fits, tt))
  tuples_give (kind ∷ kinds) orders before [] us here bound outer now b stands keep = tt
  tuples_give (kind ∷ kinds) orders before (d ∷ ds) [] here bound outer now b stands keep = absurd keep
  tuples_give (clauses.For binder position ∷ kinds) orders before (d ∷ ds) (u ∷ us) here bound outer now b stands keep =
      let inner : Types = clause_types_bound (clauses.For binder position) u ++ here in
      let full : Types = block_types_bound kinds us inner ++ types in
      let found : ℕ → Item → Forest → Outcome (List Tuple) =
      λ turn x last. tuples_of kinds orders ds (item_bound binder.variable position turn x ++ bound) outer last in
      gives_after s now (IsOfType s u) (RowsFit full outer) (d (bound ++ outer) now) (λ xs left. tuples_of_each found 1 xs left)
      (clause_keeps (clauses.For binder position) kinds before here u d (bound ++ outer) now b keep.0 stands)
      (λ xs left e honest belongs. each_gives full outer (prime_of u) found left
      (λ turn x last f still one. tuples_give kinds orders (before ++ u ∷ []) ds us inner (item_bound binder.variable position turn x ++ bound) outer last
      (binds_next operator before (λ more. block_types_bound (clauses.For binder position ∷ kinds) more here) u b)
      (turn_stands binder position turn (prime_of u) x here bound outer now left last stands e f still one u refl) keep.1)
      xs 1 left (growth_is_an_order.reflexive left) honest (items_belong s left u xs belongs))
  tuples_give (clauses.Let binder ∷ kinds) orders before (d ∷ ds) (u ∷ us) here bound outer now b stands keep =
      let inner : Types = (binder.variable, u) ∷ here in
      let full : Types = block_types_bound kinds us inner ++ types in
      gives_after s now (IsOfType s u) (RowsFit full outer) (d (bound ++ outer) now)
      (λ xs left. tuples_of kinds orders ds ((binder.variable, xs) ∷ bound) outer left)
      (clause_keeps (clauses.Let binder) kinds before here u d (bound ++ outer) now b keep.0 stands)
      (λ xs left e honest belongs. tuples_give kinds orders (before ++ u ∷ []) ds us inner ((binder.variable, xs) ∷ bound) outer left
      (binds_next operator before (λ more. block_types_bound (clauses.Let binder ∷ kinds) more here) u b)
      (value_stands binder u xs here bound outer now left stands e honest belongs) keep.1)
  tuples_give (clauses.Where ∷ kinds) orders before (d ∷ ds) (u ∷ us) here bound outer now b stands keep =
      let full : Types = block_types_bound kinds us here ++ types in
      let chosen : (truth : Bool) (left : Forest) → Extends now left → IsHonest s left
      → GivesFact s left (RowsFit full outer) (tuples_if truth (λ last. tuples_of kinds orders ds bound outer last) left) = λ truth left e honest.
      elim truth as (λ (holds : Bool). GivesFact s left (RowsFit full outer) (tuples_if holds (λ last. tuples_of kinds orders ds bound outer last) left)) [
        | true ↦ tuples_give kinds orders (before ++ u ∷ []) ds us here bound outer left
            (binds_next operator before (λ more. block_types_bound (clauses.Where ∷ kinds) more here) u b)
            (stands_still s known calls operator ts types start (here ++ types) (bound ++ outer) now left stands e honest) keep.1
        | false ↦ gives_at_once s left (RowsFit full outer) [] honest tt
      ] in
      gives_after s now (IsOfType s u) (RowsFit full outer) (d (bound ++ outer) now)
      (λ xs left. given (condition_of xs) (λ truth. tuples_if truth (λ last. tuples_of kinds orders ds bound outer last) left))
      (clause_keeps clauses.Where kinds before here u d (bound ++ outer) now b keep.0 stands)
      (λ xs left e honest belongs. gives_given s left (RowsFit full outer) (condition_of xs)
      (λ truth. tuples_if truth (λ last. tuples_of kinds orders ds bound outer last) left) (λ truth. chosen truth left e honest))

  pub tuples_fit : (kinds : List ClauseKind) (orders : List KeyOrder) (before : List SequenceType) (number : ℕ) (ds : List Denotation) (us : List SequenceType) (here : Types)
      (bound outer : Bindings) (now : Forest) → AreBefore ts before us number → Binds operator before (λ more. block_types_bound kinds more here)
      → Stands s known calls operator ts types start (here ++ types) (bound ++ outer) now → PartsKeepTheirTypes (calling_setting s known calls) operator before ds us types
      → AllByRecursion (Fit s known calls operator ts types start) (tuple_evaluations kinds orders number ds bound outer now)
  tuples_fit [] orders before number ds us here bound outer now a b stands keep =
      keys_fit here (bound ++ outer) orders before number ds us now a b stands keep
  tuples_fit (kind ∷ kinds) orders before number [] us here bound outer now a b stands keep = tt
  tuples_fit (kind ∷ kinds) orders before number (d ∷ ds) [] here bound outer now a b stands keep = absurd keep
  tuples_fit (clauses.For binder position ∷ kinds) orders before number (d ∷ ds) (u ∷ us) here bound outer now a b stands keep =
      let inner : Types = clause_types_bound (clauses.For binder position) u ++ here in
      let full : Types = block_types_bound kinds us inner ++ types in
      let found : ℕ → Item → Forest → Outcome (List Tuple) =
      λ turn x last. tuples_of kinds orders ds (item_bound binder.variable position turn x ++ bound) outer last in
      let asked : ℕ → Item → Forest → List PartEvaluation =
      λ turn x last. tuple_evaluations kinds orders (suc number) ds (item_bound binder.variable position turn x ++ bound) outer last in
      let next = binds_next operator before (λ more. block_types_bound (clauses.For binder position ∷ kinds) more here) u b in
      part_fits s known calls operator ts types start before (u ∷ us) number u d (bound ++ outer) now (λ xs left. evaluations_of_each found asked 1 xs left) a
      (subst (λ (held : Types). Stands s known calls operator ts types start (held ++ types) (bound ++ outer) now)
      (sym (binds_now operator before (λ more. block_types_bound (clauses.For binder position ∷ kinds) more here) b)) stands) keep.0
      (λ xs left e honest belongs. each_fits full outer (prime_of u) found asked left
      (λ turn x last f still one.
      let inside : Stands s known calls operator ts types start (inner ++ types) ((item_bound binder.variable position turn x ++ bound) ++ outer) last =
      turn_stands binder position turn (prime_of u) x here bound outer now left last stands e f still one u refl in (
        tuples_give kinds orders (before ++ u ∷ []) ds us inner (item_bound binder.variable position turn x ++ bound) outer last next inside keep.1,
        tuples_fit kinds orders (before ++ u ∷ []) (suc number) ds us inner (item_bound binder.variable position turn x ++ bound) outer last
            (next_before ts before us u number a) next inside keep.1,
      ))
      xs 1 left (growth_is_an_order.reflexive left) honest (items_belong s left u xs belongs))
  tuples_fit (clauses.Let binder ∷ kinds) orders before number (d ∷ ds) (u ∷ us) here bound outer now a b stands keep =
      part_fits s known calls operator ts types start before (u ∷ us) number u d (bound ++ outer) now
      (λ xs left. tuple_evaluations kinds orders (suc number) ds ((binder.variable, xs) ∷ bound) outer left) a
      (subst (λ (held : Types). Stands s known calls operator ts types start (held ++ types) (bound ++ outer) now)
      (sym (binds_now operator before (λ more. block_types_bound (clauses.Let binder ∷ kinds) more here) b)) stands) keep.0
      (λ xs left e honest belongs. tuples_fit kinds orders (before ++ u ∷ []) (suc number) ds us ((binder.variable, u) ∷ here)
      ((binder.variable, xs) ∷ bound) outer left (next_before ts before us u number a)
      (binds_next operator before (λ more. block_types_bound (clauses.Let binder ∷ kinds) more here) u b)
      (value_stands binder u xs here bound outer now left stands e honest belongs) keep.1)
  tuples_fit (clauses.Where ∷ kinds) orders before number (d ∷ ds) (u ∷ us) here bound outer now a b stands keep =
      part_fits s known calls operator ts types start before (u ∷ us) number u d (bound ++ outer) now
      (λ xs left. evaluations_given (condition_of xs)
      (λ truth. if truth then tuple_evaluations kinds orders (suc number) ds bound outer left else [])) a
      (subst (λ (held : Types). Stands s known calls operator ts types start (held ++ types) (bound ++ outer) now)
      (sym (binds_now operator before (λ more. block_types_bound (clauses.Where ∷ kinds) more here) b)) stands) keep.0
      (λ xs left e honest belongs. all_given (Fit s known calls operator ts types start) (condition_of xs)
      (λ truth. if truth then tuple_evaluations kinds orders (suc number) ds bound outer left else [])
      (λ truth. all_either (Fit s known calls operator ts types start) truth (tuple_evaluations kinds orders (suc number) ds bound outer left) []
      (λ is. tuples_fit kinds orders (before ++ u ∷ []) (suc number) ds us here bound outer left (next_before ts before us u number a)
      (binds_next operator before (λ more. block_types_bound (clauses.Where ∷ kinds) more here) u b)
      (stands_still s known calls operator ts types start (here ++ types) (bound ++ outer) now left stands e honest) keep.1) tt))

  -- ---- what is returned

  -- rows, without their keys
  abbrev pub BoundFit : (full : Types) (outer : Bindings) (now : Forest) → List Bindings → Type 0
  BoundFit full outer now rows = AllByRecursion (λ (bound : Bindings). Fits s now full (bound ++ outer)) rows

  pub bound_still : (full : Types) (outer : Bindings) (rows : List Bindings) (now last : Forest) → Extends now last → BoundFit full outer now rows
      → BoundFit full outer last rows
  bound_still full outer [] now last e h = tt
  bound_still full outer (bound ∷ rows) now last e h = (
    bindings_fit_still (calling_setting s known calls) full (bound ++ outer) now last e h.0,
    bound_still full outer rows now last e h.1,
  )

  pub bound_of_rows : (full : Types) (outer : Bindings) (now : Forest) (tuples : List Tuple) → RowsFit full outer now tuples
      → BoundFit full outer now (map (λ t. t.bound) tuples)
  bound_of_rows full outer now [] h = tt
  bound_of_rows full outer now (t ∷ tuples) h = (h.0, bound_of_rows full outer now tuples h.1)

  pub returns_fit : (before behind : List SequenceType) (number : ℕ) (u : SequenceType) (body : Denotation) (outer : Bindings) → AreBefore ts before behind number
      → KeepsAt s known calls operator ts types start (types_bound operator before ++ types) u body
      → (rows : List Bindings) (now : Forest) → Extends start now → IsHonest s now → CallsKeepTypes (calling_setting s known calls) now
      → BoundFit (types_bound operator before ++ types) outer now rows → AllByRecursion (Fit s known calls operator ts types start) (return_evaluations number body outer rows now)
  returns_fit before behind number u body outer a keeps [] now grown honest calls_keep fit = tt
  returns_fit before behind number u body outer a keeps (bound ∷ rows) now grown honest calls_keep fit =
      part_fits s known calls operator ts types start before behind number u body (bound ++ outer) now (λ more left. return_evaluations number body outer rows left) a
      (record { grown = grown; honest = honest; fits = fit.0; calls_keep = calls_keep }) keeps
      (λ more left e still belongs. returns_fit before behind number u body outer a keeps rows left
      (growth_is_an_order.transitive start now left grown e) still (calls_keep_still (calling_setting s known calls) now left e calls_keep)
      (bound_still (types_bound operator before ++ types) outer rows now left e fit.1))

  pub nothing_behind : (n : ℕ) → drop n (let none : List Denotation = [] in none) ≡ []
  nothing_behind zero = refl
  nothing_behind (suc n) = refl

  pub block_returns_fit : (orders : List KeyOrder) (outer : Bindings) (tuples : List Tuple) (now : Forest) (here : Types) → Extends start now → IsHonest s now
      → CallsKeepTypes (calling_setting s known calls) now → RowsFit (here ++ types) outer now tuples
      → (keys : List KeyOrder) (before : List SequenceType) (number place : ℕ) (ds : List Denotation) (us : List SequenceType)
      → place ≡ number + length keys → AreBefore ts before us number → Binds operator before (λ more. here)
      → PartsKeepTheirTypes (calling_setting s known calls) operator before ds us types
      → AllByRecursion (Fit s known calls operator ts types start) (block_return_evaluations orders place (drop (length keys) ds) outer tuples now)
  block_returns_fit orders outer tuples now here grown honest calls_keep rows [] before number place [] us e a b keep = tt
  block_returns_fit orders outer tuples now here grown honest calls_keep rows [] before number place (d ∷ []) [] e a b keep = absurd keep
  block_returns_fit orders outer tuples now here grown honest calls_keep rows [] before number place (d ∷ []) (u ∷ us) e a b keep =
      let same : number ≡ place = omega (arith, e) in
      let sorted_rows : RowsFit (here ++ types) outer now (in_key_order orders tuples) =
      each_sorted (λ (t r : Tuple). keys_precede orders t.keys r.keys) (λ (t : Tuple). Fits s now (here ++ types) (t.bound ++ outer)) tuples rows in
      subst (λ (n : ℕ). AllByRecursion (Fit s known calls operator ts types start) (return_evaluations n d outer (map (λ t. t.bound) (in_key_order orders tuples)) now)) same
      (returns_fit before (u ∷ us) number u d outer a keep.0 (map (λ t. t.bound) (in_key_order orders tuples)) now grown honest calls_keep
      (subst (λ (bound : Types). BoundFit (bound ++ types) outer now (map (λ t. t.bound) (in_key_order orders tuples)))
      (sym (binds_now operator before (λ more. here) b))
      (bound_of_rows (here ++ types) outer now (in_key_order orders tuples) sorted_rows)))
  block_returns_fit orders outer tuples now here grown honest calls_keep rows [] before number place (d ∷ c ∷ ds) us e a b keep = tt
  block_returns_fit orders outer tuples now here grown honest calls_keep rows (key ∷ keys) before number place [] us e a b keep = tt
  block_returns_fit orders outer tuples now here grown honest calls_keep rows (key ∷ keys) before number place (d ∷ ds) [] e a b keep = absurd keep
  block_returns_fit orders outer tuples now here grown honest calls_keep rows (key ∷ keys) before number place (d ∷ ds) (u ∷ us) e a b keep =
      block_returns_fit orders outer tuples now here grown honest calls_keep rows keys (before ++ u ∷ []) (suc number) place ds us (omega (arith, e))
      (next_before ts before us u number a) (binds_next operator before (λ more. here) u b) keep.1

  pub clauses_returns_fit : (orders : List KeyOrder) (outer : Bindings) (tuples : List Tuple) (now : Forest) → Extends start now → IsHonest s now
      → CallsKeepTypes (calling_setting s known calls) now
      → (kinds : List ClauseKind) (before : List SequenceType) (number place : ℕ) (ds : List Denotation) (us : List SequenceType) (here : Types)
      → place ≡ number + (length kinds + length orders) → AreBefore ts before us number
      → Binds operator before (λ more. block_types_bound kinds more here) → RowsFit (block_types_bound kinds us here ++ types) outer now tuples
      → PartsKeepTheirTypes (calling_setting s known calls) operator before ds us types
      → AllByRecursion (Fit s known calls operator ts types start) (block_return_evaluations orders place (drop (length orders) (drop (length kinds) ds)) outer tuples now)
  clauses_returns_fit orders outer tuples now grown honest calls_keep [] before number place ds us here e a b rows keep =
      block_returns_fit orders outer tuples now here grown honest calls_keep rows orders before number place ds us (omega (arith, e)) a b keep
  clauses_returns_fit orders outer tuples now grown honest calls_keep (kind ∷ kinds) before number place [] us here e a b rows keep =
      subst (λ (ds : List Denotation). AllByRecursion (Fit s known calls operator ts types start) (block_return_evaluations orders place ds outer tuples now)) (sym (nothing_behind (length orders))) tt
  clauses_returns_fit orders outer tuples now grown honest calls_keep (kind ∷ kinds) before number place (d ∷ ds) [] here e a b rows keep = absurd keep
  clauses_returns_fit orders outer tuples now grown honest calls_keep (kind ∷ kinds) before number place (d ∷ ds) (u ∷ us) here e a b rows keep =
      clauses_returns_fit orders outer tuples now grown honest calls_keep kinds (before ++ u ∷ []) (suc number) place ds us
      (clause_types_bound kind u ++ here) (omega (arith, e)) (next_before ts before us u number a)
      (binds_next operator before (λ more. block_types_bound (kind ∷ kinds) more here) u b) rows keep.1
