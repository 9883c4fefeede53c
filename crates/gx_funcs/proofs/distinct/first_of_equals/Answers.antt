use Rattle.std.proofs.Common.{◌≡◌, Bool, true, false, not, ◌++◌, [], ◌∷◌, List, refl, sym, ◌∙◌, ap, rules}
use Rattle.std.specs.Prelude.{cond}
use Rattle.std.specs.HashSet.{contains}
use Rattle.std.specs.List.{list_any}
use Rattle.gx_facets.specs.declared.Atomic.{Atomic}
use Rattle.gx_atomic.specs.JoinKey.{join_key_of, same_key}
use Rattle.gx_atomic.specs.declared.join_key.JoinKey.{JoinKey}
use Rattle.gx_funcs.proofs.DistinctLemmas.{is_key_among, is_new, new_values, none_found, found_more, found_before, key_more}
use Rattle.gx_funcs.proofs.distinct.first_of_equals.Goals as goal

pub loop-value-init : goal.loop-value-init
loop-value-init c = record {
  keys = λ key. rw (c.new-found.ensures.items, c.new-seen.ensures.empty) refl;
  same = rw c.new-found.ensures.items (none_found c.args.values.now);
}

pub loop-value-preserved-in_ok-push : goal.loop-value-preserved-in_ok-push
loop-value-preserved-in_ok-push c =
    let found : List Atomic = c.loop-value.found.items in
    let a : Atomic = c.in-Some.value.now in
    let others : List Atomic = c.in-Some.others.now in
    let left : c.loop-value.left.now ≡ a ∷ others = search rules in
    let key : c.in_ok-key.field-0 ≡ join_key_of a = search rules in
    let more : c.push.new.self.items ≡ found ++ a ∷ [] = search rules in
    let known = c.loop-value.invariant.keys c.in_ok-key.field-0 in
    let fresh : is_new found a ≡ true = ap (λ (k : JoinKey). not (is_key_among k found)) (sym key) ∙ ap not (sym known) ∙ sym c.in_ok-insert.ensures.added ∙ c.if-branch.true in
    record {
      keys = λ k.
          c.in_ok-insert.ensures.updates.0 k ∙ ap (λ (q : JoinKey). cond (same_key q k) true (contains same_key c.loop-value.seen k)) key
          ∙ ap (λ (b : Bool). cond (same_key (join_key_of a) k) true b) (c.loop-value.invariant.keys k) ∙ sym (key_more k found a) ∙ ap (is_key_among k) (sym more);
      same = ap (λ (l : List Atomic). l ++ new_values l others) more ∙ found_more found a others fresh ∙ ap (λ (l : List Atomic). found ++ new_values found l) (sym left) ∙ c.loop-value.invariant.same;
    }

pub loop-value-preserved : goal.loop-value-preserved
loop-value-preserved c =
    let found : List Atomic = c.loop-value.found.items in
    let a : Atomic = c.in-Some.value.now in
    let others : List Atomic = c.in-Some.others.now in
    let left : c.loop-value.left.now ≡ a ∷ others = search rules in
    let key : c.in_ok-key.field-0 ≡ join_key_of a = search rules in
    let known = c.loop-value.invariant.keys c.in_ok-key.field-0 in
    let old : is_new found a ≡ false = ap (λ (k : JoinKey). not (is_key_among k found)) (sym key) ∙ ap not (sym known) ∙ sym c.in_ok-insert.ensures.added ∙ c.if-branch.false in
    let same : c.insert.new.self.keys ≡ c.loop-value.seen.keys = rw c.if-branch.false at c.in_ok-insert.ensures.unchanged in
    record {
      keys = λ k. ap (list_any (same_key k)) same ∙ c.loop-value.invariant.keys k;
      same = ap (λ (l : List Atomic). found ++ l) (found_before found a others old) ∙ ap (λ (l : List Atomic). found ++ new_values found l) (sym left) ∙ c.loop-value.invariant.same;
    }
