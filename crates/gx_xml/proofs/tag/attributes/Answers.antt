use Rattle.std.proofs.Common.{arith, ◌∙◌}
use Rattle.gx_xml.specs.Characters.{spelled}
use Rattle.gx_xml.proofs.TagLemmas.{ends_unspaced, ends_spaced, goes_on, stop_characters}
use Rattle.gx_xml.proofs.tag.attributes.Goals as goal

pub returns-then-not-space-clause-read : goal.returns-then-not-space-clause-read
returns-then-not-space-clause-read c = ends_unspaced c.args.tag.now c.loop-alloc.tag c.args.reader.now c.loop-alloc.reader c.space.new.reader c.space.result c.space.ensures.read c.loop-alloc.invariant.read c.if-not-space.true

pub returns-then-is_empty-clause-read : goal.returns-then-is_empty-clause-read
returns-then-is_empty-clause-read c = ends_spaced c.args.tag.now c.loop-alloc.tag c.args.reader.now c.loop-alloc.reader c.space.new.reader c.space.result c.space.ensures.read c.loop-alloc.invariant.read (spelled c.maybe_run-first.result) c.maybe_run-first.new.self c.is_empty.result c.is_empty.ensures c.if-not-space.false c.maybe_run-first.ensures.read c.if-is_empty.true

pub returns-then-has_ended-clause-read : goal.returns-then-has_ended-clause-read
returns-then-has_ended-clause-read c =
    stop_characters c.args.tag.now c.attribute.new.tag c.args.reader.now c.attribute.new.reader (c.has_ended.ensures.0 c.if-has_ended.true)
    (goes_on c.args.tag.now c.loop-alloc.tag c.args.reader.now c.loop-alloc.reader c.space.new.reader c.space.result c.space.ensures.read c.loop-alloc.invariant.read (spelled c.maybe_run-first.result) c.maybe_run-first.new.self c.is_empty.result c.is_empty.ensures c.if-not-space.false c.maybe_run-first.ensures.read c.attribute.new.tag c.attribute.new.reader c.if-is_empty.false c.in_ok-attribute.ensures.read)

pub loop-alloc-preserved : goal.loop-alloc-preserved
loop-alloc-preserved c = record {
  read = goes_on c.args.tag.now c.loop-alloc.tag c.args.reader.now c.loop-alloc.reader c.space.new.reader c.space.result c.space.ensures.read c.loop-alloc.invariant.read (spelled c.maybe_run-first.result) c.maybe_run-first.new.self c.is_empty.result c.is_empty.ensures c.if-not-space.false c.maybe_run-first.ensures.read c.attribute.new.tag c.attribute.new.reader c.if-is_empty.false c.in_ok-attribute.ensures.read;
  prefix = c.in_ok-attribute.ensures.prefix ∙ c.loop-alloc.invariant.prefix;
  local = c.in_ok-attribute.ensures.local ∙ c.loop-alloc.invariant.local;
  shrinks = omega arith;
}
