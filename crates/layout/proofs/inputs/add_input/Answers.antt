-- `add_input` meets its contract: the pair and the times of input n are stored behind those before it.
use mathlib.Core.Path.{refl}
use native.Mathlib.Omega.{arith}
use lib.ListN.{get_or}
use Rattle.method.specs.Changes.{schedule}
use Rattle.layout.proofs.Starting.{Next, next, stored}
use Rattle.layout.proofs.inputs.add_input.Goals as goal

pub overflow_sub-start : goal.overflow_sub-start
overflow_sub-start c = let known : Next (schedule c.args.counts.now c.args.changes.now) c.args.n (get_or c.args.counts.now c.args.n 0) c.args.directory.now c.args.times.now c.args.totals = next _ c.requires.0 c.requires.1 c.requires.2 refl in omega (arith, known.first_is)

pub slice_bounds-own-end : goal.slice_bounds-own-end
slice_bounds-own-end c = let known : Next (schedule c.args.counts.now c.args.changes.now) c.args.n (get_or c.args.counts.now c.args.n 0) c.args.directory.now c.args.times.now c.args.totals = next _ c.requires.0 c.requires.1 c.requires.2 refl in omega (arith, known.within, known.first_is)

pub bounds-times-first : goal.bounds-times-first
bounds-times-first c = let known : Next (schedule c.args.counts.now c.args.changes.now) c.args.n (get_or c.args.counts.now c.args.n 0) c.args.directory.now c.args.times.now c.args.totals = next _ c.requires.0 c.requires.1 c.requires.2 refl in omega (arith, known.room)

pub overflow_add-result-2 : goal.overflow_add-result-2
overflow_add-result-2 c = let known : Next (schedule c.args.counts.now c.args.changes.now) c.args.n (get_or c.args.counts.now c.args.n 0) c.args.directory.now c.args.times.now c.args.totals = next _ c.requires.0 c.requires.1 c.requires.2 refl in omega (arith, known.frames_most)

pub returns : goal.returns
returns c = let known : Next (schedule c.args.counts.now c.args.changes.now) c.args.n (get_or c.args.counts.now c.args.n 0) c.args.directory.now c.args.times.now c.args.totals = next _ c.requires.0 c.requires.1 c.requires.2 refl in stored known refl refl refl c.store.ensures c.last_of-last.ensures c.max.ensures
