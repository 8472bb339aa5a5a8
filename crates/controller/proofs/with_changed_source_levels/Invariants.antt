-- `controller::with_changed_source_levels` meets its contract. The invariant: the sources passed so far are set as the
-- rule sets them.
use mathlib.Core.Path.{◌≡◌}
use Rattle.controller.specs.Controller.{masked_sources_set}
use Rattle.controller.proofs.with_changed_source_levels.Given as goal

abbrev pub invariant-loop-number : goal.invariant-loop-number
invariant-loop-number l = l.next ≡ masked_sources_set l.number l.initial.next l.changed l.levels
