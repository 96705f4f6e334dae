use Rattle.std.proofs.Common.{◌≡◌, ◌-◌, get_or, take}
use Rattle.keys.specs.Held.{held_in}
use Rattle.memory.specs.Store.{counts_from, limit_in}
use Rattle.memory.specs.Words.{kept_anew, Deriving}
use Rattle.voices.specs.Ahead.{Ahead}
use Rattle.voices.specs.Holding.{holds_in, UpTo}
use Rattle.voices.proofs.keeping.derive.Given as goal

-- the events before `at` are derived, and what was to be derived of the words is still the same
abbrev pub invariant-runs : goal.invariant-runs
invariant-runs l =
    Deriving l.words l.at l.bar l.tick (held_in (get_or l.initial.words 0 0) (holds_in l.holding l.bar)) × (kept_anew l.words ≡ kept_anew l.initial.words)
    × (take counts_from l.words ≡ take counts_from l.initial.words) × UpTo (get_or l.initial.words 0 0) l.holding l.bar

abbrev pub decreases-runs : goal.decreases-runs
decreases-runs l = limit_in l.initial.words - l.at

-- of a run too, whose marks are taken
abbrev pub invariant-events : goal.invariant-events
invariant-events l =
    Ahead l.words (kept_anew l.fn.words) l.event l.end l.bar l.tick (held_in (get_or l.fn.words 0 0) (holds_in l.holding l.bar))
    × (take counts_from l.words ≡ take counts_from l.fn.words) × UpTo (get_or l.fn.words 0 0) l.holding l.bar
