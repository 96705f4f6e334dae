-- What holds before each event, each bar and each value. Assumes nothing.
use Rattle.std.proofs.Common.{◌≡◌, ℕ, ◌+◌, ◌-◌, ◌%◌, ◌<◌, ◌≤◌, List, get_or, drop}
use Rattle.score.specs.declared.Layout.{Layout}
use Rattle.score.specs.Print.{Symbol, pieces}
use Rattle.rows.specs.declared.Rows.{Rows}
use Rattle.rows.specs.Rows.{voice_in}
use Rattle.engraving.specs.declared.kept.Begin.{Begin}
use Rattle.engraving.specs.Shown.{left_of}
use Rattle.engraving.proofs.Page.{Page}
use Rattle.engraving.proofs.Turns.{in_event, in_voice, events_from, Part, tick}
use Rattle.engraving.proofs.voice.Voice.print_bars.Given as goal

-- all that is printed
abbrev pub whole_of : Rows → Layout → List ℕ → Begin → ℕ → List Symbol
whole_of r y ss g n = left_of y.bar (voice_in r) ss g.event g.skip n

-- What is written and what is owed is the whole. The values are those of what is left of the event's part in this bar, which `begun` has passed already.
abbrev pub invariant-values : goal.invariant-values
invariant-values l =
    Page (whole_of l.rows l.layout l.signs l.fn.begin l.count) l.initial.out l.out l.at
    (in_event l.layout.bar (tick l.begun (l.initial.left - l.part) l.left) l.row.place l.sign l.left (events_from l.rows (l.i + 1)) (drop (l.i + 1) l.signs) l.more)
    × Part l.layout.bar l.begun (l.initial.left - l.part) l.left × (l.sign ≤ 5) × (l.initial.at ≤ l.at)
    × (pieces l.value-iterator.0 l.value-iterator.0 ≡ pieces (l.left - (l.initial.left - l.part)) (l.left - (l.initial.left - l.part)))

abbrev pub invariant-bars : goal.invariant-bars
invariant-bars l =
    Page (whole_of l.rows l.layout l.signs l.fn.begin l.count) l.initial.out l.out l.at
    (in_event l.layout.bar l.begun l.row.place l.sign l.left (events_from l.rows (l.i + 1)) (drop (l.i + 1) l.signs) l.more)
    × (l.begun < l.layout.bar) × (l.begun % 3 ≡ 0) × (l.left % 3 ≡ 0) × (l.sign ≤ 5) × (l.initial.at ≤ l.at) × (0 < l.more)

abbrev pub decreases-bars : goal.decreases-bars
decreases-bars l = l.left

abbrev pub invariant-events : goal.invariant-events
invariant-events l =
    Page (whole_of l.rows l.layout l.signs l.fn.begin l.count) l.initial.out l.out l.at
    (in_voice l.layout.bar l.gone l.begun (events_from l.rows l.i) (drop l.i l.signs) l.more)
    × (l.begun < l.layout.bar) × (l.begun % 3 ≡ 0) × (0 < l.more) × (l.gone ≤ get_or l.rows.lengths.now l.i 0) × (l.gone % 3 ≡ 0)
