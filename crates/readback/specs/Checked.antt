-- Which voices and layouts are read back, and by which refusal the others are turned away. Assumes nothing: these are definitions.
use Rattle.std.specs.Prelude.{ℕ, ◌+◌, ◌*◌, ◌/◌, Bool, ◌&&◌, length, Ok, Err, Result, ◌==◌, nat_le, nat_lt}
use Rattle.score.specs.declared.Refusal.{Refusal}
use Rattle.score.specs.declared.Refusal.TheVariants.{OutOfRange, BadOpening, TooLittleMemory, Full}
use Rattle.score.specs.Meaning.{good_layout}
use Rattle.score.specs.Calls.{ticks_end}
use Rattle.score.specs.Music.{pick, all_fine, total}
use Rattle.score.specs.declared.Layout.{Layout}
use Rattle.rows.specs.declared.Rows.{Rows}
use Rattle.rows.specs.Rows.{voice_in}

-- rows that are as long as each other, and whose events can be written
abbrev pub writable : Rows → Bool
writable r = (length r.places.now == length r.lengths.now && length r.alterations.now == length r.lengths.now) && all_fine (voice_in r)

-- the ticks of a voice
abbrev pub measured : Rows → Result ℕ Refusal
measured r = pick (writable r) (pick (nat_lt (total (voice_in r)) ticks_end) (Ok (total (voice_in r))) (Err Full)) (Err OutOfRange)

-- how many bars have room for so many ticks and more, and how many bytes their print may take
abbrev pub bars_for : ℕ → ℕ → ℕ
bars_for b t = t / b + 1

abbrev pub page_for : ℕ → ℕ → ℕ
page_for b n = 5 * (n * (b / 3 + 1))

abbrev pub in_bars : Layout → ℕ → ℕ → ℕ → ℕ → Result ℕ Refusal → Result ℕ Refusal
in_bars y many page signs notes (Err e) = Err e
in_bars y many page signs notes (Ok t) =
    pick (nat_le (page_for y.bar (bars_for y.bar t)) page && (nat_le many signs && nat_le many notes)) (Ok (bars_for y.bar t)) (Err TooLittleMemory)

-- how many bars a voice takes: first the layout is looked at, then the events, then how long they are, then the room for their print, and for a
-- sign and a note of each
abbrev pub bars_or_refusal : Rows → Layout → ℕ → ℕ → ℕ → Result ℕ Refusal
bars_or_refusal r y page signs notes = pick (good_layout y) (in_bars y (length r.lengths.now) page signs notes (measured r)) (Err BadOpening)
