-- What the session promises of every list of calls, of the engraver that the contracts of `open` and `call` cite. Assumes nothing.
use Rattle.std.specs.Prelude.{◌≡◌, ℕ, ◌+◌, ◌*◌, ◌<◌, ◌≤◌, true, List}
use Rattle.score.specs.Music.{Event, Heard, heard}
use Rattle.score.specs.Print.{Symbol, printed, read_from}
use Rattle.score.specs.Calls.{Call, show, heard_in, symbols, sounds, empty_voices, most_bars, widest_span, voice, ran}
use Rattle.score.specs.Promise.{Memory, left_by, whole, Right, RefusalKeeps, EnoughMemory, no_tie_over, later, of_voice, begun_in}
use Rattle.session.specs.Session.{engraver, limits_for, layout_for, opens}
use Rattle.score.specs.declared.Opening.{Opening}

abbrev pub SessionRight : Type 0
SessionRight = Right whole true engraver

abbrev pub SessionKeeps : Type 0
SessionKeeps = RefusalKeeps whole true engraver

abbrev pub SessionEnough : Type 0
SessionEnough = EnoughMemory engraver

-- what is heard from one tick up to before another is told, and of voice v it is just these sounds
pub record ToldOf (m : Memory) (v from to : ℕ) (hs : List Heard) : Type 0 where
  pub notes : List (ℕ × Heard)
  pub told : engraver.says m (heard_in from to) ≡ sounds notes
  pub of_it : of_voice v notes ≡ hs

-- n bars from bar b on, which begin at one tick and end before another, are shown of voice v with the events es; and who reads that page in key k,
-- and nothing else, hears what begins there in the voice, and what is told of it if the span is not too wide to be asked for
pub record PageHeard (m : Memory) (k : ℕ) (es : List Event) (v b n from to : ℕ) : Type 0 where
  pub page : List Symbol
  pub shown : engraver.says m (show v b n) ≡ symbols page
  pub means : later from (read_from k page) ≡ begun_in from to (heard es 0)
  pub sounding : to ≤ from + widest_span → ToldOf m v from to (later from (read_from k page))

-- THE WHOLE WAY. After every list of calls, who reads what is shown of a voice hears what is told of it for those bars: every note at its time, as
-- long as it is, at its tone, and nothing else. It is asked only that nothing is tied into the first of the bars, nor into the bar behind the last.
abbrev pub WholeWay : Type 0
WholeWay =
    (o : Opening) (cs : List Call) (v b n : ℕ) → opens o ≡ true → v < o.voices → n ≤ most_bars →
    let es : List Event = voice (ran (limits_for o) (layout_for o) (empty_voices o.voices) cs) v in
    no_tie_over (printed o.key o.bar es) b ≡ true → no_tie_over (printed o.key o.bar es) (b + n) ≡ true →
    PageHeard (left_by engraver (engraver.opened (limits_for o) (layout_for o)) cs) o.key es v b n (b * o.bar) ((b + n) * o.bar)
