-- A player's step: what is kept and what is heard, one symbol later. Assumes nothing: these are definitions.
use Rattle.std.specs.Prelude.{ℕ, ◌+◌, ◌-◌, Bool, true, ◌&&◌, List, [], ◌++◌, ◌==◌, nat_le, nat_lt, slice_index, slice_set}
use Rattle.score.specs.Music.{pick, places, alterations, Heard}
use Rattle.score.specs.Print.{Symbol, bar, head, rest, Held, nothing, held, let_go, goes_on, longer}
use Rattle.keys.specs.Held.{key_row}

-- what a player keeps: the time, what holds at each place, as words, and the note that is held
pub record State : Type 0 where
  pub time : ℕ
  pub holds : List ℕ
  pub note : Held

-- places and signs that there are
abbrev pub can_play : Symbol → Bool
can_play bar = true
can_play (rest v) = true
can_play (head p s v tied) = nat_lt p places && nat_le s alterations

abbrev pub lasts : Symbol → ℕ
lasts bar = 0
lasts (rest v) = v
lasts (head p s v tied) = v

-- the alteration that a sign at a place says, and what holds from there on
abbrev pub said : List ℕ → ℕ → ℕ → ℕ
said hs p s = pick (s == 0) (slice_index hs p) (s - 1)

abbrev pub then_held : List ℕ → ℕ → ℕ → List ℕ
then_held hs p s = pick (s == 0) hs (slice_set hs p (s - 1))

-- the note of a head: that which is held goes on, or another begins
abbrev pub note_of : ℕ → ℕ → ℕ → State → Held
note_of p s v y = pick (goes_on y.note p s) (longer y.note v) (held p (said y.holds p s) y.time v)

abbrev pub after_head : ℕ → ℕ → ℕ → Bool → State → State
after_head p s v tied y =
    record {
      time = y.time + v;
      holds = pick (goes_on y.note p s) y.holds (then_held y.holds p s);
      note = pick tied (note_of p s v y) nothing;
    }

abbrev pub after : ℕ → Symbol → State → State
after k bar y = record { time = y.time; holds = key_row k; note = y.note }
after k (rest v) y = record { time = y.time + v; holds = y.holds; note = nothing }
after k (head p s v tied) y = after_head p s v tied y

-- the notes that end by it: what was held and does not go on is let go, and then comes what is not tied on
abbrev pub let_go_head : ℕ → ℕ → State → List Heard
let_go_head p s y = pick (goes_on y.note p s) [] (let_go y.note)

abbrev pub ended_head : ℕ → ℕ → ℕ → Bool → State → List Heard
ended_head p s v tied y = pick tied [] (let_go (note_of p s v y))

abbrev pub let_go_by : Symbol → State → List Heard
let_go_by bar y = []
let_go_by (rest v) y = let_go y.note
let_go_by (head p s v tied) y = let_go_head p s y

abbrev pub ended_by : Symbol → State → List Heard
ended_by bar y = []
ended_by (rest v) y = []
ended_by (head p s v tied) y = ended_head p s v tied y

abbrev pub ends : Symbol → State → List Heard
ends x y = let_go_by x y ++ ended_by x y
