-- What is printed of a voice, and how a player reads what is printed. Assumes nothing: these are definitions.
use Rattle.std.specs.Prelude.{ℕ, zero, suc, ◌+◌, ◌-◌, ◌%◌, Bool, true, false, ◌&&◌, ◌||◌, List, [], ◌∷◌, ◌++◌, take, ◌==◌, nat_le}
use Rattle.score.specs.Music.{pick, Event, note, silence, tone, Heard}

-- A bar line; a head, with its place, its sign (0 for none, else one more than the alteration), its value in ticks, and whether it is tied to the
-- next head; a rest, with its value.
pub data Symbol : Type 0 where
  bar : Symbol
  head : ℕ → ℕ → ℕ → Bool → Symbol
  rest : ℕ → Symbol

-- the values that can be drawn, from the whole note down to the sixty-fourth, plain or with a dot
abbrev pub all_values : List ℕ
all_values = 192 ∷ (144 ∷ (96 ∷ (72 ∷ (48 ∷ (36 ∷ (24 ∷ (18 ∷ (12 ∷ (9 ∷ (6 ∷ (3 ∷ [])))))))))))

-- the first of these values that is not longer than n, or 0
unfoldable pub largest : ℕ → List ℕ → ℕ
largest n [] = 0
largest n (v ∷ vs) = pick (nat_le v n) v (largest n vs)

-- a length of n ticks in values, always the largest that is not too long and then the rest; the first number only bounds how many
unfoldable pub pieces : ℕ → ℕ → List ℕ
pieces zero n = []
pieces (suc k) n = pick (largest n all_values == 0) [] (largest n all_values ∷ pieces k (n - largest n all_values))

unfoldable pub among : ℕ → List ℕ → Bool
among i [] = false
among i (j ∷ js) = i == j || among i js

-- How key k alters place p: 7 has no signs, 8 to 14 have one to seven sharps, on the steps f c g d a e b, and 6 to 0 one to seven flats, on
-- b e a d g c f.
abbrev pub key : ℕ → ℕ → ℕ
key k p =
    pick (nat_le 7 k)
    (pick (among (p % 7) (take (k - 7) (3 ∷ (0 ∷ (4 ∷ (1 ∷ (5 ∷ (2 ∷ (6 ∷ []))))))))) 3 2)
    (pick (among (p % 7) (take (7 - k) (6 ∷ (2 ∷ (5 ∷ (1 ∷ (4 ∷ (0 ∷ (3 ∷ []))))))))) 1 2)

-- a length laid over bars is a row of values and bar lines
pub data Chunk : Type 0 where
  value : ℕ → Chunk
  line : Chunk

unfoldable pub as_values : List ℕ → List Chunk
as_values [] = []
as_values (v ∷ vs) = value v ∷ as_values vs

abbrev pub lesser : ℕ → ℕ → ℕ
lesser a b = pick (nat_le a b) a b

-- d ticks from tick o of a bar of b ticks on; the first number only bounds how many bars
unfoldable pub chunks : ℕ → ℕ → ℕ → ℕ → List Chunk
chunks zero b o d = []
chunks (suc k) b o d =
    let s : ℕ = lesser d (b - o) in
    pick (d == 0) []
    (pick (o + s == b) (as_values (pieces s s) ++ (line ∷ chunks k b 0 (d - s))) (as_values (pieces s s)))

unfoldable pub has_line : List Chunk → Bool
has_line [] = false
has_line (value v ∷ cs) = has_line cs
has_line (line ∷ cs) = true

unfoldable pub has_value : List Chunk → Bool
has_value [] = false
has_value (value v ∷ cs) = true
has_value (line ∷ cs) = has_value cs

-- a note's heads: the sign at the first, and each but the last tied to the next
unfoldable pub heads : ℕ → ℕ → List Chunk → List Symbol
heads p sign [] = []
heads p sign (line ∷ cs) = bar ∷ heads p sign cs
heads p sign (value v ∷ cs) = head p sign v (has_value cs) ∷ heads p 0 cs

unfoldable pub rests : List Chunk → List Symbol
rests [] = []
rests (line ∷ cs) = bar ∷ rests cs
rests (value v ∷ cs) = rest v ∷ rests cs

-- what holds at each place, once alteration a holds at place p
abbrev pub now : (ℕ → ℕ) → ℕ → ℕ → ℕ → ℕ
now st p a q = pick (q == p) a (st q)

-- events printed in key k and bars of b ticks, from tick o of a bar on, where st says which alteration holds at each place in this bar
unfoldable pub print : ℕ → ℕ → ℕ → (ℕ → ℕ) → List Event → List Symbol
print k b o st [] = []
print k b o st (note p a d ∷ es) =
    let cs : List Chunk = chunks (suc d) b o d in
    heads p (pick (st p == a) 0 (suc a)) cs ++ print k b ((o + d) % b) (pick (has_line cs) (key k) (now st p a)) es
print k b o st (silence d ∷ es) =
    let cs : List Chunk = chunks (suc d) b o d in
    rests cs ++ print k b ((o + d) % b) (pick (has_line cs) (key k) st) es

abbrev pub printed : ℕ → ℕ → List Event → List Symbol
printed k b es = print k b 0 (key k) es

-- A player keeps the time, what holds at each place in this bar, and the note that is held by a tie: its place, its alteration, since when, and
-- how long by now.
pub data Held : Type 0 where
  nothing : Held
  held : ℕ → ℕ → ℕ → ℕ → Held

unfoldable pub let_go : Held → List Heard
let_go nothing = []
let_go (held p a s l) = record { start = s; long = l; high = tone p a } ∷ []

-- a head without a sign, at the place of what is held, goes on with it
unfoldable pub goes_on : Held → ℕ → ℕ → Bool
goes_on nothing p sign = false
goes_on (held q a s l) p sign = q == p && sign == 0

unfoldable pub longer : Held → ℕ → Held
longer nothing v = nothing
longer (held p a s l) v = held p a s (l + v)

-- the alteration of a head that begins a note: its sign's, or what holds at its place
unfoldable pub altered : (ℕ → ℕ) → ℕ → ℕ → ℕ
altered st p zero = st p
altered st p (suc a) = a

-- and what holds from there on
unfoldable pub then_holds : (ℕ → ℕ) → ℕ → ℕ → ℕ → ℕ
then_holds st p zero q = st q
then_holds st p (suc a) q = now st p a q

-- what is heard by who reads symbols in key k from tick t on, and knows nothing else
unfoldable pub reads : ℕ → List Symbol → ℕ → (ℕ → ℕ) → Held → List Heard
reads k [] t st h = let_go h
reads k (bar ∷ xs) t st h = reads k xs t (key k) h
reads k (rest v ∷ xs) t st h = let_go h ++ reads k xs (t + v) st nothing
reads k (head p sign v tied ∷ xs) t st h =
    pick (goes_on h p sign)
    (pick tied (reads k xs (t + v) st (longer h v)) (let_go (longer h v) ++ reads k xs (t + v) st nothing))
    (let_go h ++ pick tied (reads k xs (t + v) (then_holds st p sign) (held p (altered st p sign) t v))
    (let_go (held p (altered st p sign) t v) ++ reads k xs (t + v) (then_holds st p sign) nothing))

abbrev pub read_from : ℕ → List Symbol → List Heard
read_from k xs = reads k xs 0 (key k) nothing

-- the bars from number n on
unfoldable pub from_bar : ℕ → List Symbol → List Symbol
from_bar zero xs = xs
from_bar (suc n) [] = []
from_bar (suc n) (bar ∷ xs) = from_bar n xs
from_bar (suc n) (head p s v t ∷ xs) = from_bar (suc n) xs
from_bar (suc n) (rest v ∷ xs) = from_bar (suc n) xs

-- the first n bars with their lines; what stands after the last line is a bar, too
unfoldable pub so_many : List Symbol → ℕ → List Symbol
so_many xs zero = []
so_many [] (suc n) = []
so_many (bar ∷ xs) (suc n) = bar ∷ so_many xs n
so_many (head p s v t ∷ xs) (suc n) = head p s v t ∷ so_many xs (suc n)
so_many (rest v ∷ xs) (suc n) = rest v ∷ so_many xs (suc n)
