-- How events, symbols, sounds and answers are spelled. Assumes nothing: these are definitions.
use Rattle.std.specs.Prelude.{ℕ, ◌/◌, ◌%◌, List, [], ◌∷◌, ◌++◌, Some, None, codes, decimal, Option, ◌==◌}
use Rattle.score.specs.Music.{pick, Event, note, silence, Heard}
use Rattle.score.specs.Print.{Symbol, bar, head, rest}
use Rattle.score.specs.Calls.{Answer, done, refused, symbols, sounds, number}

-- steps by their letters, from c on
abbrev pub letter : ℕ → List ℕ
letter s =
    pick (s == 0) (codes "c") (pick (s == 1) (codes "d") (pick (s == 2) (codes "e") (pick (s == 3) (codes "f")
    (pick (s == 4) (codes "g") (pick (s == 5) (codes "a") (codes "b"))))))

-- signs before a head: none, double flat, flat, natural, sharp, double sharp
abbrev pub mark : ℕ → List ℕ
mark s =
    pick (s == 0) [] (pick (s == 1) (codes "--") (pick (s == 2) (codes "-") (pick (s == 3) (codes "n")
    (pick (s == 4) (codes "#") (codes "x")))))

-- alterations between a step and its octave
abbrev pub alteration_name : ℕ → List ℕ
alteration_name a =
    pick (a == 0) (codes " double flat ") (pick (a == 1) (codes " flat ") (pick (a == 2) [] (pick (a == 3) (codes " sharp ") (codes " double sharp "))))

-- an event, as `c4 48`, `f sharp 4 96` or `silence 60`
abbrev pub spelled_event : Event → List ℕ
spelled_event (note p a d) = letter (p % 7) ++ (alteration_name a ++ (decimal (p / 7) ++ (codes " " ++ decimal d)))
spelled_event (silence d) = codes "silence " ++ decimal d

-- a symbol, as `#f4:96`, `nf4:48~`, `r24` or `bar`
abbrev pub spelled_symbol : Symbol → List ℕ
spelled_symbol bar = codes "bar"
spelled_symbol (head p s v tied) =
    mark s ++ (letter (p % 7) ++ (decimal (p / 7) ++ (codes ":" ++ (decimal v ++ pick tied (codes "~") []))))
spelled_symbol (rest v) = codes "r" ++ decimal v

-- a note as it is heard, as `start length tone`, and a sound, as `voice start length tone`
abbrev pub spelled_heard : Heard → List ℕ
spelled_heard h = decimal h.start ++ (codes " " ++ (decimal h.long ++ (codes " " ++ decimal h.high)))

abbrev pub spelled_sound : ℕ × Heard → List ℕ
spelled_sound x = decimal x.0 ++ (codes " " ++ spelled_heard x.1)

-- a row, the first behind `lead` and each that follows behind `between`
unfoldable pub spelled_row : {A : Type 0} → (A → List ℕ) → List ℕ → List ℕ → List A → List ℕ
spelled_row f lead between [] = []
spelled_row f lead between (x ∷ xs) = lead ++ (f x ++ spelled_row f between between xs)

abbrev pub spelled_symbols : List Symbol → List ℕ
spelled_symbols xs = spelled_row spelled_symbol [] (codes " ") xs

abbrev pub spelled_sounds : List (ℕ × Heard) → List ℕ
spelled_sounds xs = spelled_row spelled_sound [] (codes ", ") xs

-- an answer
abbrev pub spelled_answer : Answer → List ℕ
spelled_answer done = codes "done"
spelled_answer (refused n p) = codes "refused " ++ (decimal n ++ (codes " at " ++ decimal p))
spelled_answer (symbols xs) = spelled_symbols xs
spelled_answer (sounds xs) = spelled_sounds xs
spelled_answer (number n) = decimal n

-- what bytes that are no answer are spelled as, which no session gives
abbrev pub spelled_bytes : Option Answer → List ℕ
spelled_bytes (Some a) = spelled_answer a
spelled_bytes None = codes "no answer"
